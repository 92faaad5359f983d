-- What a call leaves of a board: its position, what it has delivered, and how far it is. Assumes nothing.
use Prim.Native.Nat.{ℕ}
use native.Mathlib.Omega.{arith}
use mathlib.Core.Path.{◌≡◌}
use mathlib.Core.Bool.{true, false}
use Rattle.std.specs.Prelude.{None, Some, Ok, IfSome, if◌then◌else◌, ◌==◌, ◌&&◌}
use Rattle.std.proofs.lemmas.Bool.Decides.{nat_tests}
use Rattle.signer.specs.Log.{is_identifier, entry_of}
use Rattle.delivery.specs.Limits.{Limits}
use Rattle.delivery.specs.Bus.{is_board}
use Rattle.delivery.specs.Sets.{with_board, without_board}
use Rattle.delivery.specs.Delivered.{heard}
use Rattle.delivery.specs.declared.delivered.Delivered.{Delivered}
use Rattle.delivery.proofs.DeliveredLaws.{Whole, deliver-same, deliver-other}
use Rattle.vote.specs.Boards.{is_started, decision_of, with_status, starting_with, propose, hears, deliver_to, suspecting, suspect, trust}
use Rattle.vote.specs.Announcements.{announce}
use Rattle.vote.specs.Rule.{rule}
use Rattle.vote.specs.Turns.{position_after, status_after, said_in, hears_own, answer_to, turn_in, turn}
use Rattle.vote.specs.Calls.{Call, proposal, own_turn, delivery, announcement, suspicion, restored-trust, called}
use Rattle.vote.specs.declared.position.Position.{Position}
use Rattle.vote.specs.declared.rule.Move.{Move}
use Rattle.vote.specs.declared.rule.Move.TheVariants.{Waits}
use Rattle.vote.specs.declared.statement.Statement.{Statement}
use Rattle.vote.specs.declared.board.Board.{Board}
use Rattle.vote.specs.declared.board.Status.TheVariants.{Voting, Decided}
use Rattle.vote.proofs.BoardLaws.{Convinced, reads-convinced}

module _ (L : Limits) (n me : ℕ) (b : Board) where
  -- the move that the rule has it make in a turn
  abbrev pub move : Move
  move = rule L n me b.position (heard L b.delivered)

  -- A call is taken: a proposal of a value by a board that has not started, a turn by one that votes, an announcement
  -- by one that it convinces, and any other by each board.
  abbrev pub Taken : Call → Type 0
  Taken (proposal v) = (is_started b.status ≡ false) × (v ≡ 0 → ⊥)
  Taken own_turn = b.status ≡ Voting
  Taken (delivery s) = Unit {0}
  Taken (announcement r v) = Convinced L n b r v
  Taken (suspicion k) = Unit {0}
  Taken (restored-trust k) = Unit {0}

  -- what a call that is taken leaves
  abbrev pub left : Call → Board
  left (proposal v) = record b { position = starting_with b.position v; status = Voting }
  left own_turn =
      record {
        position = position_after L move b.position;
        delivered = hears_own L b.delivered (said_in L me b.position.round.0 move);
        status = status_after b.position.round.0 move;
      }
  left (delivery s) = record b { delivered = hears L b.delivered s }
  left (announcement r v) = record b { status = Decided (decision_of r v) }
  left (suspicion k) = suspecting b (with_board b.position.suspected k)
  left (restored-trust k) = suspecting b (without_board b.position.suspected k)

  -- it leaves just that
  pub taken-leaves : (c : Call) → Taken c → called L n me b c ≡ left c
  unfolding called propose deliver_to announce suspect trust turn turn_in with_status
  taken-leaves (proposal v) t = grind (arith, nat_tests)
  taken-leaves own_turn t = grind arith
  taken-leaves (delivery s) t = grind arith
  taken-leaves (announcement r v) t = let c = reads-convinced L n b r v t in grind arith
  taken-leaves (suspicion k) t = grind arith
  taken-leaves (restored-trust k) t = grind arith

  -- what a voting board says in its turn is what the move has it say, and what any board says is its own
  pub turn-says : b.status ≡ Voting → (turn L n me b).signed ≡ said_in L me b.position.round.0 move
  unfolding turn turn_in
  turn-says v = grind arith

  pub says-own : IfSome (turn L n me b).signed (λ (s : Statement). s.speaker ≡ me)
  unfolding turn turn_in said_in
  says-own = grind arith

-- a board that starts has the value that was proposed to it as its estimate
pub starts-with : (p : Position) (v : ℕ) → (starting_with p v).estimate ≡ v
unfolding starting_with
starts-with p v = grind arith

-- a statement that is new to what was delivered, and for which there is a place
pub record New (L : Limits) (d : Delivered) (s i : ℕ) : Type 0 where
  pub speaker : is_board L s ≡ true
  pub identifier : is_identifier L.identifiers i ≡ true
  pub unheard : heard L d s i ≡ 0

-- it is then heard, and all else as before
pub hears-new : (L : Limits) (d : Delivered) (x : Statement) → Whole L d → New L d x.speaker x.id.0 → (s i : ℕ)
    → heard L (hears L d x) s i ≡ (if s == x.speaker && i == x.id.0 then entry_of x.value else heard L d s i)
unfolding hears
hears-new L d x w n s i = grind (arith, nat_tests, deliver-same, deliver-other)

-- a board hears what it says itself, if it says anything
pub own-none : (L : Limits) (d : Delivered) → hears_own L d None ≡ d
unfolding hears_own
own-none L d = grind arith

pub own-some : (L : Limits) (d : Delivered) (s : Statement) → hears_own L d (Some s) ≡ hears L d s
unfolding hears_own
own-some L d s = grind arith

-- a move other than waiting is answered as done
pub answer-done : (m : Move) → (m ≡ Waits → ⊥) → answer_to m ≡ Ok tt
unfolding answer_to
answer-done m f = grind arith
