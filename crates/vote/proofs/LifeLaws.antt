-- Laws of a board's whole life, whatever is asked of it and in whatever order. Assumes nothing.
use Prim.Native.Nat.{ℕ, suc, ◌≤◌, ◌<◌}
use native.Mathlib.Omega.{arith}
use mathlib.Core.Path.{◌≡◌}
use mathlib.Core.List.{List, [], ◌∷◌}
use mathlib.Core.Logic.{◌⊎◌}
use Rattle.std.specs.Prelude.{Option, None, Some, IfSome}
use Rattle.std.proofs.lemmas.Bool.Decides.{nat_tests}
use Rattle.signer.proofs.FromOneLaws.{within_in}
use Rattle.delivery.specs.Limits.{Limits}
use Rattle.delivery.specs.Delivered.{Store, heard}
use Rattle.delivery.proofs.AgreementLaws.{Won}
use Rattle.delivery.proofs.GrowthLaws.{Grows, grows_same, deliver-grows, won-grows}
use Rattle.delivery.proofs.RoundLaws.{opening-ballot, ballot-opening, next-at}
use Rattle.vote.specs.Boards.{fresh_board, is_started, is_decided, with_status, starting_with, propose, hears, deliver_to, suspect, trust}
use Rattle.vote.specs.Announcements.{convinced, announce}
use Rattle.vote.specs.Turns.{at_stage, position_after, status_after, hears_own, turn_in, turn}
use Rattle.vote.specs.Calls.{Call, proposal, own_turn, delivery, suspicion, restored-trust, announcement, called, after, signed_in, put, statements}
use Rattle.vote.specs.Life.{Rising, no_more, and_then}
use Rattle.vote.specs.declared.statement.Statement.{Statement}
use Rattle.vote.specs.declared.board.Board.{Board}
use Rattle.vote.specs.declared.board.Decision.{Decision}
use Rattle.vote.specs.declared.board.Status.TheVariants.{Decided}
use Rattle.vote.proofs.BallotLaws.{tally-won}
use Rattle.vote.proofs.RuleLaws.{rule-makes}
use Rattle.vote.proofs.SigningLaws.{due_at, due, signed-past, signs-due, turn-signs}
use Rattle.vote.proofs.ProperLaws.{Proper, voting-round, called-proper}

abbrev store : Limits → Board → Store
store L b = heard L b.delivered

module _ (L : Limits) (n me : ℕ) (b : Board) where
  -- what it has delivered grows
  pub called-grows : (c : Call) → Grows (store L b) (store L (called L n me b c))
  unfolding called propose deliver_to hears announce with_status suspect trust turn turn_in hears_own
  called-grows c = grind (arith, grows_same, deliver-grows)

  -- a decision is final
  pub called-final : (d : Decision) → b.status ≡ Decided d → (c : Call) → (called L n me b c).status ≡ Decided d
  unfolding called propose deliver_to announce convinced suspect trust turn turn_in is_started is_decided
  called-final d e c = grind arith

  -- and whoever makes one, by its turn or by an announcement, has q accepted ballots with the value
  pub called-won : (c : Call) (d : Decision) → (called L n me b c).status ≡ Decided d
      → (b.status ≡ Decided d) ⊎ Won L n (store L b) d.round.0 d.value
  unfolding called propose deliver_to announce convinced with_status suspect trust turn turn_in status_after
  called-won c d e = let m = rule-makes L n me b.position (store L b) in grind (arith, nat_tests, tally-won)

-- a board that has decided has q accepted ballots with its value
pub record Grounded (L : Limits) (n : ℕ) (b : Board) : Type 0 where
  pub won : (d : Decision) → b.status ≡ Decided d → Won L n (heard L b.delivered) d.round.0 d.value

pub fresh-grounded : (L : Limits) (n : ℕ) → Grounded L n (fresh_board L)
unfolding fresh_board
fresh-grounded L n = grind arith

pub called-grounded : (L : Limits) (n me : ℕ) (b : Board) → Grounded L n b → (c : Call)
    → Grounded L n (called L n me b c)
called-grounded L n me b g c =
    record {
      won =
          λ d e.
          let w = called-won L n me b c d e in
          let k = won-grows L n (store L b) (store L (called L n me b c)) (called-grows L n me b c) d.round.0 d.value in
          let h = g.won d in
          grind arith;
    }

-- what every call keeps, a list of calls keeps
pub after-kept : (L : Limits) (n me : ℕ) (P : Board → Type 0) → ((b : Board) → P b → (c : Call) → P (called L n me b c))
    → (b : Board) → P b → (cs : List Call) → P (after L n me b cs)
unfolding after
after-kept L n me P f b p [] = p
after-kept L n me P f b p (c ∷ cs) = after-kept L n me P f (called L n me b c) (f b p c) cs

module _ (L : Limits) (n me : ℕ) (b : Board) (p : Proper L b) where
  -- what is due rises, and what is signed lies between
  pub called-due : (c : Call) → due L b ≤ due L (called L n me b c)
  unfolding due due_at called propose starting_with deliver_to announce convinced with_status suspect trust turn turn_in
      position_after at_stage status_after is_started
  called-due c =
      let m = rule-makes L n me b.position (store L b) in
      let r = p.round in
      grind (arith, nat_tests, opening-ballot, ballot-opening, next-at, within_in)

  called-signs : (c : Call)
      → IfSome (signed_in L n me b c) (λ (s : Statement). (due L b ≤ s.id.0) × (s.id.0 < due L (called L n me b c)))
  unfolding called signed_in
  called-signs c =
      let d = λ (s : Statement) (e : (turn L n me b).signed ≡ Some s). signs-due L n me b s (turn-signs L n me b s e) in
      let x = λ (s : Statement) (e : (turn L n me b).signed ≡ Some s). signed-past L n me b s e (voting-round L b p) in
      grind arith

rising-from : (m k : ℕ) (ss : List Statement) → m ≤ k → Rising k ss → Rising m ss
rising-from m k [] l (no_more _) = no_more m
rising-from m k (s ∷ ss) l (and_then _ _ _ h r) = and_then m s ss (omega arith) r

put-rising : (m k : ℕ) (x : Option Statement) (ss : List Statement) → m ≤ k
    → IfSome x (λ (s : Statement). (m ≤ s.id.0) × (s.id.0 < k)) → Rising k ss → Rising m (put x ss)
unfolding put
put-rising m k None ss l i r = rising-from m k ss l r
put-rising m k (Some s) ss l i r = and_then m s ss i.0 (rising-from (suc s.id.0) k ss i.1 r)

-- a board signs under identifiers that rise
pub statements-rise : (L : Limits) (n me : ℕ) → 1 ≤ L.rounds → (b : Board) → Proper L b → (cs : List Call)
    → Rising (due L b) (statements L n me b cs)
unfolding statements
statements-rise L n me some b p [] = no_more (due L b)
statements-rise L n me some b p (c ∷ cs) =
    let r = statements-rise L n me some (called L n me b c) (called-proper L b p n me some c) cs in
    put-rising _ _ _ _ (called-due L n me b p c) (called-signs L n me b p c) r

-- for the crates above: what each call comes to
module _ (L : Limits) (n me : ℕ) (b : Board) where
  abbrev pub comes_to : Call → Board
  comes_to (proposal v) = propose b v
  comes_to own_turn = (turn L n me b).board
  comes_to (delivery s) = deliver_to L b s
  comes_to (announcement r v) = announce L n b r v
  comes_to (suspicion k) = suspect b k
  comes_to (restored-trust k) = trust b k

  pub call-comes : (c : Call) → called L n me b c ≡ comes_to c
  unfolding called
  call-comes c = grind arith
