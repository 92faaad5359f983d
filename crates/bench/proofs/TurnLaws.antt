-- Laws of a turn on a bench: of a board that is voting, by what its rule has it do. Assumes nothing.
use Prim.Native.Nat.{ℕ, ◌-◌, ◌≤◌}
use native.Mathlib.Omega.{arith}
use mathlib.Core.Path.{◌≡◌, refl, ap}
use mathlib.Core.Bool.{true, false}
use lib.ListN.{length, get_or}
use Rattle.vote.specs.declared.statement.Statement.{Statement}
use Rattle.std.specs.Prelude.{Option, None, Some}
use Rattle.std.proofs.lemmas.List.{set-get_or}
use Rattle.signer.specs.Signer.{grants}
use Rattle.signer.proofs.FromOneLaws.{within_in, nth-none, nth-any, nth-index, set_nth-index}
use Rattle.signer.proofs.SignerLaws.{sign-refused}
use Rattle.delivery.specs.Bus.{is_board}
use Rattle.delivery.specs.Limits.{Limits}
use Rattle.vote.specs.Turns.{take, turn}
use Rattle.vote.specs.declared.board.Board.{Board}
use Rattle.vote.specs.declared.board.Status.TheVariants.{Voting}
use Rattle.vote.specs.declared.rule.Move.TheVariants.{Waits}
use Rattle.vote.specs.declared.turn.Turn.{Turn}
use Rattle.vote.proofs.BoardLaws.{fresh-is}
use Rattle.vote.proofs.TurnLaws.{turn-voting, turn-waits}
use Rattle.vote.proofs.CallLaws.{answer-done}
use Rattle.bench.specs.Benches.{board_at, signer_at, holds, holders, move_at, said_at}
use Rattle.bench.specs.Table.{is_waiting, refuses, must_wait}
use Rattle.bench.specs.Effects.{with_board_at, with_signature, with_owed, after_saying, after_turn}
use Rattle.bench.specs.declared.bench.Bench.{Bench}

module _ (L : Limits) (c : Bench) (k : ℕ) (v : (board_at L c k).status ≡ Voting) where
  abbrev me : Board
  me = board_at L c k

  -- its turn is that move
  took : turn L c.n k me ≡ take L k me (move_at L c k)
  took = turn-voting L c.n k me v

  pub turn-made : after_turn L c k
      ≡ with_board_at (after_saying L c k (said_at L c k)) k (take L k me (move_at L c k)).board
  unfolding after_turn
  turn-made = ap (λ (t : Turn). with_board_at (after_saying L c k t.signed) k t.board) took

  -- row 22 applies where the board waits, or its signer refuses what it says, and in no other case
  pub wait-waits : move_at L c k ≡ Waits → must_wait L c k ≡ true
  unfolding must_wait is_waiting
  wait-waits i = let t = turn-waits L c.n k me i v in grind arith

  pub wait-refuses : refuses L (signer_at L c k) (said_at L c k) ≡ true → must_wait L c k ≡ true
  unfolding must_wait
  wait-refuses h = let t = took in grind arith

  pub wait-neither : (move_at L c k ≡ Waits → ⊥) → refuses L (signer_at L c k) (said_at L c k) ≡ false
      → must_wait L c k ≡ false
  unfolding must_wait is_waiting
  wait-neither f h = let t = took in let d = answer-done (move_at L c k) f in grind arith

-- what a board says in its turn leaves the boards as they were
pub saying-board : (L : Limits) (c : Bench) (k : ℕ) (x : Option Statement) (j : ℕ)
    → board_at L (after_saying L c k x) j ≡ board_at L c j
unfolding board_at after_saying with_owed with_signature
saying-board L c k None j = refl
saying-board L c k (Some s) j = refl

-- a board that is voting has a place on the bench
module _ (L : Limits) (c : Bench) (k : ℕ) (v : (board_at L c k).status ≡ Voting) where
  pub voting-low : 1 ≤ k
  unfolding board_at
  voting-low = grind (arith, v, nth-none, fresh-is)

  pub voting-high : k ≤ length c.boards
  unfolding board_at
  voting-high = grind (arith, v, nth-none, fresh-is)

  pub voting-at : (d : Board) → get_or c.boards (k - 1) d ≡ board_at L c k
  unfolding board_at
  voting-at d = let low = voting-low in let high = voting-high in grind (arith, nth-any)

  pub voting-there : length c.boards ≡ L.boards → is_board L k ≡ true
  voting-there size = let high = voting-high in within_in L.boards k voting-low (omega (arith, size, high))

-- a signer that does not sign leaves the bench as it was
pub unsigned-same : (L : Limits) (c : Bench) (k i v : ℕ) → 1 ≤ k → grants L.identifiers (signer_at L c k) i ≡ false
    → with_signature L c k i v ≡ c
unfolding with_signature signer_at
unsigned-same L c k i v low g = grind (arith, sign-refused, set_nth-index, nth-index, set-get_or, g)

-- nor does a signature change who holds what
pub signing-holders : (L : Limits) (c : Bench) (k i v s j : ℕ)
    → holders L (with_signature L c k i v) s j ≡ holders L c s j
unfolding holders holds board_at with_signature
signing-holders L c k i v s j = refl

-- what a turn goes by: its board's place
pub ruleset voting_place = (voting-low, voting-high)
