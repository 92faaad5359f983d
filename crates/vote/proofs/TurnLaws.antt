-- Laws of a turn. Assumes nothing.
use Prim.Native.Nat.{ℕ, ◌+◌, ◌≤◌}
use native.Mathlib.Omega.{arith}
use mathlib.Core.Path.{◌≡◌, refl}
use mathlib.Core.Bool.{true}
use mathlib.Core.Logic.{◌⊎◌}
use Rattle.delivery.specs.Limits.{Limits}
use Rattle.delivery.specs.Delivered.{heard}
use Rattle.delivery.specs.Acceptance.{accepts_opening}
use Rattle.vote.specs.Rule.{rule}
use Rattle.vote.specs.Turns.{turn_number, at_stage, position_after, status_after, said_in, hears_own, answer_to, refuse, take, turn_in, turn}
use Rattle.vote.specs.declared.rule.Move.TheVariants.{Waits}
use Rattle.vote.specs.declared.board.Board.{Board}
use Rattle.vote.specs.declared.board.Status.TheVariants.{Voting}
use Rattle.vote.specs.declared.turn.Refusal.{Refusal}
use Rattle.vote.specs.declared.turn.Refusal.TheVariants.{NotStarted, Ended, Waiting}
use Rattle.vote.proofs.BallotLaws.{tally-opens}
use Rattle.vote.proofs.RuleLaws.{rule-makes}

-- the numbers of the refusals are among those of the rows for events
pub refusal-within : (r : Refusal) → (10 ≤ turn_number r) × (turn_number r ≤ 22)
unfolding turn_number
refusal-within r = grind arith

-- an estimate that changes was an accepted opening's value
pub turn-estimate : (L : Limits) (n me : ℕ) (b : Board)
    → ((turn L n me b).board.position.estimate ≡ b.position.estimate)
    ⊎ (accepts_opening L n (heard L b.delivered) b.position.round.0 (turn L n me b).board.position.estimate ≡ true)
unfolding turn turn_in position_after at_stage
turn-estimate L n me b = let m = rule-makes L n me b.position (heard L b.delivered) in grind (arith, tally-opens)

-- for the crates above
pub not_started-is : turn_number NotStarted ≡ 15
unfolding turn_number
not_started-is = refl

-- by the one before it: 16 is also the width of a set, which no proof writes
pub ended-is : turn_number Ended ≡ turn_number NotStarted + 1
unfolding turn_number
ended-is = refl

pub waiting-is : turn_number Waiting ≡ 22
unfolding turn_number
waiting-is = refl

module _ (L : Limits) (n me : ℕ) (b : Board) where
  pub turn-refused : (b.status ≡ Voting → ⊥)
      → (turn L n me b ≡ refuse b NotStarted) ⊎ (turn L n me b ≡ refuse b Ended)
  unfolding turn turn_in
  turn-refused f = grind arith

  pub turn-voting : b.status ≡ Voting → turn L n me b ≡ take L me b (rule L n me b.position (heard L b.delivered))
  unfolding turn turn_in
  turn-voting e = rw e

  pub turn-waits : rule L n me b.position (heard L b.delivered) ≡ Waits → b.status ≡ Voting
      → turn L n me b ≡ refuse b Waiting
  unfolding turn turn_in position_after status_after said_in hears_own answer_to
  turn-waits w v = grind arith
