-- Laws of the answers to an event: 0 is that of an accepted one alone, and what then comes of the bench. Assumes nothing.
use Prim.Native.Nat.{ℕ}
use native.Mathlib.Omega.{arith}
use mathlib.Core.Path.{◌≡◌, refl}
use mathlib.Core.Bool.{true, false}
use Rattle.std.specs.Prelude.{Result}
use Rattle.delivery.specs.Limits.{Limits}
use Rattle.vote.specs.Turns.{numbered}
use Rattle.vote.proofs.TurnLaws.{refusal-within, not_started-is, ended-is, waiting-is}
use Rattle.bench.specs.Answers.{setup_number, refusal_number, answer_number, is_accepted}
use Rattle.bench.specs.Table.{check_of}
use Rattle.bench.specs.Effects.{effect_of, step_of}
use Rattle.bench.specs.declared.bench.Bench.{Bench}
use Rattle.bench.specs.declared.answer.SetupFault.TheVariants.{NoBus, NoMark}
use Rattle.bench.specs.declared.event.Event.{Event}
use Rattle.bench.specs.declared.answer.Refusal.{Refusal}

-- the numbers of the two refusals of a fresh bench
pub no_bus-is : setup_number NoBus ≡ 2
unfolding setup_number
no_bus-is = refl

pub no_mark-is : setup_number NoMark ≡ 3
unfolding setup_number
no_mark-is = refl

-- what a board answers to a turn that it does not take has the number of a row
pub ruleset turn_numbers = (not_started-is, ended-is, waiting-is)

refusal-some : (r : Refusal) → refusal_number r ≡ 0 → ⊥
unfolding refusal_number
refusal-some r = grind (arith, refusal-within)

-- an accepted event has its effect and is answered 0; a refused one leaves the bench as it was, and is not answered 0
module _ (L : Limits) (c : Bench) (e : Event) where
  pub step-accepted : is_accepted (check_of L c e) ≡ true
      → ((step_of L c e).bench ≡ effect_of L c e) × (answer_number (step_of L c e).answer ≡ 0)
  unfolding step_of is_accepted answer_number
  step-accepted t = grind arith

  pub step-refused : is_accepted (check_of L c e) ≡ false
      → ((step_of L c e).bench ≡ c) × (answer_number (step_of L c e).answer ≡ 0 → ⊥)
  unfolding step_of is_accepted answer_number
  step-refused f = grind (arith, refusal-some)

  pub refused-same : (answer_number (step_of L c e).answer ≡ 0 → ⊥) → (step_of L c e).bench ≡ c
  refused-same f = grind (arith, step-accepted, step-refused)

-- an event that is played, known by what it was read from: what comes of it, and its answer's number
module _ (L : Limits) (c c' : Bench) (e e' : Event) (a : Result (Unit {0}) Refusal) (m : ℕ) where
  pub event_played : e ≡ e' → a ≡ (step_of L c e).answer → c' ≡ (step_of L c e).bench → m ≡ numbered refusal_number a
      → (c' ≡ (step_of L c e').bench) × (m ≡ answer_number (step_of L c e').answer)
  unfolding answer_number
  event_played read answered stepped number = grind arith
