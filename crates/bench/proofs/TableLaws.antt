-- Laws of the kinds that an event may be of, and of row 10. Assumes nothing.
use Prim.Native.Nat.{ℕ}
use mathlib.Core.Path.{◌≡◌, ap}
use mathlib.Core.Bool.{false}
use native.Mathlib.Omega.{arith}
use Rattle.std.proofs.lemmas.Bool.Decides.{nat_tests}
use Rattle.signer.proofs.FromOneLaws.{within_low, within-high, within_in}
use Rattle.bench.specs.Events.{kind_number, kind_of}
use Rattle.bench.specs.Table.{kind_row, first_of, check_of}
use Rattle.bench.specs.declared.event.Kind.{Kind}
use Rattle.bench.specs.declared.bench.Bench.{Bench}
use Rattle.bench.specs.declared.event.Event.{Event}
use Rattle.std.specs.Prelude.{Ok, Err}
use Rattle.bench.specs.declared.answer.Refusal.{Refusal}
use Rattle.delivery.specs.Limits.{Limits}

-- a number from 1 to 7 is that of its kind, and no other has one
pub kind-known : (n : ℕ) (k : Kind) → kind_of n ≡ Ok k → kind_number k ≡ n
unfolding kind_of kind_number
kind-known n k h = grind (arith, nat_tests, h)

-- so an event that is known by its kind is the event itself
pub known-is : (e : Event) (k : Kind) → kind_of e.kind ≡ Ok k → record e { kind = kind_number k } ≡ e
known-is e k h = ap (λ (n : ℕ). record e { kind = n }) (kind-known e.kind k h)

-- row 10 passes it
pub kind-passes : (e : Event) (k : Kind) → kind_row (record e { kind = kind_number k }) ≡ false
unfolding kind_row kind_number
kind-passes e k = grind (arith, nat_tests, within_in)

-- and stops an event of no kind
pub kind-stops : (L : Limits) (c : Bench) (e : Event) (r : Refusal) → kind_of e.kind ≡ Err r
    → check_of L c e ≡ Err r
unfolding kind_row kind_of check_of first_of
kind-stops L c e r h = grind (arith, nat_tests, within_low, within-high, h)

-- a kind, told from its number
pub ruleset told_kinds = (known-is, kind-stops)
