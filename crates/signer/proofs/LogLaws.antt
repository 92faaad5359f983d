-- Laws of logs. Assumes nothing.
use Prim.Native.Nat.{ℕ, ◌+◌, ◌≤◌}
use mathlib.Core.Path.{◌≡◌}
use native.Mathlib.Omega.{arith}
use lib.ListN.{length, get_or}
use Rattle.std.proofs.lemmas.Bool.Decides.{nat_tests}
use Rattle.signer.specs.Log.{values, value_of, entry_of, entry_at}
use Rattle.signer.specs.declared.log.Log.{Log}
use Rattle.signer.proofs.FromOneLaws.{nth_after}

-- an entry's value
pub value-entry : (v : ℕ) → v ≤ values → value_of (entry_of v) ≡ v
unfolding value_of
value-entry v h = grind (arith, nat_tests)

-- it is a value or the blank, and an entry with a value is that value's
pub value-within : (x : ℕ) → value_of x ≤ values
unfolding value_of
value-within x = grind (arith, nat_tests)

pub entry_value : (x : ℕ) → (value_of x ≡ 0 → ⊥) → x ≡ entry_of (value_of x)
unfolding value_of
entry_value x f = grind (arith, nat_tests)

-- an entry that stands for a value is not 0, and stands for that value alone
pub entry-some : (v : ℕ) → entry_of v ≡ 0 → ⊥
entry-some v e = omega arith

pub entry-one : (v w : ℕ) → entry_of v ≡ entry_of w → v ≡ w
entry-one v w e = omega arith

-- the entries of a log stand in the order of their identifiers
pub entry-index : (l : Log) (i : ℕ) → entry_at l (i + 1) ≡ get_or l.entries i 0
unfolding entry_at
entry-index l i = nth_after l.entries i 0

-- a log that has an entry for each identifier
pub record Whole (limit : ℕ) (l : Log) : Type 0 where
  pub whole : length l.entries ≡ limit
