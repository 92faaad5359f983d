-- Laws of numbers from 1, and of lists numbered so. Assumes nothing.
use Prim.Native.Nat.{ℕ, ◌+◌, ◌-◌, ◌≤◌, ◌<◌}
use mathlib.Core.Path.{◌≡◌}
use mathlib.Core.Bool.{true, false}
use mathlib.Core.List.{List}
use mathlib.Core.Logic.{◌⊎◌}
use native.Mathlib.Omega.{arith}
use lib.ListN.{length, get_or, set, replicate, length-set, length-replicate}
use lib.Seq.{get_or-set_other, set_out}
use Rattle.std.specs.Prelude.{None, Some, unwrap_or}
use Rattle.std.proofs.lemmas.Bool.Decides.{nat_tests}
use Rattle.std.proofs.lemmas.Grind.{get_or-set_at}
use Rattle.std.proofs.lemmas.List.{get_or_default, get_or_past, get_or-replicate}
use Rattle.std.proofs.lemmas.Option.{unwrap_or-slice_get}
use Rattle.signer.specs.FromOne.{is_within, get, nth, set_nth}

-- the numbers from 1 to a limit
module _ (limit k : ℕ) where
  pub within_low : is_within limit k ≡ true → 1 ≤ k
  unfolding is_within
  within_low h = grind (arith, nat_tests)

  pub within-high : is_within limit k ≡ true → k ≤ limit
  unfolding is_within
  within-high h = grind (arith, nat_tests)

  pub within_in : 1 ≤ k → k ≤ limit → is_within limit k ≡ true
  unfolding is_within
  within_in l h = grind (arith, nat_tests)

  -- a number that is none of them is 0 or above the limit
  pub within-out : is_within limit k ≡ false → 1 ≤ k → limit < k
  unfolding is_within
  within-out h l = grind (arith, nat_tests)

  pub within-zero : k ≡ 0 → is_within limit k ≡ false
  unfolding is_within
  within-zero e = grind (arith, nat_tests)

  pub within-above : limit < k → is_within limit k ≡ false
  unfolding is_within
  within-above h = grind (arith, nat_tests)

module _ {A : Type 0} (xs : List A) where
  -- element k stands at index k - 1
  pub nth-index : (k : ℕ) (d : A) → 1 ≤ k → nth xs k d ≡ get_or xs (k - 1) d
  unfolding nth
  nth-index k d h = grind arith

  pub nth_after : (k : ℕ) (d : A) → nth xs (k + 1) d ≡ get_or xs k d
  unfolding nth
  nth_after k d = grind arith

  pub set_nth-index : (k : ℕ) (a : A) → 1 ≤ k → set_nth xs k a ≡ set xs (k - 1) a
  unfolding set_nth
  set_nth-index k a h = grind arith

  -- whatever would be read where there is none
  pub nth-any : (k : ℕ) (d e : A) → 1 ≤ k → k ≤ length xs → nth xs k d ≡ get_or xs (k - 1) e
  unfolding nth
  nth-any k d e l h = grind (arith, get_or_default)

  -- it is what is lent, and the default where nothing is
  pub nth_get : (k : ℕ) (d : A) → unwrap_or (get xs k) d ≡ nth xs k d
  unfolding get nth
  nth_get k d = grind (arith, unwrap_or-slice_get)

  pub get_some : (k : ℕ) (a d : A) → Some a ≡ get xs k → nth xs k d ≡ a
  get_some k a d e = rw (← nth_get k d, ← e)

  pub get_none : (k : ℕ) (d : A) → None ≡ get xs k → nth xs k d ≡ d
  get_none k d e = rw (← nth_get k d, ← e)

  -- there is no element 0, and none past the end
  pub nth-none : (k : ℕ) (d : A) → (1 ≤ k → length xs < k) → nth xs k d ≡ d
  unfolding nth
  nth-none k d h = grind (arith, get_or_past)

  pub set_nth-none : (k : ℕ) (a : A) → (1 ≤ k → length xs < k) → set_nth xs k a ≡ xs
  unfolding set_nth
  set_nth-none k a h = grind (arith, set_out)

  pub length-set_nth : (k : ℕ) (a : A) → length (set_nth xs k a) ≡ length xs
  unfolding set_nth
  length-set_nth k a = grind (arith, length-set)

  -- one element changed: it is read back, and every other is as it was
  pub nth-set-same : (k : ℕ) (a d : A) → 1 ≤ k → k ≤ length xs → nth (set_nth xs k a) k d ≡ a
  unfolding nth set_nth
  nth-set-same k a d l h = grind (arith, get_or-set_at)

  pub nth-set-other : (j k : ℕ) (a d : A) → (j ≡ k → ⊥) → nth (set_nth xs k a) j d ≡ nth xs j d
  unfolding nth set_nth
  nth-set-other j k a d h = grind (arith, get_or-set_other)

  -- so each is as it was, or is the new one at its place
  pub nth-change : (j k : ℕ) (a d : A)
      → (nth (set_nth xs k a) j d ≡ nth xs j d) ⊎ ((j ≡ k) × (nth (set_nth xs k a) j d ≡ a))
  unfolding nth set_nth
  nth-change j k a d = grind (arith, get_or-set_at, get_or-set_other, set_out)

-- every element of a list of one repeated element is that element
pub nth-replicate : {A : Type 0} (n k : ℕ) (d : A) → nth (replicate n d) k d ≡ d
unfolding nth
nth-replicate n k d = grind (arith, get_or-replicate, get_or_past, length-replicate)
