-- Choices of different numbers of 1 to n: a choice is those that pass some test. Assumes nothing.
use Prim.Native.Nat.{ℕ, zero, suc, ◌+◌, ◌≤◌, min}
use native.Mathlib.Omega.{arith}
use mathlib.Core.Path.{◌≡◌, refl}
use mathlib.Core.Bool.{Bool, true, false}
use mathlib.Core.List.{List, [], ◌∷◌}
use mathlib.Core.Logic.{⊎_elim}
use lib.ListN.{length}
use Rattle.std.specs.Prelude.{if◌then◌else◌, ◌==◌, nat_le, ◌&&◌, ◌||◌, not}
use Rattle.std.proofs.lemmas.Bool.{or_cases}
use Rattle.std.proofs.lemmas.Bool.Decides.{nat_tests}
use Rattle.delivery.specs.Counting.{plus, count_in, count_of, every_in, every_of, some_choice}

-- those of 1 to n that pass, highest first
pub picked : ℕ → (ℕ → Bool) → List ℕ
picked zero p = []
picked (suc n) p = if p (suc n) then suc n ∷ picked n p else picked n p

picked-cong : (n : ℕ) (p q : ℕ → Bool) → ((k : ℕ) → k ≤ n → p k ≡ q k) → picked n p ≡ picked n q
unfolding picked
picked-cong zero p q h = refl
picked-cong (suc n) p q h = grind (arith, h (suc n), picked-cong n p q (λ k l. h k (omega arith)))

-- some choice passes exactly if the numbers of some test do
pub picked-some : (n : ℕ) (t : List ℕ → Bool) (p : ℕ → Bool) → t (picked n p) ≡ true → some_choice n t ≡ true
unfolding picked some_choice
picked-some zero t p h = h
picked-some (suc n) t p h = grind (arith, picked-some n t p, picked-some n (λ (ks : List ℕ). t (suc n ∷ ks)) p)

-- a test with another answer at the number above n
topped : ℕ → Bool → (ℕ → Bool) → ℕ → Bool
topped n b p k = if k == suc n then b else p k

picked-topped : (n : ℕ) (b : Bool) (p : ℕ → Bool)
    → picked (suc n) (topped n b p) ≡ (if b then suc n ∷ picked n p else picked n p)
unfolding picked topped
picked-topped n b p = grind (arith, nat_tests, picked-cong n (topped n b p) p (λ k l. grind (arith, nat_tests)))

pub some-picked : (n : ℕ) (t : List ℕ → Bool) → some_choice n t ≡ true → (p : ℕ → Bool) × (t (picked n p) ≡ true)
unfolding some_choice picked
some-picked zero t h = (λ k. true, h)
some-picked (suc n) t h =
    ⊎_elim
    (λ e. let x = some-picked n (λ (ks : List ℕ). t (suc n ∷ ks)) e in (topped n true x.0, rw picked-topped x.1))
    (λ e. let x = some-picked n t e in (topped n false x.0, rw picked-topped x.1))
    (or_cases _ _ h)

-- how many they are, how many of them pass another test, and whether all do
pub length-picked : (n : ℕ) (p : ℕ → Bool) → length (picked n p) ≡ count_in n p
unfolding picked count_in plus
length-picked zero p = refl
length-picked (suc n) p = grind (arith, length-picked n p)

pub count-picked : (n : ℕ) (p q : ℕ → Bool) → count_of q (picked n p) ≡ count_in n (λ (k : ℕ). p k && q k)
unfolding picked count_in count_of plus
count-picked zero p q = refl
count-picked (suc n) p q = grind (arith, count-picked n p q)

pub every-picked : (n : ℕ) (p q : ℕ → Bool) → every_of q (picked n p) ≡ every_in n (λ (k : ℕ). not (p k) || q k)
unfolding picked every_in every_of
every-picked zero p q = refl
every-picked (suc n) p q = grind (arith, every-picked n p q)

-- the first i that pass
unfoldable pub first : ℕ → (ℕ → Bool) → ℕ → Bool
first i p k = p k && nat_le (count_in k p) i

pub count-first : (n i : ℕ) (p : ℕ → Bool) → count_in n (first i p) ≡ min i (count_in n p)
unfolding first count_in plus
count-first zero i p = omega arith
count-first (suc n) i p = grind (arith, nat_tests, count-first n i p)

-- what never passes both of two tests is counted once
pub count-apart : (n : ℕ) (p q : ℕ → Bool) → ((k : ℕ) → p k ≡ true → q k ≡ true → ⊥)
    → count_in n (λ (k : ℕ). p k || q k) ≡ count_in n p + count_in n q
unfolding count_in plus
count-apart zero p q a = refl
count-apart (suc n) p q a = grind (arith, a (suc n), count-apart n p q a)
