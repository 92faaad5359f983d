-- Laws of counting among 1 to n. Assumes nothing.
use Rattle.std.specs.Prelude.{◌==◌, ◌&&◌, ◌||◌}
use Prim.Native.Nat.{ℕ, zero, suc, ◌+◌, ◌*◌, ◌≤◌, ◌<◌, min}
use mathlib.Core.Path.{◌≡◌, refl}
use mathlib.Core.Bool.{Bool, true, false, true≢false}
use mathlib.Core.Logic.{⊎_elim}
use native.Mathlib.Omega.{arith}
use native.Mathlib.Numerals.{add-one}
use Rattle.std.proofs.lemmas.Bool.{cases_Bool}
use Rattle.std.proofs.lemmas.Bool.Decides.{nat_tests}
use Rattle.delivery.specs.Counting.{plus, count_in, every_in}
use Rattle.delivery.specs.Bus.{faults, quorum, overlap}

-- a test that passes where another does counts as many or more, and tests that agree count the same
pub count-mono : (n : ℕ) (p p' : ℕ → Bool)
    → ((k : ℕ) → 1 ≤ k → k ≤ n → p k ≡ true → p' k ≡ true) → count_in n p ≤ count_in n p'
unfolding count_in plus
count-mono zero p p' h = omega arith
count-mono (suc n) p p' h = grind (arith, h (suc n), count-mono n p p' (λ k l u. h k l (omega arith)))

pub count-cong : (n : ℕ) (p p' : ℕ → Bool) → ((k : ℕ) → 1 ≤ k → k ≤ n → p k ≡ p' k) → count_in n p ≡ count_in n p'
unfolding count_in plus
count-cong zero p p' h = refl
count-cong (suc n) p p' h = grind (arith, h (suc n), count-cong n p p' (λ k l u. h k l (omega arith)))

-- no more than all pass
pub count-le : (n : ℕ) (p : ℕ → Bool) → count_in n p ≤ n
unfolding count_in plus
count-le zero p = omega arith
count-le (suc n) p = grind (arith, count-le n p)

-- none, where none passes; and what fails above b makes no more of them there
pub count-none : (n : ℕ) (p : ℕ → Bool) → ((k : ℕ) → 1 ≤ k → k ≤ n → p k ≡ false) → count_in n p ≡ 0
unfolding count_in plus
count-none zero p h = refl
count-none (suc n) p h = grind (arith, h (suc n), count-none n p (λ k l u. h k l (omega arith)))

pub count_beyond : (n b : ℕ) (p : ℕ → Bool) → ((k : ℕ) → b < k → p k ≡ false) → count_in n p ≡ count_in (min n b) p
unfolding count_in plus
count_beyond zero b p h = grind arith
count_beyond (suc n) b p h = grind (arith, h (suc n), count_beyond n b p h)

-- a turn of a loop that counts takes the next in, or leaves it out
pub count-take : (k c : ℕ) (p : ℕ → Bool) → c ≡ count_in k p → p (k + 1) ≡ true → c + 1 ≡ count_in (k + 1) p
unfolding count_in plus
count-take k c p e h = grind (arith, add-one k)

pub count-leave : (k c : ℕ) (p : ℕ → Bool) → c ≡ count_in k p → p (k + 1) ≡ false → c ≡ count_in (k + 1) p
unfolding count_in plus
count-leave k c p e h = grind (arith, add-one k)

-- all of 1 to n pass: each does, and exactly if the count is n
pub every-reads : (n : ℕ) (p : ℕ → Bool) → every_in n p ≡ true → (k : ℕ) → 1 ≤ k → k ≤ n → p k ≡ true
unfolding every_in
every-reads zero p h k l u = absurd (omega arith)
every-reads (suc n) p h k l u = grind (arith, every-reads n p)

pub reads-every : (n : ℕ) (p : ℕ → Bool) → ((k : ℕ) → 1 ≤ k → k ≤ n → p k ≡ true) → every_in n p ≡ true
unfolding every_in
reads-every zero p h = refl
reads-every (suc n) p h = grind (arith, h (suc n), reads-every n p (λ k l u. h k l (omega arith)))

pub every-counted : (n : ℕ) (p : ℕ → Bool) → every_in n p ≡ (count_in n p == n)
unfolding every_in count_in plus
every-counted zero p = refl
every-counted (suc n) p = grind (arith, nat_tests, every-counted n p, count-le n p)

-- where not all pass, one fails; and a count of one or more has one that passes
pub every-fails : (n : ℕ) (p : ℕ → Bool) → every_in n p ≡ false → (k : ℕ) × (1 ≤ k) × (k ≤ n) × (p k ≡ false)
unfolding every_in
every-fails zero p h = absurd (true≢false h)
every-fails (suc n) p h =
    ⊎_elim
    (λ (e : p (suc n) ≡ true). let x = every-fails n p (grind (arith, e, h)) in (x.0, x.1, omega (arith, x.2), x.3))
    (λ (e : p (suc n) ≡ false). (suc n, omega arith, omega arith, e))
    (cases_Bool (p (suc n)))

pub find : (n : ℕ) (p : ℕ → Bool) → 1 ≤ count_in n p → (k : ℕ) × (1 ≤ k) × (k ≤ n) × (p k ≡ true)
unfolding count_in plus
find zero p h = absurd (omega arith)
find (suc n) p h =
    ⊎_elim
    (λ (e : p (suc n) ≡ true). (suc n, omega arith, omega arith, e))
    (λ (e : p (suc n) ≡ false). let x = find n p (grind (arith, e, h)) in (x.0, x.1, omega (arith, x.2), x.3))
    (cases_Bool (p (suc n)))

pub count-some : (n : ℕ) (p : ℕ → Bool) (k : ℕ) → 1 ≤ k → k ≤ n → p k ≡ true → 1 ≤ count_in n p
unfolding count_in plus
count-some zero p k l h t = absurd (omega arith)
count-some (suc n) p k l h t = grind (arith, count-some n p k l)

-- what two tests count beyond all of them, some pass both; and what passes one of two is counted by one of them
pub shared : (n : ℕ) (p p' : ℕ → Bool) → count_in n p + count_in n p' ≤ n + count_in n (λ (k : ℕ). p k && p' k)
unfolding count_in plus
shared zero p p' = omega arith
shared (suc n) p p' = grind (arith, shared n p p')

pub count-or : (n : ℕ) (p p' : ℕ → Bool) → count_in n (λ (k : ℕ). p k || p' k) ≤ count_in n p + count_in n p'
unfolding count_in plus
count-or zero p p' = omega arith
count-or (suc n) p p' = grind (arith, count-or n p p')

-- f boards are fewer than half of n, one more would not be, and q and e are the others
pub sizes-fit : (n : ℕ) → 1 ≤ n
    → (2 * faults n < n) × (n ≤ 2 * (faults n + 1)) × (quorum n + faults n ≡ n) × (overlap n + 2 * faults n ≡ n)
sizes-fit n h = omega arith

-- two quorums have e more than all boards together, so they share e boards; e is 1 or more, and at most q
pub quorums-share : (n : ℕ) (p p' : ℕ → Bool)
    → quorum n ≤ count_in n p → quorum n ≤ count_in n p' → overlap n ≤ count_in n (λ (k : ℕ). p k && p' k)
quorums-share n p p' h h' = omega (arith, shared n p p')

pub overlap-pos : (n : ℕ) → 1 ≤ n → 1 ≤ overlap n
overlap-pos n h = omega arith

pub overlap-le : (n : ℕ) → overlap n ≤ quorum n
overlap-le n = omega arith
