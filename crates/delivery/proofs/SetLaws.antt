-- Laws of sets of boards: their members, their sizes, and the bit operations that make them. Assumes nothing.
use Rattle.std.specs.Prelude.{◌==◌, nat_le, ◌&&◌, ◌||◌, not}
use Prim.Native.Nat.{ℕ, zero, suc, ◌+◌, ◌-◌, ◌*◌, ◌/◌, ◌%◌, ◌^◌, ◌≤◌, ◌<◌, min}
use mathlib.Core.Path.{◌≡◌, refl, sym, ap, ◌∙◌}
use mathlib.Core.Bool.{Bool, true, false}
use native.Mathlib.Omega.{arith}
use native.Mathlib.Numerals.{add-one}
use native.Mathlib.Nat.{pow-suc, mod-lt}
use lib.Pow.{pow_pos, pow_mono, pow-lt}
use lib.Bits.{bit_and, bit_or, and_le_l, or_lt, and_mask}
use lib.Count.{ones, ones_cat}
use Rattle.std.specs.Int.{w16, bit_at}
use Rattle.std.proofs.lemmas.Bool.Decides.{nat_tests}
use Rattle.std.proofs.lemmas.Nat.{one_shl}
use Rattle.std.proofs.lemmas.Nat.Bits.{bit_at_above, bit_at_and, bit_at_cat_high, bit_at_cat_low, bit_at_not}
use Rattle.std.proofs.lemmas.Nat.Bits.{bit_at_ones, bit_at_or, bit_at-pow_other, bit_at-pow_same, bit_at-zero}
use Rattle.std.proofs.lemmas.Nat.Bits.{same_from_bits_below}
use Rattle.signer.specs.FromOne.{is_within}
use Rattle.signer.proofs.FromOneLaws.{within_low, within-high, within-out}
use Rattle.delivery.specs.Counting.{plus, count_in}
use Rattle.delivery.specs.Sets.{in_set, set_of, bits, with_board, without_board, union, minus}

-- board k is in a set by the bit k - 1
pub in-index : (m k : ℕ) → 1 ≤ k → in_set m k ≡ ((m / 2 ^ (k - 1) % 2) == 1)
unfolding in_set
in-index m k h = let e : k ≡ suc (k - 1) = omega arith in ap (in_set m) e

-- no board is in 0
pub in-none : (k : ℕ) → in_set 0 k ≡ false
unfolding in_set
in-none zero = refl
in-none (suc k) = grind (arith, nat_tests, bit_at-zero)

-- with bit n put above n bits, board n + 1 is in it as well
in-top : (n m k : ℕ) → m < 2 ^ n → in_set (2 ^ n + m) k ≡ (k == suc n || in_set m k)
unfolding in_set
in-top n m zero l = grind (arith, nat_tests)
in-top n m (suc k) l =
    let above = bit_at_above 1 1 (k - n) in
    grind (arith, nat_tests, bit_at_cat_low 1 n m k, bit_at_cat_high 1 n m k l, bit_at_above m n k l, above)

-- a set of 1 to n has n bits, and its members are those that pass
set-lt : (n : ℕ) (p : ℕ → Bool) → set_of n p < 2 ^ n
unfolding set_of
set-lt zero p = omega arith
set-lt (suc n) p = grind (arith, set-lt n p, pow-suc)

members : (n : ℕ) (p : ℕ → Bool) (k : ℕ) → in_set (set_of n p) k ≡ (nat_le 1 k && nat_le k n && p k)
unfolding set_of
members zero p k = grind (arith, nat_tests, in-none)
members (suc n) p k = grind (arith, nat_tests, members n p k, in-top n (set_of n p) k (set-lt n p))

pub in-set_of-within : (n : ℕ) (p : ℕ → Bool) (k : ℕ) → 1 ≤ k → k ≤ n → in_set (set_of n p) k ≡ p k
in-set_of-within n p k l h = grind (arith, nat_tests, members n p k)

pub in-set_of-outside : (n : ℕ) (p : ℕ → Bool) (k : ℕ) → (1 ≤ k → n < k) → in_set (set_of n p) k ≡ false
in-set_of-outside n p k h = grind (arith, nat_tests, members n p k)

pub in-set_of-passes : (n : ℕ) (p : ℕ → Bool) (k : ℕ) → in_set (set_of n p) k ≡ true → p k ≡ true
in-set_of-passes n p k t = grind (arith, nat_tests, members n p k)

-- a number of n bits is the set of its members, told by its bits or by itself, so sets with the same members are one
by-bits : (n m : ℕ) (p : ℕ → Bool) → m < 2 ^ n → ((i : ℕ) → i < n → (bit_at m i == 1) ≡ p (suc i)) → m ≡ set_of n p
unfolding in_set
by-bits n m p l h =
    let same = λ (i : ℕ) (u : i < n). in-set_of-within n p (suc i) (omega arith) u in
    same_from_bits_below n m (set_of n p) l (set-lt n p) (λ i u. grind (arith, nat_tests, h i u, same i u))

set_is : (n m : ℕ) (p : ℕ → Bool) → m < 2 ^ n → ((k : ℕ) → 1 ≤ k → k ≤ n → in_set m k ≡ p k) → m ≡ set_of n p
unfolding in_set
set_is n m p l h = by-bits n m p l (λ i u. h (suc i) (omega arith) u)

pub set-cong : (n : ℕ) (p p' : ℕ → Bool) → ((k : ℕ) → 1 ≤ k → k ≤ n → p k ≡ p' k) → set_of n p ≡ set_of n p'
set-cong n p p' h = set_is n (set_of n p) p' (set-lt n p) (λ k l u. in-set_of-within n p k l u ∙ h k l u)

pub set-none : (n : ℕ) (p : ℕ → Bool) → ((k : ℕ) → 1 ≤ k → k ≤ n → p k ≡ false) → set_of n p ≡ 0
set-none n p f = sym (set_is n 0 p (pow_pos n) (λ k l u. in-none k ∙ sym (f k l u)))

-- what fails above b makes no more of a set there, so the set fits if it has bits up to b
pub set_beyond : (n b : ℕ) (p : ℕ → Bool) → ((k : ℕ) → b < k → p k ≡ false) → set_of n p ≡ set_of (min n b) p
unfolding set_of
set_beyond zero b p h = grind arith
set_beyond (suc n) b p h = grind (arith, h (suc n), set_beyond n b p h)

pub set-fits : (n b : ℕ) (p : ℕ → Bool) → ((k : ℕ) → b < k → p k ≡ false) → b ≤ bits → set_of n p < 2 ^ bits
set-fits n b p f l =
    omega (arith, set_beyond n b p f, set-lt (min n b) p, pow_mono {i = min n b} {j = bits} (omega arith))

-- a turn of a loop that builds a set takes the next board in, or leaves it out
pub with-next : (k : ℕ) (p : ℕ → Bool) → k < bits → p (suc k) ≡ true
    → with_board (set_of k p) (suc k) ≡ set_of (suc k) p
unfolding with_board
with-next k p h t =
    let less : set_of (suc k) p < 2 ^ bits = omega (arith, set-lt (suc k) p, pow_mono {i = suc k} {j = bits} h) in
    sym (set_is bits _ _ less (λ j l u. grind (arith, nat_tests, members (suc k) p j, members k p j)))

pub set-take : (k set : ℕ) (p : ℕ → Bool) → set ≡ set_of k p → k < bits → p (k + 1) ≡ true
    → with_board set (k + 1) ≡ set_of (k + 1) p
set-take k set p e l h = rw (e, add-one k) (with-next k p l (rw add-one at h))

pub set-leave : (k set : ℕ) (p : ℕ → Bool) → set ≡ set_of k p → p (k + 1) ≡ false → set ≡ set_of (k + 1) p
unfolding set_of
set-leave k set p e h = grind (arith, add-one)

-- the members of a set with a board and without it, and of either of two sets
in-with : (m j k : ℕ) → 1 ≤ k → k ≤ bits → in_set (with_board m j) k ≡ (in_set m k || k == j)
unfolding with_board
in-with m j = in-set_of-within bits (λ (i : ℕ). in_set m i || i == j)

pub in_without : (m j k : ℕ) → 1 ≤ k → k ≤ bits → in_set (without_board m j) k ≡ (in_set m k && not (k == j))
unfolding without_board
in_without m j = in-set_of-within bits (λ (i : ℕ). in_set m i && not (i == j))

pub in-union : (a b k : ℕ) → 1 ≤ k → k ≤ bits → in_set (union a b) k ≡ (in_set a k || in_set b k)
unfolding union
in-union a b = in-set_of-within bits (λ (i : ℕ). in_set a i || in_set b i)

-- a board put in or taken out a second time changes nothing
pub with-twice : (m k : ℕ) → with_board (with_board m k) k ≡ with_board m k
unfolding with_board
with-twice m k = set-cong bits _ _ (λ j l u. grind (arith, in-with m k j l u))

pub without-twice : (m k : ℕ) → without_board (without_board m k) k ≡ without_board m k
unfolding without_board
without-twice m k = set-cong bits _ _ (λ j l u. grind (arith, in_without m k j l u))

-- to join a board's set is to put the board in, and to take it away to take the board out
pub union-alone : (m k : ℕ) → union m (with_board 0 k) ≡ with_board m k
unfolding union with_board
union-alone m k = set-cong bits _ _ (λ j l u. grind (arith, in-with 0 k j l u, in-none j))

pub minus-without : (m k : ℕ) → minus m (with_board 0 k) ≡ without_board m k
unfolding minus without_board with_board
minus-without m k = set-cong bits _ _ (λ j l u. grind (arith, in-with 0 k j l u, in-none j))

-- the bit operations that make these sets
pub or-union : (a b : ℕ) → a < 2 ^ bits → b < 2 ^ bits → bit_or a b ≡ union a b
unfolding union in_set
or-union a b l h = by-bits bits _ _ (or_lt bits a b l h) (λ i u. grind (arith, nat_tests, bit_at_or a b i))

pub and_not-minus : (a b : ℕ) → a < 2 ^ bits → b < 2 ^ bits → bit_and a (2 ^ bits - 1 - b) ≡ minus a b
unfolding minus in_set
and_not-minus a b l h =
    let less : bit_and a (2 ^ bits - 1 - b) < 2 ^ bits = omega (arith, and_le_l a (2 ^ bits - 1 - b)) in
    let bit = bit_at_and a (2 ^ bits - 1 - b) in
    by-bits bits _ _ less (λ i u. grind (arith, nat_tests, bit i, bit_at_not w16 b i h u))

-- for numbers that have a bit and for others
pub in-unnumbered : (m k : ℕ) → m < 2 ^ bits → is_within bits k ≡ false → in_set m k ≡ false
unfolding in_set
in-unnumbered m zero l h = refl
in-unnumbered m (suc k) l h = grind (arith, nat_tests, within-out bits (suc k) h, bit_at_above m bits k l)

pub with-unnumbered : (m k : ℕ) → m < 2 ^ bits → is_within bits k ≡ false → with_board m k ≡ m
unfolding with_board
with-unnumbered m k l h = sym (set_is bits m _ l (λ j s t. grind (arith, nat_tests, within-out bits k h)))

pub shifted-alone : (k : ℕ) → is_within bits k ≡ true → 1 * 2 ^ (k - 1) % 2 ^ bits ≡ with_board 0 k
unfolding with_board in_set
shifted-alone k h =
    let low = within_low bits k h in
    let u : k - 1 < bits = omega (arith, low, within-high bits k h) in
    one_shl (k - 1) bits u
    ∙ by-bits bits _ _ (pow-lt u) (λ i v. grind (arith, nat_tests, low, bit_at-pow_same i, bit_at-pow_other (k - 1) i))

-- the size of a set: its bits that are 1
ones-set : (n : ℕ) (p : ℕ → Bool) → ones (set_of n p) ≡ count_in n p
unfolding set_of count_in plus ones
ones-set zero p = refl
ones-set (suc n) p = grind (arith, ones-set n p, ones_cat n 1 (set_of n p) (set-lt n p))

ones-members : (n m : ℕ) → m < 2 ^ n → ones m ≡ count_in n (in_set m)
ones-members n m l = ap ones (set_is n m (in_set m) l (λ k s t. refl)) ∙ ones-set n (in_set m)

pub ones-every : (m n : ℕ) → m < 2 ^ bits → bits ≤ n → ones m ≡ count_in n (in_set m)
ones-every m n l h = ones-members n m (omega (arith, l, pow_mono {i = bits} {j = n} h))

pub count_set : (n k : ℕ) (p : ℕ → Bool) → k ≤ n → count_in n (in_set (set_of k p)) ≡ count_in k p
count_set n k p h =
    sym (ones-members n (set_of k p) (omega (arith, set-lt k p, pow_mono {i = k} {j = n} h))) ∙ ones-set k p

pub ones-masked : (m n : ℕ) → n < bits → ones (bit_and m (1 * 2 ^ n % 2 ^ bits - 1)) ≡ count_in n (in_set m)
unfolding in_set
ones-masked m n h =
    let less : bit_and m (2 ^ n - 1) < 2 ^ n = omega (arith, and_mask m n, mod-lt m (pow_pos n)) in
    ap (λ (x : ℕ). ones (bit_and m (x - 1))) (one_shl n bits h)
    ∙ ap ones (by-bits n _ _ less (λ i u. grind (arith, nat_tests, bit_at_and m (2 ^ n - 1) i, bit_at_ones n i u)))
    ∙ ones-set n (in_set m)

-- two sets of 1 to n, joined, if that fits
pub union-sets : (n : ℕ) (p p' : ℕ → Bool) → set_of n (λ (k : ℕ). p k || p' k) < 2 ^ bits
    → union (set_of n p) (set_of n p') ≡ set_of n (λ (k : ℕ). p k || p' k)
unfolding union
union-sets n p p' l =
    let either = members n (λ (j : ℕ). p j || p' j) in
    sym (set_is bits _ _ l (λ k s t. grind (arith, nat_tests, members n p k, members n p' k, either k)))

-- for the functions
pub ruleset counting = (ones-masked, ones-every)

pub ruleset containing = (within_low, within-high, in-index, in-unnumbered)

pub ruleset single = (within_low, within-high, with-unnumbered, shifted-alone)

pub ruleset joining = (or-union, and_not-minus)

pub ruleset changing = (union-alone, minus-without)
