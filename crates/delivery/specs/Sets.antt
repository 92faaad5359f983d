-- Document 01, "Words and sizes": sets of boards, as bits of a number.
use Rattle.std.specs.Prelude.{ℕ, zero, suc, ◌+◌, ◌/◌, ◌%◌, ◌^◌, Bool, false, ◌==◌, ◌&&◌, ◌||◌, not}
use Rattle.std.specs.Prelude.{if◌then◌else◌}

-- board k is in the set m if bit k - 1 of m is 1
unfoldable pub in_set : ℕ → ℕ → Bool
in_set m zero = false
in_set m (suc k) = m / 2 ^ k % 2 == 1

-- the set of those of 1 to n that pass
unfoldable pub set_of : ℕ → (ℕ → Bool) → ℕ
set_of zero p = 0
set_of (suc n) p = if p (suc n) then 2 ^ n + set_of n p else set_of n p

-- how many bits a set has; a number above them is in none
abbrev pub bits : ℕ
bits = 16

-- the set with board k, and without it
unfoldable pub with_board : ℕ → ℕ → ℕ
with_board m k = set_of bits (λ (j : ℕ). in_set m j || j == k)

unfoldable pub without_board : ℕ → ℕ → ℕ
without_board m k = set_of bits (λ (j : ℕ). in_set m j && not (j == k))

-- the boards of either set, and those of the first that are not in the second
unfoldable pub union : ℕ → ℕ → ℕ
union a b = set_of bits (λ (j : ℕ). in_set a j || in_set b j)

unfoldable pub minus : ℕ → ℕ → ℕ
minus a b = set_of bits (λ (j : ℕ). in_set a j && not (in_set b j))
