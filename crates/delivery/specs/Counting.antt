-- Counting and choosing among the numbers 1 to n: document 01 needs how many boards a set has ("Words and sizes"),
-- how many ballots bear a value, and some of them by different speakers ("What a board accepts").
use Rattle.std.specs.Prelude.{ℕ, zero, suc, Bool, true, false, List, [], ◌∷◌, ◌&&◌, ◌||◌}

-- one more if the test passed
unfoldable pub plus : Bool → ℕ → ℕ
plus true k = suc k
plus false k = k

-- how many of 1 to n pass
unfoldable pub count_in : ℕ → (ℕ → Bool) → ℕ
count_in zero p = 0
count_in (suc n) p = plus (p (suc n)) (count_in n p)

-- all of 1 to n pass
unfoldable pub every_in : ℕ → (ℕ → Bool) → Bool
every_in zero p = true
every_in (suc n) p = p (suc n) && every_in n p

-- how many of a list pass
unfoldable pub count_of : (ℕ → Bool) → List ℕ → ℕ
count_of p [] = 0
count_of p (k ∷ ks) = plus (p k) (count_of p ks)

-- all of a list pass
unfoldable pub every_of : (ℕ → Bool) → List ℕ → Bool
every_of p [] = true
every_of p (k ∷ ks) = p k && every_of p ks

-- some choice of different numbers of 1 to n passes: each is tried, with the highest number and without
unfoldable pub some_choice : ℕ → (List ℕ → Bool) → Bool
some_choice zero p = p []
some_choice (suc n) p = some_choice n (λ (ks : List ℕ). p (suc n ∷ ks)) || some_choice n p
