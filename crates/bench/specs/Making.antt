-- The call for a fresh bench a second time, in words of its own and with the numbers written out: what is claimed of it, for
-- every n and every list of marks, which the open call `every_fresh` promises.
use Rattle.std.specs.Prelude.{ℕ, ◌≡◌, ◌≤◌, ◌<◌, true, List, [], ◌∷◌, ◌⊎◌, ◌↔◌}
use Rattle.signer.specs.FromOne.{nth}
use Rattle.delivery.specs.Limits.{limits}
use Rattle.delivery.specs.Sets.{in_set}
use Rattle.bench.specs.Setups.{fresh_of}
use Rattle.bench.specs.Answers.{fresh_number}

-- a bus has 1 to 7 boards; the mark of board k
abbrev pub IsBusSize : ℕ → Type 0
IsBusSize n = (1 ≤ n) × (n ≤ 7)

abbrev pub mark : List ℕ → ℕ → ℕ
mark marks k = nth marks k 0

abbrev number_of : ℕ → List ℕ → ℕ
number_of n marks = fresh_number (fresh_of limits n marks).answer

pub record Making : Type 0 where
  -- it is answered 2 exactly where there can be no n boards; 3 where there can, and one of the first n marks is neither 0 nor
  -- 1; and 0 otherwise
  pub no_bus : (n : ℕ) (marks : List ℕ) → (number_of n marks ≡ 2) ↔ (IsBusSize n → ⊥)
  pub no_mark : (n : ℕ) (marks : List ℕ)
      → (number_of n marks ≡ 3) ↔ (IsBusSize n × ((k : ℕ) × (1 ≤ k) × (k ≤ n) × (1 < mark marks k)))
  pub answered : (n : ℕ) (marks : List ℕ)
      → (number_of n marks ≡ 0) ⊎ ((number_of n marks ≡ 2) ⊎ (number_of n marks ≡ 3))
  -- answered 0, it gives a bench of n boards, of which those marked 0 are sound
  pub asked : (n : ℕ) (marks : List ℕ) → number_of n marks ≡ 0
      → ((fresh_of limits n marks).bench.n ≡ n)
      × ((k : ℕ) → (in_set (fresh_of limits n marks).bench.sound k ≡ true) ↔ ((1 ≤ k) × (k ≤ n) × (mark marks k ≡ 0)))
  -- refused, it gives the fresh bench of one sound board
  pub alone : (n : ℕ) (marks : List ℕ) → (number_of n marks ≡ 0 → ⊥)
      → (fresh_of limits n marks).bench ≡ (fresh_of limits 1 (0 ∷ [])).bench
  -- the marks after the n-th are not read
  pub unread : (n : ℕ) (marks rest : List ℕ) → ((k : ℕ) → 1 ≤ k → k ≤ n → mark marks k ≡ mark rest k)
      → fresh_of limits n marks ≡ fresh_of limits n rest
