-- Document 01, "A board's turns", stages B and C: what the statements of a round that a board accepts come to.
use Rattle.std.specs.Prelude.{ℕ, zero, suc, Bool, ◌==◌, nat_le, ◌&&◌, not}
use Rattle.std.specs.Prelude.{if◌then◌else◌}
use Rattle.signer.specs.Log.{value_of}
use Rattle.delivery.specs.Counting.{count_in}
use Rattle.delivery.specs.Limits.{Limits}
use Rattle.delivery.specs.Delivered.{Store}
use Rattle.delivery.specs.Acceptance.{opening_entry, ballot_entry, accepts_opening, accepts_ballot, accepts_some}

-- of what f gives for 1 to n, one that passes; 0 where none does
unfoldable pub some_value : ℕ → (ℕ → ℕ) → (ℕ → Bool) → ℕ
some_value zero f p = 0
some_value (suc n) f p = if p (f (suc n)) then f (suc n) else some_value n f p

-- among n boards, by the store h, in round r
module _ (L : Limits) (n : ℕ) (h : Store) (r : ℕ) where
  -- the value of the coordinator's opening if it is accepted, else the blank
  unfoldable pub opened_value : ℕ
  opened_value = if accepts_opening L n h r (value_of (opening_entry L n h r)) then value_of (opening_entry L n h r) else 0

  -- how many accepted ballots bear w
  unfoldable pub tally : ℕ → ℕ
  tally w = count_in n (λ (s : ℕ). accepts_ballot L n h r s w)

  -- what the accepted ballot of s bears; the blank, if there is none
  unfoldable pub borne_by : ℕ → ℕ
  borne_by s = if accepts_some L n h r s then value_of (ballot_entry L h r s) else 0

  -- the value other than the blank that m or more accepted ballots bear, or the blank where there is none. There can be
  -- only one, so it does not matter in which order they are looked through.
  unfoldable pub value_with : ℕ → ℕ
  value_with m = some_value n borne_by (λ (w : ℕ). not (w == 0) && nat_le m (tally w))
