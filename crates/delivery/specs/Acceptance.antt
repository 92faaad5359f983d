-- Document 01, "What a board accepts" ("valid" in the published vote), by a store of what it has delivered.
use Rattle.std.specs.Prelude.{ℕ, zero, suc, Bool, false, List, length, ◌==◌, nat_lt, nat_le, ◌&&◌, ◌||◌, not}
use Rattle.std.specs.Prelude.{if◌then◌else◌}
use Rattle.signer.specs.Log.{entry_of}
use Rattle.delivery.specs.Counting.{count_of, every_of, some_choice}
use Rattle.delivery.specs.Limits.{Limits}
use Rattle.delivery.specs.Bus.{quorum, overlap}
use Rattle.delivery.specs.Rounds.{coordinator, identifier_of}
use Rattle.delivery.specs.Sets.{set_of}
use Rattle.delivery.specs.Delivered.{Store}
use Rattle.delivery.specs.declared.delivered.Delivered.{Delivered}
use Rattle.delivery.specs.declared.poll.Tally.{Tally}
use Rattle.delivery.specs.declared.round.Phase.TheVariants.{Opening, Ballot}

-- a round among n boards, as one board has heard it
pub record Heard : Type 0 where
  pub delivered : Delivered
  pub n : ℕ
  pub round : ℕ

-- the entry x stands for a value or the blank, and that passes
unfoldable pub says : ℕ → (ℕ → Bool) → Bool
says zero p = false
says (suc v) p = p v

-- the entry of the opening of round r that its coordinator sent
abbrev pub opening_entry : Limits → ℕ → Store → ℕ → ℕ
opening_entry L n h r = h (coordinator n r) (identifier_of L Opening r)

-- the entry of the ballot of round r that s gave
abbrev pub ballot_entry : Limits → Store → ℕ → ℕ → ℕ
ballot_entry L h r s = h s (identifier_of L Ballot r)

-- that ballot bears w
unfoldable pub bears : Limits → Store → ℕ → ℕ → ℕ → Bool
bears L h r w s = ballot_entry L h r s == entry_of w

-- it bears what the entry x stands for
unfoldable pub backs : Limits → Store → ℕ → ℕ → ℕ → Bool
backs L h r x s = says x (λ (w : ℕ). bears L h r w s)

-- among these speakers' ballots of round r every value other than the blank stands fewer than e times; a value that
-- none of them bears stands 0 times, so it is enough to look at those that they bear
unfoldable pub divided : Limits → ℕ → Store → ℕ → List ℕ → Bool
divided L n h r ss =
    every_of
    (λ (s : ℕ). says (ballot_entry L h r s) (λ (w : ℕ). w == 0 || nat_lt (count_of (bears L h r w) ss) (overlap n)))
    ss

-- one round, where `may` says which values are allowed in it
module _ (L : Limits) (n : ℕ) (h : Store) (may : ℕ → Bool) (r : ℕ) where
  -- the opening with w counts: it came from the coordinator, w is not the blank, and w is allowed
  unfoldable pub opens : ℕ → Bool
  opens w = opening_entry L n h r == entry_of w && not (w == 0) && may w

  -- a ballot counts: with the blank always, with a value if the opening with that value counts
  unfoldable pub counts : ℕ → ℕ → Bool
  counts w s = bears L h r w s && (w == 0 || opens w)

  -- s has a ballot that counts, whatever it bears
  unfoldable pub counts_some : ℕ → Bool
  counts_some s = says (ballot_entry L h r s) (λ (w : ℕ). counts w s)

  -- the value w is allowed in the next round: there are q different speakers whose ballots count, and of these
  -- ballots e or more bear w, or no value has so many and w is allowed in this round. The published vote does not say
  -- what holds of an estimate that is kept: the second reason is document 01's.
  unfoldable pub allowed_after : ℕ → Bool
  allowed_after w =
      not (w == 0)
      && some_choice
      n
      (λ (ss : List ℕ).
      length ss == quorum n
      && every_of counts_some ss
      && (nat_le (overlap n) (count_of (bears L h r w) ss) || (divided L n h r ss && may w)))

module _ (L : Limits) (n : ℕ) (h : Store) where
  -- what is allowed in each round: every value in the first, and in each later one what the round before it leaves.
  -- At 0, which is the blank and no value, this is false in every round. There is no round 0, and nothing is allowed
  -- in it.
  unfoldable pub allowed : ℕ → ℕ → Bool
  allowed zero w = false
  allowed (suc zero) w = not (w == 0)
  allowed (suc (suc r)) w = allowed_after L n h (allowed (suc r)) (suc r) w

  -- the board accepts the opening of r with w
  unfoldable pub accepts_opening : ℕ → ℕ → Bool
  accepts_opening r w = opens L n h (allowed r) r w

  -- the board accepts the ballot of r with w from s
  unfoldable pub accepts_ballot : ℕ → ℕ → ℕ → Bool
  accepts_ballot r s w = counts L n h (allowed r) r w s

  -- the board accepts a ballot of r from s
  unfoldable pub accepts_some : ℕ → ℕ → Bool
  accepts_some r s = counts_some L n h (allowed r) r s

  -- the entry of the opening of r if the board accepts it; 0, which is none, if not
  unfoldable pub opened_entry : ℕ → ℕ
  opened_entry r = if says (opening_entry L n h r) (accepts_opening r) then opening_entry L n h r else 0

  -- what it accepts of r: this opening, the boards of 1 to n with an accepted blank ballot, and those with an accepted
  -- ballot for what the opening bears
  abbrev pub tally_of : ℕ → Tally
  tally_of r =
      record {
        opening = opened_entry r;
        blank = set_of n (λ (s : ℕ). accepts_ballot r s 0);
        backing = set_of n (λ (s : ℕ). says (opened_entry r) (accepts_ballot r s));
      }

-- of a tally, the boards whose ballots bear w
unfoldable pub bearers : Tally → ℕ → ℕ
bearers t w = if w == 0 then t.blank else (if t.opening == entry_of w then t.backing else 0)
