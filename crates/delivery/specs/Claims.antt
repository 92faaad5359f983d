-- What holds of every store, of every number of boards and every round, and of every record of owed copies; src/claims
-- promises it. Sizes, coordinators and acceptance stand here a second time, acceptance in propositions: not by tests of
-- lists, but by what was said and by how many of some speakers' accepted ballots bear a value.
use Rattle.std.specs.Prelude.{ℕ, suc, ◌+◌, ◌*◌, ◌≡◌, ◌≤◌, ◌<◌, Bool, true, false, length, ◌⊎◌, ◌↔◌, ◌&&◌}
use Rattle.signer.specs.Log.{is_identifier}
use Rattle.delivery.specs.Counting.{count_in}
use Rattle.delivery.specs.Limits.{Limits, limits}
use Rattle.delivery.specs.Bus.{is_board, faults, quorum, overlap}
use Rattle.delivery.specs.Rounds.{coordinator, identifier_of}
use Rattle.delivery.specs.Sets.{in_set, bits}
use Rattle.delivery.specs.Delivered.{Store, heard, nothing_delivered, deliver}
use Rattle.delivery.specs.Owed.{nothing_owed, copies_of, receivers, after_signing, after_delivery}
use Rattle.delivery.specs.Acceptance.{allowed, accepts_opening, accepts_ballot, accepts_some}
use Rattle.delivery.specs.declared.round.Phase.TheVariants.{Opening, Ballot}
use Rattle.delivery.specs.declared.delivered.Delivered.{Delivered}
use Rattle.delivery.specs.declared.owed.Owed.{Owed}

-- The sizes of n boards a second time: f is the most boards that are fewer than half (one more would not be), a quorum is all
-- but f of them, and e all but twice f.
abbrev pub SizesFit : Type 0
SizesFit =
    (n : ℕ)
    → 1 ≤ n
    → (2 * faults n < n)
    × (n ≤ 2 * (faults n + 1))
    × (quorum n + faults n ≡ n)
    × (overlap n + 2 * faults n ≡ n)

-- And coordinators: each is a board of the bus, and a round comes as many whole turns of n rounds (m) after the one that has
-- its coordinator's number.
abbrev pub TakesTurns : Type 0
TakesTurns =
    (n r : ℕ)
    → 1 ≤ n
    → 1 ≤ r
    → (1 ≤ coordinator n r)
    × (coordinator n r ≤ n)
    × ((m : ℕ) × (r ≡ m * n + coordinator n r))

-- two quorums of n boards share e of them or more, and that is one at least
abbrev pub QuorumsShare : Type 0
QuorumsShare =
    (n : ℕ) (p p' : ℕ → Bool)
    → quorum n ≤ count_in n p
    → quorum n ≤ count_in n p'
    → overlap n ≤ count_in n (λ (k : ℕ). p k && p' k)

abbrev pub OneShared : Type 0
OneShared = (n : ℕ) → 1 ≤ n → 1 ≤ overlap n

-- by the store h of a board among n
module _ (n : ℕ) (h : Store) where
  -- w is allowed in r; the board accepts the opening of r with w, and the ballot of r with w from s
  abbrev pub IsAllowed : ℕ → ℕ → Type 0
  IsAllowed r w = allowed limits n h r w ≡ true

  abbrev pub AcceptsOpening : ℕ → ℕ → Type 0
  AcceptsOpening r w = accepts_opening limits n h r w ≡ true

  abbrev pub AcceptsBallot : ℕ → ℕ → ℕ → Type 0
  AcceptsBallot r s w = accepts_ballot limits n h r s w ≡ true

  -- how many of these speakers, those of 1 to n that pass, have an accepted ballot of r with v
  abbrev pub ballots_among : ℕ → (ℕ → Bool) → ℕ → ℕ
  ballots_among r speakers v = count_in n (λ (s : ℕ). speakers s && accepts_ballot limits n h r s v)

  -- a ballot of r is accepted from each of these speakers; and e or more of these ballots bear w, or every value other than
  -- the blank stands fewer than e times among them while w is allowed in r
  pub record Leaves (r w : ℕ) (speakers : ℕ → Bool) : Type 0 where
    pub accepted : (s : ℕ) → 1 ≤ s → s ≤ n → speakers s ≡ true → (v : ℕ) × AcceptsBallot r s v
    pub reason : (overlap n ≤ ballots_among r speakers w)
        ⊎ (((v : ℕ) → (v ≡ 0 → ⊥) → ballots_among r speakers v < overlap n) × IsAllowed r w)

-- an opening is accepted if the round's coordinator sent it and its value is one and is allowed
abbrev pub Openings : Type 0
Openings =
    (n : ℕ) (h : Store) (r w : ℕ)
    → AcceptsOpening n h r w
    ↔ ((h (coordinator n r) (identifier_of limits Opening r) ≡ suc w) × (w ≡ 0 → ⊥) × IsAllowed n h r w)

-- a ballot is accepted if it was sent and is blank, or the opening with its value is accepted
abbrev pub Ballots : Type 0
Ballots =
    (n : ℕ) (h : Store) (r s w : ℕ)
    → AcceptsBallot n h r s w
    ↔ ((h s (identifier_of limits Ballot r) ≡ suc w) × ((w ≡ 0) ⊎ AcceptsOpening n h r w))

-- a ballot is accepted from s, whatever it bears
abbrev pub SomeBallots : Type 0
SomeBallots =
    (n : ℕ) (h : Store) (r s : ℕ) → (accepts_some limits n h r s ≡ true) ↔ ((w : ℕ) × AcceptsBallot n h r s w)

-- in round 1 every value is allowed
abbrev pub FirstRound : Type 0
FirstRound = (n : ℕ) (h : Store) (w : ℕ) → IsAllowed n h 1 w ↔ (w ≡ 0 → ⊥)

-- in a later one w is, if it is a value and some q speakers leave it; and q or more speakers do as well
abbrev pub LaterRounds : Type 0
LaterRounds =
    (n : ℕ) (h : Store) (r w : ℕ)
    → 1 ≤ r
    → IsAllowed n h (r + 1) w
    ↔ ((w ≡ 0 → ⊥) × ((speakers : ℕ → Bool) × (count_in n speakers ≡ quorum n) × Leaves n h r w speakers))

abbrev pub MoreSpeakers : Type 0
MoreSpeakers =
    (n : ℕ) (h : Store) (r w : ℕ)
    → 1 ≤ n
    → 1 ≤ r
    → (w ≡ 0 → ⊥)
    → (speakers : ℕ → Bool)
    → quorum n ≤ count_in n speakers
    → Leaves n h r w speakers
    → IsAllowed n h (r + 1) w

-- one round has one accepted opening
abbrev pub OneOpening : Type 0
OneOpening = (n : ℕ) (h : Store) (r v w : ℕ) → AcceptsOpening n h r v → AcceptsOpening n h r w → v ≡ w

-- q or more accepted ballots of r bear v, which is not the blank
pub record Won (L : Limits) (n : ℕ) (h : Store) (r v : ℕ) : Type 0 where
  pub value : v ≡ 0 → ⊥
  pub quorum-bears : quorum n ≤ count_in n (λ (s : ℕ). accepts_ballot L n h r s v)

-- the single-store law: what q or more accepted ballots bear, in whatever two rounds, is one value; and no other is allowed
-- in any later round
abbrev pub OneWon : Type 0
OneWon = (n : ℕ) (h : Store) → 1 ≤ n → (r v r' w : ℕ) → Won limits n h r v → Won limits n h r' w → v ≡ w

abbrev pub OnlyLater : Type 0
OnlyLater =
    (n : ℕ) (h : Store) → 1 ≤ n → (r v : ℕ) → Won limits n h r v → (r' w : ℕ) → r < r' → IsAllowed n h r' w → w ≡ v

-- what stands in h stands in h' too
pub record Grows (h h' : Store) : Type 0 where
  pub keeps : (s i : ℕ) → (h s i ≡ 0 → ⊥) → h' s i ≡ h s i

-- what is allowed, accepted and won by h is so by h'
pub record AcceptsAll (n : ℕ) (h h' : Store) : Type 0 where
  pub values : (r w : ℕ) → IsAllowed n h r w → IsAllowed n h' r w
  pub openings : (r w : ℕ) → AcceptsOpening n h r w → AcceptsOpening n h' r w
  pub ballots : (r s w : ℕ) → AcceptsBallot n h r s w → AcceptsBallot n h' r s w
  pub won : (r v : ℕ) → Won limits n h r v → Won limits n h' r v

-- acceptance grows with what was delivered
abbrev pub AcceptanceGrows : Type 0
AcceptanceGrows = (n : ℕ) (h h' : Store) → Grows h h' → AcceptsAll n h h'

-- what a board has delivered, as the type has it: a place for each board and identifier
abbrev pub HasPlaces : Delivered → Type 0
HasPlaces d = length d.entries ≡ limits.boards * limits.identifiers

-- a fresh one has nothing and has the places; a delivery keeps them, and keeps what was there
abbrev pub NothingDelivered : Type 0
NothingDelivered = HasPlaces (nothing_delivered limits) × ((s i : ℕ) → heard limits (nothing_delivered limits) s i ≡ 0)

abbrev pub DeliveryKeeps : Type 0
DeliveryKeeps =
    (d : Delivered) (s i v : ℕ)
    → (HasPlaces d → HasPlaces (deliver limits d s i v))
    × Grows (heard limits d) (heard limits (deliver limits d s i v))

-- and what it adds is the statement, where there was none
abbrev pub DeliveryAdds : Type 0
DeliveryAdds =
    (d : Delivered) (s i v : ℕ)
    → HasPlaces d
    → is_board limits s ≡ true
    → is_identifier limits.identifiers i ≡ true
    → heard limits d s i ≡ 0
    → heard limits (deliver limits d s i v) s i ≡ suc v

abbrev pub DeliveryOnly : Type 0
DeliveryOnly =
    (d : Delivered) (s i v s' i' : ℕ)
    → (s' ≡ s → i' ≡ i → ⊥)
    → heard limits (deliver limits d s i v) s' i' ≡ heard limits d s' i'

-- a record of owed copies, as the type has it: a set for each speaker and identifier
pub record HasSets (o : Owed) : Type 0 where
  pub speakers : length o.speakers ≡ limits.boards
  pub identifiers : (s : ℕ) → length (copies_of limits o s).receivers ≡ limits.identifiers

-- board k lacks a statement of s: it is one of the sound boards, is not the speaker, and is not among those that have it
pub record Lacks (sound have s k : ℕ) : Type 0 where
  pub is-sound : in_set sound k ≡ true
  pub other : k ≡ s → ⊥
  pub has-not : in_set have k ≡ false

-- a copy of what s said under i is owed to k
abbrev pub IsOwed : Owed → ℕ → ℕ → ℕ → Type 0
IsOwed o s i k = in_set (receivers limits o s i) k ≡ true

-- at first no copy is owed
abbrev pub NothingOwed : Type 0
NothingOwed = HasSets (nothing_owed limits) × ((s i k : ℕ) → IsOwed (nothing_owed limits) s i k → ⊥)

-- s signed under i: a copy is owed to whom one was owed, to each board that lacks it, and to no other
abbrev pub SigningOwes : Type 0
SigningOwes =
    (o : Owed) (s i sound have k : ℕ)
    → HasSets o
    → is_board limits s ≡ true
    → is_identifier limits.identifiers i ≡ true
    → 1 ≤ k
    → k ≤ bits
    → IsOwed (after_signing limits o s i sound have) s i k ↔ (IsOwed o s i k ⊎ Lacks sound have s k)

-- board j delivered what s said under i: the same, but that none is owed to j
abbrev pub DeliveryOwes : Type 0
DeliveryOwes =
    (o : Owed) (j s i sound have k : ℕ)
    → HasSets o
    → is_board limits s ≡ true
    → is_identifier limits.identifiers i ≡ true
    → 1 ≤ k
    → k ≤ bits
    → IsOwed (after_delivery limits o j s i sound have) s i k
    ↔ ((k ≡ j → ⊥) × (IsOwed o s i k ⊎ Lacks sound have s k))

-- of no other statement a copy is owed or settled by them, and the sets stay
abbrev pub OthersOwed : Type 0
OthersOwed =
    (o : Owed) (j s i sound have s' i' : ℕ)
    → (s' ≡ s → i' ≡ i → ⊥)
    → (receivers limits (after_signing limits o s i sound have) s' i' ≡ receivers limits o s' i')
    × (receivers limits (after_delivery limits o j s i sound have) s' i' ≡ receivers limits o s' i')

abbrev pub SetsStay : Type 0
SetsStay =
    (o : Owed) (j s i sound have : ℕ)
    → HasSets o
    → HasSets (after_signing limits o s i sound have) × HasSets (after_delivery limits o j s i sound have)
