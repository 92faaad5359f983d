-- The table a second time, in words of its own: which of the numbers 10 to 22 apply to an event e on a bench c. Nothing here is
-- taken from Table, and all numbers are written out. That the machine answers so is `Answering`, which the open call
-- `every_event` promises.
use Rattle.std.specs.Prelude.{ℕ, ◌≡◌, ◌≤◌, ◌<◌, true, false, List, [], ◌∷◌, ◌⊎◌, ◌↔◌, map, Some}
use Rattle.signer.specs.Log.{entry_of}
use Rattle.signer.specs.Signer.{grants}
use Rattle.delivery.specs.Limits.{limits}
use Rattle.delivery.specs.Bus.{quorum}
use Rattle.delivery.specs.Sets.{in_set}
use Rattle.vote.specs.Ballots.{tally}
use Rattle.vote.specs.Boards.{decision_of}
use Rattle.vote.specs.declared.statement.Statement.{Statement}
use Rattle.vote.specs.declared.rule.Move.TheVariants.{Waits}
use Rattle.vote.specs.declared.board.Decision.{Decision}
use Rattle.vote.specs.declared.board.Status.{Status}
use Rattle.vote.specs.declared.board.Status.TheVariants.{Idle, Voting, Spent, Decided}
use Rattle.bench.specs.Benches.{board_at, signer_at, move_at, said_at, heard_by, signed_by}
use Rattle.bench.specs.Answers.{refusal_number, answer_number}
use Rattle.bench.specs.Table.{table_of}
use Rattle.bench.specs.Effects.{step_of}
use Rattle.bench.specs.declared.bench.Bench.{Bench}
use Rattle.bench.specs.declared.event.Event.{Event}

-- a number is one of these
abbrev pub OneOf : List ℕ → ℕ → Type 0
OneOf [] k = ⊥
OneOf (m ∷ ms) k = (k ≡ m) ⊎ OneOf ms k

abbrev pub IsDecided : Status → Type 0
IsDecided s = (d : Decision) × (s ≡ Decided d)

-- The kinds are: 1 a proposal, 2 a turn, 3 a delivery, 4 an announcement, 5 a suspicion, 6 a trust, 7 a signature.
module _ (c : Bench) (e : Event) where
  -- e is of one of these kinds
  abbrev pub IsKind : List ℕ → Type 0
  IsKind ks = OneOf ks e.kind

  -- board k is one of the bench, and is sound; how far it is
  abbrev pub OnBench : ℕ → Type 0
  OnBench k = (1 ≤ k) × (k ≤ c.n)

  abbrev pub IsSound : ℕ → Type 0
  IsSound k = in_set c.sound k ≡ true

  abbrev pub status : ℕ → Status
  status k = (board_at limits c k).status

  pub data Applies : ℕ → Type 0 where
    -- 10: it is of no kind
    no-kind : ((1 ≤ e.kind) × (e.kind ≤ 7) → ⊥) → Applies 10
    -- 11: a is no board of the bench; or b is none, of a kind that names two boards
    no-board : (OnBench e.a → ⊥) → Applies 11
    no-other : IsKind (3 ∷ 4 ∷ 5 ∷ 6 ∷ []) → (OnBench e.b → ⊥) → Applies 11
    -- 12: a field that the kind does not use is not 0; the identifier of a delivery or signature, or the round of an
    -- announcement, is none; or 0 is proposed or announced
    unused-other : (IsKind (3 ∷ 4 ∷ 5 ∷ 6 ∷ []) → ⊥) → (e.b ≡ 0 → ⊥) → Applies 12
    unused-id : (IsKind (3 ∷ 4 ∷ 7 ∷ []) → ⊥) → (e.id ≡ 0 → ⊥) → Applies 12
    unused-value : (IsKind (1 ∷ 3 ∷ 4 ∷ 7 ∷ []) → ⊥) → (e.value ≡ 0 → ⊥) → Applies 12
    no-identifier : IsKind (3 ∷ 7 ∷ []) → ((1 ≤ e.id) × (e.id ≤ 64) → ⊥) → Applies 12
    no-round : e.kind ≡ 4 → ((1 ≤ e.id) × (e.id ≤ 32) → ⊥) → Applies 12
    blank : IsKind (1 ∷ 4 ∷ []) → e.value ≡ 0 → Applies 12
    -- 13: a signature is asked of a sound board, or any other event is for a faulty one
    sound-asked : e.kind ≡ 7 → IsSound e.a → Applies 13
    faulty-told : (e.kind ≡ 7 → ⊥) → (IsSound e.a → ⊥) → Applies 13
    -- 14: an announcement, suspicion or trust of a board about itself
    of-itself : IsKind (4 ∷ 5 ∷ 6 ∷ []) → e.a ≡ e.b → Applies 14
    -- 15: a proposal to a board that has started; a turn of, or an announcement to, one that has not
    started : e.kind ≡ 1 → (status e.a ≡ Idle → ⊥) → Applies 15
    not-started : IsKind (2 ∷ 4 ∷ []) → status e.a ≡ Idle → Applies 15
    -- 16: a turn of a board that is decided or spent; an announcement to one that is decided
    ended : e.kind ≡ 2 → (status e.a ≡ Spent) ⊎ IsDecided (status e.a) → Applies 16
    decided : e.kind ≡ 4 → IsDecided (status e.a) → Applies 16
    -- 17: b has not signed the delivered value under the identifier
    not-signed : e.kind ≡ 3 → (signed_by limits c e.b e.id ≡ entry_of e.value → ⊥) → Applies 17
    -- 18: a's signer has signed under this identifier or a higher one
    not-above : e.kind ≡ 7 → e.id ≤ (signer_at limits c e.a).last.0 → Applies 18
    -- 19: a has delivered a statement of b under this identifier
    delivered : e.kind ≡ 3 → (heard_by limits c e.a e.b e.id ≡ 0 → ⊥) → Applies 19
    -- 20: the announcer b is sound, and has not decided this value in this round
    not-decided : e.kind ≡ 4 → IsSound e.b → (status e.b ≡ Decided (decision_of e.id e.value) → ⊥) → Applies 20
    -- 21: a accepts fewer than q ballots of this round with this value
    few-ballots : e.kind ≡ 4 → tally limits c.n (heard_by limits c e.a) e.id e.value < quorum c.n → Applies 21
    -- 22: in its turn a waits; or its signer refuses what it says, to which no list of events from a fresh bench comes
    waits : e.kind ≡ 2 → status e.a ≡ Voting → move_at limits c e.a ≡ Waits → Applies 22
    unsigned : (s : Statement) → e.kind ≡ 2 → status e.a ≡ Voting → said_at limits c e.a ≡ Some s
        → grants 64 (signer_at limits c e.a) s.id.0 ≡ false → Applies 22

-- The claim: every event, on every bench, is answered 0 exactly where no number applies, and m exactly where m is the lowest
-- that applies; the rows of the table have the numbers 10 to 22, in this order; and where the answer is not 0, the bench is
-- as it was.
abbrev number_of : Bench → Event → ℕ
number_of c e = answer_number (step_of limits c e).answer

pub record Answering : Type 0 where
  pub accepted : (c : Bench) (e : Event) → (number_of c e ≡ 0) ↔ ((k : ℕ) → Applies c e k → ⊥)
  pub first : (c : Bench) (e : Event) (m : ℕ) → 0 < m
      → (number_of c e ≡ m) ↔ (Applies c e m × ((k : ℕ) → k < m → Applies c e k → ⊥))
  pub numbers : (c : Bench) (e : Event)
      → map (λ row. refusal_number row.1) (table_of limits c e)
      ≡ 10 ∷ 11 ∷ 12 ∷ 13 ∷ 14 ∷ 15 ∷ 16 ∷ 17 ∷ 18 ∷ 19 ∷ 20 ∷ 21 ∷ 22 ∷ []
  pub refused : (c : Bench) (e : Event) → (number_of c e ≡ 0 → ⊥) → (step_of limits c e).bench ≡ c
