-- Document 01, "Where an event or file stops": the rows of the table that events meet, in its order. Each says when it
-- applies, of the event e and, where it asks for more, the bench c as it then is.
use Rattle.std.specs.Prelude.{ℕ, Bool, true, false, List, [], ◌∷◌, ◌++◌, Result, Ok, Err, if◌then◌else◌, Option, None, Some, ◌==◌, nat_lt, nat_le, ◌&&◌, ◌||◌, not}
use Rattle.signer.specs.FromOne.{is_within}
use Rattle.signer.specs.Log.{is_identifier, entry_of}
use Rattle.signer.specs.Signer.{grants}
use Rattle.signer.specs.declared.signer.Signer.{Signer}
use Rattle.delivery.specs.Limits.{Limits}
use Rattle.delivery.specs.Bus.{quorum}
use Rattle.delivery.specs.Rounds.{is_round}
use Rattle.vote.specs.Ballots.{tally}
use Rattle.vote.specs.Boards.{is_started, is_decided, is_ended, has_decided}
use Rattle.vote.specs.Turns.{turn}
use Rattle.vote.specs.declared.statement.Statement.{Statement}
use Rattle.vote.specs.declared.turn.Refusal.{Refusal as TurnRefusal}
use Rattle.vote.specs.declared.turn.Refusal.TheVariants.{NotStarted, Ended, Waiting}
use Rattle.bench.specs.Events.{proposing, turning, delivering, announcing, suspecting, trusting, signing, uses_other, uses_id, uses_value}
use Rattle.bench.specs.Benches.{is_sound, board_at, signer_at, heard_by, signed_by}
use Rattle.bench.specs.declared.bench.Bench.{Bench}
use Rattle.bench.specs.declared.event.Event.{Event}
use Rattle.bench.specs.declared.answer.Refusal.{Refusal}
use Rattle.bench.specs.declared.answer.Refusal.TheVariants.{
  NoKind,
  NoBoard,
  WrongField,
  WrongMark,
  SameBoard,
  WrongStart,
  AtEnd,
  NotSigned,
  NotAbove,
  AlreadyDelivered,
  NotDecided,
  FewBallots,
  MustWait,
}

abbrev is : Event → ℕ → Bool
is e k = e.kind == k

-- what a turn of board a comes to that is answered by row 22: the board waits; or, which no bench that was played
-- from a fresh one comes to, its signer refuses what it says
unfoldable pub is_waiting : Result (Unit {0}) TurnRefusal → Bool
is_waiting (Ok _) = false
is_waiting (Err NotStarted) = false
is_waiting (Err Ended) = false
is_waiting (Err Waiting) = true

unfoldable pub refuses : Limits → Signer → Option Statement → Bool
refuses L s None = false
refuses L s (Some x) = not (grants L.identifiers s x.id.0)

unfoldable pub must_wait : Limits → Bench → ℕ → Bool
must_wait L c k =
    let t = turn L c.n k (board_at L c k) in
    is_waiting t.answer || refuses L (signer_at L c k) t.signed

-- 10: the kind is none
unfoldable pub kind_row : Event → Bool
kind_row e = not (is_within signing e.kind)

-- 11: a, or b where it is used, is no board of the bench
unfoldable pub boards_row : Bench → Event → Bool
boards_row c e = not (is_within c.n e.a) || (uses_other e.kind && not (is_within c.n e.b))

-- 12: another field is wrong. One that is not used is not 0; an identifier or a round is none; or the blank stands where
-- only a value may.
unfoldable pub wrong_other : Event → Bool
wrong_other e = not (uses_other e.kind) && not (e.b == 0)

unfoldable pub wrong_id : Limits → Event → Bool
wrong_id L e =
    ((is e delivering || is e signing) && not (is_identifier L.identifiers e.id))
    || (is e announcing && not (is_round L e.id))
    || (not (uses_id e.kind) && not (e.id == 0))

unfoldable pub wrong_value : Event → Bool
wrong_value e =
    ((is e proposing || is e announcing) && e.value == 0)
    || (not (uses_value e.kind) && not (e.value == 0))

unfoldable pub fields_row : Limits → Event → Bool
fields_row L e = wrong_other e || wrong_id L e || wrong_value e

-- 13: a signature is asked of a sound board's signer, or any other event is for a faulty board
unfoldable pub mark_row : Bench → Event → Bool
mark_row c e = (is e signing && is_sound c e.a) || (not (is e signing) && not (is_sound c e.a))

-- 14: an announcement, suspicion or trust of a board about itself
unfoldable pub pair_row : Event → Bool
pair_row e = (is e announcing || is e suspecting || is e trusting) && e.a == e.b

module _ (L : Limits) (c : Bench) (e : Event) where
  -- 15: a proposal to a board that has started, a turn of or an announcement to one that has not
  unfoldable pub start_row : Bool
  start_row =
      (is e proposing && is_started (board_at L c e.a).status)
      || ((is e turning || is e announcing) && not (is_started (board_at L c e.a).status))

  -- 16: a turn of a board that is decided or spent, an announcement to one that is decided
  unfoldable pub end_row : Bool
  end_row =
      (is e turning && is_ended (board_at L c e.a).status)
      || (is e announcing && is_decided (board_at L c e.a).status)

  -- 17: b has not signed what is to be delivered
  unfoldable pub signed_row : Bool
  signed_row = is e delivering && not (signed_by L c e.b e.id == entry_of e.value)

  -- 18, named for the signer's `last`: a's signer has signed under this identifier or a higher one
  unfoldable pub last_row : Bool
  last_row = is e signing && nat_le e.id (signer_at L c e.a).last.0

  -- 19: a has delivered it already. A board keeps one statement of a speaker under an identifier; on a bench that was played
  -- from a fresh one, what it has there is what b signed.
  unfoldable pub delivered_row : Bool
  delivered_row = is e delivering && not (heard_by L c e.a e.b e.id == 0)

  -- 20: the announcer is sound, and has not decided so
  unfoldable pub announcer_row : Bool
  announcer_row = is e announcing && is_sound c e.b && not (has_decided (board_at L c e.b).status e.id e.value)

  -- 21: a accepts too few ballots for what is announced
  unfoldable pub ballots_row : Bool
  ballots_row = is e announcing && nat_lt (tally L c.n (heard_by L c e.a) e.id e.value) (quorum c.n)

  -- 22: the board waits
  unfoldable pub turn_row : Bool
  turn_row = is e turning && must_wait L c e.a

-- the first of some rows that applies; where none does, the event is accepted
unfoldable pub first_of : List (Bool × Refusal) → Result (Unit {0}) Refusal
first_of [] = Ok tt
first_of (row ∷ rows) = if row.0 then Err row.1 else first_of rows

-- after the kind's, the rows about the event and the marks, those about how things stand with the boards and signers that it names, and the
-- one about what comes of a turn
abbrev pub event_rows : Limits → Bench → Event → List (Bool × Refusal)
event_rows L c e =
    (boards_row c e, NoBoard)
    ∷ (fields_row L e, WrongField)
    ∷ (mark_row c e, WrongMark)
    ∷ (pair_row e, SameBoard)
    ∷ []

abbrev pub state_rows : Limits → Bench → Event → List (Bool × Refusal)
state_rows L c e =
    (start_row L c e, WrongStart)
    ∷ (end_row L c e, AtEnd)
    ∷ (signed_row L c e, NotSigned)
    ∷ (last_row L c e, NotAbove)
    ∷ (delivered_row L c e, AlreadyDelivered)
    ∷ (announcer_row L c e, NotDecided)
    ∷ (ballots_row L c e, FewBallots)
    ∷ []

abbrev pub turn_rows : Limits → Bench → Event → List (Bool × Refusal)
turn_rows L c e = (turn_row L c e, MustWait) ∷ []

abbrev pub table_of : Limits → Bench → Event → List (Bool × Refusal)
table_of L c e = (kind_row e, NoKind) ∷ (event_rows L c e ++ (state_rows L c e ++ turn_rows L c e))

unfoldable pub check_of : Limits → Bench → Event → Result (Unit {0}) Refusal
check_of L c e = first_of (table_of L c e)
