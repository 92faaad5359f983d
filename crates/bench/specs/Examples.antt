-- Worked examples of the bench, letter l among them, with the numbers written out. The open call `worked_examples` promises
-- them; they are computed in proofs/ExampleLaws.
use Rattle.std.specs.Prelude.{ℕ, ◌≡◌, List, [], ◌∷◌, ◌++◌, map}
use Rattle.delivery.specs.Limits.{limits}
use Rattle.vote.specs.declared.board.Board.{Board}
use Rattle.vote.specs.declared.board.Status.{Status}
use Rattle.vote.specs.declared.board.Status.TheVariants.{Idle, Voting, Spent, Decided}
use Rattle.vote.specs.declared.position.Stage.TheVariants.{Count}
use Rattle.bench.specs.Events.{event_from}
use Rattle.bench.specs.Benches.{heard_by}
use Rattle.bench.specs.Setups.{bench_of}
use Rattle.bench.specs.Runs.{answers_to, bench_after, answers_from}
use Rattle.bench.specs.Shows.{letter_byte, plain, decided_as, shown}
use Rattle.bench.specs.declared.bench.Bench.{Bench}
use Rattle.bench.specs.declared.event.Event.{Event}
use Rattle.bench.specs.declared.show.Letter.TheVariants as letter

-- events, each with the fields that it uses
abbrev pub event : ℕ → ℕ → ℕ → ℕ → ℕ → Event
event k a b i v = record { kind = k; a = a; b = b; id = i; value = v }

abbrev pub propose : ℕ → ℕ → Event
propose a v = event 1 a 0 0 v

abbrev pub turn : ℕ → Event
turn a = event 2 a 0 0 0

abbrev pub deliver : ℕ → ℕ → ℕ → ℕ → Event
deliver a s i v = event 3 a s i v

abbrev pub announce : ℕ → ℕ → ℕ → ℕ → Event
announce a b r v = event 4 a b r v

abbrev pub suspect : ℕ → ℕ → Event
suspect a b = event 5 a b 0 0

abbrev pub trust : ℕ → ℕ → Event
trust a b = event 6 a b 0 0

abbrev pub sign : ℕ → ℕ → ℕ → Event
sign a i v = event 7 a 0 i v

-- letter l: a board alone proposes 700 and takes three turns
abbrev pub alone : List Event
alone = propose 1 700 ∷ turn 1 ∷ turn 1 ∷ turn 1 ∷ []

-- The incident, of three boards of which the second was reset and so counts as faulty; with the announcements below it is
-- schedules/incident, event for event. Board 1 opens round 1 with 41 and decides it, by its own ballot and that of board 2.
abbrev pub first_decides : List Event
first_decides =
    propose 1 41
    ∷ turn 1
    ∷ turn 1
    ∷ sign 2 2 41
    ∷ deliver 1 2 2 41
    ∷ suspect 1 3
    ∷ turn 1
    ∷ []

-- board 3, which had heard nothing and voted blank, hears the opening and board 1's ballot, and goes on to round 2
abbrev pub third_goes_on : List Event
third_goes_on =
    propose 3 40
    ∷ turn 3
    ∷ suspect 3 1
    ∷ turn 3
    ∷ deliver 3 1 1 41
    ∷ deliver 3 1 2 41
    ∷ suspect 3 2
    ∷ turn 3
    ∷ []

-- board 2 opens that with 40, while its ballot of round 1 is still on the way
abbrev pub second_opens : List Event
second_opens = sign 2 3 40 ∷ turn 3 ∷ deliver 3 2 3 40 ∷ turn 3 ∷ []

abbrev pub incident : List Event
incident = first_decides ++ (third_goes_on ++ second_opens)

-- then board 2 announces 40, and board 1 announces 41 before and after board 2's ballot of round 1 arrives
abbrev pub announcements : List Event
announcements = announce 3 2 2 40 ∷ announce 3 1 1 41 ∷ deliver 3 2 2 41 ∷ announce 3 1 1 41 ∷ []

-- each row of the table that an event can meet, of three boards of which the third is faulty
abbrev pub every_row : List Event
every_row =
    event 0 1 0 0 0
    ∷ propose 4 700
    ∷ propose 1 0
    ∷ propose 3 700
    ∷ suspect 1 1
    ∷ turn 1
    ∷ propose 1 700
    ∷ turn 1
    ∷ turn 1
    ∷ sign 3 2 700
    ∷ deliver 1 3 2 700
    ∷ suspect 1 2
    ∷ turn 1
    ∷ turn 1
    ∷ deliver 2 3 2 701
    ∷ sign 3 2 701
    ∷ deliver 1 3 2 700
    ∷ propose 2 701
    ∷ announce 2 1 1 701
    ∷ announce 2 1 1 700
    ∷ turn 2
    ∷ turn 2
    ∷ []

-- two faulty boards of three: board 1 decides what faulty board 2 opened round 2 with, after two blank ballots
abbrev pub two_faulty : List Event
two_faulty =
    propose 1 700
    ∷ turn 1
    ∷ turn 1
    ∷ sign 2 2 0
    ∷ sign 3 2 0
    ∷ deliver 1 2 2 0
    ∷ deliver 1 3 2 0
    ∷ turn 1
    ∷ turn 1
    ∷ sign 2 3 50
    ∷ deliver 1 2 3 50
    ∷ turn 1
    ∷ sign 3 4 50
    ∷ deliver 1 3 4 50
    ∷ suspect 1 2
    ∷ turn 1
    ∷ []

-- each kind of event does what it does: of three boards of which the third is faulty, board 1 decides 41 once it suspects
-- board 2, which it had trusted again; board 2, to which the statements are delivered, then believes its announcement
abbrev pub every_kind : List Event
every_kind =
    propose 1 41
    ∷ turn 1
    ∷ turn 1
    ∷ sign 3 2 41
    ∷ deliver 1 3 2 41
    ∷ suspect 1 2
    ∷ trust 1 2
    ∷ turn 1
    ∷ suspect 1 2
    ∷ turn 1
    ∷ propose 2 42
    ∷ deliver 2 1 1 41
    ∷ deliver 2 1 2 41
    ∷ deliver 2 3 2 41
    ∷ announce 2 1 1 41
    ∷ []

-- five boards, of which the fifth is faulty: one has not started, one votes, one is spent, and one is decided
abbrev board : Status → Board
board s = record { position = record { round = record { 0 = 32 }; estimate = 9; stage = Count; suspected = 0 }; delivered = record { entries = [] }; status = s }

abbrev pub every_letter : Bench
every_letter =
    record (bench_of limits 5 15) { boards = board Idle ∷ board Voting ∷ board Spent ∷ board (Decided (record { round = record { 0 = 8 }; value = 7 })) ∷ board Idle ∷ [] }

pub record Examples : Type 0 where
  -- six bytes of a list, and the event that they are; 1,286 is 5 * 256 + 6
  pub bytes : event_from (1 ∷ 2 ∷ 3 ∷ 4 ∷ 5 ∷ 6 ∷ 7 ∷ []) ≡ event 1 2 3 4 1286
  pub letter-l : answers_from limits 1 (0 ∷ []) alone ≡ 0 ∷ 0 ∷ 0 ∷ 0 ∷ []
  pub letter-l-shown : shown limits (bench_after limits 1 (0 ∷ []) alone) 1 ≡ decided_as 1 700
  -- the same list, where the call for the fresh bench is refused and gives one sound board
  pub refused : shown limits (bench_after limits 9 [] alone) 1 ≡ decided_as 1 700
  -- board 3 does not take 40: it stands in round 2 with 41, and its ballot there, under identifier 4, is blank, of which the
  -- entry is 1
  pub estimate : shown limits (bench_after limits 3 (0 ∷ 1 ∷ 0 ∷ []) incident) 3 ≡ plain letter.Voting 2 41
  pub ballot : heard_by limits (bench_after limits 3 (0 ∷ 1 ∷ 0 ∷ []) incident) 3 3 4 ≡ 1
  -- and the announcement is believed once both ballots are there
  pub announced : answers_to limits (bench_after limits 3 (0 ∷ 1 ∷ 0 ∷ []) incident) announcements ≡ 21 ∷ 21 ∷ 0 ∷ 0 ∷ []
  pub decided : shown limits (bench_after limits 3 (0 ∷ 1 ∷ 0 ∷ []) (incident ++ announcements)) 3 ≡ decided_as 1 41
  -- every row
  pub rows : answers_from limits 3 (0 ∷ 0 ∷ 1 ∷ []) every_row
      ≡ 10 ∷ 11 ∷ 12 ∷ 13 ∷ 14 ∷ 15 ∷ 0 ∷ 0 ∷ 0 ∷ 0 ∷ 0 ∷ 0 ∷ 0 ∷ 16 ∷ 17 ∷ 18 ∷ 19 ∷ 0 ∷ 20 ∷ 21 ∷ 0 ∷ 22 ∷ []
  -- every kind, and every letter; a sixth board is none
  pub kinds : answers_from limits 3 (0 ∷ 0 ∷ 1 ∷ []) every_kind
      ≡ 0 ∷ 0 ∷ 0 ∷ 0 ∷ 0 ∷ 0 ∷ 0 ∷ 22 ∷ 0 ∷ 0 ∷ 0 ∷ 0 ∷ 0 ∷ 0 ∷ 0 ∷ []
  pub believed : shown limits (bench_after limits 3 (0 ∷ 0 ∷ 1 ∷ []) every_kind) 2 ≡ decided_as 1 41
  pub letters : map (λ (k : ℕ). letter_byte (shown limits every_letter k).letter) (1 ∷ 2 ∷ 3 ∷ 4 ∷ 5 ∷ 6 ∷ [])
      ≡ 78 ∷ 87 ∷ 88 ∷ 68 ∷ 70 ∷ 45 ∷ []
  pub rounds : map (λ (k : ℕ). (shown limits every_letter k).round.0) (1 ∷ 2 ∷ 3 ∷ 4 ∷ 5 ∷ 6 ∷ []) ≡ 0 ∷ 32 ∷ 32 ∷ 8 ∷ 0 ∷ 0 ∷ []
  pub values : map (λ (k : ℕ). (shown limits every_letter k).value) (1 ∷ 2 ∷ 3 ∷ 4 ∷ 5 ∷ 6 ∷ []) ≡ 0 ∷ 9 ∷ 9 ∷ 7 ∷ 0 ∷ 0 ∷ []
  -- no majority of sound boards is needed
  pub faulty-opened : shown limits (bench_after limits 3 (0 ∷ 1 ∷ 1 ∷ []) two_faulty) 1 ≡ decided_as 2 50
