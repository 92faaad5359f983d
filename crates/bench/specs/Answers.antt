-- Document 01, "Where an event or file stops": the answers and their numbers in its table.
use Rattle.std.specs.Prelude.{ℕ, Bool, true, false, Result, Ok, Err}
use Rattle.vote.specs.Turns.{turn_number, numbered}
use Rattle.vote.specs.declared.turn.Refusal.TheVariants.{NotStarted, Ended, Waiting}
use Rattle.bench.specs.declared.answer.Refusal.{Refusal}
use Rattle.bench.specs.declared.answer.Refusal.TheVariants.{
  NoKind,
  NoBoard,
  WrongField,
  WrongMark,
  SameBoard,
  WrongStart,
  AtEnd,
  NotSigned,
  NotAbove,
  AlreadyDelivered,
  NotDecided,
  FewBallots,
  MustWait,
}
use Rattle.bench.specs.declared.answer.SetupFault.{SetupFault}
use Rattle.bench.specs.declared.answer.SetupFault.TheVariants.{NoBus, NoMark}

-- the call for a fresh bench is refused: n is no number of boards, or a mark is none
unfoldable pub setup_number : SetupFault → ℕ
setup_number NoBus = 2
setup_number NoMark = 3

unfoldable pub fresh_number : Result (Unit {0}) SetupFault → ℕ
fresh_number a = numbered setup_number a

-- An event is refused by a row of the table. What a board itself answers to its turn has the vote's number: 15, 16 and 22.
unfoldable pub refusal_number : Refusal → ℕ
refusal_number NoKind = 10
refusal_number NoBoard = 11
refusal_number WrongField = 12
refusal_number WrongMark = 13
refusal_number SameBoard = 14
refusal_number WrongStart = turn_number NotStarted
refusal_number AtEnd = turn_number Ended
refusal_number NotSigned = 17
refusal_number NotAbove = 18
refusal_number AlreadyDelivered = 19
refusal_number NotDecided = 20
refusal_number FewBallots = 21
refusal_number MustWait = turn_number Waiting

unfoldable pub answer_number : Result (Unit {0}) Refusal → ℕ
answer_number a = numbered refusal_number a

-- an event is accepted if no row refuses it
unfoldable pub is_accepted : Result (Unit {0}) Refusal → Bool
is_accepted (Ok _) = true
is_accepted (Err _) = false
