-- What the bytes of a file mean. A file is read from the front, and the first fault that is met is its answer.
use Rattle.std.specs.Prelude.{ℕ, zero, suc, ◌+◌, ◌*◌, List, [], ◌∷◌, length, drop, Result, Ok, Err, nat_le}
use Rattle.std.specs.Prelude.{if◌then◌else◌}
use Rattle.delivery.specs.Limits.{Limits}
use Rattle.delivery.specs.Bus.{is_board}
use Rattle.bench.specs.Events.{high_first, event_bytes, event_from}
use Rattle.bench.specs.Setups.{is_mark, fresh_bench}
use Rattle.bench.specs.Answers.{setup_number}
use Rattle.vote.specs.Turns.{numbered}
use Rattle.bench.specs.declared.bench.Bench.{Bench}
use Rattle.bench.specs.declared.event.Event.{Event}
use Rattle.bench.specs.declared.answer.SetupFault.TheVariants as setup
use Rattle.schedule.specs.declared.fault.Fault.{Fault}
use Rattle.schedule.specs.declared.fault.Fault.TheVariants.{EndsEarly, NoBus, NoMark, TooMany, LeftOver}

-- the faults of a file by their numbers in the table; two of them are those of the call for a fresh bench
unfoldable pub fault_number : Fault → ℕ
fault_number EndsEarly = 1
fault_number NoBus = setup_number setup.NoBus
fault_number NoMark = setup_number setup.NoMark
fault_number TooMany = 4
fault_number LeftOver = 5

-- and of how a file is answered: it is taken, or refused with a fault
unfoldable pub file_number : Result (Unit {0}) Fault → ℕ
file_number a = numbered fault_number a

-- What reading from the front of some bytes gives: what stands there, with the bytes after it, or the fault that was met.
abbrev pub Reading : Type 0 → Type 0
Reading A = Result (A × List ℕ) Fault

abbrev pub got : {A : Type 0} → A → List ℕ → Reading A
got x bs = Ok (x, bs)

abbrev pub fault : {A : Type 0} → Fault → Reading A
fault f = Err f

-- reading goes on after what was read, and a fault ends it
unfoldable pub next : {A B : Type 0} → Reading A → (A → List ℕ → Reading B) → Reading B
next (Ok (x, bs)) f = f x bs
next (Err w) f = Err w

-- a byte that is due
unfoldable pub byte_due : List ℕ → Reading ℕ
byte_due [] = fault EndsEarly
byte_due (b ∷ bs) = got b bs

-- so many of one thing, one after another
unfoldable pub many_due : {A : Type 0} → (List ℕ → Reading A) → ℕ → List ℕ → Reading (List A)
many_due p zero bs = got [] bs
many_due p (suc k) bs = next (p bs) (λ x rest. next (many_due p k rest) (λ xs rest'. got (x ∷ xs) rest'))

-- The first section: n, and the marks of boards 1 to n, each looked at as it comes. What it says is the marks; n is how
-- many they are.
unfoldable pub mark_due : List ℕ → Reading ℕ
mark_due bs = next (byte_due bs) (λ m rest. if is_mark m then got m rest else fault NoMark)

abbrev pub marks_due : ℕ → List ℕ → Reading (List ℕ)
marks_due n bs = many_due mark_due n bs

unfoldable pub bus_due : Limits → List ℕ → Reading (List ℕ)
bus_due L bs = next (byte_due bs) (λ n rest. if is_board L n then marks_due n rest else fault NoBus)

-- the count of events, in two bytes
abbrev pub count_bytes : ℕ
count_bytes = 2

abbrev pub most_events : ℕ
most_events = 4096

unfoldable pub count_due : List ℕ → Reading ℕ
count_due bs =
    next
    (byte_due bs)
    (λ high rest.
    next
    (byte_due rest)
    (λ low rest'. if nat_le (high_first high low) most_events then got (high_first high low) rest' else fault TooMany))

-- an event, all of whose bytes are due
unfoldable pub event_due : List ℕ → Reading Event
event_due bs = if nat_le event_bytes (length bs) then got (event_from bs) (drop event_bytes bs) else fault EndsEarly

abbrev pub events_due : ℕ → List ℕ → Reading (List Event)
events_due k bs = many_due event_due k bs

-- The second section: the count, and as many events.
unfoldable pub section_due : List ℕ → Reading (List Event)
section_due bs = next (count_due bs) events_due

-- nothing may follow the last event
unfoldable pub nothing_left : {A : Type 0} → A → List ℕ → Reading A
nothing_left x [] = got x []
nothing_left x (b ∷ bs) = fault LeftOver

-- what a file holds: the marks of its boards, and its events
pub record Contents : Type 0 where
  pub marks : List ℕ
  pub events : List Event

-- the fresh bench that its events begin on
abbrev pub first_bench : Limits → Contents → Bench
first_bench L f = fresh_bench L (length f.marks) f.marks

-- a file as a whole
unfoldable pub file_due : Limits → List ℕ → Reading Contents
file_due L bs =
    next
    (bus_due L bs)
    (λ ms rest. next (section_due rest) (λ es rest'. nothing_left (record { marks = ms; events = es }) rest'))

-- how a file is answered
unfoldable pub answer_of : {A : Type 0} → Reading A → Result (Unit {0}) Fault
answer_of (Ok (x, rest)) = Ok tt
answer_of (Err f) = Err f

-- the bytes of the longest file that is not refused
abbrev pub longest_file : Limits → ℕ
longest_file L = 1 + L.boards + count_bytes + event_bytes * most_events
