-- What the calls that read hand back, from what the bytes mean. A refused part has the fault, and nothing else.
use Rattle.std.specs.Prelude.{ℕ, ◌+◌, ◌-◌, List, ◌++◌, length, replicate, Result, Ok, Err}
use Rattle.delivery.specs.Limits.{Limits}
use Rattle.bench.specs.declared.event.Event.{Event}
use Rattle.schedule.specs.Files.{Reading, bus_due, count_bytes, section_due, Contents, file_due}
use Rattle.schedule.specs.declared.bus.Bus.{Bus}
use Rattle.schedule.specs.declared.fault.Fault.{Fault}
use Rattle.schedule.specs.declared.section.Section.{Section}
use Rattle.schedule.specs.declared.file.Schedule.{Schedule}

-- the marks of all the boards that there can be: those after the n-th are 0
abbrev pub padded : Limits → List ℕ → List ℕ
padded L ms = ms ++ replicate (L.boards - length ms) 0

-- the first section: n and the marks
abbrev pub bus_in : Limits → List ℕ → Bus
bus_in L ms = record { n = length ms; marks = padded L ms }

unfoldable pub bus_from : Limits → Reading (List ℕ) → Result Bus Fault
bus_from L (Ok (ms, rest)) = Ok (bus_in L ms)
bus_from L (Err f) = Err f

abbrev pub bus_of : Limits → List ℕ → Result Bus Fault
bus_of L bs = bus_from L (bus_due L bs)

-- the second: how many events there are
unfoldable pub section_from : Reading (List Event) → Result Section Fault
section_from (Ok (es, rest)) = Ok (record { count = length es })
section_from (Err f) = Err f

abbrev pub section_of : List ℕ → Result Section Fault
section_of bs = section_from (section_due bs)

-- a whole file: its boards, how many events it has, and where in the file they begin
abbrev pub schedule_in : Limits → Contents → Schedule
schedule_in L f =
    record { bus = bus_in L f.marks; count = length f.events; start = 1 + length f.marks + count_bytes }

unfoldable pub schedule_from : Limits → Reading Contents → Result Schedule Fault
schedule_from L (Ok (f, rest)) = Ok (schedule_in L f)
schedule_from L (Err f) = Err f

abbrev pub schedule_of : Limits → List ℕ → Result Schedule Fault
schedule_of L bs = schedule_from L (file_due L bs)
