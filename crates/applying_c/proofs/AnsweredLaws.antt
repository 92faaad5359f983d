-- Laws of what a file is answered: nothing if it is refused, and else what its events are. Assumes nothing.
use Prim.Native.Nat.{ℕ, ◌*◌, ◌≤◌}
use native.Mathlib.Omega.{arith}
use mathlib.Core.Path.{◌≡◌, ap}
use mathlib.Core.List.{List, []}
use lib.ListN.{length, drop}
use Rattle.std.specs.Prelude.{Ok, Err}
use Rattle.delivery.specs.Limits.{limits}
use Rattle.bench.specs.Events.{event_bytes}
use Rattle.bench.specs.Runs.{answers_to, events_in}
use Rattle.bench.specs.Setups.{fresh_bench}
use Rattle.bench.proofs.RunLaws.{length-events, length-answers}
use Rattle.schedule.specs.Readings.{schedule_of}
use Rattle.schedule.specs.declared.fault.Fault.{Fault}
use Rattle.schedule.specs.declared.file.Schedule.{Schedule}
use Rattle.schedule.proofs.FileLaws.{schedule-taken}
use Rattle.schedule.proofs.PlayLaws.{file-fault, begun, events-part, start-taken}
use Rattle.applying_c.specs.Answered.{answered_from, answered}

-- a refused file is answered nothing
pub refused-answered : (bs : List ℕ) (w : Fault) → schedule_of limits bs ≡ Err w → answered limits bs ≡ []
unfolding answered_from
refused-answered bs w t = ap (answered_from limits) (file-fault bs w t)

-- A file that was read: its events, from its fresh bench.
module _ (bs : List ℕ) (s : Schedule) (t : schedule_of limits bs ≡ Ok s) where
  pub taken-answered :
      answers_to limits (fresh_bench limits s.bus.n s.bus.marks) (events_in s.count (drop s.start bs)) ≡ answered limits bs
  unfolding answered_from
  taken-answered =
      let p = schedule-taken bs s t in
      let r = p.1.0 in
      rw (p.1.1, events-part bs p.0 r, begun bs p.0 r, r.events, r.due)

  pub length-answered : length (answered limits bs) ≡ s.count
  length-answered =
      let c = fresh_bench limits s.bus.n s.bus.marks in
      let es = events_in s.count (drop s.start bs) in
      rw (← taken-answered) (omega (arith, length-answers limits c es, length-events s.count (drop s.start bs)))

  -- and the bytes of its events are there
  pub events-fit : event_bytes * s.count ≤ length (drop s.start bs)
  events-fit = let p = schedule-taken bs s t in let r = p.1.0 in rw (p.1.1, events-part bs p.0 r) (omega (arith, r.size))

pub ruleset file_answered = (refused-answered, start-taken)
