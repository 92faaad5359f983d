-- The loop's invariant of `Bus::read_marks`: the bytes read so far are marks, and stand at the front of the array, with 0
-- after them.
use Prim.Native.Nat.{◌≤◌}
use mathlib.Core.Path.{◌≡◌}
use lib.ListN.{length, take}
use Rattle.std.specs.Prelude.{All}
use Rattle.delivery.specs.Limits.{limits}
use Rattle.schedule.specs.Readings.{padded}
use Rattle.schedule.specs.Stops.{Mark}
use Rattle.schedule.proofs.bus.Bus.read_marks.Given as goal

abbrev pub invariant-loop-k : goal.invariant-loop-k
invariant-loop-k l = record {
  there : l.k ≤ length l.bytes;
  read : l.marks ≡ padded limits (take l.k l.bytes);
  all : All Mark (take l.k l.bytes);
}
