-- The loop's invariant of `sound_of`: the marks of the boards passed are marks, and the set is that of those that are marked
-- sound.
use Prim.Native.Nat.{◌≤◌}
use mathlib.Core.Bool.{true}
use mathlib.Core.Path.{◌≡◌}
use Rattle.delivery.specs.Counting.{every_in}
use Rattle.delivery.specs.Sets.{set_of}
use Rattle.bench.specs.Setups.{is_mark_at, is_marked_sound}
use Rattle.bench.proofs.fresh.sound_of.Given as goal

abbrev pub invariant-loop-i : goal.invariant-loop-i
invariant-loop-i l = record {
  within : l.i ≤ l.n;
  marks : every_in l.i (is_mark_at l.marks) ≡ true;
  sound : l.sound ≡ set_of l.i (is_marked_sound l.marks);
}
