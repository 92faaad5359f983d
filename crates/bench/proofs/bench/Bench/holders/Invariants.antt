-- The loop's invariant of `Bench::holders`: the set is that of the boards passed.
use Prim.Native.Nat.{◌≤◌}
use mathlib.Core.Path.{◌≡◌}
use Rattle.delivery.specs.Limits.{limits}
use Rattle.delivery.specs.Sets.{set_of}
use Rattle.bench.specs.Benches.{holds}
use Rattle.bench.proofs.bench.Bench.holders.Given as goal

abbrev pub invariant-loop-i : goal.invariant-loop-i
invariant-loop-i l = record {
  within : l.i ≤ limits.boards;
  passed : l.have ≡ set_of l.i (holds limits l.self l.speaker l.id.0);
}
