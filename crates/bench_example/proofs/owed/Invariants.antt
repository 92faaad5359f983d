-- `owed`: each identifier of a speaker adds a byte at most, so the sum fits.
use Rattle.std.proofs.Common.{◌≤◌, ◌*◌, ◌-◌, ◌+◌}
use Rattle.signer.specs.Log.{identifiers}
use Rattle.delivery.specs.Limits.{limits}
use Rattle.bench_example.proofs.owed.Given as goal

abbrev pub invariant-loop-k : goal.invariant-loop-k
invariant-loop-k l = (l.k ≤ limits.boards + 1) × (l.copies ≤ 255 * identifiers * (l.k - 1))

abbrev pub invariant-loop-id : goal.invariant-loop-id
invariant-loop-id l = (l.id ≤ identifiers + 1) × (l.copies ≤ 255 * identifiers * (l.k - 1) + 255 * (l.id - 1))
