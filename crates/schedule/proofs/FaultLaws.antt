-- Laws of a file's faults by their numbers; two are the bench's. Assumes nothing.
use native.Mathlib.Omega.{arith}
use Prim.Native.Nat.{◌≤◌}
use mathlib.Core.Path.{◌≡◌}
use Rattle.schedule.specs.Files.{fault_number}
use Rattle.schedule.specs.declared.fault.Fault.{Fault}
use Rattle.bench.proofs.AnswerLaws.{no_bus-is, no_mark-is}

-- the number of every fault is a row's
pub fault-row : (w : Fault) → (1 ≤ fault_number w) × (fault_number w ≤ 5)
unfolding fault_number
fault-row w = grind (arith, no_bus-is, no_mark-is)

-- and it tells the fault
pub fault-same : (w v : Fault) → fault_number w ≡ fault_number v → w ≡ v
unfolding fault_number
fault-same w v e = grind (arith, no_bus-is, no_mark-is)

pub ruleset bench_faults = (no_bus-is, no_mark-is)
