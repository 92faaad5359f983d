-- The loop's invariant of `allowance`: it is what is allowed in round r.
use Prim.Native.Nat.{◌≤◌}
use mathlib.Core.Path.{◌≡◌}
use Rattle.delivery.specs.Limits.{limits}
use Rattle.delivery.specs.Delivered.{heard}
use Rattle.delivery.specs.Acceptance.{allowed}
use Rattle.delivery.specs.Private.{lets}
use Rattle.delivery.proofs.poll.Poll.allowance.Given as goal

abbrev pub invariant-loop-r : goal.invariant-loop-r
invariant-loop-r l =
    (1 ≤ l.r) × (l.r ≤ l.self.round) × (lets l.allowance ≡ allowed limits l.self.n (heard limits l.self.delivered) l.r)
