-- The loop's invariant of `scan`: the sets are those of the boards passed, and the counts theirs.
use Prim.Native.Nat.{◌≤◌, min}
use mathlib.Core.Path.{◌≡◌}
use Rattle.delivery.specs.Counting.{count_in}
use Rattle.delivery.specs.Limits.{limits}
use Rattle.delivery.specs.Sets.{set_of}
use Rattle.delivery.specs.Delivered.{heard}
use Rattle.delivery.specs.Acceptance.{bears, backs}
use Rattle.delivery.proofs.poll.Poll.scan.Given as goal

abbrev pub invariant-loop-k : goal.invariant-loop-k
invariant-loop-k l =
    (l.k ≤ min l.self.n limits.boards)
    × (l.blank ≡ set_of l.k (bears limits (heard limits l.self.delivered) l.self.round 0))
    × (l.backing ≡ set_of l.k (backs limits (heard limits l.self.delivered) l.self.round l.opening))
    × (l.blank_count ≡ count_in l.k (bears limits (heard limits l.self.delivered) l.self.round 0))
    × (l.backing_count ≡ count_in l.k (backs limits (heard limits l.self.delivered) l.self.round l.opening))
