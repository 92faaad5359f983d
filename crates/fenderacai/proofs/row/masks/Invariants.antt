-- The loop's invariant of `masks`: the first i sets are there.
use mathlib.Core.Path.{◌≡◌}
use lib.ListN.{length, take}
use Rattle.delivery.specs.Limits.{limits}
use Rattle.fenderacai.proofs.row.masks.Given as goal

abbrev pub invariant-loop-i : goal.invariant-loop-i
invariant-loop-i l = (length l.masks ≡ limits.identifiers) × (take l.i l.masks ≡ take l.i l.sets)
