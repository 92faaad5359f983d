-- `masks` meets its contract. Assumes nothing.
use native.Mathlib.Omega.{arith}
use mathlib.Core.Path.{◌≡◌, sym, ◌∙◌}
use lib.ListN.{length}
use Rattle.std.proofs.Common.{rules, ◌≤◌}
use Rattle.std.proofs.lemmas.List.{take_all}
use Rattle.delivery.specs.Limits.{limits}
use Rattle.fenderacai.proofs.row.masks.Goals as goal

pub returns : goal.returns
returns c =
    let sets = c.args.sets.now in
    let whole : length sets ≡ limits.identifiers = search rules in
    let all : limits.identifiers ≤ c.loop-i.i = omega arith in
    let there = take_all c.loop-i.i c.loop-i.masks (omega (arith, c.loop-i.invariant.0, all)) in
    sym there ∙ c.loop-i.invariant.1 ∙ take_all c.loop-i.i sets (omega (arith, whole, all))
