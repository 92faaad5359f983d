-- `sound_of` meets its contract: where a mark is none, not all of them are marks. Assumes nothing.
use native.Mathlib.Omega.{arith}
use lib.ListN.{length-take}
use Rattle.signer.proofs.FromOneLaws.{nth_after}
use Rattle.std.proofs.lemmas.List.{get_or-take}
use Rattle.bench.proofs.SetupLaws.{marks-fail}
use Rattle.bench.proofs.fresh.sound_of.Goals as goal

pub returns-then-not-is_mark : goal.returns-then-not-is_mark
returns-then-not-is_mark c =
    let a = c.args in
    grind (arith, marks-fail a.n c.loop-i.i a.marks.now, nth_after, get_or-take, length-take)
