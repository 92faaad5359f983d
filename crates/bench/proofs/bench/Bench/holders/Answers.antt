-- `Bench::holders` meets its contract: each board passed is taken or left. Assumes nothing.
use borrow.Author.Rules.{rules}
use native.Mathlib.Omega.{arith}
use mathlib.Core.Path.{◌≡◌}
use lib.ListN.{length}
use Rattle.std.proofs.lemmas.Bool.Decides.{nat_tests}
use Rattle.delivery.specs.Limits.{limits}
use Rattle.delivery.proofs.SetLaws.{set-none, set-take, set-leave}
use Rattle.bench.proofs.BenchLaws.{holds-at}
use Rattle.bench.proofs.bench.Bench.holders.Goals as goal

pub loop-i-init : goal.loop-i-init
loop-i-init c = grind (arith, set-none)

pub loop-i-preserved : goal.loop-i-preserved
loop-i-preserved c =
    let a = c.args in
    let i = c.loop-i in
    let size : length a.self.now.boards ≡ limits.boards = search rules in
    let at = holds-at limits a.self.now a.speaker a.id.0 i.i in
    record {
      within = omega arith;
      passed = grind (arith, nat_tests, at, set-take i.i i.have, set-leave i.i i.have);
    }
