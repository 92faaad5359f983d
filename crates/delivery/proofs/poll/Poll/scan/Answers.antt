-- `Poll::scan` meets its contract: a turn of its loop takes the next board in, or leaves it out. Assumes nothing.
use Rattle.std.proofs.Common.{◌+◌}
use native.Mathlib.Omega.{arith}
use Rattle.std.proofs.lemmas.Bool.Decides.{nat_tests}
use Rattle.delivery.specs.Limits.{limits}
use Rattle.delivery.proofs.CountLaws.{count-take, count-leave}
use Rattle.delivery.proofs.SetLaws.{set-take, set-leave}
use Rattle.delivery.proofs.PollLaws.{blank-test, backs-test}
use Rattle.delivery.proofs.poll.Poll.scan.Goals as goal

pub loop-k-preserved : goal.loop-k-preserved
loop-k-preserved c =
    let es = c.args.self.now.delivered.entries in
    let blank = blank-test limits es c.args.self.now.round (c.loop-k.k + 1) c.identifier-id.result.0 in
    let backs = backs-test limits es c.args.self.now.round c.args.opening (c.loop-k.k + 1) c.identifier-id.result.0 in (
      grind arith,
      grind (arith, nat_tests, set-take, set-leave),
      grind (arith, nat_tests, set-take, set-leave),
      grind (arith, nat_tests, count-take, count-leave),
      grind (arith, nat_tests, count-take, count-leave),
    )
