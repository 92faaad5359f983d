-- `Position::count_move` meets its contract: what it reads off the round's tally. Assumes nothing.
use native.Mathlib.Omega.{arith}
use Rattle.std.proofs.lemmas.Bool.Decides.{nat_tests}
use Rattle.delivery.specs.Limits.{limits}
use Rattle.delivery.specs.Delivered.{heard}
use Rattle.vote.specs.Rule.{onward, next_estimate, count_move}
use Rattle.vote.proofs.BallotLaws.{with-tallied}
use Rattle.vote.proofs.RuleLaws.{counts}
use Rattle.vote.proofs.position.Position.count_move.Goals as goal

pub returns-then-backing-max : goal.returns-then-backing-max
unfolding count_move onward next_estimate
returns-then-backing-max c =
    let h = heard limits c.args.delivered.now in
    let told = rw c.poll.ensures at c.tally-tally.ensures in
    let backing = c.if-value-eq-BLANK.backing in
    let borne = with-tallied limits c.args.n h c.args.self.now.round.0 _ backing told (grind (arith, nat_tests)) in
    grind (arith, nat_tests, borne, counts)

pub returns-then-self-lt-LAST : goal.returns-then-self-lt-LAST
unfolding count_move onward next_estimate
returns-then-self-lt-LAST c =
    let h = heard limits c.args.delivered.now in
    let told = rw c.poll.ensures at c.tally-tally.ensures in
    let backing = c.if-value-eq-BLANK.backing in
    let borne = with-tallied limits c.args.n h c.args.self.now.round.0 _ backing told (grind (arith, nat_tests)) in
    grind (arith, nat_tests, borne, counts)

pub returns : goal.returns
unfolding count_move onward next_estimate
returns c =
    let h = heard limits c.args.delivered.now in
    let told = rw c.poll.ensures at c.tally-tally.ensures in
    let backing = c.if-value-eq-BLANK.backing in
    let borne = with-tallied limits c.args.n h c.args.self.now.round.0 _ backing told (grind (arith, nat_tests)) in
    grind (arith, nat_tests, borne, counts)
