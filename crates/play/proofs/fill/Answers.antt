-- `fill` meets its contract: a read's bytes stand after those before it, and one that failed changes none of them. Assumes nothing.
use Rattle.std.proofs.Common.{rules}
use Rattle.play.proofs.ReadLaws.{read-more, read-again}
use Rattle.play.proofs.fill.Goals.{in-Ok, in-Err+else-ne}
use Rattle.play.proofs.fill.Goals as goal

pub loop-preserved : goal.loop-preserved
loop-preserved g c =
    let (within, lost) = c.loop.invariant in
    elim c.match-read.branch [
      | in-Ok w ↦
          let e = w.in-Ok.ensures in
          (search (rules, e.bound.0), rw w.length-is (read-more _ _ _ _ _ _ _ _ within e.bound.0 lost e.bytes.0))
      | in-Err+else-ne w ↦ (search rules, rw w.length-is (read-again _ _ _ _ _ _ _ within lost w.in-Err.ensures.bytes))
    ]

-- An error is handed back, of which nothing is promised; by `rules` alone, so that a body that drops it is refused for that.
pub returns-then-ne-clause-read : goal.returns-then-ne-clause-read
returns-then-ne-clause-read g c = search rules
