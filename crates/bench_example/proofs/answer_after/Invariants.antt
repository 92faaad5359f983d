-- `answer_after`: the bench after the turns that are left is the bench after all of them.
use Rattle.std.proofs.Common.{◌≡◌, ◌-◌, ◌∷◌, replicate}
use Rattle.delivery.specs.Limits.{limits}
use Rattle.bench.specs.Setups.{fresh_bench}
use Rattle.bench.specs.Runs.{after}
use Rattle.bench_example.proofs.answer_after.Given as goal

abbrev pub invariant-loop-k : goal.invariant-loop-k
invariant-loop-k l =
    after limits l.bench (replicate (l.times - l._k) l.again)
    ≡ after limits (fresh_bench limits l.fn.n l.fn.marks) (l.fn.first ∷ replicate l.times l.again)
