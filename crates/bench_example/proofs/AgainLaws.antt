-- Laws of an event that is played again and again: one time more, and no time left. Assumes nothing.
use Rattle.std.proofs.Common.{◌≡◌, ℕ, suc, ◌+◌, ◌-◌, ◌<◌, ◌≤◌, replicate, sym, ap, ◌∙◌, arith}
use Rattle.delivery.specs.Limits.{Limits}
use Rattle.bench.specs.Effects.{step_of}
use Rattle.bench.specs.Runs.{after}
use Rattle.bench.specs.declared.bench.Bench.{Bench}
use Rattle.bench.specs.declared.event.Event.{Event}
use Rattle.bench.proofs.RunLaws.{after-nil, after-cons}
use Rattle.bench.proofs.SetupLaws.{fresh-bench}

-- the first of the times that are left
pub one-more : (L : Limits) (c : Bench) (e : Event) (n k : ℕ) → k < n
    → after L (step_of L c e).bench (replicate (n - (k + 1)) e) ≡ after L c (replicate (n - k) e)
one-more L c e n k h =
    let left : suc (n - (k + 1)) ≡ n - k = omega (arith, h) in
    sym (after-cons L c e (replicate (n - (k + 1)) e)) ∙ ap (λ (m : ℕ). after L c (replicate m e)) left

-- no time is left
pub none-left : (L : Limits) (c : Bench) (e : Event) (n k : ℕ) → n ≤ k → after L c (replicate (n - k) e) ≡ c
none-left L c e n k h =
    let left : n - k ≡ 0 = omega (arith, h) in
    ap (λ (m : ℕ). after L c (replicate m e)) left ∙ after-nil L c

-- what the proof of `answer_after` goes by
pub ruleset played_again = (after-cons, fresh-bench, one-more, none-left)
