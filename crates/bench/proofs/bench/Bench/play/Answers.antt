-- `Bench::play` meets its contract: of the events that were played agreement holds. Assumes nothing.
use Prim.Native.Nat.{ℕ, ◌≤◌}
use native.Mathlib.Omega.{arith}
use mathlib.Core.Path.{◌≡◌, ap}
use mathlib.Core.List.{List}
use lib.ListN.{length}
use Rattle.delivery.specs.Limits.{limits}
use Rattle.bench.specs.Setups.{fresh_bench, fresh_of}
use Rattle.bench.specs.Runs.{bench_after, answers_to, events_played, answers_after}
use Rattle.bench.specs.Claim.{Agreement}
use Rattle.bench.specs.Demands.{played_history}
use Rattle.bench.proofs.RunLaws.{length-answers, length-written, played-fits, history-written}
use Rattle.bench.proofs.Demands.{agreed}
use Rattle.bench.specs.declared.fresh.Fresh.{Fresh}
use Rattle.bench.proofs.bench.Bench.play.Goals as goal

-- the history that stands in the buffer is that of the events that were played, so agreement holds of it
agrees-played : (n : ℕ) (marks bs room : List ℕ)
    → Agreement
    limits
    n
    marks
    (played_history bs (answers_after limits n marks bs room))
    (bench_after limits n marks (events_played bs (length room)))
unfolding answers_after
agrees-played n marks bs room =
    let c = fresh_bench limits n marks in
    let es = events_played bs (length room) in
    let fits : length (answers_to limits c es) ≤ length room = grind (arith, length-answers, played-fits) in
    rw (length-written (answers_to limits c es) room fits, history-written limits c es room) (agreed n marks es)

pub returns-clause-agreement : goal.returns-clause-agreement
unfolding fresh_of answers_after
returns-clause-agreement c =
    let a = c.args in
    let made = ap (λ (f : Fresh). f.bench) c.fresh-made.ensures in
    let es = events_played a.events.now (length a.answers.now) in
    let bench : c.play_on-ending.new.self ≡ bench_after limits a.n a.marks es = grind arith in
    let room = a.answers.now in
    let answers : c.play_on-ending.new.answers ≡ answers_after limits a.n a.marks a.events.now room = grind arith in
    rw (bench, answers) (agrees-played a.n a.marks a.events.now a.answers.now)
