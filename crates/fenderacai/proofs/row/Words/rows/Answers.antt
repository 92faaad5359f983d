-- `Words::rows` meets its contract. Assumes nothing.
use Prim.Native.Nat.{ℕ, ◌+◌, ◌-◌, ◌*◌, ◌≤◌}
use native.Mathlib.Omega.{arith}
use mathlib.Core.Path.{◌≡◌, sym, ap, ◌∙◌}
use mathlib.Core.List.{List, [], ◌∷◌}
use lib.ListN.{length, take, drop, length-drop}
use Rattle.std.proofs.lemmas.List.{length-take-le, take-append-drop}
use Rattle.delivery.specs.Limits.{limits}
use Rattle.bench.specs.Events.{event_bytes, event_from}
use Rattle.bench.specs.Runs.{events_in}
use Rattle.bench.specs.declared.event.Event.{Event}
use Rattle.bench.specs.Answers.{answer_number}
use Rattle.bench.specs.Effects.{step_of}
use Rattle.bench.proofs.RunLaws.{event-append, one-played, steps-nil, after-nil, events-none, length-events}
use Rattle.schedule.proofs.PrintLaws.{put_size, puts_none}
use Rattle.fenderacai.specs.Traces.{rows_of}
use Rattle.fenderacai.proofs.TraceLaws.{length-rows, rows_next}
use Rattle.fenderacai.proofs.row.Words.rows.Goals as goal

pub loop-k-init : goal.loop-k-init
unfolding rows_of
loop-k-init c = (rw (events-none, steps-nil) puts_none, rw (events-none, after-nil))

pub row-requires : goal.row-requires
row-requires c =
    let es = events_in c.loop-k.k c.args.events.now in
    omega (
      arith,
      c.requires.room,
      put_size c.loop-k.invariant.0.text,
      length-rows c.args.bench.now es,
      length-events c.loop-k.k c.args.events.now,
    )

pub loop-k-preserved : goal.loop-k-preserved
loop-k-preserved c =
    let l = c.loop-k in
    let bs = c.args.events.now in
    let e : Event = event_from (drop (event_bytes * l.k) bs) in
    let six : List ℕ = take event_bytes (drop (event_bytes * l.k) bs) in
    let one : event_bytes * l.k + event_bytes - event_bytes * l.k ≡ event_bytes = omega arith in
    let there : event_bytes ≤ length (drop (event_bytes * l.k) bs) = omega (arith, length-drop (event_bytes * l.k) bs, c.requires.events, c.loop-k-test.true) in
    let size : length six ≡ event_bytes = length-take-le event_bytes (drop (event_bytes * l.k) bs) there in
    let read : event_from six ≡ e =
    sym (event-append six (drop event_bytes (drop (event_bytes * l.k) bs)) (omega (arith, size)))
    ∙ ap event_from (take-append-drop event_bytes (drop (event_bytes * l.k) bs)) in
    let x = step_of limits l.bench e in
    let came = rw read at (one-played limits l.bench six 0 size) in
    let bench : c.play_on.new.self ≡ x.bench = (rw one at c.play_on.ensures.bench) ∙ came.0 in
    let answers : c.play_on.new.answers ≡ answer_number x.answer ∷ [] = (rw one at c.play_on.ensures.answers) ∙ came.1 in
    rw bench (rows_next c.args.bench.now l.bench l.k bs l.invariant (rw (bench, answers) at c.row.ensures))

pub returns : goal.returns
returns c = let end : c.loop-k.k ≡ c.args.count = omega arith in rw end at c.loop-k.invariant.0
