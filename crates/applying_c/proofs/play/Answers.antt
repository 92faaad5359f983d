-- `play` meets its contract: an event is played, and its answer written. Assumes nothing.
use Prim.Native.Nat.{ℕ, ◌+◌, ◌-◌, ◌*◌, ◌<◌, ◌≤◌}
use native.Mathlib.Omega.{arith}
use native.Mathlib.Numerals.{add-one}
use mathlib.Core.Path.{◌≡◌, ap, ◌∙◌}
use mathlib.Core.List.{List}
use lib.ListN.{length, drop, set, length-set}
use lib.Seq.{sets}
use borrow.Author.Rules.{part_to_end}
use Rattle.delivery.specs.Limits.{limits}
use Rattle.bench.specs.Answers.{answer_number}
use Rattle.bench.specs.Events.{event_bytes, event_from}
use Rattle.bench.specs.Effects.{step_of}
use Rattle.bench.specs.Runs.{answers_to, events_in}
use Rattle.bench.specs.declared.bench.Bench.{Bench}
use Rattle.bench.specs.declared.event.Event.{Event}
use Rattle.bench.proofs.AnswerLaws.{event_played}
use Rattle.bench.proofs.RunLaws.{events-next, events-none, answers-nil, answers-cons, length-events, length-answers, sets-written}
use Rattle.applying_c.proofs.play.Goals as goal

-- one event of the list less is left: the answer m is written, and the others after it
left : (c c' : Bench) (n k m : ℕ) (bs buf : List ℕ) → k < n →
    let e = event_from (drop (event_bytes * k) bs) in
    c' ≡ (step_of limits c e).bench → m ≡ answer_number (step_of limits c e).answer
    → sets (set buf k m) (k + 1) (answers_to limits c' (events_in (n - (k + 1)) (drop (event_bytes * (k + 1)) bs)))
    ≡ sets buf k (answers_to limits c (events_in (n - k) (drop (event_bytes * k) bs)))
left c c' n k m bs buf h p q =
    let at : event_bytes * (k + 1) ≡ event_bytes * k + event_bytes = omega arith in
    grind (arith, at, add-one, events-next n k (event_bytes * k) bs, answers-cons)

pub loop-k-preserved : goal.loop-k-preserved
loop-k-preserved c =
    let l = c.loop-k in
    let bs = c.args.events.now in
    let at : ℕ = event_bytes * l.k in
    let e : Event = event_from (drop at bs) in
    let event = c.read.ensures ∙ ap event_from (part_to_end bs at) in
    let came = event_played limits l.bench _ _ e _ _ event c.apply-answer.ensures.0 c.apply-answer.ensures.1 c.number_of.ensures in
    let more : l.k < c.args.count = omega arith in
    (grind (arith, length-set), left _ _ c.args.count l.k _ bs l.answers more came.0 came.1 ∙ l.invariant.1)

pub returns : goal.returns
returns c =
    let l = c.loop-k in
    let es = events_in c.args.count c.args.events.now in
    let none : c.args.count - l.k ≡ 0 = omega arith in
    let fits : length (answers_to limits c.args.bench.now es) ≤ length c.args.answers.now =
    omega (arith, c.requires.room, length-answers limits c.args.bench.now es, length-events c.args.count c.args.events.now) in
    rw (none, events-none, answers-nil) at l.invariant.1 ∙ sets-written _ c.args.answers.now fits
