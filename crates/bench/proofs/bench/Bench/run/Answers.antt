-- `Bench::run` meets its contract: an event is played, and its answer written. Assumes nothing.
use Prim.Native.Nat.{ℕ, ◌+◌, ◌-◌, ◌*◌, ◌/◌, ◌<◌}
use native.Mathlib.Omega.{arith}
use native.Mathlib.Numerals.{add-one}
use mathlib.Core.Path.{◌≡◌, sym, ap, ◌∙◌}
use mathlib.Core.List.{List, ◌++◌}
use lib.ListN.{length, drop, set, length-set, length-append, length-drop}
use lib.Seq.{sets, drop-drop, drop-append_seam}
use Rattle.delivery.specs.Limits.{limits}
use Rattle.bench.specs.Events.{event_bytes, event_from}
use Rattle.bench.specs.Answers.{answer_number}
use Rattle.bench.specs.Effects.{step_of}
use Rattle.bench.specs.Runs.{steps, last_of, after, answers_to, events_in}
use Rattle.bench.specs.declared.bench.Bench.{Bench}
use Rattle.bench.specs.declared.event.Event.{Event}
use Rattle.bench.proofs.AnswerLaws.{event_played}
use Rattle.bench.proofs.RunLaws.{events-next, event-append}
use Rattle.bench.proofs.bench.Bench.run.Goals as goal

-- one event of the list less is left: where k were played, k' are, and the answer m is written
module _ (c c' : Bench) (n k k' : ℕ) (bs : List ℕ) (h : k < n) (one : k' ≡ k + 1) where
  abbrev left : ℕ → List Event
  left j = events_in (n - j) (drop (event_bytes * j) bs)

  abbrev e : Event
  e = event_from (drop (event_bytes * k) bs)

  module _ (came : c' ≡ (step_of limits c e).bench) where
    bench-left : after limits c' (left k') ≡ after limits c (left k)
    unfolding after steps last_of
    bench-left =
        let at : event_bytes * k' ≡ event_bytes * k + event_bytes = omega arith in
        grind (arith, at, events-next n k (event_bytes * k) bs)

    answers-left : (i m : ℕ) (buf : List ℕ) → i ≡ k → m ≡ answer_number (step_of limits c e).answer
        → sets (set buf i m) k' (answers_to limits c' (left k')) ≡ sets buf k (answers_to limits c (left k))
    unfolding answers_to steps
    answers-left i m buf p q =
        let at : event_bytes * k' ≡ event_bytes * k + event_bytes = omega arith in
        grind (arith, at, add-one, events-next n k (event_bytes * k) bs)

pub loop-k-preserved : goal.loop-k-preserved
loop-k-preserved c =
    let l = c.loop-k in
    let s = c.in-Some.ensures.steps in
    let bs = c.args.events.now in
    let n = length bs / event_bytes in
    let k = l.k-iterator.count in
    let at = event_bytes * k in
    let six = c.in-Some.bytes.now in
    let ys : List ℕ = c.next.new.self.iter.rest.now in
    let cut : drop at bs ≡ six ++ ys = sym l.invariant.rest ∙ s.0.1.0 in
    let size : length six ≡ event_bytes = s.0.1.1 ∙ l.invariant.size in
    let more : k < n = omega (arith, length-drop at bs, ap length cut, length-append six ys, size) in
    let there : ys ≡ drop (at + event_bytes) bs = grind (arith, drop-append_seam six ys, drop-drop event_bytes at bs) in
    let event : c.read-event.result ≡ event_from (drop at bs) = grind (arith, event-append six ys) in
    let came = event_played limits l.self _ _ _ _ _ event c.step.ensures.answer c.step.ensures.bench c.number_of.ensures in
    record {
      room = grind (arith, length-set);
      size = s.0.0 ∙ l.invariant.size;
      rest = grind arith;
      left = grind (arith, length-drop);
      bench = bench-left _ _ n k _ bs more s.2 came.0 ∙ l.invariant.bench;
      answers = answers-left _ _ n k _ bs more s.2 came.0 _ _ _ s.1 came.1 ∙ l.invariant.answers;
    }
