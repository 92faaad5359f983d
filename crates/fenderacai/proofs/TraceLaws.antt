-- Laws of traces: rows put one after another, how many words they are, and those of a file that was read. Assumes nothing.
use Prim.Native.Nat.{ℕ, zero, suc, ◌+◌, ◌*◌, ◌≤◌}
use native.Mathlib.Numerals.{add-one}
use native.Mathlib.Omega.{arith}
use denote.Ref.{MutBor}
use mathlib.Core.Path.{◌≡◌, ap}
use mathlib.Core.List.{List, [], ◌∷◌, ◌++◌, flat_map, append_assoc, append-nil}
use lib.ListN.{length, drop, length-append}
use lib.Seq.{drop-drop}
use Rattle.std.specs.Prelude.{Ok, Err}
use Rattle.delivery.specs.Limits.{limits}
use Rattle.bench.specs.Answers.{answer_number}
use Rattle.bench.specs.Effects.{step_of}
use Rattle.bench.specs.Events.{event_bytes, event_from}
use Rattle.bench.specs.Runs.{after, events_in}
use Rattle.bench.specs.Setups.{fresh_bench}
use Rattle.bench.specs.declared.bench.Bench.{Bench}
use Rattle.bench.specs.declared.event.Event.{Event}
use Rattle.bench.proofs.RunLaws.{steps-nil, steps-cons, after-nil, after-cons, events-none, events-more, length-events}
use Rattle.schedule.specs.Files.{first_bench}
use Rattle.schedule.specs.Private.{Puts}
use Rattle.schedule.specs.Readings.{schedule_of}
use Rattle.schedule.specs.declared.fault.Fault.{Fault}
use Rattle.schedule.specs.declared.file.Schedule.{Schedule}
use Rattle.schedule.proofs.PrintLaws.{◌then◌}
use Rattle.schedule.proofs.FileLaws.{schedule-taken}
use Rattle.schedule.proofs.PlayLaws.{file-fault, begun, events-part, start-taken}
use Rattle.fenderacai.specs.Rows.{row}
use Rattle.fenderacai.specs.Private.{row_size}
use Rattle.fenderacai.specs.Traces.{rows_of, traced_from, traced}
use Rattle.fenderacai.specs.Claims.{RowWords, TraceWords}
use Rattle.fenderacai.proofs.RowLaws.{length-row}

-- each event has a row
pub length-rows : (c : Bench) (es : List Event) → length (rows_of limits c es) ≡ row_size limits * length es
unfolding rows_of flat_map
length-rows c [] = rw steps-nil (omega arith)
length-rows c (e ∷ es) =
    let x = step_of limits c e in
    let row = length-row x.bench (answer_number x.answer) in
    rw steps-cons (simp length-append (omega (arith, row, length-rows x.bench es)))

-- one event more is read behind those before it
events-last : (k : ℕ) (bs : List ℕ) → events_in (suc k) bs ≡ events_in k bs ++ event_from (drop (event_bytes * k) bs) ∷ []
events-last zero bs = rw (events-more, events-none, events-none)
events-last (suc k) bs =
    let far : event_bytes + event_bytes * k ≡ event_bytes * suc k = omega arith in
    rw (events-more (suc k) bs, events-last k (drop event_bytes bs), events-more k bs, drop-drop, far)

-- its row follows theirs, and the bench after it is the one that it leads to
rows-last : (c : Bench) (es : List Event) (e : Event) →
    let x = step_of limits (after limits c es) e in
    (rows_of limits c (es ++ e ∷ []) ≡ rows_of limits c es ++ row limits (answer_number x.answer) x.bench)
    × (after limits c (es ++ e ∷ []) ≡ x.bench)
unfolding rows_of flat_map
rows-last c [] e = (simp (steps-cons, steps-nil, after-nil, append-nil), simp (after-cons, after-nil))
rows-last c (d ∷ es) e =
    let x = step_of limits c d in
    let row = row limits (answer_number x.answer) x.bench in
    let others = rows-last x.bench es e in
    (rw (steps-cons, steps-cons, after-cons, append_assoc) (ap (λ (xs : List ℕ). row ++ xs) others.0), simp after-cons others.1)

-- so from the rows of the first k events to those of one more
pub rows_next : {out out' out'' : MutBor (List ℕ)} {at r r' : ℕ} (c b : Bench) (k : ℕ) (bs : List ℕ)
    → Puts (rows_of limits c (events_in k bs)) out at out' r × (b ≡ after limits c (events_in k bs)) →
    let x = step_of limits b (event_from (drop (event_bytes * k) bs)) in
    Puts (row limits (answer_number x.answer) x.bench) out' r out'' r'
    → Puts (rows_of limits c (events_in (k + 1) bs)) out at out'' r' × (x.bench ≡ after limits c (events_in (k + 1) bs))
rows_next c b k bs p q =
    let l = rows-last c (events_in k bs) (event_from (drop (event_bytes * k) bs)) in
    rw (add-one k, events-last k bs, l.0, l.1) (rw p.1 at (p.0 then q), rw p.1)

-- a refused file has no trace
pub refused-traced : (bs : List ℕ) (w : Fault) → schedule_of limits bs ≡ Err w → traced limits bs ≡ []
unfolding traced_from
refused-traced bs w t = ap (traced_from limits) (file-fault bs w t)

-- A file that was read: the row of its fresh bench and those of its events are its trace.
module _ (bs : List ℕ) (s : Schedule) (t : schedule_of limits bs ≡ Ok s) where
  pub trace-played :
      let c = fresh_bench limits s.bus.n s.bus.marks in
      row limits 0 c ++ rows_of limits c (events_in s.count (drop s.start bs)) ≡ traced limits bs
  unfolding traced_from
  trace-played =
      let p = schedule-taken bs s t in
      let r = p.1.0 in
      rw (p.1.1, events-part bs p.0 r, begun bs p.0 r, r.events, r.due)

  pub length-traced : length (traced limits bs) ≡ row_size limits + row_size limits * s.count
  length-traced =
      let c = fresh_bench limits s.bus.n s.bus.marks in
      let es = events_in s.count (drop s.start bs) in
      let events = length-events s.count (drop s.start bs) in
      rw (← trace-played) (simp length-append (omega (arith, length-row c 0, length-rows c es, events)))

  -- and the bytes of its events are there
  pub events-fit : event_bytes * s.count ≤ length (drop s.start bs)
  events-fit = let p = schedule-taken bs s t in let r = p.1.0 in rw (p.1.1, events-part bs p.0 r) (omega (arith, r.size))

pub ruleset file_traced = (refused-traced, start-taken)

-- what that is in words
pub row-words : RowWords
row-words answer c = length-row c answer

pub trace-words : TraceWords
unfolding traced_from
trace-words bs f rest e =
    let c = first_bench limits f in
    rw e (simp length-append (omega (arith, length-row c 0, length-rows c f.events)))
