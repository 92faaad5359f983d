-- Laws of a file that was read and is played: the events that the player is handed, and the bench and the answers that it
-- gives. Assumes nothing.
use Prim.Native.Nat.{ℕ, zero, suc, ◌+◌, ◌-◌, ◌*◌, ◌≤◌}
use native.Mathlib.Omega.{arith}
use mathlib.Core.Path.{◌≡◌, refl, sym, ap, ◌∙◌}
use mathlib.Core.List.{List, [], ◌∷◌, ◌++◌, append_assoc}
use lib.ListN.{length, take, drop, get_or, replicate, length-append}
use lib.Seq.{take_all, drop-append_seam}
use Rattle.std.specs.Prelude.{Ok, Err}
use Rattle.signer.specs.FromOne.{nth}
use Rattle.signer.proofs.FromOneLaws.{within-high, nth-index, nth-none}
use Rattle.delivery.specs.Limits.{limits}
use Rattle.bench.specs.Events.{event_bytes}
use Rattle.bench.specs.Setups.{fresh_bench}
use Rattle.bench.specs.Runs.{after, answers_to, events_played, written}
use Rattle.bench.proofs.SetupLaws.{fresh-alike}
use Rattle.bench.proofs.RunLaws.{length-answers, events-played}
use Rattle.schedule.specs.Files.{fault, count_bytes, most_events, Contents, first_bench, file_due}
use Rattle.schedule.specs.Readings.{padded, schedule_from, schedule_of}
use Rattle.schedule.specs.Prints.{refused_line, printed_from, printed}
use Rattle.schedule.specs.Private.{report_lines}
use Rattle.schedule.specs.declared.fault.Fault.{Fault}
use Rattle.schedule.specs.declared.file.Schedule.{Schedule}
use Rattle.schedule.proofs.FileLaws.{FileRead, schedule-taken}
use Rattle.schedule.proofs.PrintLaws.{take-written}

-- the marks read the same with 0 after them
zeros-at : (ms : List ℕ) (m i : ℕ) → get_or (ms ++ replicate m 0) i 0 ≡ get_or ms i 0
zeros-at [] zero i = refl
zeros-at [] (suc m) zero = refl
zeros-at [] (suc m) (suc i) = zeros-at [] m i
zeros-at (x ∷ ms) m zero = refl
zeros-at (x ∷ ms) m (suc i) = zeros-at ms m i

padded-nth : (ms : List ℕ) (k : ℕ) → nth (padded limits ms) k 0 ≡ nth ms k 0
padded-nth ms zero = nth-none (padded limits ms) 0 0 (λ l. absurd (omega arith)) ∙ sym (nth-none ms 0 0 (λ l. absurd (omega arith)))
padded-nth ms (suc k) =
    nth-index (padded limits ms) (suc k) 0 (omega arith)
    ∙ zeros-at ms (limits.boards - length ms) (suc k - 1)
    ∙ sym (nth-index ms (suc k) 0 (omega arith))

-- a file that was refused prints a line
pub file-fault : (bs : List ℕ) (w : Fault) → schedule_of limits bs ≡ Err w → file_due limits bs ≡ fault w
unfolding schedule_from
file-fault bs w t = grind (arith, t)

pub print-refused : (bs : List ℕ) (w : Fault) → schedule_of limits bs ≡ Err w → refused_line w ≡ printed limits bs
unfolding printed_from
print-refused bs w t = rw (file-fault bs w t) refl

-- A file that was read begins on the fresh bench of its marks, and its events stand at its end.
module _ (bs : List ℕ) (f : Contents) (r : FileRead bs f) where
  pub begun : fresh_bench limits (length f.marks) (padded limits f.marks) ≡ first_bench limits f
  begun = fresh-alike (padded limits f.marks) f.marks (padded-nth f.marks) limits (length f.marks)

  pub few-boards : length f.marks ≤ limits.boards
  few-boards = within-high limits.boards (length f.marks) r.holds.boards

  pub start-within : 1 + length f.marks + count_bytes ≤ length bs
  start-within = omega (arith, ap length r.whole, length-append f.marks (r.high ∷ r.low ∷ r.rest))

  pub events-part : drop (1 + length f.marks + count_bytes) bs ≡ r.rest
  events-part =
      let front = length f.marks ∷ f.marks ++ r.high ∷ r.low ∷ [] in
      let far : 1 + length f.marks + count_bytes ≡ length front = omega (arith, length-append f.marks (r.high ∷ r.low ∷ [])) in
      rw (far, r.whole, ← append_assoc f.marks (r.high ∷ r.low ∷ []) r.rest) (drop-append_seam front r.rest)

  -- So the player is handed them and no byte more, and the lines of its answers and of its boards are the file's report.
  pub print-played : (buf : List ℕ) → length f.events ≤ length buf →
      let n = length f.marks in
      let c = fresh_bench limits n (padded limits f.marks) in
      let es = events_played (take (event_bytes * length f.events) (drop (1 + n + count_bytes) bs)) (length buf) in
      let answers = take (length f.events) (written (answers_to limits c es) buf) in
      report_lines limits n answers (after limits c es) ≡ printed limits bs
  unfolding printed_from
  print-played buf fits =
      let k = length f.events in
      let whole = take_all (event_bytes * k) r.rest (omega (arith, r.size)) in
      let played = events-played k (length buf) r.rest r.size fits in
      let count = length-answers limits (first_bench limits f) f.events in
      rw (events-part, whole, played, r.events, begun, r.due)
      (rw (← count, take-written (answers_to limits (first_bench limits f) f.events) buf (omega (arith, count)), count) refl)

-- The same of what the call that reads a file hands back:
module _ (bs : List ℕ) (s : Schedule) (e : schedule_of limits bs ≡ Ok s) where
  pub start-taken : s.start ≤ length bs
  start-taken = let t = schedule-taken bs s e in rw t.1.1 (start-within bs t.0 t.1.0)

  pub count-taken : s.count ≤ most_events
  count-taken = let t = schedule-taken bs s e in rw t.1.1 t.1.0.holds.few

  pub boards-taken : s.bus.n ≤ limits.boards
  boards-taken = let t = schedule-taken bs s e in rw t.1.1 (few-boards bs t.0 t.1.0)

  pub print-taken : (buf : List ℕ) → s.count ≤ length buf →
      let c = fresh_bench limits s.bus.n s.bus.marks in
      let es = events_played (take (event_bytes * s.count) (drop s.start bs)) (length buf) in
      let answers = take s.count (written (answers_to limits c es) buf) in
      report_lines limits s.bus.n answers (after limits c es) ≡ printed limits bs
  print-taken buf fits = let t = schedule-taken bs s e in rw t.1.1 (print-played bs t.0 t.1.0 buf (rw t.1.1 at fits))

pub ruleset file_played = (start-taken, count-taken, boards-taken)
