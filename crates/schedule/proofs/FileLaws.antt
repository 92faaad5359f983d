-- Laws of a whole file: what it is read as, by how it is answered, and that it is answered. Assumes nothing.
use Prim.Native.Nat.{ℕ, zero, suc, ◌+◌, ◌-◌, ◌*◌, ◌≤◌, ◌<◌}
use native.Mathlib.Omega.{arith}
use native.Mathlib.Decide.{dec_le, dec_lt}
use mathlib.Core.Path.{◌≡◌, refl, sym, ap, subst, ◌∙◌}
use mathlib.Core.Bool.{true, false}
use mathlib.Core.List.{List, [], ◌∷◌, ◌++◌}
use mathlib.Core.Logic.{◌⊎◌, inl, inr, ⊎_elim}
use lib.ListN.{length, drop, length-drop, length-append}
use lib.Seq.{drop-append_seam}
use Rattle.std.specs.Prelude.{if◌then◌else◌, Ok, Err, nat_le}
use Rattle.std.proofs.lemmas.Bool.Decides.{nat_tests}
use Rattle.std.proofs.lemmas.List.Elements.{All-weaker}
use Rattle.signer.proofs.FromOneLaws.{within_in, within-zero, within-above, within_low, within-high}
use Rattle.delivery.specs.Limits.{limits}
use Rattle.delivery.specs.Bus.{is_board}
use Rattle.std.proofs.lemmas.Bool.{cases_Bool}
use Rattle.bench.specs.Events.{high_first, event_bytes}
use Rattle.bench.specs.Runs.{events_in}
use Rattle.bench.specs.declared.event.Event.{Event}
use Rattle.bench.proofs.AnswerLaws.{no_bus-is, no_mark-is}
use Rattle.bench.proofs.RunLaws.{length-events}
use Rattle.schedule.specs.Files.{Reading, got, fault, next, byte_due, bus_due, count_bytes, nothing_left, Contents, file_due, fault_number, most_events}
use Rattle.schedule.specs.Layouts.{Holdable}
use Rattle.schedule.specs.Readings.{bus_in, bus_from, bus_of, section_of, schedule_in, schedule_from, schedule_of}
use Rattle.schedule.specs.Stops.{Mark, Marked, Answered, counted, taken, ends-at-once, ends-in-marks, ends-in-count, ends-in-events, no-bus, no-mark, too-many, left-over}
use Rattle.schedule.specs.declared.bus.Bus.{Bus}
use Rattle.schedule.specs.declared.fault.Fault.{Fault}
use Rattle.schedule.specs.declared.fault.Fault.TheVariants.{EndsEarly, NoBus, NoMark, TooMany, LeftOver}
use Rattle.schedule.specs.declared.file.Schedule.{Schedule}
use Rattle.schedule.specs.declared.section.Section.{Section}
use Rattle.schedule.proofs.SectionLaws.{mark-is, marks-cut, marks-wrong, marks-full, Split, cut, wrong, full, split, count_at, tested, section-due, section-read}

-- a file of these marks and events
abbrev pub file : List ℕ → List Event → Contents
file ms es = record { marks = ms; events = es }

left-due : (f : Contents) (bs : List ℕ) → nothing_left f bs ≡ (if nat_le (length bs) 0 then got f [] else fault LeftOver)
unfolding nothing_left
left-due f [] = grind (arith, nat_tests)
left-due f (b ∷ bs) = grind (arith, nat_tests)

-- after the marks, a file is what the tests of its second section say, and then of its end
abbrev pub back_tested : List ℕ → List ℕ → Reading Contents
back_tested ms bs =
    let events = drop count_bytes bs in
    let k = count_at bs in
    tested fault bs (if nat_le (length events) (event_bytes * k) then got (file ms (events_in k events)) [] else fault LeftOver)

module _ (n : ℕ) (ms : List ℕ) (f : Marked n ms) (bs : List ℕ) where
  bus-full : bus_due limits (n ∷ ms ++ bs) ≡ got ms bs
  unfolding bus_due byte_due next
  bus-full =
      let some = within_in limits.boards n f.front.one f.front.seven in
      let size = f.full in
      let marks = marks-full ms bs f.front.marks in
      grind (arith, nat_tests, length-append)

  file-due : file_due limits (n ∷ ms ++ bs) ≡ back_tested ms bs
  unfolding file_due next
  file-due =
      let events = drop count_bytes bs in
      let b = bus-full in
      let s = section-due bs in
      let l = left-due (file ms (events_in (count_at bs) events)) (drop (event_bytes * count_at bs) events) in
      grind (arith, nat_tests, length-drop)

-- A file that is taken: it is read as f, which it can hold, and ends with the bytes of f's events.
pub record FileRead (bs : List ℕ) (f : Contents) : Type 0 where
  pub high : ℕ
  pub low : ℕ
  pub rest : List ℕ
  pub due : file_due limits bs ≡ got f []
  pub holds : Holdable limits f
  pub whole : bs ≡ length f.marks ∷ f.marks ++ high ∷ low ∷ rest
  pub count : high_first high low ≡ length f.events
  pub size : length rest ≡ event_bytes * length f.events
  pub events : events_in (length f.events) rest ≡ f.events

module _ (n h l : ℕ) (ms bs : List ℕ) (f : Marked n ms) (few : counted h l ≤ most_events) (size : length bs ≡ 6 * counted h l) where
  pub file-taken : FileRead (n ∷ ms ++ h ∷ l ∷ bs) (file ms (events_in (high_first h l) bs))
  file-taken =
      record {
        high = h;
        low = l;
        rest = bs;
        due = let d = file-due n ms f (h ∷ l ∷ bs) in grind (arith, nat_tests);
        holds = record {
          boards = within_in limits.boards (length ms) (omega (arith, f)) (omega (arith, f));
          marks = All-weaker Mark _ mark-is ms f.front.marks;
          few = omega (arith, length-events (high_first h l) bs);
        };
        whole = ap (λ (k : ℕ). k ∷ ms ++ h ∷ l ∷ bs) (sym f.full);
        count = sym (length-events (high_first h l) bs);
        size = omega (arith, length-events (high_first h l) bs);
        events = ap (λ (k : ℕ). events_in k bs) (length-events (high_first h l) bs);
      }

-- What a file is read as, by how it is answered: as what it holds, or as the fault of this number.
abbrev pub ReadAs : List ℕ → ℕ → Type 0
ReadAs bs zero = (f : Contents) × FileRead bs f
ReadAs bs (suc m) = (w : Fault) × ((file_due limits bs ≡ fault w) × (fault_number w ≡ suc m))

pub answered : (bs : List ℕ) (m : ℕ) → Answered bs m → ReadAs bs m
unfolding fault_number file_due bus_due byte_due next
answered bs m (taken n h l ms cs f t g) = (file ms (events_in (high_first h l) cs), file-taken n h l ms cs f t g)
answered bs m ends-at-once = (EndsEarly, (refl, refl))
answered bs m (ends-in-marks n ms f h) =
    let some = within_in limits.boards n f.one f.seven in
    let cut = marks-cut n ms f.marks h in
    (EndsEarly, (grind (arith, nat_tests, some, cut), refl))
answered bs m (ends-in-count n ms cs f h) = (EndsEarly, (let d = file-due n ms f cs in grind (arith, nat_tests), refl))
answered bs m (ends-in-events n h l ms cs f t g) = (EndsEarly, (let d = file-due n ms f (h ∷ l ∷ cs) in grind (arith, nat_tests), refl))
answered bs m (no-bus n cs o) = (NoBus, (rw (⊎_elim (within-zero limits.boards n) (within-above limits.boards n) o), no_bus-is))
answered bs m (no-mark n k ms cs f h w) =
    let some = within_in limits.boards n f.one f.seven in
    let wrong = marks-wrong n k ms cs f.marks h w in
    (NoMark, (grind (arith, nat_tests, some, wrong), no_mark-is))
answered bs m (too-many n h l ms cs f t) = (TooMany, (let d = file-due n ms f (h ∷ l ∷ cs) in grind (arith, nat_tests), refl))
answered bs m (left-over n h l ms cs f t g) = (LeftOver, (let d = file-due n ms f (h ∷ l ∷ cs) in grind (arith, nat_tests), refl))

-- and every file is one of these, by the first test that it fails
abbrev Found : List ℕ → Type 0
Found bs = (m : ℕ) × Answered bs m

found-back : (n : ℕ) (ms cs : List ℕ) → Marked n ms → Found (n ∷ ms ++ cs)
found-back n ms [] f = (1, ends-in-count n ms [] f (omega arith))
found-back n ms (h ∷ []) f = (1, ends-in-count n ms (h ∷ []) f (omega arith))
found-back n ms (h ∷ l ∷ bs) f = go (dec_le (counted h l) most_events) (dec_lt (length bs) (6 * counted h l)) (dec_lt (6 * counted h l) (length bs))
  where
    go : Dec (counted h l ≤ most_events) → Dec (length bs < 6 * counted h l) → Dec (6 * counted h l < length bs) → Found (n ∷ ms ++ h ∷ l ∷ bs)
    go (no t) _ _ = (4, too-many n h l ms bs f (omega arith))
    go (yes t) (yes g) _ = (1, ends-in-events n h l ms bs f t g)
    go (yes t) (no g) (yes k) = (5, left-over n h l ms bs f t k)
    go (yes t) (no g) (no k) = (0, taken n h l ms bs f t (omega arith))

found : (bs : List ℕ) → Found bs
found [] = (1, ends-at-once)
found (n ∷ bs) = go (dec_le 1 n) (dec_le n limits.boards) (split n bs)
  where
    go : {cs : List ℕ} → Dec (1 ≤ n) → Dec (n ≤ limits.boards) → Split n cs → Found (n ∷ cs)
    go {cs} (no l) _ _ = (2, no-bus n cs (inl (omega arith)))
    go {cs} (yes l) (no h) _ = (2, no-bus n cs (inr (omega arith)))
    go (yes l) (yes h) (cut ms a f) = (1, ends-in-marks n ms (record { one = l; seven = h; marks = a }) f)
    go (yes l) (yes h) (wrong m ms cs a f w) = (3, no-mark n m ms cs (record { one = l; seven = h; marks = a }) f w)
    go (yes l) (yes h) (full ms cs a f) = found-back n ms cs (record { front = record { one = l; seven = h; marks = a }; full = f })

-- so of every file it is known how it is answered, and what it is read as
pub known : (bs : List ℕ) → (m : ℕ) × (Answered bs m × ReadAs bs m)
known bs = let f = found bs in (f.0, (f.1, answered bs f.0 f.1))

-- what was read of one that is taken, from what it is read as, and from what the call that reads hands back
pub file-got : (bs : List ℕ) (f : Contents) (rest : List ℕ) → file_due limits bs ≡ got f rest → FileRead bs f
file-got bs f rest e = go (known bs)
  where
    go : (m : ℕ) × (Answered bs m × ReadAs bs m) → FileRead bs f
    go (zero, (_, (g, r))) = let due = r.due in let same : g ≡ f = grind (arith, e, due) in subst (FileRead bs) same r
    go (suc m, (_, (w, (d, _)))) = absurd (grind (arith, e, d))

pub schedule-taken : (bs : List ℕ) (s : Schedule) → schedule_of limits bs ≡ Ok s
    → (f : Contents) × (FileRead bs f × (s ≡ schedule_in limits f))
unfolding schedule_from
schedule-taken bs s e = go (known bs)
  where
    go : (m : ℕ) × (Answered bs m × ReadAs bs m) → (f : Contents) × (FileRead bs f × (s ≡ schedule_in limits f))
    go (zero, (_, (f, r))) = let due = r.due in (f, (r, grind (arith, e, due)))
    go (suc m, (_, (w, (d, _)))) = absurd (grind (arith, e, d))

-- The first section, where the call that reads it hands it back: its marks, and that the second begins within the file.
pub record BusRead (bs : List ℕ) (b : Bus) : Type 0 where
  pub marks : List ℕ
  pub is : b ≡ bus_in limits marks
  pub within : 1 + b.n ≤ length bs
  pub due : file_due limits bs ≡ back_tested marks (drop (1 + b.n) bs)

pub bus-taken : (bs : List ℕ) (b : Bus) → bus_of limits bs ≡ Ok b → BusRead bs b
unfolding bus_from bus_due byte_due next
bus-taken [] b e = absurd (grind (arith, e))
bus-taken (n ∷ bs) b e = go (split n bs) (cases_Bool (is_board limits n)) e
  where
    go : {cs : List ℕ} → Split n cs → (is_board limits n ≡ true) ⊎ (is_board limits n ≡ false) → bus_of limits (n ∷ cs) ≡ Ok b → BusRead (n ∷ cs) b
    go s (inr f) e = absurd (grind (arith, e, f))
    go (cut ms a h) (inl t) e = let d = marks-cut n ms a h in absurd (grind (arith, e, t, d))
    go (wrong m ms cs a h w) (inl t) e = let d = marks-wrong n m ms cs a h w in absurd (grind (arith, e, t, d))
    go (full ms cs a l) (inl t) e =
        let f : Marked n ms = record { front = record { one = within_low limits.boards n t; seven = within-high limits.boards n t; marks = a }; full = l } in
        let d = bus-full n ms f cs in
        let is : b ≡ bus_in limits ms = grind (arith, e, d) in
        let far : 1 + b.n ≡ length (n ∷ ms) = ap (λ (x : Bus). 1 + x.n) is ∙ omega arith in
        let part : drop (1 + b.n) (n ∷ ms ++ cs) ≡ cs = ap (λ (k : ℕ). drop k (n ∷ ms ++ cs)) far ∙ drop-append_seam (n ∷ ms) cs in
        record { marks = ms; is = is; within = omega (arith, far, length-append ms cs); due = rw part (file-due n ms f cs) }

pub schedule-front : (bs : List ℕ) (w : Fault) → bus_of limits bs ≡ Err w → schedule_of limits bs ≡ Err w
unfolding bus_from schedule_from file_due next
schedule-front bs w e = grind (arith, e)

module _ (bs : List ℕ) (b : Bus) (e : bus_of limits bs ≡ Ok b) where
  pub section-within : 1 + b.n ≤ length bs
  section-within = (bus-taken bs b e).within

  -- a fault of the second is the file's;
  pub schedule-back : (w : Fault) → section_of (drop (1 + b.n) bs) ≡ Err w → schedule_of limits bs ≡ Err w
  unfolding schedule_from
  schedule-back w g =
      let due = (bus-taken bs b e).due in grind (arith, nat_tests, section-read, g)

  -- and where there is a second, its events begin within the file, and end before it or with it
  module _ (s : Section) (g : section_of (drop (1 + b.n) bs) ≡ Ok s) where
    pub events-within : 1 + b.n + count_bytes ≤ length bs
    events-within = let r = bus-taken bs b e in let within = r.within in grind (arith, nat_tests, length-drop, section-read)

    pub schedule-over : event_bytes * s.count < length bs - (1 + b.n + count_bytes) → schedule_of limits bs ≡ Err LeftOver
    unfolding schedule_from
    schedule-over h =
        let r = bus-taken bs b e in let due = r.due in let within = r.within in grind (arith, nat_tests, length-drop, section-read)

    pub schedule-there : length bs - (1 + b.n + count_bytes) ≤ event_bytes * s.count
        → schedule_of limits bs ≡ Ok (record { bus = b; count = s.count; start = 1 + b.n + count_bytes })
    unfolding schedule_from
    schedule-there h =
        let r = bus-taken bs b e in
        let is = r.is in
        let due = r.due in
        let within = r.within in
        grind (arith, nat_tests, length-drop, length-events, section-read)

pub ruleset file_tests = (section-within)
