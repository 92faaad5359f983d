-- Laws of the two sections of a file by their bytes: the marks, one by one, and the tests of the count and the events.
-- Assumes nothing.
use Prim.Native.Nat.{ℕ, zero, suc, ◌+◌, ◌-◌, ◌*◌, ◌≤◌, ◌<◌}
use native.Mathlib.Omega.{arith}
use native.Mathlib.Decide.{dec_le}
use borrow.Author.Rules.{part_to_end}
use borrow.Author.Tests.{lt-leb, leb-true, leb-false}
use mathlib.Core.Path.{◌≡◌, refl, sym, ap, ◌∙◌}
use mathlib.Core.Bool.{true, false}
use mathlib.Core.List.{List, [], ◌∷◌, ◌++◌, append_assoc}
use lib.ListN.{length, take, drop, get_or, set, replicate, length-drop, take-append-drop}
use lib.Seq.{drop-drop}
use Rattle.std.specs.Prelude.{if◌then◌else◌, Ok, Err, nat_le, All}
use Rattle.std.proofs.lemmas.Bool.Decides.{nat_tests}
use Rattle.std.proofs.lemmas.List.{length-take-le, take_more, drop_more, take_all, set_at}
use Rattle.std.proofs.lemmas.List.Elements.{All-nil, All-cons, All-head, All-tail, All-more}
use Rattle.signer.proofs.FromOneLaws.{within-high}
use Rattle.delivery.specs.Limits.{limits}
use Rattle.delivery.specs.Bus.{is_board}
use Rattle.bench.specs.Events.{high_first, event_bytes}
use Rattle.bench.specs.Setups.{is_mark}
use Rattle.bench.specs.Runs.{events_in}
use Rattle.bench.specs.declared.event.Event.{Event}
use Rattle.bench.proofs.RunLaws.{events-none, events-more, length-events}
use Rattle.schedule.specs.Files.{
  Reading,
  got,
  fault,
  next,
  byte_due,
  many_due,
  mark_due,
  marks_due,
  bus_due,
  count_bytes,
  most_events,
  count_due,
  event_due,
  events_due,
  section_due,
}
use Rattle.schedule.specs.Readings.{padded, bus_from, bus_of, section_from, section_of}
use Rattle.schedule.specs.Stops.{Mark, sound, faulty}
use Rattle.schedule.specs.declared.fault.Fault.{Fault}
use Rattle.schedule.specs.declared.fault.Fault.TheVariants.{EndsEarly, NoBus, NoMark, TooMany}

-- a byte that is a mark
pub mark-is : (m : ℕ) → Mark m → is_mark m ≡ true
mark-is m sound = refl
mark-is m faulty = refl

pub mark-of : (m : ℕ) → m ≤ 1 → Mark m
mark-of zero h = sound
mark-of (suc zero) h = faulty
mark-of (suc (suc m)) h = absurd (omega arith)

-- Marks are read one by one: of n, those that are there may be too few, or be followed by a byte that is none, or be all.
pub marks-cut : (n : ℕ) (ms : List ℕ) → All Mark ms → length ms < n → many_due mark_due n ms ≡ fault EndsEarly
unfolding many_due mark_due byte_due next
marks-cut zero ms a h = absurd (omega arith)
marks-cut (suc n) [] a h = refl
marks-cut (suc n) (m ∷ ms) a h =
    rw (mark-is m (All-head Mark m ms a), marks-cut n ms (All-tail Mark m ms a) (omega arith))

pub marks-wrong : (n m : ℕ) (ms bs : List ℕ) → All Mark ms → length ms < n → 1 < m
    → many_due mark_due n (ms ++ m ∷ bs) ≡ fault NoMark
unfolding many_due mark_due byte_due next
marks-wrong zero m ms bs a h w = absurd (omega arith)
marks-wrong (suc n) m [] bs a h w = rw (lt-leb m 1 w)
marks-wrong (suc n) m (k ∷ ms) bs a h w =
    rw (mark-is k (All-head Mark k ms a), marks-wrong n m ms bs (All-tail Mark k ms a) (omega arith) w)

pub marks-full : (ms bs : List ℕ) → All Mark ms → many_due mark_due (length ms) (ms ++ bs) ≡ got ms bs
unfolding many_due mark_due byte_due next
marks-full [] bs a = refl
marks-full (m ∷ ms) bs a = rw (mark-is m (All-head Mark m ms a), marks-full ms bs (All-tail Mark m ms a))

pub data Split (n : ℕ) : List ℕ → Type 0 where
  cut : (ms : List ℕ) → All Mark ms → length ms < n → Split n ms
  wrong : (m : ℕ) (ms bs : List ℕ) → All Mark ms → length ms < n → 1 < m → Split n (ms ++ m ∷ bs)
  full : (ms bs : List ℕ) → All Mark ms → length ms ≡ n → Split n (ms ++ bs)

pub split : (n : ℕ) (bs : List ℕ) → Split n bs
split zero bs = full [] bs (All-nil Mark) refl
split (suc n) [] = cut [] (All-nil Mark) (omega arith)
split (suc n) (m ∷ bs) = go (dec_le m 1) (split n bs)
  where
    go : {cs : List ℕ} → Dec (m ≤ 1) → Split n cs → Split (suc n) (m ∷ cs)
    go {cs} (no h) s = wrong m [] cs (All-nil Mark) (omega arith) (omega arith)
    go (yes h) (cut ms a l) = cut (m ∷ ms) (All-cons Mark m ms (mark-of m h) a) (omega arith)
    go (yes h) (wrong k ms bs a l w) = wrong k (m ∷ ms) bs (All-cons Mark m ms (mark-of m h) a) (omega arith) w
    go (yes h) (full ms bs a l) = full (m ∷ ms) bs (All-cons Mark m ms (mark-of m h) a) (omega arith)

-- the same as the call that reads the marks has looked at the first k
module _ (n k : ℕ) (bs : List ℕ) (a : All Mark (take k bs)) where
  pub marks-short : length bs ≤ k → k < n → marks_due n bs ≡ fault EndsEarly
  marks-short l h = marks-cut n bs (rw (take_all k bs l) at a) (omega arith)

  pub marks-there : k ≤ length bs → k ≡ n → marks_due n bs ≡ got (take k bs) (drop k bs)
  marks-there l e =
      ap (λ (cs : List ℕ). marks_due n cs) (sym (take-append-drop k bs))
      ∙ ap (λ (m : ℕ). marks_due m (take k bs ++ drop k bs)) (sym e ∙ sym (length-take-le k bs l))
      ∙ marks-full (take k bs) (drop k bs) a

  module _ (l : k < length bs) where
    pub marks-none : is_mark (get_or bs k 0) ≡ false → k < n → marks_due n bs ≡ fault NoMark
    marks-none t h =
        ap (λ (cs : List ℕ). marks_due n cs) (sym (take-append-drop k bs) ∙ ap (λ (cs : List ℕ). take k bs ++ cs) (drop_more bs k 0 l))
        ∙ marks-wrong n (get_or bs k 0) (take k bs) (drop (k + 1) bs) a (omega (arith, length-take-le k bs)) (leb-false _ _ t)

    pub marks-next : is_mark (get_or bs k 0) ≡ true → All Mark (take (k + 1) bs)
    marks-next t = All-more Mark bs k 0 l a (mark-of (get_or bs k 0) (leb-true _ _ t))

    pub padded-next : k < limits.boards → set (padded limits (take k bs)) k (get_or bs k 0) ≡ padded limits (take (k + 1) bs)
    padded-next f =
        let left : limits.boards - length (take k bs) ≡ suc (limits.boards - (k + 1)) = omega (arith, length-take-le k bs) in
        let right : limits.boards - length (take (k + 1) bs) ≡ limits.boards - (k + 1) = omega (arith, length-take-le (k + 1) bs) in
        rw (left, right, take_more bs k 0 l, append_assoc) (set_at (take k bs) 0 (replicate (limits.boards - (k + 1)) 0) (get_or bs k 0) k (length-take-le k bs (omega arith)))

pub ruleset marks_told = (marks-short, marks-none, marks-there, length-take-le)

-- the first section by the tests of the call that reads it
pub bus-read : (bs : List ℕ) → bus_of limits bs
    ≡ (if nat_le 1 (length bs)
    then (if is_board limits (get_or bs 0 0) then bus_from limits (marks_due (get_or bs 0 0) (take (length bs - 1) (drop 1 bs))) else Err NoBus)
    else Err EndsEarly)
unfolding bus_due byte_due next bus_from
bus-read [] = grind (arith, nat_tests)
bus-read (b ∷ bs) = let e = part_to_end (b ∷ bs) 1 in grind (arith, nat_tests)

pub ruleset bus_tests = (bus-read, nat_tests, within-high)

-- so many events are there, or they end early
abbrev events_by : ℕ → List ℕ → Reading (List Event)
events_by k bs = if nat_le (event_bytes * k) (length bs) then got (events_in k bs) (drop (event_bytes * k) bs) else fault EndsEarly

events-next : (k : ℕ) (bs : List ℕ) → events_due k (drop event_bytes bs) ≡ events_by k (drop event_bytes bs)
    → events_due (suc k) bs ≡ events_by (suc k) bs
unfolding many_due event_due next
events-next k bs e =
    let far : event_bytes + event_bytes * k ≡ event_bytes * suc k = omega arith in
    let d = drop-drop (event_bytes * k) event_bytes bs in
    grind (arith, nat_tests, length-drop, events-more)

events-due : (k : ℕ) (bs : List ℕ) → events_due k bs ≡ events_by k bs
unfolding many_due
events-due zero bs = grind (arith, nat_tests, events-none)
events-due (suc k) bs = events-next k bs (events-due k (drop event_bytes bs))

-- A section is tested in this order: is there a count, is it within the most, and are so many events there.
abbrev pub count_at : List ℕ → ℕ
count_at bs = high_first (get_or bs 0 0) (get_or bs 1 0)

abbrev pub tested : {A : Type 0} → (Fault → A) → List ℕ → A → A
tested err bs x =
    if nat_le count_bytes (length bs)
    then (if nat_le (count_at bs) most_events
    then (if nat_le (event_bytes * count_at bs) (length (drop count_bytes bs)) then x else err EndsEarly)
    else err TooMany)
    else err EndsEarly

pub section-due : (bs : List ℕ) → section_due bs
    ≡ tested fault bs (got (events_in (count_at bs) (drop count_bytes bs)) (drop (event_bytes * count_at bs) (drop count_bytes bs)))
unfolding section_due count_due byte_due next
section-due [] = grind (arith, nat_tests)
section-due (b ∷ []) = grind (arith, nat_tests)
section-due (h ∷ l ∷ bs) = let e = events-due (high_first h l) bs in grind (arith, nat_tests)

pub section-read : (bs : List ℕ) → section_of bs ≡ tested Err bs (Ok (record { count = count_at bs }))
unfolding section_from
section-read bs = grind (arith, nat_tests, section-due, length-events)

pub ruleset section_tests = (section-read, nat_tests, length-drop)
