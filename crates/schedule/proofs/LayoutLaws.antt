-- A file that is read is the bytes of what it is read as, and the bytes of a schedule are read as that schedule.
-- Assumes nothing.
use Prim.Native.Nat.{ℕ, zero, suc, ◌*◌, ◌/◌, ◌%◌, ◌<◌}
use native.Mathlib.Omega.{arith}
use mathlib.Core.Path.{◌≡◌, refl, ap, subst, ◌∙◌}
use mathlib.Core.List.{List, [], ◌∷◌, ◌++◌, flat_map, append_assoc}
use lib.ListN.{length}
use borrow.Author.Tests.{leb-true}
use Rattle.std.proofs.lemmas.List.Elements.{All-drop, All-weaker}
use Rattle.delivery.specs.Limits.{limits}
use Rattle.bench.specs.Events.{high_first, event_bytes}
use Rattle.bench.specs.Runs.{events_in}
use Rattle.bench.specs.declared.event.Event.{Event}
use Rattle.bench.proofs.RunLaws.{event-bytes, events-none, events-more}
use Rattle.schedule.specs.Files.{got, Contents, file_due}
use Rattle.schedule.specs.Layouts.{two_bytes, event_laid, laid, Bytes, Holdable}
use Rattle.schedule.specs.Claims.{ReadExactly}
use Rattle.schedule.specs.Stops.{Mark, Marked}
use Rattle.schedule.proofs.FileLaws.{FileRead, file-taken, file-got}
use Rattle.schedule.proofs.SectionLaws.{mark-of}
use Rattle.signer.proofs.FromOneLaws.{within_low, within-high}

bytes_rest : (xs ys : List ℕ) → Bytes (xs ++ ys) → Bytes ys
bytes_rest [] ys b = b
bytes_rest (x ∷ xs) ys b = bytes_rest xs ys (λ k d h. b (suc k) d (omega (arith, h)))

-- a number in two bytes
two-read : (m : ℕ) → high_first (m / 256) (m % 256) ≡ m
two-read m = omega arith

two-high : (h l : ℕ) → l < 256 → high_first h l / 256 ≡ h
two-high h l b = omega arith

two-low : (h l : ℕ) → l < 256 → high_first h l % 256 ≡ l
two-low h l b = omega arith

-- so are events
pub length-laid : (es : List Event) → length (flat_map event_laid es) ≡ event_bytes * length es
unfolding flat_map
length-laid [] = refl
length-laid (e ∷ es) = omega (arith, length-laid es)

events-laid : (es : List Event) → events_in (length es) (flat_map event_laid es) ≡ es
unfolding flat_map
events-laid [] = events-none []
events-laid (e ∷ es) = let k = events-more (length es) (flat_map event_laid (e ∷ es)) in rw (events-more, event-bytes, two-read, events-laid es)

laid-events : (k : ℕ) (bs : List ℕ) → Bytes bs → length bs ≡ event_bytes * k → flat_map event_laid (events_in k bs) ≡ bs
unfolding flat_map
laid-events zero [] b e = ap (flat_map event_laid) (events-none [])
laid-events (suc k) (a ∷ b ∷ c ∷ d ∷ h ∷ l ∷ bs) all e =
    let m : l < 256 = all 5 0 (omega arith) in
    let rest : Bytes bs = All-drop (λ b. b < 256) 6 (a ∷ b ∷ c ∷ d ∷ h ∷ l ∷ bs) all in
    rw (events-more, event-bytes, two-high h l m, two-low h l m, laid-events k bs rest (omega arith))
laid-events k bs b e = absurd (omega arith)

-- a schedule that a file can hold is read as itself
pub file-read : (f : Contents) → Holdable limits f → file_due limits (laid f) ≡ got f []
unfolding laid
file-read f h =
    let k = length f.events in
    let n = length f.marks in
    let one = within_low limits.boards n h.boards in
    let seven = within-high limits.boards n h.boards in
    let marks = All-weaker _ Mark (λ m t. mark-of m (leb-true m 1 t)) f.marks h.marks in
    let m : Marked n f.marks = record { front = record { one = one; seven = seven; marks = marks }; full = refl } in
    let r = file-taken n (k / 256) (k % 256) f.marks (flat_map event_laid f.events) m (omega (arith, h.few)) (omega (arith, length-laid f.events)) in
    rw (append_assoc f.marks (two_bytes k) (flat_map event_laid f.events)) (rw (two-read k, events-laid f.events) at r.due)

-- and one that was read is laid out as the file
pub file-laid : (bs : List ℕ) (f : Contents) → FileRead bs f → Bytes bs → bs ≡ laid f
unfolding laid
file-laid bs f r b = r.whole ∙ go (bytes_rest (length f.marks ∷ f.marks) (r.high ∷ r.low ∷ r.rest) (subst Bytes r.whole b))
  where
    k : ℕ
    k = length f.events

    go : Bytes (r.high ∷ r.low ∷ r.rest) → length f.marks ∷ f.marks ++ r.high ∷ r.low ∷ r.rest ≡ laid f
    go b =
        let l : r.low < 256 = b 1 0 (omega arith) in
        let all : Bytes r.rest = All-drop (λ b. b < 256) 2 (r.high ∷ r.low ∷ r.rest) b in
        let high : k / 256 ≡ r.high = omega (arith, l, r.count) in
        let low : k % 256 ≡ r.low = omega (arith, l, r.count) in
        rw (append_assoc f.marks (two_bytes k) (flat_map event_laid f.events), high, low, rw r.events at (laid-events k r.rest all r.size))

-- so a file is read as exactly what its bytes mean
pub read-exactly : ReadExactly
read-exactly = record { exact = λ bs b f rest e. let r = file-got bs f rest e in (file-laid bs f r b, r.holds); whole = file-read }
