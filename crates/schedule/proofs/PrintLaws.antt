-- Laws of what is printed: texts put one after another, and how long the lines are. Assumes nothing.
use Prim.Native.Nat.{◌-◌, ℕ, zero, suc, ◌+◌, ◌*◌, ◌/◌, ◌%◌, ◌≤◌, ◌<◌}
use native.Mathlib.Nat.{zero-add, add-zero}
use native.Mathlib.Numerals.{add-one}
use native.Mathlib.Omega.{arith}
use mir.Syntax.{w8, w16}
use mir.Val.{Fits}
use denote.Ref.{MutBor}
use borrow.Author.Tests.{le-leb}
use mathlib.Core.Path.{◌≡◌, refl, sym, ap, ◌∙◌}
use mathlib.Core.List.{List, [], ◌∷◌, ◌++◌, append_assoc}
use lib.ListN.{length, take, drop, get_or, set, length-append}
use Rattle.std.proofs.lemmas.Bool.Decides.{nat_tests}
use Rattle.std.proofs.lemmas.Fmt.{decimal_digit, decimal_step, length-decimal-le}
use Rattle.std.proofs.lemmas.List.{take_more}
use lib.Seq.{sets, length-sets, sets-eq, take-append_seam, take-add}
use Rattle.std.specs.Prelude.{Ok, Err, true, decimal, if◌then◌else◌, nat_le, nat_lt}
use Rattle.std.proofs.lemmas.Bool.{cond-true}
use Rattle.delivery.specs.Limits.{limits}
use Rattle.bench.specs.declared.show.Shown.{Shown}
use Rattle.bench.specs.Runs.{written}
use Rattle.bench.proofs.RunLaws.{sets-written}
use Rattle.schedule.specs.Files.{most_events, fault_number}
use Rattle.schedule.specs.Prints.{
  parts_to,
  event_line,
  board_line,
  refused_line,
  report_from,
  buffer_from,
  event_line_bytes,
  board_line_bytes,
  longest_print,
}
use Rattle.schedule.specs.Private.{last_digit, digit_if, number_of, AreDigits, PutAt, Puts}
use Rattle.schedule.specs.declared.fault.Fault.{Fault}
use Rattle.schedule.specs.declared.report.TooShort.{TooShort}
use Rattle.schedule.proofs.FaultLaws.{fault-row}

infixr 4 ◌then◌
-- writing one text and then another is writing both as one
sets-append : (xs ys buf : List ℕ) (at : ℕ) → sets (sets buf at xs) (at + length xs) ys ≡ sets buf at (xs ++ ys)
sets-append [] ys buf at = rw add-zero
sets-append (x ∷ xs) ys buf at =
    let e : at + suc (length xs) ≡ suc at + length xs = omega arith in rw e (sets-append xs ys (set buf at x) (suc at))

-- nothing is put by doing nothing
pub put-none : {buf : List ℕ} {at : ℕ} → PutAt [] buf at buf at
put-none = record { place = omega arith; bytes = refl }

-- where a text was put, and then another after it, both were put as one
pub put_then : {xs ys buf buf' buf'' : List ℕ} {at r r' : ℕ}
    → PutAt xs buf at buf' r → PutAt ys buf' r buf'' r' → PutAt (xs ++ ys) buf at buf'' r'
put_then {xs} {ys} {buf} {at = at} p q =
    record {
      place = omega (arith, length-append xs ys, p.place, q.place);
      bytes = rw (q.bytes, p.bytes, p.place) (sets-append xs ys buf at);
    }

-- the same of calls that put texts into one buffer: nothing, two texts, and one byte more of a text
pub puts_none : {out : MutBor (List ℕ)} {at : ℕ} → Puts [] out at out at
puts_none = record { text = put-none; same = refl }

pub ◌then◌ : {xs ys : List ℕ} {out out' out'' : MutBor (List ℕ)} {at r r' : ℕ}
    → Puts xs out at out' r → Puts ys out' r out'' r' → Puts (xs ++ ys) out at out'' r'
◌then◌ p q = record { text = put_then p.text q.text; same = q.same ∙ p.same }

pub puts_more : {out out' out'' : MutBor (List ℕ)} {at r r' : ℕ} (text : List ℕ) (k : ℕ) → k < length text
    → Puts (take k text) out at out' r → Puts (get_or text k 0 ∷ []) out' r out'' r' → Puts (take (k + 1) text) out at out'' r'
puts_more text k there p q = rw (take_more text k 0 there) (p then q)

-- the place is that much further, and the buffer as long as it was
pub put_size : {xs buf buf' : List ℕ} {at r : ℕ} → PutAt xs buf at buf' r → (r ≡ at + length xs) × (length buf' ≡ length buf)
put_size {xs} {buf} {at = at} p = (p.place, rw p.bytes (length-sets buf at xs))

-- A number's decimal is its last digit, after that of a tenth of it, and so on, as far as these are not 0.
front : ℕ → List ℕ
front m = if nat_le 1 m then decimal m else []

front-more : (m tenth : ℕ) → Fits w16 m → m / 10 ≡ tenth → front m ≡ front tenth ++ last_digit m
unfolding front last_digit
front-more m tenth f e = grind (arith, nat_tests, decimal_digit, decimal_step)

front-last : (m : ℕ) → Fits w16 m → decimal m ≡ front (m / 10) ++ (48 + m % 10) ∷ []
unfolding front
front-last m f = grind (arith, nat_tests, decimal_digit, decimal_step)

pub number-digits : (m : ℕ) → Fits w16 m → decimal m
    ≡ (((last_digit (m / 10 / 10 / 10 / 10) ++ last_digit (m / 10 / 10 / 10)) ++ last_digit (m / 10 / 10)) ++ last_digit (m / 10))
    ++ (48 + (m - 10 * (m / 10))) ∷ []
unfolding front
number-digits m f =
    let one : m % 10 ≡ m - 10 * (m / 10) = omega arith in
    rw (
      front-last m f,
      front-more (m / 10) (m / 10 / 10) (omega arith) (omega arith),
      front-more (m / 10 / 10) (m / 10 / 10 / 10) (omega arith) (omega arith),
      front-more (m / 10 / 10 / 10) (m / 10 / 10 / 10 / 10) (omega arith) (omega arith),
      front-more (m / 10 / 10 / 10 / 10) 0 (omega arith) (omega arith),
      one,
    )
    refl

-- a number of two digits
pub two-digits : (m : ℕ) → Fits w16 m → 10 ≤ m → m / 10 < 10
    → decimal m ≡ ((48 + m / 10) ∷ []) ++ (48 + (m - 10 * (m / 10))) ∷ []
unfolding front
two-digits m f l h =
    let one : m % 10 ≡ m - 10 * (m / 10) = omega arith in
    let some : nat_le 1 (m / 10) ≡ true = grind (arith, nat_tests) in
    front-last m f ∙ rw (some, decimal_digit (m / 10) h, one) refl

pub length-digits : (m : ℕ) → Fits w16 m → length (decimal m)
    ≡ length (last_digit (m / 10 / 10 / 10 / 10)) + length (last_digit (m / 10 / 10 / 10)) + length (last_digit (m / 10 / 10))
    + length (last_digit (m / 10)) + 1
length-digits m f = rw (number-digits m f) (simp length-append (omega arith))

pub ruleset number_digits = (length-digits)

-- Where the digits stand there, one is shown if it or one before it is not 0, as their sum up to it tells: that is 0 only
-- where the number that they write up to it is.
digit-shown : (m shown digit : ℕ) → m % 10 ≡ digit → shown ≤ m → m ≤ 100 * shown → last_digit m ≡ digit_if (nat_lt 0 shown) digit
unfolding last_digit digit_if
digit-shown m shown digit e few many = grind (arith, nat_tests)

pub counter-digits : (t h e o : ℕ) → AreDigits t h e o → decimal (number_of t h e o)
    ≡ ((digit_if (nat_lt 0 t) t ++ digit_if (nat_lt 0 (t + h)) h) ++ digit_if (nat_lt 0 (t + h + e)) e) ++ (48 + o) ∷ []
unfolding front
counter-digits t h e o d =
    let m = number_of t h e o in
    let one : m % 10 ≡ o = omega (arith, d) in
    let tens : m / 10 ≡ 100 * t + 10 * h + e = omega (arith, d) in
    rw (
      front-last m (omega (arith, d)),
      one,
      tens,
      front-more (100 * t + 10 * h + e) (10 * t + h) (omega (arith, d)) (omega (arith, d)),
      front-more (10 * t + h) t (omega (arith, d)) (omega (arith, d)),
      front-more t 0 (omega (arith, d)) (omega (arith, d)),
      digit-shown (100 * t + 10 * h + e) (t + h + e) e (omega (arith, d)) (omega arith) (omega arith),
      digit-shown (10 * t + h) (t + h) h (omega (arith, d)) (omega arith) (omega arith),
      digit-shown t t t (omega (arith, d)) (omega arith) (omega arith),
    )
    refl

pub length-counter : (t h e o : ℕ) → AreDigits t h e o → length (decimal (number_of t h e o))
    ≡ length (digit_if (nat_lt 0 t) t) + length (digit_if (nat_lt 0 (t + h)) h) + length (digit_if (nat_lt 0 (t + h + e)) e) + 1
length-counter t h e o d = rw (counter-digits t h e o d) (simp length-append (omega arith))

pub ruleset counter_digits = (length-counter)

-- a line is within its most bytes, since a number below a power of ten has at most as many digits as the power has zeros
pub event-within : (k a : ℕ) → k ≤ most_events → Fits w8 a → length (event_line k a) ≤ event_line_bytes
unfolding event_line
event-within k a h f =
    let number = length-decimal-le 4 k (omega arith) (omega arith) (omega arith) in
    let answer = length-decimal-le 3 a (omega arith) (omega arith) (omega arith) in
    simp length-append (omega (arith, number, answer))

pub board-within : (k : ℕ) (s : Shown) → k ≤ limits.boards → Fits w8 s.round.0 → Fits w16 s.value
    → length (board_line k s) ≤ board_line_bytes
unfolding board_line
board-within k s h f g =
    let number = length-decimal-le 1 k (omega arith) (omega arith) (omega arith) in
    let round = length-decimal-le 3 s.round.0 (omega arith) (omega arith) (omega arith) in
    let value = length-decimal-le 5 s.value (omega arith) (omega arith) (omega arith) in
    simp length-append (omega (arith, number, round, value))

-- a refused file's line is within the longest report
pub refused-within : (f : Fault) → length (refused_line f) ≤ longest_print limits
unfolding refused_line
refused-within f =
    let row = (fault-row f).1 in
    let number = length-decimal-le 1 (fault_number f) (omega arith) (omega (arith, row)) (omega (arith, row)) in
    simp length-append (omega (arith, number))

pub ruleset line_bounds = (event-within, board-within, refused-within)

-- before any part nothing is put, and after k parts one part more makes k + 1, also after another text
pub parts_none : {out : MutBor (List ℕ)} {at : ℕ} (f : ℕ → List ℕ) → Puts (parts_to 0 f) out at out at
unfolding parts_to
parts_none f = puts_none

pub parts_more : (f : ℕ → List ℕ) (k : ℕ) → parts_to (k + 1) f ≡ parts_to k f ++ f (k + 1)
unfolding parts_to
parts_more f k = rw add-one

pub parts_then : {out out' out'' : MutBor (List ℕ)} {at r r' : ℕ} (xs : List ℕ) (f : ℕ → List ℕ) (k j : ℕ) → k ≡ j + 1
    → Puts (xs ++ parts_to j f) out at out' r → Puts (f k) out' r out'' r' → Puts (xs ++ parts_to k f) out at out'' r'
parts_then xs f k j e p q = rw (e, parts_more f j, ← append_assoc xs (parts_to j f) (f (j + 1))) (p then rw e at q)

-- n parts of one size have n times that size
pub length-parts : (size n : ℕ) (f : ℕ → List ℕ) → ((k : ℕ) → length (f k) ≡ size) → length (parts_to n f) ≡ n * size
unfolding parts_to
length-parts size zero f e = omega arith
length-parts size (suc n) f e =
    omega (arith, length-append (parts_to n f) (f (suc n)), length-parts size n f e, e (suc n))

-- and where each is the next so many of a list, they are the head of that list
pub parts-cut : (size n : ℕ) (f : ℕ → List ℕ) (xs : List ℕ)
    → ((k : ℕ) → k < n → f (k + 1) ≡ take size (drop (size * k) xs)) → parts_to n f ≡ take (size * n) xs
unfolding parts_to
parts-cut size zero f xs e = let none : size * 0 ≡ 0 = omega arith in rw none refl
parts-cut size (suc n) f xs e =
    let next : size * suc n ≡ size * n + size = omega arith in
    let last : f (suc n) ≡ take size (drop (size * n) xs) = rw (← add-one n) (e n (omega arith)) in
    rw (next, take-add (size * n) size xs, ← parts-cut size n f xs (λ k h. e k (omega (arith, h))), ← last) refl

-- where the buffer is too short, it stays; where it is not, the text is written at its start
pub buffer-short : (text buf : List ℕ) → length buf < length text → buf ≡ buffer_from text buf
unfolding buffer_from
buffer-short text buf h = grind (arith, nat_tests)

pub buffer-written : {text buf buf' : List ℕ} {r : ℕ} → length text ≤ length buf → PutAt text buf 0 buf' r → buf' ≡ buffer_from text buf
unfolding buffer_from
buffer-written {text} {buf} h p = rw p.bytes (sets-written text buf h ∙ sym (cond-true _ _ _ (le-leb (length text) (length buf) h)))

-- a report that has room is written, and says its length; one that has none says it too, from a text put nowhere
pub report-written : {text buf buf' : List ℕ} {r : ℕ} → length text ≤ length buf → PutAt text buf 0 buf' r
    → (Ok r ≡ report_from text (length buf)) × (buf' ≡ buffer_from text buf)
unfolding report_from
report-written {text} {buf} h p =
    let told = p.place ∙ zero-add (length text) in
    (ap Ok told ∙ sym (cond-true _ _ _ (le-leb (length text) (length buf) h)), buffer-written h p)

pub report-short : {text none none' : List ℕ} {r : ℕ} (room : ℕ) → room < r → PutAt text none 0 none' r
    → Err (record { needed = r }) ≡ report_from text room
unfolding report_from
report-short {text} room h p = let told = p.place ∙ zero-add (length text) in rw told (grind (arith, nat_tests))

-- either way a report tells the length
pub told-written : (text : List ℕ) (room r : ℕ) → Ok r ≡ report_from text room → r ≡ length text
unfolding report_from
told-written text room r e = grind (arith, nat_tests)

pub told-short : (text : List ℕ) (room : ℕ) (r : TooShort) → Err r ≡ report_from text room → r.needed ≡ length text
unfolding report_from
told-short text room r e = grind (arith, nat_tests)

pub ruleset report_lengths = (told-written, told-short)

-- with room for it there is no failing, and the text is what stands at the start
pub never-short : (text : List ℕ) (room : ℕ) (r : TooShort) → length text ≤ room → Err r ≡ report_from text room → ⊥
unfolding report_from
never-short text room r h e = grind (arith, nat_tests)

-- what was written in place of the first is what stands there
pub take-written : (xs ys : List ℕ) → length xs ≤ length ys → take (length xs) (written xs ys) ≡ xs
take-written xs ys h =
    rw (← sets-written xs ys h, sets-eq xs ys 0 (omega arith)) (take-append_seam xs (drop (0 + length xs) ys))

pub text-first : (text buf : List ℕ) → length text ≤ length buf → take (length text) (buffer_from text buf) ≡ text
unfolding buffer_from
text-first text buf h = rw (cond-true _ _ _ (le-leb (length text) (length buf) h)) (take-written text buf h)
