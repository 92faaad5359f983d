-- What private calls alone promise by; whoever believes the open calls need not read it.
use Rattle.std.specs.Prelude.{ℕ, Bool, ◌+◌, ◌*◌, ◌%◌, ◌≤◌, ◌≡◌, List, [], ◌∷◌, ◌++◌, length, Result, Ok, Err, if◌then◌else◌, nat_le}
use denote.Ref.{MutBor}
use Rattle.std.proofs.lemmas.List.Edits.{sets}
use Rattle.delivery.specs.Limits.{Limits}
use Rattle.bench.specs.declared.bench.Bench.{Bench}
use Rattle.schedule.specs.Files.{most_events}
use Rattle.schedule.specs.Prints.{event_lines, board_lines, refused_line}
use Rattle.schedule.specs.declared.fault.Fault.{Fault}
use Rattle.schedule.specs.declared.report.Report.{Report}

-- What the calls within make of a file that was read and played, or is refused: the lines of it, and that there are no more
-- of them than there can be.
abbrev pub report_lines : Limits → ℕ → List ℕ → Bench → List ℕ
report_lines L n answers c = event_lines (length answers) answers ++ board_lines L n c

abbrev pub report_text : Limits → Result Report Fault → List ℕ
report_text L (Ok r) = report_lines L r.n r.answers.now r.bench.now
report_text L (Err f) = refused_line f

abbrev pub IsWithin : Limits → Report → Type 0
IsWithin L r = (length r.answers.now ≤ most_events) × (r.n ≤ L.boards)

-- the last digit of a number; none of 0
unfoldable pub last_digit : ℕ → List ℕ
last_digit m = if nat_le 1 m then (48 + m % 10) ∷ [] else []

-- a digit in ASCII, if it is one to be shown
unfoldable pub digit_if : Bool → ℕ → List ℕ
digit_if shown d = if shown then (48 + d) ∷ [] else []

-- the number of four digits, each of which is at most 9
abbrev pub number_of : ℕ → ℕ → ℕ → ℕ → ℕ
number_of t h e o = 1000 * t + 100 * h + 10 * e + o

abbrev pub AreDigits : ℕ → ℕ → ℕ → ℕ → Type 0
AreDigits t h e o = (t ≤ 9) × (h ≤ 9) × (e ≤ 9) × (o ≤ 9)

-- What the calls within that write a part of it promise: the text stands in the buffer from a place on, as far as the
-- buffer goes, and the place after it is told.
pub record PutAt (text buf : List ℕ) (at : ℕ) (buf' : List ℕ) (after : ℕ) : Type 0 where
  pub place : after ≡ at + length text
  pub bytes : buf' ≡ sets buf at text

-- And the buffer is still the one that was lent.
pub record Puts (xs : List ℕ) (out : MutBor (List ℕ)) (at : ℕ) (out' : MutBor (List ℕ)) (after : ℕ) : Type 0 where
  pub text : PutAt xs out.now at out'.now after
  pub same : out'.ghost_name ≡ out.ghost_name
