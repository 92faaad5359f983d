-- What is claimed of every list of bytes. src/claims shows it, with nothing assumed, and the calls that report a file promise
-- of it what concerns them.
use Rattle.std.specs.Prelude.{ℕ, ◌+◌, ◌<◌, ◌≡◌, List, [], ◌∷◌, ◌++◌, ◌↔◌, length, take, codes, Ok}
use Rattle.delivery.specs.Limits.{limits}
use Rattle.bench.specs.Setups.{fresh_answer}
use Rattle.bench.specs.Runs.{after, answers_to}
use Rattle.bench.specs.Story.{history_of}
use Rattle.bench.specs.Claim.{Agreement}
use Rattle.schedule.specs.Files.{file_number, got, Contents, first_bench, file_due, answer_of, longest_file}
use Rattle.schedule.specs.Layouts.{laid, Bytes, Holdable}
use Rattle.schedule.specs.Stops.{Answered}
use Rattle.schedule.specs.Prints.{event_lines, board_lines, printed, longest_print}

-- the number that a file is answered with
abbrev pub number_of : List ℕ → ℕ
number_of bs = file_number (answer_of (file_due limits bs))

-- The two texts of it say the same. So each file is taken or has one number of 1 to 5, and only one.
abbrev pub Answering : Type 0
Answering = (bs : List ℕ) (m : ℕ) → (number_of bs ≡ m) ↔ Answered bs m

-- A file is read as exactly what its bytes mean. What it is read as, laid out in bytes, is the file itself; and every
-- schedule that a file can hold, laid out in bytes, is read as itself.
pub record ReadExactly : Type 0 where
  pub exact : (bs : List ℕ) → Bytes bs → (f : Contents) (rest : List ℕ) → file_due limits bs ≡ got f rest → (bs ≡ laid f) × Holdable limits f
  pub whole : (f : Contents) → Holdable limits f → file_due limits (laid f) ≡ got f []

-- No more of a file is looked at than the longest that can be taken, and one byte.
abbrev pub LookedAt : Type 0
LookedAt = (bs : List ℕ) → file_due limits (take (longest_file limits + 1) bs) ≡ file_due limits bs

-- A file that is taken gets its fresh bench. The report is a line for each event, with the answer, and one for each board,
-- as the bench then shows it, as Prints has it; and of these answers and this bench, agreement is so.
pub record Plays (f : Contents) (text : List ℕ) : Type 0 where
  pub made : fresh_answer limits (length f.marks) f.marks ≡ Ok tt
  pub report : let c = first_bench limits f in
      text ≡ event_lines (length f.events) (answers_to limits c f.events) ++ board_lines limits (length f.marks) (after limits c f.events)
  pub agreement : let c = first_bench limits f in
      Agreement limits (length f.marks) f.marks (history_of f.events (answers_to limits c f.events)) (after limits c f.events)

-- The report of one that is refused is the word `refused`, a space, the digit of its number and the line end, and nothing else.
-- Either way a report ends with a line end, so there is always one.
pub record Reports (bs text : List ℕ) : Type 0 where
  pub taken : (f : Contents) (rest : List ℕ) → file_due limits bs ≡ got f rest → Plays f text
  pub refused : (m : ℕ) → 0 < m → Answered bs m → text ≡ codes "refused " ++ (48 + m) ∷ codes "\n"
  pub ends : (front : List ℕ) × (text ≡ front ++ codes "\n")

abbrev pub Reporting : Type 0
Reporting = (bs : List ℕ) → Reports bs (printed limits bs)

-- the bytes of the longest file that is taken, and of a buffer that has room for any report
abbrev pub Sizes : Type 0
Sizes = (longest_file limits ≡ 24586) × (longest_print limits ≡ 36962)
