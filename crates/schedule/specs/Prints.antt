-- What is printed, as bytes. A number is printed as std's `decimal` of it: with no zero in front, and 0 as `0`. That is
-- all of it for at most 64 digits.
use Rattle.std.specs.Prelude.{ℕ, zero, suc, ◌+◌, ◌*◌, List, [], ◌∷◌, ◌++◌, length, Result, Ok, Err, nat_le}
use Rattle.signer.specs.FromOne.{nth}
use Rattle.std.specs.Prelude.{if◌then◌else◌, decimal}
use Rattle.delivery.specs.Limits.{Limits}
use Rattle.bench.specs.Runs.{after, answers_to, written}
use Rattle.bench.specs.Shows.{letter_byte, shown}
use Rattle.bench.specs.declared.bench.Bench.{Bench}
use Rattle.bench.specs.declared.show.Shown.{Shown}
use Rattle.schedule.specs.Files.{fault_number, most_events, Reading, Contents, first_bench, file_due}
use Rattle.schedule.specs.declared.fault.Fault.{Fault}
use Rattle.schedule.specs.declared.report.TooShort.{TooShort}

-- a line: words with a space between two, and the line end
abbrev pub space : ℕ
space = 32

abbrev pub line_end : ℕ
line_end = 10

abbrev pub line : List (List ℕ) → List ℕ
line [] = line_end ∷ []
line (w ∷ []) = w ++ line_end ∷ []
line (w ∷ x ∷ ws) = w ++ space ∷ line (x ∷ ws)

-- parts 1 to n, one after another
unfoldable pub parts_to : ℕ → (ℕ → List ℕ) → List ℕ
parts_to zero f = []
parts_to (suc k) f = parts_to k f ++ f (suc k)

-- an event's line: its number, and its answer
unfoldable pub event_line : ℕ → ℕ → List ℕ
event_line k answer = line (decimal k ∷ decimal answer ∷ [])

-- a board's line: its number, its letter, and the round and value that go with the letter
unfoldable pub board_line : ℕ → Shown → List ℕ
board_line k s =
    line (decimal k ∷ (letter_byte s.letter ∷ []) ∷ decimal s.round.0 ∷ decimal s.value ∷ [])

-- the lines of so many events, by their answers, and of so many boards
abbrev pub event_lines : ℕ → List ℕ → List ℕ
event_lines count answers = parts_to count (λ k. event_line k (nth answers k 0))

abbrev pub board_lines : Limits → ℕ → Bench → List ℕ
board_lines L n c = parts_to n (λ k. board_line k (shown L c k))

-- the word `refused`
abbrev pub refused_word : List ℕ
refused_word = 114 ∷ 101 ∷ 102 ∷ 117 ∷ 115 ∷ 101 ∷ 100 ∷ []

unfoldable pub refused_line : Fault → List ℕ
refused_line f = line (refused_word ∷ decimal (fault_number f) ∷ [])

-- a file's whole report: a line per event and a line per board, after its events were played from the fresh bench of its
-- marks; a refused file's only line
unfoldable pub printed_from : Limits → Reading Contents → List ℕ
printed_from L (Ok (f, rest)) =
    let c = first_bench L f in
    event_lines (length f.events) (answers_to L c f.events)
    ++ board_lines L (length f.marks) (after L c f.events)
printed_from L (Err f) = refused_line f

abbrev pub printed : Limits → List ℕ → List ℕ
printed L bs = printed_from L (file_due L bs)

-- The report puts it at the start of a lent buffer, and the rest of the buffer stays. Where there is too little room it
-- writes nothing. Either way it says how many bytes there are to print.
unfoldable pub report_from : List ℕ → ℕ → Result ℕ TooShort
report_from text room = if nat_le (length text) room then Ok (length text) else Err (record { needed = length text })

unfoldable pub buffer_from : List ℕ → List ℕ → List ℕ
buffer_from text buf = if nat_le (length text) (length buf) then written text buf else buf

-- So much is printed at most: an event's line has four digits, a space, three digits and the line end, and a board's has
-- one digit, its letter, three and five digits, three spaces and the line end.
abbrev pub event_line_bytes : ℕ
event_line_bytes = 9

abbrev pub board_line_bytes : ℕ
board_line_bytes = 14

abbrev pub longest_print : Limits → ℕ
longest_print L = most_events * event_line_bytes + L.boards * board_line_bytes
