-- A bench in words: each number that it holds in a place of its own, so that a second model can be compared with it.
-- A row begins with an answer, and then has the bench.
use Rattle.std.specs.Prelude.{ℕ, List, [], ◌∷◌, ◌++◌}
use Rattle.delivery.specs.Limits.{Limits}
use Rattle.delivery.specs.Owed.{receivers}
use Rattle.vote.specs.declared.board.Board.{Board}
use Rattle.vote.specs.declared.board.Status.{Status}
use Rattle.vote.specs.declared.board.Status.TheVariants.{Idle, Voting, Spent, Decided}
use Rattle.vote.specs.declared.board.Decision.{Decision}
use Rattle.vote.specs.declared.position.Position.{Position}
use Rattle.vote.specs.declared.position.Stage.{Stage}
use Rattle.vote.specs.declared.position.Stage.TheVariants.{Open, Vote, Count}
use Rattle.bench.specs.Benches.{board_at, signer_at, heard_by, signed_by}
use Rattle.bench.specs.declared.bench.Bench.{Bench}
use Rattle.schedule.specs.Prints.{parts_to}

-- a status and a stage by number
unfoldable pub status_number : Status → ℕ
status_number Idle = 0
status_number Voting = 1
status_number Spent = 2
status_number (Decided d) = 3

unfoldable pub stage_number : Stage → ℕ
stage_number Open = 0
stage_number Vote = 1
stage_number Count = 2

-- what was decided; for a board that has not decided, 0 in round 0
unfoldable pub decision : Status → Decision
decision Idle = record { round = record { 0 = 0 }; value = 0 }
decision Voting = record { round = record { 0 = 0 }; value = 0 }
decision Spent = record { round = record { 0 = 0 }; value = 0 }
decision (Decided d) = d

-- a board: its status and what it decided; its round, estimate and stage, and the boards that it suspects; and the highest
-- identifier that its signer signed
unfoldable pub status_words : Status → List ℕ
status_words x = status_number x ∷ (decision x).round.0 ∷ (decision x).value ∷ []

unfoldable pub position_words : Position → List ℕ
position_words p = p.round.0 ∷ p.estimate ∷ stage_number p.stage ∷ p.suspected ∷ []

unfoldable pub board_words : Board → ℕ → List ℕ
board_words b last = status_words b.status ++ position_words b.position ++ last ∷ []

-- f 1 to f n
abbrev pub words_to : ℕ → (ℕ → ℕ) → List ℕ
words_to n f = parts_to n (λ k. f k ∷ [])

-- a table: for each speaker a word for each identifier
unfoldable pub table_words : Limits → (ℕ → ℕ → ℕ) → List ℕ
table_words L f = parts_to L.boards (λ s. words_to L.identifiers (f s))

-- every board, and what each delivered
abbrev pub boards_words : Limits → Bench → List ℕ
boards_words L c = parts_to L.boards (λ k. board_words (board_at L c k) (signer_at L c k).last.0)

abbrev pub delivered_words : Limits → Bench → List ℕ
delivered_words L c = parts_to L.boards (λ k. table_words L (heard_by L c k))

-- A row: the answer, n and the sound boards; each board; the entries that each board's signer signed; for each board
-- those that it delivered; and the sets of boards to which copies are owed.
unfoldable pub row : Limits → ℕ → Bench → List ℕ
row L answer c =
    (answer ∷ c.n ∷ c.sound ∷ [])
    ++ boards_words L c
    ++ table_words L (signed_by L c)
    ++ delivered_words L c
    ++ table_words L (receivers L c.owed)
