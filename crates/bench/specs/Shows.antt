-- Document 01, "Schedule file and program": what a bench shows of a board, and the letters.
use Rattle.std.specs.Prelude.{ℕ, if◌then◌else◌}
use Rattle.signer.specs.FromOne.{is_within}
use Rattle.delivery.specs.Limits.{Limits}
use Rattle.vote.specs.declared.position.Position.{Position}
use Rattle.vote.specs.declared.board.Status.{Status}
use Rattle.vote.specs.declared.board.Status.TheVariants.{Idle, Voting, Spent, Decided}
use Rattle.bench.specs.Benches.{is_sound, board_at}
use Rattle.bench.specs.declared.bench.Bench.{Bench}
use Rattle.bench.specs.declared.show.Shown.{Shown}
use Rattle.bench.specs.declared.show.Letter.{Letter}
use Rattle.bench.specs.declared.show.Letter.TheVariants as letter

-- the letters F, N, W, X and D, as bytes; a hyphen stands for a number that is no board of the bench
unfoldable pub letter_byte : Letter → ℕ
letter_byte letter.Faulty = 70
letter_byte letter.NotStarted = 78
letter_byte letter.Voting = 87
letter_byte letter.Spent = 88
letter_byte letter.Decided = 68
letter_byte letter.Absent = 45

abbrev pub plain : Letter → ℕ → ℕ → Shown
plain x r v = record { letter = x; round = record { 0 = r }; value = v }

abbrev pub decided_as : ℕ → ℕ → Shown
decided_as r v = plain letter.Decided r v

-- a sound board: its round and estimate once it has started, and the decided round and value once it has decided
unfoldable pub standing : Position → Status → Shown
standing p Idle = plain letter.NotStarted 0 0
standing p Voting = plain letter.Voting p.round.0 p.estimate
standing p Spent = plain letter.Spent p.round.0 p.estimate
standing p (Decided d) = decided_as d.round.0 d.value

unfoldable pub shown : Limits → Bench → ℕ → Shown
shown L c k =
    if is_within c.n k
    then (if is_sound c k
    then standing (board_at L c k).position (board_at L c k).status
    else plain letter.Faulty 0 0)
    else plain letter.Absent 0 0
