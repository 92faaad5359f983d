-- Worked examples of a board's turns, with the numbers that they come to. They are claimed in src/claims, and computed in
-- proofs/ExampleLaws.
use Rattle.std.specs.Prelude.{ℕ, ◌≡◌, List, [], ◌∷◌, ◌++◌, Option, Some}
use Rattle.delivery.specs.Limits.{limits}
use Rattle.delivery.specs.Delivered.{nothing_delivered, heard}
use Rattle.vote.specs.Boards.{decision_of}
use Rattle.vote.specs.Turns.{turn_answer, turn}
use Rattle.vote.specs.Calls.{Call, proposal, own_turn, delivery, announcement, suspicion, restored-trust, board_after}
use Rattle.vote.specs.declared.statement.Statement.{Statement}
use Rattle.vote.specs.declared.board.Status.TheVariants.{Idle, Decided}
use Rattle.vote.specs.declared.position.Stage.TheVariants.{Open}

-- the turn of board `me` of n after some calls to a fresh one: its answer, as the number in the table, and what is signed
abbrev pub answer : ℕ → ℕ → List Call → ℕ
answer n me cs = turn_answer (turn limits n me (board_after n me cs)).answer

abbrev pub signed : ℕ → ℕ → List Call → Option Statement
signed n me cs = (turn limits n me (board_after n me cs)).signed

-- what board s says under an identifier
abbrev pub statement : ℕ → ℕ → ℕ → Statement
statement s i v = record { speaker = s; id = record { 0 = i }; value = v }

-- it arrives
abbrev pub arrives : ℕ → ℕ → ℕ → Call
arrives s i v = delivery (statement s i v)

-- Of one board: it proposes 700, and three turns later has decided it in round 1. This is what letter l comes to at the
-- board.
abbrev pub alone : List Call
alone = proposal 700 ∷ own_turn ∷ own_turn ∷ own_turn ∷ []

-- Of three, board 2: board 1 opens round 1 with 41, boards 1 and 2 give their ballots for it, and board 3 is silent.
abbrev pub silent : List Call
silent = proposal 40 ∷ own_turn ∷ arrives 1 1 41 ∷ own_turn ∷ arrives 1 2 41 ∷ []

-- Of three, board 3: it suspects board 1 and votes blank in round 1; then that round's opening and board 1's ballot
-- arrive, both with 41, and it goes to round 2, which board 2 opens with 40. This is the incident.
abbrev pub incident : List Call
incident =
    proposal 40
    ∷ suspicion 1
    ∷ suspicion 2
    ∷ own_turn
    ∷ own_turn
    ∷ arrives 1 1 41
    ∷ arrives 1 2 41
    ∷ own_turn
    ∷ own_turn
    ∷ arrives 2 3 40
    ∷ own_turn
    ∷ []

pub record Examples : Type 0 where
  -- a fresh board; one whose first proposal counts, and one to which the blank was proposed; and whom one suspects, as a mask
  pub fresh : board_after 1 1 []
      ≡ record {
        position = record { round = record { 0 = 0 }; estimate = 0; stage = Open; suspected = 0 };
        delivered = nothing_delivered limits;
        status = Idle;
      }
  pub proposes : (board_after 1 1 (proposal 700 ∷ proposal 701 ∷ [])).position
      ≡ record { round = record { 0 = 1 }; estimate = 700; stage = Open; suspected = 0 }
  pub blank : (board_after 1 1 (proposal 0 ∷ [])).status ≡ Idle
  pub suspects : (board_after 3 1 (suspicion 1 ∷ suspicion 2 ∷ suspicion 3 ∷ restored-trust 1 ∷ [])).position.suspected ≡ 6
  -- each number that a turn is answered with: taken, not started, ended, waiting
  pub taken : answer 1 1 (proposal 700 ∷ []) ≡ 0
  pub not_started : answer 1 1 [] ≡ 15
  pub ended : answer 1 1 alone ≡ 16
  pub waits : answer 3 2 silent ≡ 22
  pub letter-l : (board_after 1 1 alone).status ≡ Decided (decision_of 1 700)
  -- it signs the opening under identifier 1, and its ballot under 2
  pub opens : signed 1 1 (proposal 700 ∷ []) ≡ Some (statement 1 1 700)
  pub ballots : signed 1 1 (proposal 700 ∷ own_turn ∷ []) ≡ Some (statement 1 2 700)
  -- a board waits for one that is silent and that it does not suspect, and decides once it does
  pub decides : (board_after 3 2 (silent ++ suspicion 3 ∷ own_turn ∷ [])).status ≡ Decided (decision_of 1 41)
  -- the third board takes 41 for its estimate, and its ballot of round 2, under identifier 4, is blank: 1 stands for that in a log
  pub estimate : (board_after 3 3 incident).position.estimate ≡ 41
  pub ballot : heard limits (board_after 3 3 incident).delivered 3 4 ≡ 1
  -- and when board 2's ballot of round 1 arrives, it believes that 41 was decided in round 1, and not that 40 was in round 2
  pub announced : (board_after 3 3 (incident ++ arrives 2 2 41 ∷ announcement 2 40 ∷ announcement 1 41 ∷ [])).status ≡ Decided (decision_of 1 41)
