-- Document 01, "A board's turns" and the rows of its table that speak of turns: what a turn does to the board, how it is
-- answered, and what the board signs.
use Rattle.std.specs.Prelude.{ℕ, Option, None, Some, Result, Ok, Err}
use Rattle.delivery.specs.Limits.{Limits}
use Rattle.delivery.specs.Rounds.{next_round, identifier_of}
use Rattle.delivery.specs.Delivered.{heard}
use Rattle.delivery.specs.declared.delivered.Delivered.{Delivered}
use Rattle.delivery.specs.declared.round.Phase.{Phase}
use Rattle.delivery.specs.declared.round.Phase.TheVariants.{Opening, Ballot}
use Rattle.vote.specs.Boards.{decision_of, hears}
use Rattle.vote.specs.Rule.{rule}
use Rattle.vote.specs.declared.position.Position.{Position}
use Rattle.vote.specs.declared.position.Stage.{Stage}
use Rattle.vote.specs.declared.position.Stage.TheVariants.{Open, Vote, Count}
use Rattle.vote.specs.declared.rule.Move.{Move}
use Rattle.vote.specs.declared.rule.Move.TheVariants.{Waits, Passes, Opens, Ballots, Decides, Advances, Expires}
use Rattle.vote.specs.declared.statement.Statement.{Statement}
use Rattle.vote.specs.declared.board.Board.{Board}
use Rattle.vote.specs.declared.board.Status.{Status}
use Rattle.vote.specs.declared.board.Status.TheVariants.{Idle, Voting, Spent, Decided}
use Rattle.vote.specs.declared.turn.Refusal.{Refusal}
use Rattle.vote.specs.declared.turn.Refusal.TheVariants.{NotStarted, Ended, Waiting}
use Rattle.vote.specs.declared.turn.Turn.{Turn}

-- the numbers of the refusals in document 01's table
unfoldable pub turn_number : Refusal → ℕ
turn_number NotStarted = 15
turn_number Ended = 16
turn_number Waiting = 22

-- The number of an answer, of whatever may be refused: 0 where it is not, else the refusal's.
abbrev pub numbered : {R : Type 0} → (R → ℕ) → Result (Unit {0}) R → ℕ
numbered number (Ok done) = 0
numbered number (Err refusal) = number refusal

-- and so of a turn
unfoldable pub turn_answer : Result (Unit {0}) Refusal → ℕ
turn_answer a = numbered turn_number a

-- a turn in which the board waits is answered so, and every other is done
unfoldable pub answer_to : Move → Result (Unit {0}) Refusal
answer_to Waits = Err Waiting
answer_to Passes = Ok tt
answer_to (Opens v) = Ok tt
answer_to (Ballots v) = Ok tt
answer_to (Decides v) = Ok tt
answer_to (Advances v) = Ok tt
answer_to (Expires v) = Ok tt

-- where the board stands afterwards: at stage B after A, at C after B, at A of the next round with the new estimate, or
-- where it was; a board that is spent has taken the new estimate
unfoldable pub at_stage : Position → Stage → Position
at_stage p s = record p { stage = s }

unfoldable pub position_after : Limits → Move → Position → Position
position_after L Waits p = p
position_after L Passes p = at_stage p Vote
position_after L (Opens v) p = at_stage p Vote
position_after L (Ballots v) p = at_stage p Count
position_after L (Decides v) p = p
position_after L (Advances v) p =
    record p { round = record { 0 = next_round L p.round.0 }; estimate = v; stage = Open }
position_after L (Expires v) p = record p { estimate = v }

-- how far it is afterwards, where it was voting in round r
unfoldable pub status_after : ℕ → Move → Status
status_after r Waits = Voting
status_after r Passes = Voting
status_after r (Opens v) = Voting
status_after r (Ballots v) = Voting
status_after r (Decides v) = Decided (decision_of r v)
status_after r (Advances v) = Voting
status_after r (Expires v) = Spent

-- the opening or the ballot of round r that board s gives with value v
abbrev pub statement_of : Limits → ℕ → Phase → ℕ → ℕ → Statement
statement_of L s p r v = record { speaker = s; id = record { 0 = identifier_of L p r }; value = v }

-- what board `me` signs in round r: one of these, or nothing
unfoldable pub said_in : Limits → ℕ → ℕ → Move → Option Statement
said_in L me r Waits = None
said_in L me r Passes = None
said_in L me r (Opens v) = Some (statement_of L me Opening r v)
said_in L me r (Ballots v) = Some (statement_of L me Ballot r v)
said_in L me r (Decides v) = None
said_in L me r (Advances v) = None
said_in L me r (Expires v) = None

-- what it has delivered once it heard itself
unfoldable pub hears_own : Limits → Delivered → Option Statement → Delivered
hears_own L d None = d
hears_own L d (Some s) = hears L d s

-- a turn that is not taken leaves the board as it was
abbrev pub refuse : Board → Refusal → Turn
refuse b r = record { board = b; answer = Err r; signed = None }

-- a voting board's turn, in which it makes the move m; what it signs it has then delivered
abbrev pub take : Limits → ℕ → Board → Move → Turn
take L me b m =
    record {
      board =
          record {
            position = position_after L m b.position;
            delivered = hears_own L b.delivered (said_in L me b.position.round.0 m);
            status = status_after b.position.round.0 m;
          };
      answer = answer_to m;
      signed = said_in L me b.position.round.0 m;
    }

-- the turn of a board, by how far it is: one that has not started takes none, and neither does one that is decided or spent
unfoldable pub turn_in : Limits → ℕ → ℕ → Board → Status → Turn
turn_in L n me b Idle = refuse b NotStarted
turn_in L n me b Voting = take L me b (rule L n me b.position (heard L b.delivered))
turn_in L n me b Spent = refuse b Ended
turn_in L n me b (Decided d) = refuse b Ended

unfoldable pub turn : Limits → ℕ → ℕ → Board → Turn
turn L n me b = turn_in L n me b b.status
