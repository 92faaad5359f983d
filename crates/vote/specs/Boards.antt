-- Document 01, "A board's turns", "Delivery" and "Events": what a board holds, how it starts, and what reaches it from
-- outside, statements and suspicions.
use Rattle.std.specs.Prelude.{ℕ, Bool, true, false, ◌==◌, ◌&&◌, ◌||◌}
use Rattle.std.specs.Prelude.{if◌then◌else◌}
use Rattle.delivery.specs.Limits.{Limits}
use Rattle.delivery.specs.Sets.{with_board, without_board}
use Rattle.delivery.specs.Delivered.{nothing_delivered, deliver}
use Rattle.delivery.specs.declared.delivered.Delivered.{Delivered}
use Rattle.vote.specs.declared.position.Position.{Position}
use Rattle.vote.specs.declared.position.Stage.TheVariants.{Open}
use Rattle.vote.specs.declared.statement.Statement.{Statement}
use Rattle.vote.specs.declared.board.Board.{Board}
use Rattle.vote.specs.declared.board.Decision.{Decision}
use Rattle.vote.specs.declared.board.Status.{Status}
use Rattle.vote.specs.declared.board.Status.TheVariants.{Idle, Voting, Spent, Decided}

-- A board holds its position in the vote (its round, estimate and stage, and the boards that it suspects), what it
-- delivered, and how far it is. The three stages, A, B and C in document 01, are `Open`, `Vote` and `Count`.

-- a fresh board has not started: it stands nowhere, suspects nobody and has delivered nothing
unfoldable pub fresh_position : Position
fresh_position = record { round = record { 0 = 0 }; estimate = 0; stage = Open; suspected = 0 }

unfoldable pub fresh_board : Limits → Board
fresh_board L = record { position = fresh_position; delivered = nothing_delivered L; status = Idle }

-- how far a board is: it has a proposal; it has decided; it takes no more turns, being decided or spent
unfoldable pub is_started : Status → Bool
is_started Idle = false
is_started Voting = true
is_started Spent = true
is_started (Decided d) = true

unfoldable pub is_decided : Status → Bool
is_decided Idle = false
is_decided Voting = false
is_decided Spent = false
is_decided (Decided d) = true

unfoldable pub is_ended : Status → Bool
is_ended Idle = false
is_ended Voting = false
is_ended Spent = true
is_ended (Decided d) = true

-- the decision of value v in round r, and whether that is what it decided
abbrev pub decision_of : ℕ → ℕ → Decision
decision_of r v = record { round = record { 0 = r }; value = v }

unfoldable pub has_decided : Status → ℕ → ℕ → Bool
has_decided Idle r v = false
has_decided Voting r v = false
has_decided Spent r v = false
has_decided (Decided d) r v = d.round.0 == r && d.value == v

-- the same board with another status: its round, estimate and stage stay
unfoldable pub with_status : Board → Status → Board
with_status b s = record b { status = s }

-- Proposing v starts a board: it stands at the first stage of round 1 with estimate v, and suspects whom it suspected.
-- It starts once, and the blank is no proposal.
unfoldable pub starting_with : Position → ℕ → Position
starting_with p v = record p { round = record { 0 = 1 }; estimate = v; stage = Open }

unfoldable pub propose : Board → ℕ → Board
propose b v =
    if is_started b.status || v == 0
    then b
    else record b { position = starting_with b.position v; status = Voting }

-- a statement is delivered, however far the board is
unfoldable pub hears : Limits → Delivered → Statement → Delivered
hears L d s = deliver L d s.speaker s.id.0 s.value

unfoldable pub deliver_to : Limits → Board → Statement → Board
deliver_to L b s = record b { delivered = hears L b.delivered s }

-- the boards of the set m are suspected, and no others; nothing else changes
abbrev pub with_suspected : Position → ℕ → Position
with_suspected p m = record p { suspected = m }

abbrev pub suspecting : Board → ℕ → Board
suspecting b m = record b { position = with_suspected b.position m }

-- board k is suspected from now on, or no longer
unfoldable pub suspect : Board → ℕ → Board
suspect b k = suspecting b (with_board b.position.suspected k)

unfoldable pub trust : Board → ℕ → Board
trust b k = suspecting b (without_board b.position.suspected k)
