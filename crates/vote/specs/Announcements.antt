-- Document 01, "A board's turns" and "Events" (kind 4): a decision by announcement.
use Rattle.std.specs.Prelude.{ℕ, Bool, ◌==◌, nat_le, ◌&&◌, not}
use Rattle.std.specs.Prelude.{if◌then◌else◌}
use Rattle.delivery.specs.Limits.{Limits}
use Rattle.delivery.specs.Bus.{quorum}
use Rattle.delivery.specs.Delivered.{heard}
use Rattle.vote.specs.Boards.{is_started, is_decided, decision_of, with_status}
use Rattle.vote.specs.Ballots.{tally}
use Rattle.vote.specs.declared.board.Board.{Board}
use Rattle.vote.specs.declared.board.Status.TheVariants.{Decided}

-- an announcement of value v in round r convinces a board that has started and has not decided, if q or more of the
-- ballots of r that it accepts bear v, and v is not the blank
unfoldable pub convinced : Limits → ℕ → Board → ℕ → ℕ → Bool
convinced L n b r v =
    is_started b.status
    && not (is_decided b.status)
    && not (v == 0)
    && nat_le (quorum n) (tally L n (heard L b.delivered) r v)

-- then it decides v in round r, and is no longer spent if it was; otherwise it is as before
unfoldable pub announce : Limits → ℕ → Board → ℕ → ℕ → Board
announce L n b r v =
    if convinced L n b r v
    then with_status b (Decided (decision_of r v))
    else b
