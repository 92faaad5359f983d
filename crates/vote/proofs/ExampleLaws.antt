-- The worked examples, by computation: every definition that they come to is opened here. Assumes nothing.
use mathlib.Core.Path.{refl}
use Rattle.signer.specs.FromOne.{is_within, nth, set_nth}
use Rattle.signer.specs.Log.{value_of}
use Rattle.delivery.specs.Counting.{plus, count_in, every_in, count_of, every_of, some_choice}
use Rattle.delivery.specs.Rounds.{next_round, coordinator, phase_of, identifier_of}
use Rattle.delivery.specs.Sets.{in_set, set_of, with_board, without_board}
use Rattle.delivery.specs.Delivered.{place_of, heard_in, nothing_delivered, deliver}
use Rattle.delivery.specs.Acceptance.{says, bears, opens, counts, counts_some, divided, allowed_after, allowed, accepts_opening, accepts_ballot, accepts_some}
use Rattle.vote.specs.Boards.{fresh_position, fresh_board, is_started, is_decided, with_status, starting_with, propose, hears, deliver_to, suspect, trust}
use Rattle.vote.specs.Ballots.{some_value, opened_value, tally, borne_by, value_with}
use Rattle.vote.specs.Rule.{open_move, may_vote, vote_move, may_count, next_estimate, onward, count_move, move_at, rule}
use Rattle.vote.specs.Turns.{turn_number, turn_answer, answer_to, at_stage, position_after, status_after, said_in, hears_own, turn_in, turn}
use Rattle.vote.specs.Announcements.{convinced, announce}
use Rattle.vote.specs.Calls.{called, after}
use Rattle.vote.specs.Examples.{Examples}

pub examples : Examples
unfolding is_within nth set_nth value_of plus count_in every_in count_of every_of some_choice next_round coordinator phase_of identifier_of in_set set_of with_board without_board place_of heard_in nothing_delivered deliver says bears opens counts counts_some divided allowed_after allowed accepts_opening accepts_ballot accepts_some fresh_position fresh_board is_started is_decided with_status starting_with propose hears deliver_to suspect trust some_value opened_value tally borne_by value_with open_move may_vote vote_move may_count next_estimate onward count_move move_at rule turn_number turn_answer answer_to at_stage position_after status_after said_in hears_own turn_in turn convinced announce called after
examples =
    record {
      fresh = refl;
      proposes = refl;
      blank = refl;
      suspects = refl;
      taken = refl;
      not_started = refl;
      ended = refl;
      waits = refl;
      letter-l = refl;
      opens = refl;
      ballots = refl;
      decides = refl;
      estimate = refl;
      ballot = refl;
      announced = refl;
    }
