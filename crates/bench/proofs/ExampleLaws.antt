-- The worked examples, by computation: every definition that they come to is opened here. Assumes nothing.
use mathlib.Core.Path.{refl}
use Rattle.signer.specs.FromOne.{is_within, nth, set_nth}
use Rattle.signer.specs.Log.{value_of, empty_log, entry_at, with_entry}
use Rattle.signer.specs.Signer.{fresh_signer, grants, sign}
use Rattle.delivery.specs.Counting.{plus, count_in, every_in, count_of, every_of, some_choice}
use Rattle.delivery.specs.Rounds.{next_round, coordinator, phase_of, identifier_of}
use Rattle.delivery.specs.Sets.{in_set, set_of, with_board, without_board}
use Rattle.delivery.specs.Delivered.{place_of, heard_in, nothing_delivered, deliver}
use Rattle.delivery.specs.Owed.{no_copies, receivers_at, with_receivers_at, nothing_owed, copies_of, with_copies, receivers, with_receivers, lacks, after_signing, after_delivery}
use Rattle.delivery.specs.Acceptance.{says, bears, opens, counts, counts_some, divided, allowed_after, allowed, accepts_opening, accepts_ballot, accepts_some}
use Rattle.vote.specs.Boards.{fresh_position, fresh_board, is_started, is_decided, is_ended, has_decided, with_status, starting_with, propose, hears, deliver_to, suspect, trust}
use Rattle.vote.specs.Ballots.{some_value, opened_value, tally, borne_by, value_with}
use Rattle.vote.specs.Rule.{open_move, may_vote, vote_move, may_count, next_estimate, onward, count_move, move_at, rule}
use Rattle.vote.specs.Turns.{turn_number, answer_to, at_stage, position_after, status_after, said_in, hears_own, turn_in, turn}
use Rattle.vote.specs.Announcements.{convinced, announce}
use Rattle.bench.specs.Events.{uses_other, uses_id, uses_value, event_from}
use Rattle.bench.specs.Benches.{board_at, signer_at, signed_by, holds, holders}
use Rattle.bench.specs.Setups.{is_mark_at, is_marked_sound, fresh_answer, setup_by, bench_of, fresh_bench}
use Rattle.bench.specs.Answers.{refusal_number, answer_number, is_accepted}
use Rattle.bench.specs.Table.{kind_row, boards_row, wrong_other, wrong_id, wrong_value, fields_row, mark_row, pair_row, is_waiting, refuses, must_wait, start_row, end_row, signed_row, last_row, delivered_row, announcer_row, ballots_row, turn_row, first_of, check_of}
use Rattle.bench.specs.Effects.{with_board_at, with_signature, with_owed, after_saying, after_turn, after_hearing, effect_of, step_of}
use Rattle.bench.specs.Runs.{steps, last_of, after, answers_to}
use Rattle.bench.specs.Shows.{letter_byte, standing, shown}
use Rattle.bench.specs.Examples.{Examples}

pub examples : Examples
unfolding is_within nth set_nth value_of empty_log entry_at with_entry fresh_signer grants sign plus count_in every_in count_of every_of some_choice next_round coordinator phase_of identifier_of in_set set_of with_board without_board place_of heard_in nothing_delivered deliver no_copies receivers_at with_receivers_at nothing_owed copies_of with_copies receivers with_receivers lacks after_signing after_delivery says bears opens counts counts_some divided allowed_after allowed accepts_opening accepts_ballot accepts_some fresh_position fresh_board is_started is_decided is_ended has_decided with_status starting_with propose hears deliver_to suspect trust some_value opened_value tally borne_by value_with open_move may_vote vote_move may_count next_estimate onward count_move move_at rule turn_number answer_to at_stage position_after status_after said_in hears_own turn_in turn convinced announce uses_other uses_id uses_value event_from board_at signer_at signed_by holds holders is_mark_at is_marked_sound fresh_answer setup_by bench_of fresh_bench refusal_number answer_number kind_row boards_row wrong_other wrong_id wrong_value fields_row mark_row pair_row is_waiting refuses must_wait start_row end_row signed_row last_row delivered_row announcer_row ballots_row turn_row first_of check_of with_board_at with_signature with_owed after_saying after_turn after_hearing effect_of is_accepted step_of after answers_to letter_byte standing shown steps last_of
examples =
    record {
      bytes = refl;
      letter-l = refl;
      letter-l-shown = refl;
      refused = refl;
      estimate = refl;
      ballot = refl;
      announced = refl;
      decided = refl;
      rows = refl;
      kinds = refl;
      believed = refl;
      letters = refl;
      rounds = refl;
      values = refl;
      faulty-opened = refl;
    }
