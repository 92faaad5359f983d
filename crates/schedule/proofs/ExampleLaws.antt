-- The worked examples, by computation: every definition that they come to is opened here. Assumes nothing.
use mathlib.Core.Path.{refl}
use mathlib.Core.List.{flat_map}
use Rattle.std.specs.Fmt.{digits}
use Rattle.signer.proofs.ExampleLaws.{letter-d}
use Rattle.delivery.proofs.ExampleLaws.{letter-a, letter-b, letter-c, letter-e, letter-f, letter-g, letter-h, letter-i, letter-j, letter-k}
use Rattle.bench.specs.Events.{event_from}
use Rattle.bench.specs.Shows.{letter_byte}
use Rattle.bench.specs.Answers.{setup_number}
use Rattle.signer.specs.FromOne.{is_within, nth, set_nth}
use Rattle.signer.specs.Log.{value_of, empty_log, entry_at, with_entry}
use Rattle.signer.specs.Signer.{fresh_signer, grants, sign}
use Rattle.delivery.specs.Counting.{plus, count_in, every_in, count_of, every_of, some_choice}
use Rattle.delivery.specs.Rounds.{next_round, coordinator, phase_of, identifier_of}
use Rattle.delivery.specs.Sets.{without_board, in_set, set_of, with_board}
use Rattle.delivery.specs.Delivered.{place_of, heard_in, nothing_delivered, deliver}
use Rattle.delivery.specs.Owed.{no_copies, receivers_at, with_receivers_at, nothing_owed, copies_of, with_copies, receivers, with_receivers, lacks, after_signing, after_delivery}
use Rattle.delivery.specs.Acceptance.{says, bears, opens, counts, counts_some, divided, allowed_after, allowed, accepts_opening, accepts_ballot, accepts_some}
use Rattle.vote.specs.Boards.{trust, fresh_position, fresh_board, is_started, is_decided, is_ended, has_decided, with_status, starting_with, propose, hears, deliver_to, suspect}
use Rattle.vote.specs.Ballots.{some_value, opened_value, tally, borne_by, value_with}
use Rattle.vote.specs.Rule.{open_move, may_vote, vote_move, may_count, next_estimate, onward, count_move, move_at, rule}
use Rattle.vote.specs.Turns.{turn_number, answer_to, at_stage, position_after, status_after, said_in, hears_own, turn_in, turn}
use Rattle.vote.specs.Announcements.{convinced, announce}
use Rattle.bench.specs.Events.{uses_other, uses_id, uses_value}
use Rattle.bench.specs.Benches.{board_at, signer_at, signed_by, holds, holders}
use Rattle.bench.specs.Setups.{is_mark_at, is_marked_sound, fresh_answer, setup_by, bench_of, fresh_bench}
use Rattle.bench.specs.Answers.{refusal_number, answer_number, is_accepted}
use Rattle.bench.specs.Table.{kind_row, boards_row, wrong_other, wrong_id, wrong_value, fields_row, mark_row, pair_row, is_waiting, refuses, must_wait, start_row, end_row, signed_row, last_row, delivered_row, announcer_row, ballots_row, turn_row, first_of, check_of}
use Rattle.bench.specs.Effects.{with_board_at, with_signature, with_owed, after_saying, after_turn, after_hearing, effect_of, step_of}
use Rattle.bench.specs.Runs.{steps, last_of, after, answers_to}
use Rattle.bench.specs.Shows.{standing, shown}
use Rattle.schedule.specs.Files.{fault_number, next, byte_due, many_due, mark_due, bus_due, count_due, event_due, section_due, nothing_left, file_due}
use Rattle.schedule.specs.Prints.{parts_to, event_line, board_line, refused_line, printed_from}
use Rattle.schedule.specs.Examples.{LetterL, Letters, PlayedFiles, RefusedFiles}

-- the file and its report are bytes, so all that is between is computed
letter-l : LetterL
unfolding is_within nth set_nth value_of empty_log entry_at with_entry fresh_signer grants sign plus count_in every_in count_of every_of some_choice next_round coordinator phase_of identifier_of in_set set_of with_board place_of heard_in nothing_delivered deliver no_copies receivers_at with_receivers_at nothing_owed copies_of with_copies receivers with_receivers lacks after_signing after_delivery says bears opens counts counts_some divided allowed_after allowed accepts_opening accepts_ballot accepts_some fresh_position fresh_board is_started is_decided is_ended has_decided with_status starting_with propose hears deliver_to suspect some_value opened_value tally borne_by value_with open_move may_vote vote_move may_count next_estimate onward count_move move_at rule turn_number answer_to at_stage position_after status_after said_in hears_own turn_in turn convinced announce uses_other uses_id uses_value board_at signer_at signed_by holds holders is_mark_at is_marked_sound fresh_answer setup_by bench_of fresh_bench refusal_number answer_number kind_row boards_row wrong_other wrong_id wrong_value fields_row mark_row pair_row is_waiting refuses must_wait start_row end_row signed_row last_row delivered_row announcer_row ballots_row turn_row first_of check_of with_board_at with_signature with_owed after_saying after_turn after_hearing effect_of is_accepted step_of after answers_to standing shown steps last_of trust without_board event_from letter_byte fault_number next byte_due many_due mark_due bus_due count_due event_due section_due nothing_left file_due printed_from digits parts_to event_line board_line refused_line
letter-l = refl

-- with the letters that are about signers and acceptance it is the whole list
pub letters : Letters
letters =
    record {
      a = letter-a;
      b = letter-b;
      c = letter-c;
      d = letter-d;
      e = letter-e;
      f = letter-f;
      g = letter-g;
      h = letter-h;
      i = letter-i;
      j = letter-j;
      k = letter-k;
      l = letter-l;
    }

pub played-files : PlayedFiles
unfolding is_within nth set_nth value_of empty_log entry_at with_entry fresh_signer grants sign plus count_in every_in count_of every_of some_choice next_round coordinator phase_of identifier_of in_set set_of with_board place_of heard_in nothing_delivered deliver no_copies receivers_at with_receivers_at nothing_owed copies_of with_copies receivers with_receivers lacks after_signing after_delivery says bears opens counts counts_some divided allowed_after allowed accepts_opening accepts_ballot accepts_some fresh_position fresh_board is_started is_decided is_ended has_decided with_status starting_with propose hears deliver_to suspect some_value opened_value tally borne_by value_with open_move may_vote vote_move may_count next_estimate onward count_move move_at rule turn_number answer_to at_stage position_after status_after said_in hears_own turn_in turn convinced announce uses_other uses_id uses_value board_at signer_at signed_by holds holders is_mark_at is_marked_sound fresh_answer setup_by bench_of fresh_bench refusal_number answer_number kind_row boards_row wrong_other wrong_id wrong_value fields_row mark_row pair_row is_waiting refuses must_wait start_row end_row signed_row last_row delivered_row announcer_row ballots_row turn_row first_of check_of with_board_at with_signature with_owed after_saying after_turn after_hearing effect_of is_accepted step_of after answers_to standing shown steps last_of trust without_board event_from letter_byte fault_number next byte_due many_due mark_due bus_due count_due event_due section_due nothing_left file_due printed_from digits parts_to event_line board_line refused_line flat_map
played-files = record { every = refl; spent = refl; highest = refl }

-- a refused file is answered before anything is played
pub refused-files : RefusedFiles
unfolding file_due bus_due byte_due next many_due mark_due count_due event_due section_due nothing_left printed_from refused_line fault_number setup_number digits is_within
refused-files =
    record {
      empty = refl;
      no-mark-there = refl;
      half-count = refl;
      no-event-there = refl;
      cut-event = refl;
      no-boards = refl;
      eight-boards = refl;
      nine-boards = refl;
      mark-two = refl;
      mark-nine = refl;
      too-many = refl;
      most-of-all = refl;
      left-over = refl;
    }
