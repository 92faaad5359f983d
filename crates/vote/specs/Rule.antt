-- Document 01, "A board's turns": what board `me` of n does in its turn, by its position p and the store h of what it
-- has delivered.
use Rattle.std.specs.Prelude.{ℕ, Bool, ◌==◌, nat_lt, nat_le, ◌&&◌, ◌||◌, not}
use Rattle.std.specs.Prelude.{if◌then◌else◌}
use Rattle.delivery.specs.Counting.{count_in, every_in}
use Rattle.delivery.specs.Limits.{Limits}
use Rattle.delivery.specs.Bus.{quorum, overlap}
use Rattle.delivery.specs.Rounds.{coordinator}
use Rattle.delivery.specs.Sets.{in_set}
use Rattle.delivery.specs.Delivered.{Store}
use Rattle.delivery.specs.Acceptance.{opening_entry, accepts_some}
use Rattle.vote.specs.Ballots.{opened_value, value_with}
use Rattle.vote.specs.declared.position.Position.{Position}
use Rattle.vote.specs.declared.position.Stage.{Stage}
use Rattle.vote.specs.declared.position.Stage.TheVariants.{Open, Vote, Count}
use Rattle.vote.specs.declared.rule.Move.{Move}
use Rattle.vote.specs.declared.rule.Move.TheVariants.{Waits, Passes, Opens, Ballots, Decides, Advances, Expires}

-- Stage A: the round's coordinator opens it with its own estimate, and any other board goes on without a word.
unfoldable pub open_move : ℕ → ℕ → Position → Move
open_move n me p = if me == coordinator n p.round.0 then Opens p.estimate else Passes

module _ (L : Limits) (n : ℕ) (p : Position) (h : Store) where
  abbrev r : ℕ
  r = p.round.0

  -- Stage B, when the board may vote: the coordinator's opening has arrived, whatever it bears, or the coordinator is
  -- suspected.
  unfoldable pub may_vote : Bool
  may_vote = not (opening_entry L n h r == 0) || in_set p.suspected (coordinator n r)

  -- Stage B: until it may vote, the board waits. Then it gives its ballot, for the opening's value if it accepts the
  -- opening, and otherwise blank.
  unfoldable pub vote_move : Move
  vote_move = if may_vote then Ballots (opened_value L n h r) else Waits

  -- Stage C, when the board may count: ballots of q boards or more are accepted, and each board that has no accepted
  -- ballot is suspected.
  unfoldable pub may_count : Bool
  may_count =
      nat_le (quorum n) (count_in n (accepts_some L n h r))
      && every_in n (λ (s : ℕ). accepts_some L n h r s || in_set p.suspected s)

  -- The value that q or more of the ballots bear, which the board decides; and the next estimate, which is the value that
  -- e or more bear. If no value has so many, the estimate stays.
  abbrev pub chosen : ℕ
  chosen = value_with L n h r (quorum n)

  abbrev pub carried : ℕ
  carried = value_with L n h r (overlap n)

  unfoldable pub next_estimate : ℕ
  next_estimate = if carried == 0 then p.estimate else carried

  -- Where it decides nothing it goes to the next round with that estimate; in the last round it takes the estimate, and
  -- is spent.
  unfoldable pub onward : Move
  onward = if nat_lt r L.rounds then Advances next_estimate else Expires next_estimate

  -- Stage C: until it may count, the board waits.
  unfoldable pub count_move : Move
  count_move = if may_count then (if chosen == 0 then onward else Decides chosen) else Waits

-- the rule of a turn, by the stage
unfoldable pub move_at : Limits → ℕ → ℕ → Position → Store → Stage → Move
move_at L n me p h Open = open_move n me p
move_at L n me p h Vote = vote_move L n p h
move_at L n me p h Count = count_move L n p h

unfoldable pub rule : Limits → ℕ → ℕ → Position → Store → Move
rule L n me p h = move_at L n me p h p.stage
