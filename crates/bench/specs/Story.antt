-- Document 01, "Events", on agreement: what a list of events and its answers says by itself. No bench is looked at, and
-- no row of the table: every event that was answered 0 is believed, whatever its fields hold, and no other is.
use Rattle.std.specs.Prelude.{ℕ, List, [], ◌∷◌, if◌then◌else◌, Option, None, Some, ◌==◌, ◌&&◌}
use Rattle.signer.specs.Log.{entry_of}
use Rattle.delivery.specs.Limits.{Limits}
use Rattle.delivery.specs.Sets.{with_board, without_board}
use Rattle.delivery.specs.Delivered.{Store}
use Rattle.vote.specs.Boards.{fresh_position, starting_with, with_suspected}
use Rattle.vote.specs.Rule.{rule}
use Rattle.vote.specs.Turns.{position_after, said_in}
use Rattle.vote.specs.declared.position.Position.{Position}
use Rattle.vote.specs.declared.rule.Move.{Move}
use Rattle.vote.specs.declared.statement.Statement.{Statement}
use Rattle.bench.specs.Events.{proposing, turning, delivering, suspecting, trusting}
use Rattle.bench.specs.declared.event.Event.{Event}

-- a history: events and the numbers that they were answered with, the oldest first
pub record Entry : Type 0 where
  pub event : Event
  pub answer : ℕ

abbrev pub History : Type 0
History = List Entry

unfoldable pub history_of : List Event → List ℕ → History
history_of [] ms = []
history_of (e ∷ es) [] = []
history_of (e ∷ es) (m ∷ ms) = record { event = e; answer = m } ∷ history_of es ms

-- where a board stands by its history: its round, estimate, stage and suspicions, and what it has heard
pub record Standing : Type 0 where
  pub position : Position
  pub heard : Store

-- before anything has happened
unfoldable pub outset : Standing
outset = record { position = fresh_position; heard = λ (s i : ℕ). 0 }

-- a statement is heard
unfoldable pub hearing : Store → ℕ → ℕ → ℕ → Store
hearing h s i v s' i' = if s' == s && i' == i then entry_of v else h s' i'

unfoldable pub hearing_said : Store → Option Statement → Store
hearing_said h None = h
hearing_said h (Some x) = hearing h x.speaker x.id.0 x.value

-- of board k among n
module _ (L : Limits) (n k : ℕ) where
  -- what the rule of a turn has it do, and what it then says
  abbrev pub move_of : Standing → Move
  move_of t = rule L n k t.position t.heard

  abbrev pub saying : Standing → Option Statement
  saying t = said_in L k t.position.round.0 (move_of t)

  -- an event for it is believed: it starts, makes the move that the rule has it make, hears a statement, or suspects or
  -- trusts a board
  unfoldable pub believing : Standing → Event → Standing
  believing t e =
      if e.kind == proposing
      then record t { position = starting_with t.position e.value }
      else if e.kind == turning
      then record { position = position_after L (move_of t) t.position; heard = hearing_said t.heard (saying t) }
      else if e.kind == delivering
      then record t { heard = hearing t.heard e.b e.id e.value }
      else if e.kind == suspecting
      then record t { position = with_suspected t.position (with_board t.position.suspected e.b) }
      else if e.kind == trusting
      then record t { position = with_suspected t.position (without_board t.position.suspected e.b) }
      else t

  -- where it stands after one entry of a history, after some, and after all of it
  unfoldable pub after_entry : Standing → Entry → Standing
  after_entry t x = if x.answer == 0 && x.event.a == k then believing t x.event else t

  unfoldable pub after_entries : Standing → History → Standing
  after_entries t [] = t
  after_entries t (x ∷ H) = after_entries (after_entry t x) H

  unfoldable pub standing_after : History → Standing
  standing_after H = after_entries outset H
