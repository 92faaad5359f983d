-- The other way round: the bytes of a schedule.
use Rattle.std.specs.Prelude.{ℕ, ◌/◌, ◌%◌, ◌≤◌, ◌<◌, ◌≡◌, true, length, All}
use mathlib.Core.List.{List, [], ◌∷◌, ◌++◌, flat_map}
use Rattle.delivery.specs.Limits.{Limits}
use Rattle.delivery.specs.Bus.{is_board}
use Rattle.bench.specs.Setups.{is_mark}
use Rattle.bench.specs.declared.event.Event.{Event}
use Rattle.schedule.specs.Files.{most_events, Contents}

-- a number in two bytes, and an event in its bytes
abbrev pub two_bytes : ℕ → List ℕ
two_bytes m = m / 256 ∷ m % 256 ∷ []

abbrev pub event_laid : Event → List ℕ
event_laid e = e.kind ∷ e.a ∷ e.b ∷ e.id ∷ two_bytes e.value

-- the bytes of a schedule: n, the marks, the count, the events
unfoldable pub laid : Contents → List ℕ
laid f = length f.marks ∷ f.marks ++ two_bytes (length f.events) ++ flat_map event_laid f.events

-- each element of the list is a byte, a number below 256
abbrev pub Bytes : List ℕ → Type 0
Bytes bs = All (λ b. b < 256) bs

-- a schedule that a file can hold: as many boards as there can be, marks that are marks, and not too many events
pub record Holdable (L : Limits) (f : Contents) : Type 0 where
  pub boards : is_board L (length f.marks) ≡ true
  pub marks : All (λ m. is_mark m ≡ true) f.marks
  pub few : length f.events ≤ most_events
