-- Document 01, "Delivery": what one board has delivered, and one statement more.
use Rattle.std.specs.Prelude.{ℕ, zero, suc, ◌+◌, ◌-◌, ◌*◌, List, replicate, Option, None, Some, ◌==◌, ◌&&◌}
use Rattle.signer.specs.FromOne.{nth, set_nth}
use Rattle.std.specs.Prelude.{if◌then◌else◌}
use Rattle.signer.specs.Log.{is_identifier, entry_of}
use Rattle.delivery.specs.Limits.{Limits}
use Rattle.delivery.specs.Bus.{is_board}
use Rattle.delivery.specs.declared.delivered.Delivered.{Delivered}

-- what is said, as a function: speaker, identifier, and the entry that stands there (0 where nothing
-- was said, one more than the value otherwise)
abbrev pub Store : Type 0
Store = ℕ → ℕ → ℕ

-- where the entry of speaker s under identifier i stands in a list of a row for each board; nowhere, which
-- place 0 stands for, where s is no board or i no identifier
unfoldable pub place_of : Limits → ℕ → ℕ → ℕ
place_of L s i = if is_board L s && is_identifier L.identifiers i then (s - 1) * L.identifiers + i else 0

-- the index of a place, since places are numbered from 1; place 0 has none
unfoldable pub index_at : ℕ → Option ℕ
index_at zero = None
index_at (suc i) = Some i

-- so the index of that entry
unfoldable pub index_of : Limits → ℕ → ℕ → Option ℕ
index_of L s i = index_at (place_of L s i)

-- the store of a list of entries
unfoldable pub heard_in : Limits → List ℕ → Store
heard_in L es s i = nth es (place_of L s i) 0

-- a board that has delivered nothing
unfoldable pub nothing_delivered : Limits → Delivered
nothing_delivered L = record { entries = replicate (L.boards * L.identifiers) 0 }

-- the store of what it has delivered
abbrev pub heard : Limits → Delivered → Store
heard L d = heard_in L d.entries

-- with the statement (s, i, v) delivered too, unless there is one of s under i already
unfoldable pub deliver : Limits → Delivered → ℕ → ℕ → ℕ → Delivered
deliver L d s i v =
    if heard L d s i == 0
    then record { entries = set_nth d.entries (place_of L s i) (entry_of v) }
    else d
