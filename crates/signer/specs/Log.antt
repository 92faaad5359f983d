-- Document 01, "Words and sizes": values, identifiers, and what one speaker said under each identifier.
-- A definition that depends on how many identifiers there are takes that number as `limit`.
use Rattle.std.specs.Prelude.{ℕ, zero, suc, Bool, replicate, nat_le}
use Rattle.std.specs.Prelude.{if◌then◌else◌}
use Rattle.signer.specs.FromOne.{is_within, nth, set_nth}
use Rattle.signer.specs.declared.log.Log.{Log}

-- the highest value; the lowest is 1, and 0 is the blank
abbrev pub values : ℕ
values = 65535

-- the highest identifier
abbrev pub identifiers : ℕ
identifiers = 64

-- identifiers are the numbers from 1 to the highest
abbrev pub is_identifier : ℕ → ℕ → Bool
is_identifier limit i = is_within limit i

-- a log's entry for the value v, one more than v; so the blank (0, ⊥ in the published vote) has an
-- entry of its own, and entry 0 is left to say that there is no statement
abbrev pub entry_of : ℕ → ℕ
entry_of v = suc v

-- the value that an entry stands for; the blank where it stands for none
unfoldable pub value_of : ℕ → ℕ
value_of zero = 0
value_of (suc v) = if nat_le v values then v else 0

-- a speaker that has said nothing
unfoldable pub empty_log : ℕ → Log
empty_log limit = record { entries = replicate limit 0 }

-- the entry under identifier i
unfoldable pub entry_at : Log → ℕ → ℕ
entry_at l i = nth l.entries i 0

-- the same log with entry e under identifier i
unfoldable pub with_entry : Log → ℕ → ℕ → Log
with_entry l i e = record { entries = set_nth l.entries i e }
