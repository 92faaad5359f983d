-- Document 01, "Words and sizes": rounds, their coordinators, and the identifiers of their statements; and of
-- "A board's turns" the round after a round.
use Rattle.std.specs.Prelude.{ℕ, suc, ◌+◌, ◌-◌, ◌*◌, ◌%◌, Bool, nat_lt}
use Rattle.signer.specs.FromOne.{is_within}
use Rattle.std.specs.Prelude.{if◌then◌else◌}
use Rattle.delivery.specs.Limits.{Limits}
use Rattle.delivery.specs.declared.round.Phase.{Phase}
use Rattle.delivery.specs.declared.round.Phase.TheVariants.{Opening, Ballot}

-- rounds are the numbers from 1 to the last
abbrev pub is_round : Limits → ℕ → Bool
is_round L r = is_within L.rounds r

-- the coordinator of round r among n boards: 1, 2, .. n, and again from 1 (a number modulo 0 is the number)
unfoldable pub coordinator : ℕ → ℕ → ℕ
coordinator n r = (r - 1) % n + 1

-- a round's two identifiers: the opening's (PHASE1 in the published vote), then the ballot's (PHASE2)
unfoldable pub phase_of : Phase → ℕ → ℕ
phase_of Opening r = 2 * r - 1
phase_of Ballot r = 2 * r

-- the identifier of a statement of round r; what is no round has none, which 0 stands for
unfoldable pub identifier_of : Limits → Phase → ℕ → ℕ
identifier_of L p r = if is_round L r then phase_of p r else 0

-- the round after r; the last one has none, and stays
unfoldable pub next_round : Limits → ℕ → ℕ
next_round L r = if nat_lt r L.rounds then suc r else r
