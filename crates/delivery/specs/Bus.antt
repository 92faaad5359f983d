-- Document 01, "Words and sizes": the boards of a bus, and the three numbers that follow from how many
-- they are.
use Rattle.std.specs.Prelude.{ℕ, ◌-◌, ◌*◌, ◌/◌, Bool}
use Rattle.signer.specs.FromOne.{is_within}
use Rattle.delivery.specs.Limits.{Limits}

-- boards have the numbers from 1 to the highest
abbrev pub is_board : Limits → ℕ → Bool
is_board L k = is_within L.boards k

-- Of n boards (and of 0, which no bus has, all three are 0, since 0 - 1 is 0):
-- f, the most boards that are fewer than half: so many faulty ones the published vote tolerates
abbrev pub faults : ℕ → ℕ
faults n = (n - 1) / 2

-- q, the boards of a quorum
abbrev pub quorum : ℕ → ℕ
quorum n = n - faults n

-- e, the boards that any two quorums share at least
abbrev pub overlap : ℕ → ℕ
overlap n = n - 2 * faults n
