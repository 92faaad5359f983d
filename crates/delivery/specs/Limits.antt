-- Document 01, "Words and sizes": how many boards, rounds and identifiers there can be. A definition that
-- depends on one of them takes the record, and the machine is the one with `limits` put in.
use Rattle.std.specs.Prelude.{ℕ}
use Rattle.signer.specs.Log.{identifiers}

pub record Limits : Type 0 where
  pub boards : ℕ
  pub rounds : ℕ
  pub identifiers : ℕ

abbrev pub limits : Limits
limits = record { boards = 7; rounds = 32; identifiers = identifiers }
