-- What holds of every bench that was played from a fresh one, as far as it can be said of the bench alone. Assumes nothing.
use Prim.Native.Nat.{ℕ, ◌≤◌, ◌-◌, ◌*◌}
use native.Mathlib.Omega.{arith}
use mathlib.Core.Path.{◌≡◌}
use mathlib.Core.Bool.{true, false}
use lib.ListN.{length}
use Rattle.signer.specs.FromOne.{is_within}
use Rattle.signer.proofs.FromOneLaws.{within_low, within-high, within_in}
use Rattle.signer.proofs.SignerLaws.{WellFormed}
use Rattle.delivery.specs.Limits.{Limits}
use Rattle.delivery.specs.Bus.{is_board}
use Rattle.delivery.specs.Sets.{in_set, bits}
use Rattle.delivery.proofs.OwedLaws.{Whole}
use Rattle.vote.specs.Boards.{fresh_board}
use Rattle.vote.proofs.ProperLaws.{Proper}
use Rattle.vote.proofs.SigningLaws.{due}
use Rattle.vote.proofs.LifeLaws.{Grounded}
use Rattle.bench.specs.Benches.{board_at, signer_at, heard_by}
use Rattle.bench.specs.Setups.{Setup}
use Rattle.bench.specs.declared.bench.Bench.{Bench}
use Rattle.bench.proofs.ViewLaws.{view}
use Rattle.bench.proofs.ReplayLaws.{Sane}
use Rattle.bench.proofs.SpreadLaws.{Spread}

-- the limits have room, and the boards of a bus are within them
pub record Ground (L : Limits) (S : Setup) : Type 0 where
  pub some-round : 1 ≤ L.rounds
  pub identifiers-enough : 2 * L.rounds ≤ L.identifiers
  pub bits-enough : L.boards ≤ bits
  pub some-board : 1 ≤ S.n
  pub boards-enough : S.n ≤ L.boards
  pub members : (k : ℕ) → in_set S.sound k ≡ true → is_within S.n k ≡ true

-- so a board of the bus is one that there can be
pub is-there : {L : Limits} {S : Setup} → Ground L S → (k : ℕ) → is_within S.n k ≡ true → is_board L k ≡ true
is-there {L} {S} g k w = within_in L.boards k (within_low S.n k w) (omega (arith, within-high S.n k w, g.boards-enough))

-- of a bench of the bus S
pub record Fit (L : Limits) (S : Setup) (c : Bench) : Type 0 where
  -- it has all its boards, signers and copies
  pub boards : length c.boards ≡ L.boards
  pub signers : length c.signers ≡ L.boards
  pub complete : Whole L c.owed
  -- its boards and signers are as the crates below have them
  pub proper : (k : ℕ) → Proper L (board_at L c k)
  pub grounded : (k : ℕ) → Grounded L S.n (board_at L c k)
  pub formed : (k : ℕ) → WellFormed L.identifiers (signer_at L c k)
  -- a board that is not sound takes no part, and one that is signs next above what it signed
  pub apart : (k : ℕ) → in_set S.sound k ≡ false → board_at L c k ≡ fresh_board L
  pub ahead : (k : ℕ) → in_set S.sound k ≡ true → (signer_at L c k).last.0 ≤ due L (board_at L c k) - 1
  -- what is heard was signed, and copies are owed to those that lack a statement which a sound board has
  pub sane : Sane L S (view L c)
  pub spread : Spread L S.sound c.owed (heard_by L c)
