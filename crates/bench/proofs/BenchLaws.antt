-- A bench's boards and signers: the place of each, who has delivered a statement, and fresh ones. Assumes nothing.
use Rattle.std.specs.Prelude.{◌==◌, not}
use Prim.Native.Nat.{ℕ, ◌+◌, ◌-◌, ◌<◌}
use mathlib.Core.Path.{◌≡◌, refl, ap, ◌∙◌}
use lib.ListN.{length, get_or}
use native.Mathlib.Omega.{arith}
use Rattle.signer.specs.Log.{entry_at}
use Rattle.signer.proofs.FromOneLaws.{get_some, get_none, nth-any, set_nth-index, set_nth-none, within_low, within-high, within-out, nth-replicate}
use Rattle.signer.proofs.SignerLaws.{sign-answer, fresh-entry, fresh-last}
use Rattle.signer.specs.Signer.{fresh_signer}
use Rattle.delivery.specs.Limits.{Limits}
use Rattle.delivery.specs.Delivered.{heard}
use Rattle.vote.specs.Boards.{fresh_board}
use Rattle.vote.specs.declared.board.Board.{Board}
use Rattle.bench.specs.Benches.{board_at, signer_at, signed_by, holds}
use Rattle.bench.specs.Setups.{bench_of}
use Rattle.bench.specs.declared.bench.Bench.{Bench}

-- a board, or a signer, changed in its place
pub ruleset places = (set_nth-none, set_nth-index, nth-any, within-high, within_low, within-out)

-- and a signer that is asked says whether it granted what it was asked for
pub ruleset asked = (set_nth-none, set_nth-index, nth-any, within-high, within_low, within-out, sign-answer)

-- a signer that is lent, and what would be read of a fresh one
pub ruleset chips = (get_some, get_none, fresh-entry, fresh-last)

-- whether the board at index k has delivered a statement
pub holds-at : (L : Limits) (c : Bench) (s i k : ℕ) (d : Board) → k < length c.boards
    → holds L c s i (k + 1) ≡ not ((heard L (get_or c.boards k d).delivered s i) == 0)
unfolding holds board_at
holds-at L c s i k d h =
    let e : k + 1 - 1 ≡ k = omega arith in
    ap
    (λ (b : Board). not (heard L b.delivered s i == 0))
    (nth-any c.boards (k + 1) (fresh_board L) d (omega arith) (omega arith) ∙ ap (λ (j : ℕ). get_or c.boards j d) e)

-- boards stand in the order of their numbers
pub board-index : (L : Limits) (c : Bench) (k : ℕ) (d : Board) → k < length c.boards → board_at L c (k + 1) ≡ get_or c.boards k d
unfolding board_at
board-index L c k d h =
    let e : k + 1 - 1 ≡ k = omega arith in
    nth-any c.boards (k + 1) (fresh_board L) d (omega arith) (omega (arith, h)) ∙ ap (λ (j : ℕ). get_or c.boards j d) e

-- what was signed is what stands in the signer's log
pub signed-log : (L : Limits) (c : Bench) (s i : ℕ) → signed_by L c s i ≡ entry_at (signer_at L c s).log i
unfolding signed_by
signed-log L c s i = refl

-- on a bench on which nothing has happened, every board and every signer is a fresh one
pub board-fresh : (L : Limits) (n sound k : ℕ) → board_at L (bench_of L n sound) k ≡ fresh_board L
unfolding board_at bench_of
board-fresh L n sound k = nth-replicate L.boards k (fresh_board L)

pub signer-fresh : (L : Limits) (n sound k : ℕ) → signer_at L (bench_of L n sound) k ≡ fresh_signer L.identifiers
unfolding signer_at bench_of
signer-fresh L n sound k = nth-replicate L.boards k (fresh_signer L.identifiers)
