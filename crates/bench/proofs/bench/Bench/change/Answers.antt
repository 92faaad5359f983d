-- `Bench::change` meets its contract: board k is the one at its index. Assumes nothing.
use Prim.Native.Nat.{◌≤◌}
use native.Mathlib.Omega.{arith}
use mathlib.Core.Path.{◌≡◌, refl, sym}
use lib.ListN.{length}
use borrow.Author.Rules.{rules}
use Rattle.signer.proofs.FromOneLaws.{nth-any, within-high, within_low, set_nth-index}
use Rattle.delivery.specs.Limits.{limits}
use Rattle.bench.specs.Benches.{board_at}
use Rattle.bench.specs.Effects.{with_board_at}
use Rattle.bench.proofs.bench.Bench.change.Goals as goal

pub returns-then-is_board : goal.returns-then-is_board
unfolding board_at with_board_at
returns-then-is_board g c =
    λ f told.
    let s = c.args.self.now in
    let k = c.args.k in
    let size : length s.boards ≡ limits.boards = search rules in
    let low : 1 ≤ k = grind (arith, within_low) in
    let high : k ≤ length s.boards = grind (arith, within-high, size) in
    let made = told _ (record { shown = _; shows = sym (nth-any s.boards k _ _ low high); left = _; met = c.change.ensures; leaves = refl }) in
    grind (arith, made, set_nth-index, within_low)
