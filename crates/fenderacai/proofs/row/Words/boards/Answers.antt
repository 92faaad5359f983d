-- `Words::boards` meets its contract. Assumes nothing.
use Prim.Native.Nat.{◌+◌}
use native.Mathlib.Omega.{arith}
use mathlib.Core.Path.{refl}
use mathlib.Core.List.{[]}
use Rattle.schedule.proofs.PrintLaws.{put_size, parts_none, parts_then}
use Rattle.fenderacai.proofs.RowLaws.{length-boards}
use Rattle.fenderacai.proofs.row.Words.boards.Goals as goal

pub loop-k-init : goal.loop-k-init
loop-k-init c = parts_none _

pub board-requires-in-loop-k : goal.board-requires-in-loop-k
board-requires-in-loop-k c =
    let l = c.loop-k in omega (arith, c.requires, put_size l.invariant.text, length-boards c.args.bench.now l.k)

pub loop-k-preserved : goal.loop-k-preserved
loop-k-preserved c =
    let k = c.loop-k.k in parts_then [] _ (k + 1) k refl c.loop-k.invariant (rw (c.signer.ensures, c.board.ensures) at c.board-in-loop-k.ensures)
