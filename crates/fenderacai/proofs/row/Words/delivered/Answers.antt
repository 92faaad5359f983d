-- `Words::delivered` meets its contract. Assumes nothing.
use Prim.Native.Nat.{◌+◌}
use native.Mathlib.Omega.{arith}
use mathlib.Core.Path.{◌≡◌, refl}
use mathlib.Core.List.{[]}
use lib.ListN.{length, get_or}
use Rattle.std.proofs.Common.{rules}
use Rattle.delivery.specs.Limits.{limits}
use Rattle.vote.specs.declared.board.Board.{Board}
use Rattle.vote.specs.declared.board.Status.TheVariants.{Idle}
use Rattle.vote.specs.declared.position.Stage.TheVariants.{Open}
use Rattle.schedule.proofs.PrintLaws.{put_size, parts_none, parts_then}
use Rattle.fenderacai.specs.Private.{table_size}
use Rattle.fenderacai.proofs.RowLaws.{length-delivered, delivered-words}
use Rattle.fenderacai.proofs.row.Words.delivered.Goals as goal

-- what an index would read where there is no board; it is never read
abbrev none : Board
none =
    record {
      position = record { round = record { 0 = 0 }; estimate = 0; stage = Open; suspected = 0 };
      delivered = record { entries = [] };
      status = Idle;
    }

pub loop-k-init : goal.loop-k-init
loop-k-init c = parts_none _

pub list-requires : goal.list-requires
list-requires c =
    let l = c.loop-k in omega (arith, c.requires, put_size l.invariant.text, length-delivered c.args.bench.now l.k)

pub loop-k-preserved : goal.loop-k-preserved
loop-k-preserved c =
    let k = c.loop-k.k in
    let b = c.args.bench.now in
    let there : length b.boards ≡ limits.boards = search rules in
    let whole : length (get_or b.boards k none).delivered.entries ≡ table_size limits = search rules in
    let words = delivered-words b k none (omega (arith, there, c.loop-k-test.true)) whole in
    parts_then [] _ (k + 1) k refl c.loop-k.invariant (rw (← words) at c.list.ensures)
