-- `Words::signed` meets its contract. Assumes nothing.
use Prim.Native.Nat.{◌+◌}
use native.Mathlib.Omega.{arith}
use mathlib.Core.Path.{◌≡◌, refl}
use mathlib.Core.List.{[]}
use lib.ListN.{length}
use Rattle.std.proofs.Common.{rules}
use Rattle.delivery.specs.Limits.{limits}
use Rattle.bench.specs.Benches.{signer_at, signed_by}
use Rattle.schedule.proofs.PrintLaws.{put_size, parts_none, parts_then}
use Rattle.fenderacai.specs.Rows.{table_words}
use Rattle.fenderacai.proofs.RowLaws.{length-speakers, signed-words}
use Rattle.fenderacai.proofs.row.Words.signed.Goals as goal

pub loop-k-init : goal.loop-k-init
loop-k-init c = parts_none _

pub list-requires : goal.list-requires
list-requires c =
    let l = c.loop-k in omega (arith, c.requires, put_size l.invariant.text, length-speakers (signed_by limits c.args.bench.now) l.k)

pub loop-k-preserved : goal.loop-k-preserved
loop-k-preserved c =
    let k = c.loop-k.k in
    let whole : length (signer_at limits c.args.bench.now (k + 1)).log.entries ≡ limits.identifiers = rw (← c.signer.ensures) (search rules) in
    parts_then [] _ (k + 1) k refl c.loop-k.invariant (rw (c.signer.ensures, ← signed-words c.args.bench.now (k + 1) whole) at c.list.ensures)

pub returns : goal.returns
unfolding table_words
returns c = let end : c.loop-k.k ≡ limits.boards = omega arith in rw end at c.loop-k.invariant
