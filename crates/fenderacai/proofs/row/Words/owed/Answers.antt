-- `Words::owed` meets its contract. Assumes nothing.
use Prim.Native.Nat.{◌+◌}
use native.Mathlib.Omega.{arith}
use mathlib.Core.Path.{◌≡◌, refl}
use mathlib.Core.List.{[]}
use lib.ListN.{length, get_or}
use Rattle.std.proofs.Common.{rules}
use Rattle.delivery.specs.Limits.{limits}
use Rattle.delivery.specs.Owed.{receivers}
use Rattle.delivery.specs.declared.owed.Copies.{Copies}
use Rattle.schedule.proofs.PrintLaws.{put_size, parts_none, parts_then}
use Rattle.fenderacai.specs.Rows.{table_words}
use Rattle.fenderacai.proofs.RowLaws.{length-speakers, owed-words}
use Rattle.fenderacai.proofs.row.Words.owed.Goals as goal

-- what an index would read where there is no speaker; it is never read
abbrev none : Copies
none = record { receivers = [] }

pub loop-k-init : goal.loop-k-init
loop-k-init c = parts_none _

pub list-requires : goal.list-requires
list-requires c =
    let l = c.loop-k in omega (arith, c.requires, put_size l.invariant.text, length-speakers (receivers limits c.args.owed.now) l.k)

pub loop-k-preserved : goal.loop-k-preserved
loop-k-preserved c =
    let k = c.loop-k.k in
    let b = c.args.owed.now in
    let there : length b.speakers ≡ limits.boards = search rules in
    let whole : length (get_or b.speakers k none).receivers ≡ limits.identifiers = search rules in
    let words = owed-words b k none (omega (arith, there, c.loop-k-test.true)) whole in
    parts_then [] _ (k + 1) k refl c.loop-k.invariant (rw (c.masks.ensures, ← words) at c.list.ensures)

pub returns : goal.returns
unfolding table_words
returns c = let end : c.loop-k.k ≡ limits.boards = omega arith in rw end at c.loop-k.invariant
