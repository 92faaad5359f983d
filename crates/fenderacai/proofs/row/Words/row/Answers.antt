-- `Words::row` meets its contract: its parts are put one after another. Assumes nothing.
use native.Mathlib.Omega.{arith}
use Rattle.delivery.specs.Limits.{limits}
use Rattle.bench.specs.Benches.{signed_by}
use Rattle.schedule.proofs.PrintLaws.{◌then◌, put_size}
use Rattle.fenderacai.specs.Rows.{row}
use Rattle.fenderacai.proofs.RowLaws.{length-boards, length-table, length-delivered}
use Rattle.fenderacai.proofs.row.Words.row.Goals as goal

-- there is room for each part after those before it
pub signed-requires : goal.signed-requires
signed-requires c =
    omega (arith, c.requires, put_size c.list.ensures.text, put_size c.boards.ensures.text, length-boards c.args.bench.now limits.boards)

pub delivered-requires : goal.delivered-requires
delivered-requires c =
    let b = c.args.bench.now in
    let boards = length-boards b limits.boards in
    let signed = length-table (signed_by limits b) in
    omega (arith, c.requires, put_size c.list.ensures.text, put_size c.boards.ensures.text, boards, put_size c.signed.ensures.text, signed)

pub owed-requires : goal.owed-requires
owed-requires c =
    let b = c.args.bench.now in
    let boards = length-boards b limits.boards in
    let signed = length-table (signed_by limits b) in
    let delivered = length-delivered b limits.boards in
    omega (
      arith,
      c.requires,
      put_size c.list.ensures.text,
      put_size c.boards.ensures.text,
      boards,
      put_size c.signed.ensures.text,
      signed,
      put_size c.delivered.ensures.text,
      delivered,
    )

pub returns : goal.returns
unfolding row
returns c =
    (((c.list.ensures then c.boards.ensures) then c.signed.ensures) then c.delivered.ensures) then c.owed.ensures
