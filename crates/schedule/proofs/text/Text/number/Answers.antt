-- `Text::number` meets its contract: its digits are put one after another. Assumes nothing.
use native.Mathlib.Omega.{arith}
use lib.ListN.{length}
use mathlib.Core.Path.{◌≡◌, ap}
use mathlib.Core.List.{List}
use Prim.Native.Nat.{ℕ}
use Rattle.std.specs.Prelude.{decimal}
use Rattle.std.proofs.lemmas.Fmt.{decimal_digit}
use Rattle.schedule.proofs.PrintLaws.{◌then◌, put_size, number-digits, two-digits}
use Rattle.schedule.proofs.text.Text.number.Goals as goal

pub returns-then-m-lt10 : goal.returns-then-m-lt10
returns-then-m-lt10 c = rw (decimal_digit c.args.m c.if-m-lt10.true) c.put.ensures

pub put-requires-then-tens-lt10-2 : goal.put-requires-then-tens-lt10-2
put-requires-then-tens-lt10-2 c =
    let m = c.args.m in
    let two : length (decimal m) ≡ 2 = ap (λ (xs : List ℕ). length xs) (two-digits m c.ranges.m (omega arith) c.if-tens-lt10.true) in
    omega (arith, c.requires, two, put_size c.put-then-tens-lt10.ensures.text)

pub returns-then-tens-lt10 : goal.returns-then-tens-lt10
returns-then-tens-lt10 c =
    rw (two-digits c.args.m c.ranges.m (omega arith) c.if-tens-lt10.true)
    (c.put-then-tens-lt10.ensures then c.put-then-tens-lt10-2.ensures)

pub returns : goal.returns
returns c =
    rw (number-digits c.args.m c.ranges.m)
    ((((c.digit.ensures then c.digit-2.ensures) then c.digit-3.ensures) then c.digit-4.ensures) then c.put-2.ensures)
