-- Laws of rows 11 to 21, of an event of a kind that there is: what the table says where one of them applies, and where
-- none does, and what then holds of the board that the event is for. Assumes nothing.
use native.Mathlib.Omega.{arith}
use mathlib.Core.Path.{◌≡◌}
use mathlib.Core.Bool.{Bool, true, false}
use mathlib.Core.List.{List, ◌++◌}
use Rattle.std.specs.Prelude.{Ok, Err}
use Rattle.std.proofs.lemmas.Bool.Decides.{nat_tests}
use Rattle.delivery.specs.Limits.{Limits}
use Rattle.vote.proofs.BoardLaws.{going-voting, convinced-decides}
use Rattle.bench.specs.Answers.{is_accepted}
use Rattle.bench.specs.Benches.{board_at}
use Rattle.bench.specs.Events.{turning, announcing}
use Rattle.bench.specs.Table.{kind_row, start_row, end_row, turn_row, first_of, event_rows, state_rows, turn_rows, check_of}
use Rattle.bench.specs.Private.{IsVoting, IsConvinced}
use Rattle.bench.specs.declared.bench.Bench.{Bench}
use Rattle.bench.specs.declared.event.Event.{Event}
use Rattle.bench.specs.declared.answer.Refusal.{Refusal}
use Rattle.bench.proofs.TableLaws.{kind-passes}
use Rattle.bench.proofs.AcceptedLaws.{accepted-passed, passed-accepted}

module _ (L : Limits) (c : Bench) (e : Event) (t : kind_row e ≡ false) where
  abbrev rows : List (Bool × Refusal)
  rows = event_rows L c e ++ state_rows L c e

  pub rows-stop : (r : Refusal) → first_of rows ≡ Err r → check_of L c e ≡ Err r
  unfolding check_of first_of
  rows-stop r h = grind (arith, t, h)

  module _ (u : Unit {0}) (h : first_of rows ≡ Ok u) where
    -- row 22 is left
    pub rows-pass : check_of L c e ≡ first_of (turn_rows L c e)
    unfolding check_of first_of
    rows-pass = grind (arith, t, h)

    pub rows-voting : e.kind ≡ turning → IsVoting L c e.a
    unfolding first_of start_row end_row
    rows-voting i =
        let start : start_row L c e ≡ false = grind (arith, h) in
        let end : end_row L c e ≡ false = grind (arith, h) in
        going-voting (board_at L c e.a).status (grind (arith, nat_tests)) (grind (arith, nat_tests))

    pub rows-convinced : e.kind ≡ announcing → IsConvinced L c e
    unfolding is_accepted first_of turn_row
    rows-convinced i =
        let ok : is_accepted (check_of L c e) ≡ true = grind (arith, nat_tests, rows-pass) in
        let convinced = (passed-accepted L c e (accepted-passed L c e ok)).convinced i in
        convinced-decides L c.n (board_at L c e.a) e.id e.value convinced

-- what an event goes by
pub ruleset rows_passed = (kind-passes, rows-stop, rows-pass, rows-voting, rows-convinced)
