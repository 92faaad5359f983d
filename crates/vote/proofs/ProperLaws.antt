-- What holds of a board through every call: its store is whole, its round is a round once it has started, its estimate
-- is a value, and it is spent nowhere but at stage C of the last round. Assumes nothing.
use Prim.Native.Nat.{ℕ, ◌≤◌}
use native.Mathlib.Omega.{arith}
use mathlib.Core.Path.{◌≡◌}
use mathlib.Core.Bool.{true}
use Rattle.std.proofs.lemmas.Bool.Decides.{nat_tests}
use Rattle.signer.proofs.FromOneLaws.{within-high, within_in}
use Rattle.delivery.specs.Limits.{Limits}
use Rattle.delivery.specs.Rounds.{is_round}
use Rattle.delivery.specs.Delivered.{heard}
use Rattle.delivery.proofs.DeliveredLaws.{Whole, nothing-whole, deliver-whole}
use Rattle.delivery.proofs.RoundLaws.{next-at}
use Rattle.vote.specs.Boards.{fresh_board, is_started, with_status, starting_with, propose, hears, deliver_to, suspect, trust}
use Rattle.vote.specs.Announcements.{convinced, announce}
use Rattle.vote.specs.Turns.{at_stage, position_after, status_after, hears_own, turn_in, turn}
use Rattle.vote.specs.Calls.{Call, called}
use Rattle.vote.specs.declared.position.Stage.TheVariants.{Count}
use Rattle.vote.specs.declared.board.Board.{Board}
use Rattle.vote.specs.declared.board.Status.TheVariants.{Voting, Spent}
use Rattle.vote.proofs.RuleLaws.{rule-makes}

pub record Proper (L : Limits) (b : Board) : Type 0 where
  pub whole : Whole L b.delivered
  pub round : is_started b.status ≡ true → is_round L b.position.round.0 ≡ true
  pub estimate : is_started b.status ≡ true → b.position.estimate ≡ 0 → ⊥
  pub spent : b.status ≡ Spent → (b.position.stage ≡ Count) × (b.position.round.0 ≡ L.rounds)

pub fresh-proper : (L : Limits) → Proper L (fresh_board L)
unfolding fresh_board is_started
fresh-proper L = let w = nothing-whole L in grind arith

module _ (L : Limits) (b : Board) (p : Proper L b) where
  pub voting-round : b.status ≡ Voting → is_round L b.position.round.0 ≡ true
  unfolding is_started
  voting-round v = grind arith

  -- every call keeps it, where there is a round at all
  pub called-proper : (n me : ℕ) → 1 ≤ L.rounds → (c : Call) → Proper L (called L n me b c)
  unfolding called propose starting_with deliver_to hears announce convinced with_status suspect trust turn turn_in
      position_after at_stage status_after hears_own is_started
  called-proper n me some c =
      let m = rule-makes L n me b.position (heard L b.delivered) in
      record {
        whole = grind (arith, deliver-whole);
        round = grind (arith, nat_tests, within_in, next-at);
        estimate = grind (arith, nat_tests);
        spent = grind (arith, nat_tests, within-high);
      }
