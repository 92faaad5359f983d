-- Laws of what a board signs: what its stage says, and under identifiers that rise. Assumes nothing.
use Prim.Native.Nat.{ℕ, suc, ◌<◌}
use native.Mathlib.Omega.{arith}
use mathlib.Core.Path.{◌≡◌}
use mathlib.Core.Bool.{true}
use Rattle.std.specs.Prelude.{Some}
use Rattle.std.specs.Prelude.{if◌then◌else◌}
use Rattle.delivery.specs.Limits.{Limits}
use Rattle.delivery.specs.Rounds.{is_round, identifier_of}
use Rattle.delivery.specs.Delivered.{heard}
use Rattle.delivery.specs.declared.round.Phase.TheVariants.{Opening, Ballot}
use Rattle.delivery.proofs.RoundLaws.{opening-ballot}
use Rattle.vote.specs.Boards.{is_started}
use Rattle.vote.specs.Turns.{at_stage, position_after, status_after, said_in, turn_in, turn}
use Rattle.vote.specs.Life.{Signs, signs-opening, signs-ballot}
use Rattle.vote.specs.declared.position.Stage.{Stage}
use Rattle.vote.specs.declared.position.Stage.TheVariants.{Open, Vote, Count}
use Rattle.vote.specs.declared.statement.Statement.{Statement}
use Rattle.vote.specs.declared.board.Board.{Board}
use Rattle.vote.specs.declared.board.Status.TheVariants.{Voting}
use Rattle.vote.proofs.RuleLaws.{rule-makes}

-- the lowest identifier under which a board may still sign: at A its round's opening, at B its ballot, at C whatever
-- follows that
unfoldable pub due_at : Limits → ℕ → Stage → ℕ
due_at L r Open = identifier_of L Opening r
due_at L r Vote = identifier_of L Ballot r
due_at L r Count = suc (identifier_of L Ballot r)

unfoldable pub due : Limits → Board → ℕ
due L b = if is_started b.status then due_at L b.position.round.0 b.position.stage else 0

module _ (L : Limits) (n me : ℕ) (b : Board) where
  pub signs-due : (s : Statement) → Signs L n me b s → s.id.0 ≡ due L b
  unfolding due due_at is_started
  signs-due s x = grind arith

  -- what is signed in a turn is what the stage says, and past it the board signs nothing lower
  pub turn-signs : (s : Statement) → (turn L n me b).signed ≡ Some s → Signs L n me b s
  unfolding turn turn_in said_in
  turn-signs s e =
      let m = rule-makes L n me b.position (heard L b.delivered) in
      grind (arith, signs-opening, signs-ballot)

  pub signed-past : (s : Statement) → (turn L n me b).signed ≡ Some s
      → (b.status ≡ Voting → is_round L b.position.round.0 ≡ true) → s.id.0 < due L (turn L n me b).board
  unfolding due due_at is_started turn turn_in said_in position_after at_stage status_after
  signed-past s e i =
      let m = rule-makes L n me b.position (heard L b.delivered) in
      grind (arith, opening-ballot)
