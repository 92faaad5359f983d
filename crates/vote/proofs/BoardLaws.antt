-- Laws of a board: how far it is, a fresh one, and what convinces one of an announcement. Assumes nothing.
use Prim.Native.Nat.{ℕ}
use native.Mathlib.Omega.{arith}
use mathlib.Core.Logic.{◌⊎◌, ◌↔◌}
use mathlib.Core.Path.{◌≡◌, refl}
use mathlib.Core.Bool.{true, false}
use Rattle.std.proofs.lemmas.Bool.Decides.{nat_tests}
use Rattle.delivery.specs.Limits.{Limits}
use Rattle.delivery.specs.Delivered.{nothing_delivered, heard}
use Rattle.delivery.proofs.AgreementLaws.{Won}
use Rattle.vote.specs.Ballots.{tally}
use Rattle.vote.specs.Boards.{fresh_position, fresh_board, is_started, is_decided, is_ended, has_decided, decision_of, with_status}
use Rattle.vote.specs.Announcements.{convinced, announce}
use Rattle.vote.specs.declared.board.Board.{Board}
use Rattle.vote.specs.Turns.{status_after}
use Rattle.vote.specs.declared.rule.Move.{Move}
use Rattle.vote.specs.declared.rule.Move.TheVariants.{Decides}
use Rattle.vote.specs.declared.board.Decision.{Decision}
use Rattle.vote.specs.declared.board.Status.{Status}
use Rattle.vote.specs.declared.board.Status.TheVariants.{Idle, Voting, Spent, Decided}

-- what convinces a board of an announcement
pub record Convinced (L : Limits) (n : ℕ) (b : Board) (r v : ℕ) : Type 0 where
  pub started : is_started b.status ≡ true
  pub undecided : is_decided b.status ≡ false
  pub won : Won L n (heard L b.delivered) r v

pub reads-convinced : (L : Limits) (n : ℕ) (b : Board) (r v : ℕ) → Convinced L n b r v → convinced L n b r v ≡ true
unfolding convinced is_decided tally
reads-convinced L n b r v c = grind (arith, nat_tests)

-- it decides that
pub convinced-decides : (L : Limits) (n : ℕ) (b : Board) (r v : ℕ) → Convinced L n b r v
    → announce L n b r v ≡ with_status b (Decided (decision_of r v))
unfolding announce
convinced-decides L n b r v c = let t = reads-convinced L n b r v c in grind arith

-- for the crates above: a fresh board
pub fresh-is : (L : Limits)
    → fresh_board L ≡ record { position = fresh_position; delivered = nothing_delivered L; status = Idle }
unfolding fresh_board
fresh-is L = refl

pub fresh-estimate : fresh_position.estimate ≡ 0
unfolding fresh_position
fresh-estimate = refl

-- one that has not started is idle, one that is decided has a decision, and one that has ended is spent or has one
pub is-idle : (s : Status) → (is_started s ≡ false) ↔ (s ≡ Idle)
unfolding is_started
is-idle s = (grind arith, grind arith)

pub has-one : (s : Status) → (is_decided s ≡ true) ↔ ((d : Decision) × (s ≡ Decided d))
unfolding is_decided
has-one s = (grind arith, grind arith)

pub is-over : (s : Status) → (is_ended s ≡ true) ↔ ((s ≡ Spent) ⊎ ((d : Decision) × (s ≡ Decided d)))
unfolding is_ended
is-over s = (grind arith, grind arith)

-- one that has started and has not ended is voting
pub going-voting : (s : Status) → is_started s ≡ true → is_ended s ≡ false → s ≡ Voting
unfolding is_started is_ended
going-voting s p q = grind arith

pub started-voting : is_started Voting ≡ true
unfolding is_started
started-voting = refl

-- whether it has decided a value in a round, and the move that makes it decide
pub has-decided : (s : Status) (r v : ℕ) → (has_decided s r v ≡ true) ↔ (s ≡ Decided (decision_of r v))
unfolding has_decided
has-decided s r v = (grind (arith, nat_tests), grind (arith, nat_tests))

pub status-decides : (r : ℕ) (m : Move) (d : Decision)
    → (status_after r m ≡ Decided d) ↔ ((m ≡ Decides d.value) × (r ≡ d.round.0))
unfolding status_after
status-decides r m d = (grind arith, grind arith)
