-- What a bench shows of a board: the letter D, with a round and a value, just where a sound board has decided so.
-- Assumes nothing.
use Prim.Native.Nat.{ℕ}
use native.Mathlib.Omega.{arith}
use mathlib.Core.Path.{◌≡◌}
use mathlib.Core.Bool.{true}
use mathlib.Core.Logic.{◌↔◌}
use Rattle.signer.specs.FromOne.{is_within}
use Rattle.delivery.specs.Limits.{Limits}
use Rattle.vote.specs.declared.position.Position.{Position}
use Rattle.vote.specs.declared.board.Status.{Status}
use Rattle.vote.specs.declared.board.Status.TheVariants.{Decided}
use Rattle.vote.specs.Boards.{decision_of}
use Rattle.bench.specs.Benches.{is_sound, board_at}
use Rattle.bench.specs.Shows.{decided_as, standing, shown}
use Rattle.bench.specs.declared.bench.Bench.{Bench}

standing-decided : (p : Position) (s : Status) (r v : ℕ)
    → (standing p s ≡ decided_as r v) ↔ (s ≡ Decided (decision_of r v))
unfolding standing
standing-decided p s r v = (grind arith, grind arith)

pub shown-decided : (L : Limits) (c : Bench) (k r v : ℕ) → (is_sound c k ≡ true → is_within c.n k ≡ true)
    → (shown L c k ≡ decided_as r v) ↔ ((is_sound c k ≡ true) × ((board_at L c k).status ≡ Decided (decision_of r v)))
unfolding shown
shown-decided L c k r v h =
    let b = board_at L c k in
    let s = standing-decided b.position b.status r v in
    (λ e. (grind arith, grind arith), λ d. grind arith)
