-- A view of a bench, as total functions: where each board stands, how far it is, and what is signed. Assumes nothing.
use Prim.Native.Nat.{ℕ}
use native.Mathlib.Omega.{arith}
use mathlib.Core.Path.{◌≡◌}
use mathlib.Core.Logic.{◌⊎◌}
use Rattle.std.specs.Prelude.{if◌then◌else◌, ◌==◌}
use Rattle.std.proofs.lemmas.Bool.Decides.{nat_tests}
use Rattle.delivery.specs.Limits.{Limits}
use Rattle.delivery.specs.Delivered.{Store, heard}
use Rattle.vote.specs.declared.board.Board.{Board}
use Rattle.vote.specs.declared.board.Status.{Status}
use Rattle.bench.specs.Benches.{board_at, signed_by}
use Rattle.bench.specs.Setups.{Setup}
use Rattle.bench.specs.Story.{Standing}
use Rattle.bench.specs.declared.bench.Bench.{Bench}

pub record View : Type 0 where
  pub stands : ℕ → Standing
  pub status : ℕ → Status
  pub signed : Store

-- that of a bench, and its bus
abbrev pub standing_of : Limits → Board → Standing
standing_of L b = record { position = b.position; heard = heard L b.delivered }

abbrev pub view : Limits → Bench → View
view L c =
    record {
      stands = λ k. standing_of L (board_at L c k);
      status = λ k. (board_at L c k).status;
      signed = signed_by L c;
    }

abbrev pub setup_of : Bench → Setup
setup_of c = record { n = c.n; sound = c.sound }

-- one place of a function changed
unfoldable pub put : {A : Type 0} → (ℕ → A) → ℕ → A → ℕ → A
put f a x k = if k == a then x else f k

-- what is read off the places of one is read off those of the other
pub put-map : {A B : Type 0} (r : A → B) (f g : ℕ → A) (a : ℕ) (x : A) (y : B) → ((k : ℕ) → g k ≡ put f a x k) → r x ≡ y
    → (k : ℕ) → r (g k) ≡ put (λ j. r (f j)) a y k
unfolding put
put-map r f g a x y h e k = grind (arith, nat_tests, h k)

-- and each place is the one that was put there, or is as it was
pub put-cases : {A : Type 0} (f g : ℕ → A) (a : ℕ) (x : A) → ((k : ℕ) → g k ≡ put f a x k) → (k : ℕ)
    → ((k ≡ a) × (g k ≡ x)) ⊎ ((k ≡ a → ⊥) × (g k ≡ f k))
unfolding put
put-cases f g a x h k = grind (arith, nat_tests, h k)
