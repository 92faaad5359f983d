-- The call for a fresh bench: marks one by one, marks that read alike, and that what it gives is within the limits. Assumes
-- nothing.
use Prim.Native.Nat.{ℕ, ◌+◌, ◌≤◌, ◌<◌}
use native.Mathlib.Omega.{arith}
use mathlib.Core.Path.{◌≡◌, refl, sym, ap, ◌∙◌, fun_ext}
use mathlib.Core.Bool.{Bool, true, false, true≢false}
use mathlib.Core.List.{List}
use Rattle.signer.specs.FromOne.{is_within, nth}
use Rattle.std.specs.Prelude.{Result, Ok, Err, ◌==◌}
use Rattle.signer.proofs.FromOneLaws.{within_low, within-high, within_in, within-out}
use Rattle.delivery.specs.Limits.{Limits, limits}
use Rattle.delivery.specs.Bus.{is_board}
use Rattle.delivery.specs.Counting.{every_in}
use Rattle.delivery.specs.Sets.{in_set, set_of, with_board}
use Rattle.std.proofs.lemmas.Bool.{cond-true, false_from_ne_true}
use Rattle.delivery.proofs.CountLaws.{every-reads, reads-every}
use Rattle.delivery.proofs.SetLaws.{in-set_of-outside, set-none, with-next}
use Rattle.bench.specs.Setups.{is_mark, is_mark_at, is_marked_sound, Setup, alone, fresh_answer, setup_by, setup, fresh_bench, fresh_of}
use Rattle.bench.specs.declared.answer.SetupFault.{SetupFault}
use Rattle.bench.proofs.FitLaws.{Ground}

-- the members of a set of 1 to n are among them, and the set of board 1 alone is such a set
pub in_within : (n : ℕ) (p : ℕ → Bool) (k : ℕ) → in_set (set_of n p) k ≡ true → is_within n k ≡ true
in_within n p k t = let o = in-set_of-outside n p k in let w = within-out n k in grind arith

abbrev pub all : ℕ → Bool
all k = true

pub alone-set : with_board 0 1 ≡ set_of 1 all
alone-set =
    ap (λ (m : ℕ). with_board m 1) (sym (set-none 0 all (λ k l h. absurd (omega arith))))
    ∙ with-next 0 all (omega arith) refl

-- what the call for a fresh bench hands back has the fresh bench
pub fresh-bench : (L : Limits) (n : ℕ) (marks : List ℕ) → (fresh_of L n marks).bench ≡ fresh_bench L n marks
unfolding fresh_of
fresh-bench L n marks = refl

-- marks that read alike make one bench
module _ (ms rs : List ℕ) (e : (k : ℕ) → nth ms k 0 ≡ nth rs k 0) where
  read-alike : is_mark_at ms ≡ is_mark_at rs
  unfolding is_mark_at
  read-alike = fun_ext (λ k. ap is_mark (e k))

  sound-alike : is_marked_sound ms ≡ is_marked_sound rs
  unfolding is_marked_sound
  sound-alike = fun_ext (λ k. ap (λ (m : ℕ). m == 0) (e k))

  setup-alike : (a : Result (Unit {0}) SetupFault) (n : ℕ) → setup_by a n ms ≡ setup_by a n rs
  unfolding setup_by
  setup-alike (Ok _) n = rw sound-alike
  setup-alike (Err _) n = refl

  answer-alike : (L : Limits) (n : ℕ) → fresh_answer L n ms ≡ fresh_answer L n rs
  unfolding fresh_answer
  answer-alike L n = rw read-alike

  pub fresh-alike : (L : Limits) (n : ℕ) → fresh_bench L n ms ≡ fresh_bench L n rs
  unfolding fresh_bench
  fresh-alike L n = rw (answer-alike L n, setup-alike (fresh_answer L n rs) n)

-- none of no marks is wrong; one more is a mark if it is read as one; and where it is not, not all of them are
pub marks-none : (marks : List ℕ) → every_in 0 (is_mark_at marks) ≡ true
marks-none marks = reads-every 0 _ (λ k l h. absurd (omega arith))

pub marks-next : (i : ℕ) (marks : List ℕ) → every_in i (is_mark_at marks) ≡ true → is_mark (nth marks (i + 1) 0) ≡ true
    → every_in (i + 1) (is_mark_at marks) ≡ true
unfolding is_mark_at
marks-next i marks h g = reads-every (i + 1) _ (λ k l u. let r = every-reads i _ h k l in grind arith)

pub marks-fail : (n i : ℕ) (marks : List ℕ) → i < n → is_mark (nth marks (i + 1) 0) ≡ false
    → every_in n (is_mark_at marks) ≡ false
unfolding is_mark_at
marks-fail n i marks l f = false_from_ne_true _ (λ h. true≢false (sym (every-reads n _ h (i + 1) (omega arith) (omega arith)) ∙ f))

-- a bench is made for a number of boards that there can be, if the marks are marks
pub board-made : (L : Limits) (n : ℕ) (marks : List ℕ) → is_board L n ≡ true
    → ((k : ℕ) → 1 ≤ k → k ≤ n → is_mark (nth marks k 0) ≡ true) → fresh_answer L n marks ≡ Ok tt
unfolding fresh_answer is_mark_at
board-made L n marks t m = cond-true _ _ _ t ∙ cond-true _ _ _ (reads-every n (is_mark_at marks) m)

-- the limits have room, and what the call asks for, or one sound board, is within them
board-ground : (S : Setup) → is_board limits S.n ≡ true → ((k : ℕ) → in_set S.sound k ≡ true → is_within S.n k ≡ true)
    → Ground limits S
board-ground S t m =
    record {
      some-round = omega arith;
      identifiers-enough = omega arith;
      bits-enough = omega arith;
      some-board = within_low limits.boards S.n t;
      boards-enough = within-high limits.boards S.n t;
      members = m;
    }

ground-by : (n : ℕ) (marks : List ℕ) (a : Result (Unit {0}) SetupFault) → (a ≡ Ok tt → is_board limits n ≡ true)
    → Ground limits (setup_by a n marks)
unfolding setup_by
ground-by n marks (Ok _) h = board-ground _ (h refl) (in_within n (is_marked_sound marks))
ground-by n marks (Err _) h =
    board-ground
    alone
    (within_in limits.boards 1 (omega arith) (omega arith))
    (λ k t. in_within 1 all k (rw alone-set at t))

pub limits-ground : (n : ℕ) (marks : List ℕ) → Ground limits (setup limits n marks)
unfolding fresh_answer
limits-ground n marks = ground-by n marks (fresh_answer limits n marks) (λ e. grind (arith, e))
