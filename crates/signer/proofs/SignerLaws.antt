-- Laws of one request. Assumes nothing.
use Prim.Native.Nat.{ℕ, ◌-◌, ◌≤◌, ◌<◌}
use native.Mathlib.Omega.{arith}
use mathlib.Core.Path.{◌≡◌, refl}
use mathlib.Core.Bool.{true, false}
use lib.ListN.{length-replicate}
use Rattle.std.specs.Prelude.{if◌then◌else◌, ◌==◌}
use Rattle.std.proofs.lemmas.Bool.Decides.{nat_tests}
use Rattle.signer.specs.FromOne.{is_within}
use Rattle.signer.specs.Log.{is_identifier, entry_of, empty_log, entry_at, with_entry}
use Rattle.signer.specs.Signer.{fresh_signer, Signed, grants, sign}
use Rattle.signer.specs.declared.signer.Signer.{Signer}
use Rattle.signer.proofs.FromOneLaws.{length-set_nth, nth-set-same, nth-set-other, nth-replicate}
use Rattle.signer.proofs.LogLaws.{Whole}

-- what a signer is after any requests from a fresh one: its log has a place for each identifier, `last` is
-- one or 0, and what is signed has an identifier of at most `last`
pub record WellFormed (limit : ℕ) (s : Signer) : Type 0 where
  pub whole : Whole limit s.log
  pub within : s.last.0 ≤ limit
  pub capped : (i v : ℕ) → Signed s i v → i ≤ s.last.0

-- a fresh signer's `last` is 0, and it has signed nothing
pub fresh-last : (limit : ℕ) → (fresh_signer limit).last.0 ≡ 0
unfolding fresh_signer
fresh-last limit = refl

pub fresh-entry : (limit i : ℕ) → entry_at (fresh_signer limit).log i ≡ 0
unfolding fresh_signer empty_log entry_at
fresh-entry limit i = nth-replicate limit i 0

pub fresh-unsigned : (limit i v : ℕ) → Signed (fresh_signer limit) i v → ⊥
fresh-unsigned limit i v h = omega (arith, fresh-entry)

pub fresh-wellformed : (limit : ℕ) → WellFormed limit (fresh_signer limit)
unfolding fresh_signer empty_log
fresh-wellformed limit =
    record {
      whole = record { whole = length-replicate limit 0 };
      within = omega arith;
      capped = λ i v h. absurd (fresh-unsigned limit i v h);
    }

-- what is granted: exactly an identifier above `last`
module _ (limit : ℕ) (s : Signer) (i : ℕ) where
  pub grants-only : grants limit s i ≡ true → (is_identifier limit i ≡ true) × (s.last.0 < i)
  unfolding grants
  grants-only h = grind (arith, nat_tests)

  pub grants-above : is_identifier limit i ≡ true → s.last.0 < i → grants limit s i ≡ true
  unfolding grants
  grants-above h l = grind (arith, nat_tests)

  -- and nothing stands under it
  pub granted-new : WellFormed limit s → grants limit s i ≡ true → entry_at s.log i ≡ 0
  granted-new w g = grind (arith, w.capped i (entry_at s.log i - 1), grants-only)

module _ (limit : ℕ) (s : Signer) (i v : ℕ) where
  -- the answer says whether the request was granted, whatever the value
  pub sign-answer : (sign limit s i v).signed ≡ grants limit s i
  unfolding sign
  sign-answer = grind arith

  -- refused: nothing changes
  pub sign-refused : grants limit s i ≡ false → (sign limit s i v).signer ≡ s
  unfolding sign
  sign-refused h = grind arith

  -- granted: `last` is the identifier, and under it stands the value, the blank too; any other entry is as it was
  pub sign-last : grants limit s i ≡ true → (sign limit s i v).signer.last.0 ≡ i
  unfolding sign
  sign-last h = grind arith

  pub granted-entry : WellFormed limit s → grants limit s i ≡ true → (j : ℕ)
      → entry_at (sign limit s i v).signer.log j ≡ (if j == i then entry_of v else entry_at s.log j)
  unfolding sign grants is_within entry_at with_entry
  granted-entry w g j = let size = w.whole.whole in grind (arith, nat_tests, nth-set-same, nth-set-other)

  -- and a signer stays well-formed
  pub sign-wellformed : WellFormed limit s → WellFormed limit (sign limit s i v).signer
  unfolding sign grants is_within with_entry
  sign-wellformed w =
      record {
        whole = grind (arith, length-set_nth);
        within = grind (arith, nat_tests);
        capped = λ j u h. grind (arith, nat_tests, granted-entry w, w.capped j u);
      }

-- what comes of a request
pub ruleset asks = (sign-answer, sign-refused, sign-last, granted-entry, grants-only)
