-- What a history says with one entry more. Assumes nothing.
use Prim.Native.Nat.{ℕ}
use native.Mathlib.Omega.{arith}
use mathlib.Core.Path.{◌≡◌, refl}
use mathlib.Core.Logic.{◌⊎◌, inl, ◌↔◌}
use Rattle.delivery.specs.Limits.{Limits}
use Rattle.bench.specs.Setups.{Setup}
use Rattle.bench.specs.Story.{Entry, History, Standing, standing_after}
use Rattle.bench.specs.Claim.{Delivers, Announces, Asks, Sound, Faulty, TurnSigns, TurnDecides, Signed, Delivered, Decided}
use Rattle.bench.specs.declared.event.Event.{Event}
use Rattle.bench.proofs.MomentLaws.{◌then◌, once-more}

-- what one event adds, where the boards stand as t says
module _ (L : Limits) (S : Setup) (t : ℕ → Standing) (e : Event) where
  abbrev pub SignsNow : ℕ → ℕ → ℕ → Type 0
  SignsNow k i v = (Sound L S k × TurnSigns L S (t k) e k i v) ⊎ (Faulty L S k × Asks e k i v)

  abbrev pub DeliversNow : ℕ → ℕ → ℕ → ℕ → Type 0
  DeliversNow k s i v = Sound L S k × (((s ≡ k) × SignsNow k i v) ⊎ Delivers e k s i v)

  abbrev pub DecidesNow : ℕ → ℕ → ℕ → Type 0
  DecidesNow k r v = Sound L S k × (Announces e k r v ⊎ TurnDecides L S (t k) e k r v)

-- a history with one entry more says what it said, and what the entry adds if it was answered 0
module _ (L : Limits) (S : Setup) (H : History) (t : ℕ → Standing)
    (stands : (k : ℕ) → standing_after L S.n k H ≡ t k) (x : Entry) where
  pub signed-more : (k i v : ℕ)
      → Signed L S (H then x) k i v ↔ (Signed L S H k i v ⊎ ((x.answer ≡ 0) × SignsNow L S t x.event k i v))
  signed-more k i v =
      let turns = once-more H x (λ (B : History) (e : Event). TurnSigns L S (standing_after L S.n k B) e k i v) in
      let asks = once-more H x (λ (B : History) (e : Event). Asks e k i v) in
      let so = stands k in
      (grind arith, grind arith)

  pub delivered-more : (k s i v : ℕ)
      → Delivered L S (H then x) k s i v
      ↔ (Delivered L S H k s i v ⊎ ((x.answer ≡ 0) × DeliversNow L S t x.event k s i v))
  delivered-more k s i v =
      let signs = signed-more k i v in
      let hears = once-more H x (λ (B : History) (e : Event). Delivers e k s i v) in
      (grind arith, grind arith)

  pub decided-more : (k r v : ℕ)
      → Decided L S (H then x) k r v ↔ (Decided L S H k r v ⊎ ((x.answer ≡ 0) × DecidesNow L S t x.event k r v))
  decided-more k r v =
      let told = once-more H x (λ (B : History) (e : Event). Announces e k r v) in
      let turns = once-more H x (λ (B : History) (e : Event). TurnDecides L S (standing_after L S.n k B) e k r v) in
      let so = stands k in
      (grind arith, grind arith)

pub signed-kept : (L : Limits) (S : Setup) (H : History) (x : Entry) (k i v : ℕ) → Signed L S H k i v
    → Signed L S (H then x) k i v
signed-kept L S H x k i v p = (signed-more L S H (λ (j : ℕ). standing_after L S.n j H) (λ j. refl) x k i v).1 (inl p)
