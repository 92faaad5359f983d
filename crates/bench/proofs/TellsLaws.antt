-- A history tells what a view shows, entry after entry. Assumes nothing.
use Prim.Native.Nat.{ℕ}
use native.Mathlib.Omega.{arith}
use mathlib.Core.Path.{◌≡◌, refl, ◌∙◌}
use mathlib.Core.Logic.{◌⊎◌, inl, inr, ⊎_elim, ◌↔◌}
use Rattle.std.proofs.lemmas.Bool.Decides.{nat_tests}
use Rattle.signer.specs.Log.{entry_of}
use Rattle.delivery.specs.Limits.{Limits}
use Rattle.vote.specs.Boards.{decision_of}
use Rattle.vote.specs.declared.board.Status.TheVariants.{Decided as decided-with}
use Rattle.bench.specs.Setups.{Setup}
use Rattle.bench.specs.Story.{Entry, History, standing_after, after_entry}
use Rattle.bench.specs.Claim.{Sound, Signed, Delivered, Decided}
use Rattle.bench.specs.declared.event.Event.{Event}
use Rattle.bench.proofs.MomentLaws.{accepted, ◌then◌, standing-last}
use Rattle.bench.proofs.ViewLaws.{View, put}
use Rattle.bench.proofs.ReplayLaws.{Lawful, Sane, replay, replay-signs, replay-delivers, replay-decides}
use Rattle.bench.proofs.HistoryLaws.{signed-more, delivered-more, decided-more}

-- a history says just what a view shows
pub record Tells (L : Limits) (S : Setup) (H : History) (V : View) : Type 0 where
  pub stands : (k : ℕ) → standing_after L S.n k H ≡ V.stands k
  pub signed : (k i v : ℕ) → Signed L S H k i v ↔ (V.signed k i ≡ entry_of v)
  pub delivered : (k s i v : ℕ) → Delivered L S H k s i v ↔ ((V.stands k).heard s i ≡ entry_of v)
  pub decided : (k r v : ℕ) → Decided L S H k r v ↔ (Sound L S k × (V.status k ≡ decided-with (decision_of r v)))

-- a statement with one entry more, where the entry adds B or nothing
joined : {A A' B C D R : Type 0} → A' ↔ (A ⊎ (R × B)) → R → A ↔ C → D ↔ (C ⊎ B) → A' ↔ D
joined m r z n = (
  λ p. n.1 (⊎_elim (λ a. inl (z.0 a)) (λ b. inr b.1) (m.0 p)),
  λ d. m.1 (⊎_elim (λ c. inl (z.1 c)) (λ b. inr (r, b)) (n.0 d)),
)

same : {A A' B C R : Type 0} → A' ↔ (A ⊎ (R × B)) → (R → ⊥) → A ↔ C → A' ↔ C
same m n z = (λ p. ⊎_elim z.0 (λ b. absurd (n b.0)) (m.0 p), λ c. m.1 (inl (z.1 c)))

module _ {L : Limits} {S : Setup} {H : History} {V : View} (y : Tells L S H V) where
  -- so it does with a refused event more, on the same view, and with an accepted one, on the view where it is replayed
  pub tells-refused : (x : Entry) → (x.answer ≡ 0 → ⊥) → Tells L S (H then x) V
  unfolding after_entry
  tells-refused x n =
      record {
        stands = λ k. standing-last L S.n k H x ∙ grind (arith, nat_tests, y.stands k);
        signed = λ k i v. same (signed-more L S H V.stands y.stands x k i v) n (y.signed k i v);
        delivered = λ k s i v. same (delivered-more L S H V.stands y.stands x k s i v) n (y.delivered k s i v);
        decided = λ k r v. same (decided-more L S H V.stands y.stands x k r v) n (y.decided k r v);
      }

  module _ {e : Event} (w : Lawful L S V e) (f : Sane L S V) where
    tells-accepted-stands : (k : ℕ) → standing_after L S.n k (H then accepted e) ≡ (replay L S V e).stands k
    unfolding after_entry put
    tells-accepted-stands k = standing-last L S.n k H (accepted e) ∙ grind (arith, nat_tests, y.stands k)

    abbrev x : Entry
    x = accepted e

    pub tells-accepted : Tells L S (H then accepted e) (replay L S V e)
    tells-accepted =
        record {
          stands = tells-accepted-stands;
          signed =
              λ k i v.
              joined (signed-more L S H V.stands y.stands x k i v) refl (y.signed k i v) (replay-signs w f k i v);
          delivered =
              λ k s i v.
              let more = delivered-more L S H V.stands y.stands x k s i v in
              joined more refl (y.delivered k s i v) (replay-delivers w f k s i v);
          decided =
              λ k r v.
              joined (decided-more L S H V.stands y.stands x k r v) refl (y.decided k r v) (replay-decides w f k r v);
        }
