-- Laws of histories, entry by entry. They know of no bench. Assumes nothing.
use Prim.Native.Nat.{ℕ}
use mathlib.Core.Path.{◌≡◌, refl, sym, ap, subst, ◌∙◌}
use mathlib.Core.List.{[], ◌∷◌, ◌++◌, append_assoc}
use mathlib.Core.Logic.{◌⊎◌, inl, inr, ⊎_elim, ◌↔◌}
use Rattle.delivery.specs.Limits.{Limits}
use Rattle.bench.specs.Story.{Entry, History, Standing, after_entry, after_entries, standing_after, outset}
use Rattle.bench.specs.Claim.{Once}
use Rattle.bench.specs.declared.event.Event.{Event}

-- an entry of an event answered 0, and a history with one entry more
abbrev pub accepted : Event → Entry
accepted e = record { event = e; answer = 0 }

abbrev pub ◌then◌ : History → Entry → History
◌then◌ H x = H ++ (x ∷ [])

infixl 4 ◌then◌
-- two entries of a history: y comes before x, is x, or comes after it
abbrev pub Order : History → History → Entry → Entry → History → History → Type 0
Order B B' x y K K' =
    ((M : History) × (B ≡ B' ++ (y ∷ M))) ⊎ (((x ≡ y) × (B ≡ B')) ⊎ ((M : History) × (K ≡ M ++ (y ∷ K'))))

pub order : (B B' : History) (x y : Entry) (K K' : History) → B ++ (x ∷ K) ≡ B' ++ (y ∷ K') → Order B B' x y K K'
order [] [] x y K K' e = inr (inl (cc, refl))
order [] (z ∷ B') x y K K' e = inr (inr (B', cc))
order (z ∷ B) [] x y K K' e = inl (B, cc)
order (z ∷ B) (w ∷ B') x y K K' e = go (order B B' x y K K' (cc))
  where
    go : Order B B' x y K K' → Order (z ∷ B) (w ∷ B') x y K K'
    go (inl p) = inl (p.0, let q = p.1 in cc)
    go (inr (inl p)) = inr (inl (p.0, let q = p.1 in cc))
    go (inr (inr p)) = inr (inr p)

no-entry : (B : History) (y : Entry) (K : History) → [] ≡ B ++ (y ∷ K) → ⊥
no-entry [] y K e = absurd (cc)
no-entry (z ∷ B) y K e = absurd (cc)

pub once-none : (P : History → Event → Type 0) → Once [] P → ⊥
once-none P o = no-entry o.moment.before (accepted o.moment.event) o.moment.later o.moment.whole

-- what was so in the first part of a history was so in it
pub once-early : (H B K : History) (P : History → Event → Type 0) → H ≡ B ++ K → Once B P → Once H P
once-early H B K P e o =
    record {
      moment =
          record {
            before = o.moment.before;
            event = o.moment.event;
            later = o.moment.later ++ K;
            whole =
                e
                ∙ ap (λ (w : History). w ++ K) o.moment.whole
                ∙ append_assoc o.moment.before (accepted o.moment.event ∷ o.moment.later) K;
          };
      so = o.so;
    }

-- something was so at some moment of a history with one entry more: it was so before, or it is so now
module _ (H : History) (x : Entry) (P : History → Event → Type 0) where
  pub once-kept : Once H P → Once (H then x) P
  once-kept = once-early (H then x) H (x ∷ []) P refl

  pub once-more : Once (H then x) P ↔ (Once H P ⊎ ((x.answer ≡ 0) × P H x.event))
  once-more = (
    λ o. go o (order H o.moment.before x (accepted o.moment.event) [] o.moment.later o.moment.whole),
    ⊎_elim
        once-kept
        (λ (q : (x.answer ≡ 0) × P H x.event).
        record {
          moment =
              record {
                before = H;
                event = x.event;
                later = [];
                whole = ap (λ (m : ℕ). H then record { event = x.event; answer = m }) q.0;
              };
          so = q.1;
        }),
  )
    where
      go : (o : Once (H then x) P) → Order H o.moment.before x (accepted o.moment.event) [] o.moment.later
          → Once H P ⊎ ((x.answer ≡ 0) × P H x.event)
      go o (inl p) =
          inl (record {
            moment = record { before = o.moment.before; event = o.moment.event; later = p.0; whole = p.1 };
            so = o.so;
          })
      go o (inr (inl p)) =
          inr (
            ap (λ (w : Entry). w.answer) p.0,
            subst
                (λ (B : History). P B x.event)
                (sym p.1)
                (subst (P o.moment.before) (ap (λ (w : Entry). w.event) (sym p.0)) o.so),
          )
      go o (inr (inr p)) = absurd (no-entry p.0 _ _ p.1)

pub once-new : (H : History) (e : Event) (P : History → Event → Type 0) → P H e → Once (H then accepted e) P
once-new H e P p = (once-more H (accepted e) P).1 (inr (refl, p))

-- where a board stands after one entry more
module _ (L : Limits) (n k : ℕ) where
  from_last : (t : Standing) (H : History) (x : Entry)
      → after_entries L n k t (H then x) ≡ after_entry L n k (after_entries L n k t H) x
  unfolding after_entries
  from_last t [] x = refl
  from_last t (y ∷ H) x = from_last (after_entry L n k t y) H x

  pub standing-last : (H : History) (x : Entry)
      → standing_after L n k (H then x) ≡ after_entry L n k (standing_after L n k H) x
  unfolding standing_after
  standing-last H x = from_last outset H x

  pub standing-none : standing_after L n k [] ≡ outset
  unfolding standing_after after_entries
  standing-none = refl
