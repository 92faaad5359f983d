-- A copy is owed, by a history, to each sound board that lacks what another has, whatever became of it in between.
-- Assumes nothing.
use Prim.Native.Nat.{ℕ}
use native.Mathlib.Omega.{arith}
use mathlib.Core.Path.{◌≡◌, refl, sym, ap, subst, ◌∙◌}
use mathlib.Core.Bool.{true≢false}
use mathlib.Core.List.{◌∷◌, ◌++◌, append_assoc}
use mathlib.Core.Logic.{◌⊎◌, inl, inr, ⊎_elim}
use Rattle.delivery.specs.Limits.{Limits}
use Rattle.bench.specs.Setups.{Setup}
use Rattle.bench.specs.Story.{Entry, History, standing_after}
use Rattle.bench.specs.Claim.{Moment, Once, Delivers, Sound, SignedInTurn, Signed, Reached, Delivered, Spreads, by-signing, by-echo, Owed, NothingOwed, AllAlike}
use Rattle.bench.specs.declared.event.Event.{Event}
use Rattle.bench.proofs.MomentLaws.{accepted, Order, order, once-early}

-- what was so in the rest of a history was so in it, where it does not depend on what came before
pub once-late : (H B K : History) (x : Entry) (Q : Event → Type 0) → H ≡ B ++ (x ∷ K)
    → Once K (λ (B : History) (e : Event). Q e) → Once H (λ (B : History) (e : Event). Q e)
once-late H B K x Q e o =
    record {
      moment =
          record {
            before = B ++ (x ∷ o.moment.before);
            event = o.moment.event;
            later = o.moment.later;
            whole =
                e
                ∙ ap (λ (w : History). B ++ (x ∷ w)) o.moment.whole
                ∙ sym (append_assoc B (x ∷ o.moment.before) (accepted o.moment.event ∷ o.moment.later));
          };
      so = o.so;
    }

-- board k lacks what another board said, and a sound board has it
pub record Lacks (L : Limits) (S : Setup) (H : History) (k s i v : ℕ) : Type 0 where
  pub is-sound : Sound L S k
  pub other : k ≡ s → ⊥
  pub has-not : Delivered L S H k s i v → ⊥
  pub holder : ℕ
  pub holder-has : Delivered L S H holder s i v

-- what was delivered in the first part of a history was delivered in it
has-early : (L : Limits) (S : Setup) (H B K : History) (j s i v : ℕ) → H ≡ B ++ K → Delivered L S B j s i v
    → Delivered L S H j s i v
has-early L S H B K j s i v e (t, inr p) = (t, inr (once-early H B K _ e p))
has-early L S H B K j s i v e (t, inl (m, inl q)) = (t, inl (m, inl (q.0, once-early H B K _ e q.1)))
has-early L S H B K j s i v e (t, inl (m, inr q)) = (t, inl (m, inr (q.0, once-early H B K _ e q.1)))

module _ {L : Limits} {S : Setup} {H : History} {k s i v : ℕ} where
  -- to whom a copy is owed, it lacks the statement
  pub owed-lacks : Owed L S H k s i v → Lacks L S H k s i v
  owed-lacks o =
      record {
        is-sound = o.is-sound;
        other = o.other;
        has-not =
            λ d.
            ⊎_elim
            (λ p. o.other (sym p.0))
            (λ r. arrived d.0 r (order _ _ _ _ _ _ (sym at.whole ∙ r.moment.whole)))
            d.1;
        holder = (holder o.spreads).0;
        holder-has = (holder o.spreads).1;
      }
    where
      at : Moment H
      at = o.moment

      holder : Spreads L S (standing_after L S.n s at.before) at.event k s i v → (j : ℕ) × Delivered L S H j s i v
      holder (by-signing p q) = (s, (p, inl (refl, inl (p, record { moment = at; so = q }))))
      holder (by-echo j p m d) = (j, (p, inr (record { moment = at; so = d })))

      spreads-not : Spreads L S (standing_after L S.n s at.before) at.event k s i v → Delivers at.event k s i v → ⊥
      spreads-not (by-signing p q) d = omega (arith, q.kind, d.kind)
      spreads-not (by-echo j p m q) d = m (sym q.board ∙ d.board)

      -- it was delivered neither before the copy spread, nor then, nor later
      arrived : Sound L S k → (r : Reached L S H k s i v)
          → Order at.before r.moment.before (accepted at.event) (accepted r.moment.event) at.later r.moment.later → ⊥
      arrived t r (inl p) =
          let m : Moment at.before =
          record { before = r.moment.before; event = r.moment.event; later = p.0; whole = p.1 } in
          o.not-before (t, inr (record { moment = m; so = r.so }))
      arrived t r (inr (inl p)) = spreads-not o.spreads (subst (λ (x : Entry). Delivers x.event k s i v) (sym p.0) r.so)
      arrived t r (inr (inr p)) =
          let m : Moment at.later =
          record { before = p.0; event = r.moment.event; later = r.moment.later; whole = p.1 } in
          o.not-since (record { moment = m; so = r.so })

  -- and who lacks a statement is owed a copy, as of any moment when it spread
  spread-at : Lacks L S H k s i v → (m : Moment H) → Spreads L S (standing_after L S.n s m.before) m.event k s i v
      → Owed L S H k s i v
  spread-at l m p =
      record {
        is-sound = l.is-sound;
        other = l.other;
        moment = m;
        spreads = p;
        not-before = λ d. l.has-not (has-early L S H m.before _ k s i v m.whole d);
        not-since =
            λ r.
            let q = once-late H m.before m.later (accepted m.event) (λ (e : Event). Delivers e k s i v) m.whole r in
            l.has-not (l.is-sound, inr q);
      }

  pub lacks-owed : Lacks L S H k s i v → Owed L S H k s i v
  lacks-owed l = go l.holder-has.1
    where
      j : ℕ
      j = l.holder

      go : ((s ≡ j) × Signed L S H j i v) ⊎ Reached L S H j s i v → Owed L S H k s i v
      go (inl (e, inl p)) =
          let q : SignedInTurn L S H s i v = rw e p.1 in
          spread-at l q.moment (by-signing (rw e l.holder-has.0) q.so)
      go (inl (e, inr p)) = absurd (true≢false (sym l.holder-has.0 ∙ p.0.1))
      go (inr r) =
          let other = λ (m : j ≡ k). l.has-not (subst (λ (x : ℕ). Delivered L S H x s i v) m l.holder-has) in
          spread-at l r.moment (by-echo j l.holder-has.0 other r.so)

-- where all sound boards have delivered the same, no copy is owed
pub nothing-owed : {L : Limits} {S : Setup} {H : History} → AllAlike L S H → NothingOwed L S H
nothing-owed n k s i v o =
    let l = owed-lacks o in
    l.has-not (n l.holder k l.holder-has.0 l.is-sound s i v l.holder-has)
