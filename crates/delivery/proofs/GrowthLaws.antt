-- Acceptance grows with what was delivered: what one store lets a board accept, a store with more in it does
-- too. Assumes nothing.
use Prim.Native.Nat.{ℕ, zero, suc, ◌≤◌}
use native.Mathlib.Numerals.{add-one}
use native.Mathlib.Omega.{arith}
use mathlib.Core.Path.{◌≡◌, refl, sym, ◌∙◌}
use mathlib.Core.Bool.{Bool, true}
use mathlib.Core.Logic.{inl, inr, ⊎_elim}
use Rattle.std.proofs.lemmas.Bool.Decides.{nat_tests}
use Rattle.delivery.specs.Limits.{Limits}
use Rattle.delivery.specs.Delivered.{Store, heard, deliver}
use Rattle.delivery.specs.Acceptance.{bears, opens, counts, allowed, accepts_opening, accepts_ballot}
use Rattle.delivery.specs.declared.delivered.Delivered.{Delivered}
use Rattle.delivery.proofs.CountLaws.{count-mono, count-cong}
use Rattle.delivery.proofs.DeliveredLaws.{deliver-keeps}
use Rattle.delivery.proofs.OneRoundLaws.{among, Leaves, later-reads, reads-later}
pub use Rattle.delivery.specs.Claims.{Grows}
use Rattle.delivery.specs.Claims.{Won}

-- as a store stands it grows, and so it does step by step
pub grows_same : (h : Store) → Grows h h
grows_same h = record { keeps = λ s i f. refl }

pub grows-on : (h h' h'' : Store) → Grows h h' → Grows h' h'' → Grows h h''
grows-on h h' h'' g k =
    record { keeps = λ s i f. k.keeps s i (λ z. f (sym (g.keeps s i f) ∙ z)) ∙ g.keeps s i f }

-- one statement more: what was there is there
pub deliver-grows : (L : Limits) (d : Delivered) (s i v : ℕ) → Grows (heard L d) (heard L (deliver L d s i v))
deliver-grows L d s i v = record { keeps = deliver-keeps L d s i v }

module _ (L : Limits) (n : ℕ) (h h' : Store) (g : Grows h h') where
  -- in one round, where as much or more is allowed
  module _ (r : ℕ) (m : (w : ℕ) → allowed L n h r w ≡ true → allowed L n h' r w ≡ true) where
    opens-grows : (w : ℕ) → accepts_opening L n h r w ≡ true → accepts_opening L n h' r w ≡ true
    unfolding accepts_opening opens
    opens-grows w o = grind (arith, nat_tests, g.keeps, m w)

    counts-grows : (s w : ℕ) → accepts_ballot L n h r s w ≡ true → accepts_ballot L n h' r s w ≡ true
    unfolding accepts_ballot accepts_opening counts bears
    counts-grows s w c = grind (arith, nat_tests, g.keeps, opens-grows w)

    -- of speakers whose ballots are accepted, as many bear a value by the one as by the other
    among-grows : (w : ℕ) (p : ℕ → Bool) → Leaves L n h r w p → (v : ℕ) → among L n h r p v ≡ among L n h' r p v
    unfolding accepts_ballot accepts_opening counts bears
    among-grows w p l v =
        count-cong n _ _ (λ s a b. grind (arith, nat_tests, l.accepted s a b, g.keeps, opens-grows))

    next-grows : (w : ℕ) → 1 ≤ r → allowed L n h (suc r) w ≡ true → allowed L n h' (suc r) w ≡ true
    next-grows w low a =
        let x = later-reads L n h r w low (rw (← add-one r) at a) in
        let same = among-grows w x.1.0 x.1.2 in
        let l : Leaves L n h' r w x.1.0 =
        record {
          accepted = λ s l u t. let y = x.1.2.accepted s l u t in (y.0, counts-grows s y.0 y.1);
          reason =
              ⊎_elim
              (λ e. inl (omega (arith, same w, e)))
              (λ d. inr (λ v z. omega (arith, same v, d.0 v z), m w d.1))
              x.1.2.reason;
        } in
        rw (← add-one r) (reads-later L n h' r w low x.0 x.1.0 x.1.1 l)

  pub allowed-grows : (r w : ℕ) → allowed L n h r w ≡ true → allowed L n h' r w ≡ true
  unfolding allowed
  allowed-grows zero w a = a
  allowed-grows (suc zero) w a = a
  allowed-grows (suc (suc r)) w a = next-grows (suc r) (allowed-grows (suc r)) w (omega arith) a

  pub opening-grows : (r w : ℕ) → accepts_opening L n h r w ≡ true → accepts_opening L n h' r w ≡ true
  opening-grows r = opens-grows r (allowed-grows r)

  pub ballot-grows : (r s w : ℕ) → accepts_ballot L n h r s w ≡ true → accepts_ballot L n h' r s w ≡ true
  ballot-grows r = counts-grows r (allowed-grows r)

  -- so what is won stays won
  pub won-grows : (r v : ℕ) → Won L n h r v → Won L n h' r v
  won-grows r v o =
      record {
        value = o.value;
        quorum-bears = omega (arith, o.quorum-bears, count-mono n _ _ (λ s l u b. ballot-grows r s v b));
      }
