-- Laws of what is allowed from round to round, and of what is accepted by it. Assumes nothing.
use Rattle.std.specs.Prelude.{if◌then◌else◌, ◌==◌, not}
use Prim.Native.Nat.{ℕ, zero, suc, ◌+◌, ◌≤◌, ◌<◌}
use native.Mathlib.Omega.{arith}
use native.Mathlib.Numerals.{add-one}
use mathlib.Core.Path.{◌≡◌, refl, sym, ap, ◌∙◌}
use mathlib.Core.Bool.{Bool, true, false}
use mathlib.Core.Logic.{◌⊎◌}
use Rattle.std.proofs.lemmas.Bool.Decides.{nat_tests}
use Rattle.signer.specs.Log.{entry_of}
use Rattle.delivery.specs.Limits.{Limits}
use Rattle.delivery.specs.Delivered.{Store}
use Rattle.delivery.specs.Acceptance.{says, opening_entry, ballot_entry, bears, backs, opens, counts, counts_some, allowed_after, allowed, accepts_opening, accepts_ballot, accepts_some, opened_entry}

module _ (L : Limits) (n : ℕ) (h : Store) where
  -- in round 1 every value is allowed, and in a later one what the one before leaves
  pub allowed-first : (w : ℕ) → allowed L n h 1 w ≡ not (w == 0)
  unfolding allowed
  allowed-first w = refl

  pub allowed-next : (r w : ℕ) → 1 ≤ r → allowed L n h (r + 1) w ≡ allowed_after L n h (allowed L n h r) r w
  unfolding allowed
  allowed-next zero w l = absurd (omega arith)
  allowed-next (suc r) w l = ap (λ (m : ℕ). allowed L n h m w) (add-one (suc r))

  -- the blank never
  pub allowed-blank : (r : ℕ) → allowed L n h r 0 ≡ false
  unfolding allowed allowed_after
  allowed-blank zero = refl
  allowed-blank (suc zero) = refl
  allowed-blank (suc (suc r)) = refl

-- acceptance in a round
module _ (L : Limits) (n : ℕ) (h : Store) (r : ℕ) where
  -- an opening is accepted: the coordinator sent it, and its value is one and allowed
  pub record Opens (w : ℕ) : Type 0 where
    pub said : opening_entry L n h r ≡ entry_of w
    pub value : w ≡ 0 → ⊥
    pub permitted : allowed L n h r w ≡ true

  pub opening-reads : (w : ℕ) → accepts_opening L n h r w ≡ true → Opens w
  unfolding accepts_opening opens
  opening-reads w o = grind (arith, nat_tests)

  pub reads-opening : (w : ℕ) → Opens w → accepts_opening L n h r w ≡ true
  unfolding accepts_opening opens
  reads-opening w o = grind (arith, nat_tests)

  pub one-opening : (v w : ℕ) → accepts_opening L n h r v ≡ true → accepts_opening L n h r w ≡ true → v ≡ w
  one-opening v w o p = omega (arith, (opening-reads v o).said, (opening-reads w p).said)

  -- a ballot is accepted: it was sent, and is blank or its opening is accepted
  pub record Counts (s w : ℕ) : Type 0 where
    pub said : ballot_entry L h r s ≡ entry_of w
    pub backed : (w ≡ 0) ⊎ (accepts_opening L n h r w ≡ true)

  pub ballot-reads : (s w : ℕ) → accepts_ballot L n h r s w ≡ true → Counts s w
  unfolding accepts_ballot accepts_opening counts bears
  ballot-reads s w b = grind (arith, nat_tests)

  pub reads-ballot : (s w : ℕ) → Counts s w → accepts_ballot L n h r s w ≡ true
  unfolding accepts_ballot accepts_opening counts bears
  reads-ballot s w b = grind (arith, nat_tests)

  pub ballot-needs : (s w : ℕ) → (w ≡ 0 → ⊥) → accepts_ballot L n h r s w ≡ true → accepts_opening L n h r w ≡ true
  ballot-needs s w z b = grind (arith, ballot-reads s w b)

  pub ballot-sent : (s w : ℕ) → (w ≡ 0) ⊎ (accepts_opening L n h r w ≡ true)
      → accepts_ballot L n h r s w ≡ bears L h r w s
  unfolding accepts_ballot accepts_opening counts bears
  ballot-sent s w o = grind (arith, nat_tests)

  pub ballot-unopened : (s w : ℕ) → (w ≡ 0 → ⊥) → accepts_opening L n h r w ≡ false → accepts_ballot L n h r s w ≡ false
  unfolding accepts_ballot accepts_opening counts
  ballot-unopened s w z o = grind (arith, nat_tests)

  -- and from s, whatever it bears
  pub accepted-reads : (s : ℕ) → accepts_some L n h r s ≡ true → (w : ℕ) × (accepts_ballot L n h r s w ≡ true)
  unfolding accepts_some accepts_ballot counts_some says counts bears
  accepted-reads s b = grind (arith, nat_tests)

  pub reads-accepted : (s w : ℕ) → accepts_ballot L n h r s w ≡ true → accepts_some L n h r s ≡ true
  unfolding accepts_some accepts_ballot counts_some says counts bears
  reads-accepted s w b = grind (arith, nat_tests)

  -- the entry of the accepted opening: the opening's, if that is of a value that is allowed
  pub opened-allowed : opened_entry L n h r
      ≡ (if says (opening_entry L n h r) (allowed L n h r) then opening_entry L n h r else 0)
  unfolding opened_entry accepts_opening opens says
  opened-allowed = grind (arith, nat_tests, allowed-blank L n h r)

  pub opened-low : (x : ℕ) → x ≡ opening_entry L n h r → x < 2 → 0 ≡ opened_entry L n h r
  unfolding says
  opened-low x e l = grind (arith, opened-allowed, allowed-blank L n h r)

  pub opened-sent : (opened_entry L n h r ≡ 0) ⊎ (opened_entry L n h r ≡ opening_entry L n h r)
  opened-sent = grind (arith, opened-allowed)

  pub opened-found : (x y : ℕ) (p : ℕ → Bool) → x ≡ opening_entry L n h r → p ≡ allowed L n h r
      → y ≡ (if says x p then x else 0) → y ≡ opened_entry L n h r
  opened-found x y p e f g = rw (e, f) at g ∙ sym opened-allowed

  pub opened-entry : (w : ℕ) → accepts_opening L n h r w ≡ (opened_entry L n h r == entry_of w)
  unfolding accepts_opening opens says
  opened-entry w = grind (arith, nat_tests, opened-allowed, allowed-blank L n h r)

  -- and what the accepted opening bears, an accepted ballot bears as soon as a ballot does
  pub opened-backs : (s : ℕ)
      → says (opened_entry L n h r) (accepts_ballot L n h r s) ≡ backs L h r (opened_entry L n h r) s
  unfolding says backs accepts_ballot counts accepts_opening
  opened-backs s = grind (arith, nat_tests, opened-entry)

-- for the functions
pub ruleset openings = (opened-low, opened-found, opened-entry)

pub ruleset allowed_blank = (allowed-blank)
