-- Laws of the copies that are owed. Assumes nothing.
use Rattle.std.specs.Prelude.{◌==◌, ◌&&◌, ◌||◌, not}
use Prim.Native.Nat.{ℕ, ◌+◌, ◌-◌, ◌≤◌, ◌<◌}
use mathlib.Core.Path.{◌≡◌, ap, ◌∙◌}
use mathlib.Core.Bool.{Bool, true}
use mathlib.Core.Logic.{◌⊎◌}
use native.Mathlib.Omega.{arith}
use lib.ListN.{length, get_or, length-replicate}
use Rattle.signer.specs.FromOne.{nth}
use Rattle.signer.specs.Log.{is_identifier}
use Rattle.signer.proofs.FromOneLaws.{get_none, get_some, within-out, nth-any, nth_after, set_nth-index, set_nth-none, length-set_nth, nth-set-same, nth-set-other, nth-change, nth-replicate, within_low, within-high}
use Rattle.delivery.specs.Limits.{Limits}
use Rattle.delivery.specs.Bus.{is_board}
use Rattle.delivery.specs.Sets.{in_set, set_of, bits, without_board, union, minus}
use Rattle.delivery.specs.Owed.{no_copies, receivers_at, with_receivers_at, nothing_owed, copies_of, with_copies, receivers, with_receivers, lacks, after_signing, after_delivery}
use Rattle.delivery.specs.declared.owed.Copies.{Copies}
use Rattle.delivery.specs.declared.owed.Owed.{Owed}
use Rattle.delivery.proofs.SetLaws.{set-cong, in-set_of-within}

-- there is a set for each board as the speaker and each identifier
pub record Whole (L : Limits) (o : Owed) : Type 0 where
  pub size : length o.speakers ≡ L.boards
  pub each : (s : ℕ) → length (copies_of L o s).receivers ≡ L.identifiers

-- nobody is owed a copy of what is said under any identifier where no copy is
pub nobody-at : (L : Limits) (i : ℕ) → receivers_at (no_copies L) i ≡ 0
unfolding receivers_at no_copies
nobody-at L i = nth-replicate L.identifiers i 0

-- the sets stand by speaker, and of each speaker by identifier
pub receivers-index : (L : Limits) (o : Owed) (s i : ℕ) (d : Copies) → s < length o.speakers
    → receivers L o (s + 1) (i + 1) ≡ get_or (get_or o.speakers s d).receivers i 0
unfolding receivers receivers_at copies_of
receivers-index L o s i d h =
    let e : s + 1 - 1 ≡ s = omega arith in
    let copies = nth-any o.speakers (s + 1) (no_copies L) d (omega arith) (omega (arith, h)) ∙ ap (λ (j : ℕ). get_or o.speakers j d) e in
    nth_after (nth o.speakers (s + 1) (no_copies L)).receivers i 0 ∙ ap (λ (c : Copies). get_or c.receivers i 0) copies

-- where nothing is owed
copies-nothing : (L : Limits) (s : ℕ) → copies_of L (nothing_owed L) s ≡ no_copies L
unfolding nothing_owed copies_of
copies-nothing L s = nth-replicate L.boards s (no_copies L)

pub nothing-whole : (L : Limits) → Whole L (nothing_owed L)
unfolding nothing_owed no_copies
nothing-whole L =
    record {
      size = length-replicate L.boards (no_copies L);
      each = λ s. ap (λ (c : Copies). length c.receivers) (copies-nothing L s) ∙ length-replicate L.identifiers 0;
    }

pub owed-nothing : (L : Limits) (s i : ℕ) → receivers L (nothing_owed L) s i ≡ 0
unfolding receivers
owed-nothing L s i = ap (λ (c : Copies). receivers_at c i) (copies-nothing L s) ∙ nobody-at L i

-- one set replaced
module _ (L : Limits) (o : Owed) (s i m : ℕ) where
  copies-with : (s' : ℕ) → (copies_of L (with_receivers L o s i m) s' ≡ copies_of L o s')
      ⊎ ((s' ≡ s) × (copies_of L (with_receivers L o s i m) s' ≡ with_receivers_at (copies_of L o s) i m))
  unfolding copies_of with_receivers with_copies
  copies-with s' = nth-change o.speakers s' s (with_receivers_at (copies_of L o s) i m) (no_copies L)

  pub with-whole : Whole L o → Whole L (with_receivers L o s i m)
  unfolding with_receivers with_copies with_receivers_at
  with-whole w =
      record {
        size = length-set_nth o.speakers s (with_receivers_at (copies_of L o s) i m) ∙ w.size;
        each = λ s'. let l = length-set_nth (copies_of L o s).receivers i m in grind (arith, w.each, copies-with s');
      }

  pub with-here : Whole L o → is_board L s ≡ true → is_identifier L.identifiers i ≡ true
      → receivers L (with_receivers L o s i m) s i ≡ m
  unfolding receivers receivers_at copies_of with_receivers with_copies with_receivers_at
  with-here w b h =
      let low = within_low L.boards s b in
      let high : s ≤ length o.speakers = omega (arith, w.size, within-high L.boards s b) in
      let inner : i ≤ length (copies_of L o s).receivers = omega (arith, w.each s, within-high L.identifiers i h) in
      let at = nth-set-same o.speakers s (with_receivers_at (copies_of L o s) i m) (no_copies L) low high in
      ap (λ (c : Copies). receivers_at c i) at
      ∙ nth-set-same (copies_of L o s).receivers i m 0 (within_low L.identifiers i h) inner

  pub with-there : (s' i' : ℕ) → (s' ≡ s → i' ≡ i → ⊥)
      → receivers L (with_receivers L o s i m) s' i' ≡ receivers L o s' i'
  unfolding receivers receivers_at with_receivers_at
  with-there s' i' h =
      let other = nth-set-other (copies_of L o s).receivers i' i m 0 in
      grind (arith, copies-with s')

-- after s signed under i: its set there is what the definition says, and no other changes
module _ (L : Limits) (o : Owed) (s i sound have : ℕ) where
  pub after-signing-whole : Whole L o → Whole L (after_signing L o s i sound have)
  unfolding after_signing
  after-signing-whole = with-whole L o s i _

  pub signing-here : Whole L o → is_board L s ≡ true → is_identifier L.identifiers i ≡ true
      → receivers L (after_signing L o s i sound have) s i
      ≡ set_of bits (λ (k : ℕ). in_set (receivers L o s i) k || lacks sound have s k)
  unfolding after_signing
  signing-here = with-here L o s i _

  pub signing-there : (s' i' : ℕ) → (s' ≡ s → i' ≡ i → ⊥)
      → receivers L (after_signing L o s i sound have) s' i' ≡ receivers L o s' i'
  unfolding after_signing
  signing-there = with-there L o s i _

-- after board j delivered what s said under i, the same
module _ (L : Limits) (o : Owed) (j s i sound have : ℕ) where
  pub after-delivery-whole : Whole L o → Whole L (after_delivery L o j s i sound have)
  unfolding after_delivery
  after-delivery-whole = with-whole L o s i _

  pub delivery-here : Whole L o → is_board L s ≡ true → is_identifier L.identifiers i ≡ true
      → receivers L (after_delivery L o j s i sound have) s i
      ≡ set_of bits (λ (k : ℕ). not (k == j) && (in_set (receivers L o s i) k || lacks sound have s k))
  unfolding after_delivery
  delivery-here = with-here L o s i _

  pub delivery-there : (s' i' : ℕ) → (s' ≡ s → i' ≡ i → ⊥)
      → receivers L (after_delivery L o j s i sound have) s' i' ≡ receivers L o s' i'
  unfolding after_delivery
  delivery-there = with-there L o s i _

-- the sets in these definitions, made of sets
pub signing-set : (m s sound have : ℕ)
    → union m (minus (without_board sound s) have) ≡ set_of bits (λ (k : ℕ). in_set m k || lacks sound have s k)
unfolding union minus without_board lacks
signing-set m s sound have = set-cong bits _ _ (λ k l h. simp in-set_of-within (grind arith))

pub delivery-set : (j : ℕ) (p : ℕ → Bool)
    → without_board (set_of bits p) j ≡ set_of bits (λ (k : ℕ). not (k == j) && p k)
unfolding without_board
delivery-set j p = set-cong bits _ _ (λ k l h. simp in-set_of-within (grind arith))

-- for the functions
pub ruleset reading = (nobody-at, get_none, get_some)

pub ruleset writing = (within-out, nth-any, set_nth-index, set_nth-none, within-high, within_low)

pub ruleset sets = (signing-set, delivery-set)
