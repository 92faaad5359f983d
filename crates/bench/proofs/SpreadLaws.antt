-- Copies are owed to the sound boards that lack a statement which a sound board has; and they are so once a board hears
-- a statement that is new to it. No bench is looked at. Assumes nothing.
use Rattle.std.specs.Prelude.{◌==◌, not}
use Prim.Native.Nat.{ℕ, ◌≤◌}
use native.Mathlib.Omega.{arith}
use native.Mathlib.Decide.{ℕ_discrete}
use mathlib.Core.Path.{◌≡◌, refl, subst, ◌∙◌, fun_ext}
use mathlib.Core.Bool.{true, false}
use mathlib.Core.Logic.{◌⊎◌, inr, ⊎_elim, ◌↔◌}
use Rattle.std.proofs.lemmas.Bool.Decides.{nat_tests}
use Rattle.signer.specs.Log.{is_identifier}
use Rattle.delivery.specs.Limits.{Limits}
use Rattle.delivery.specs.Bus.{is_board}
use Rattle.delivery.specs.Sets.{in_set, bits}
use Rattle.delivery.specs.Delivered.{Store}
use Rattle.delivery.specs.Owed.{receivers, after_signing, after_delivery}
use Rattle.delivery.specs.Claims.{Lacks}
use Rattle.delivery.specs.declared.owed.Owed.{Owed}
use Rattle.delivery.proofs.OwedLaws.{Whole, signing-there, delivery-there}
use Rattle.delivery.proofs.EchoLaws.{Wants, signing-owes, delivery-owes}

-- board k lacks what s said, by the entries that each board has of it, and a sound board has it
pub record Lacking (sound : ℕ) (has : ℕ → ℕ) (k s : ℕ) : Type 0 where
  pub is-sound : in_set sound k ≡ true
  pub other : k ≡ s → ⊥
  pub not-heard : has k ≡ 0
  pub holder : ℕ
  pub holder-sound : in_set sound holder ≡ true
  pub holder-has : has holder ≡ 0 → ⊥

-- copies are owed just to these, where h is what each board has heard
abbrev pub Spread : Limits → ℕ → Owed → (ℕ → Store) → Type 0
Spread L sound o h = (k s i : ℕ) → (in_set (receivers L o s i) k ≡ true) ↔ Lacking sound (λ (j : ℕ). h j s i) k s

-- Sound board a hears what s said under i, which is new to it, and nothing else is heard: h' are the entries then, and
-- `have` are the boards that had heard it.
pub record HearsNew (sound a s i have : ℕ) (h h' : ℕ → Store) : Type 0 where
  pub a-sound : in_set sound a ≡ true
  pub range : (k : ℕ) → in_set sound k ≡ true → (1 ≤ k) × (k ≤ bits) × (in_set have k ≡ not (h k s i == 0))
  pub only : (k s' i' : ℕ) → (h' k s' i' ≡ h k s' i') ⊎ ((k ≡ a) × (s' ≡ s) × (i' ≡ i))
  pub new : h' a s i ≡ 0 → ⊥

module _ {L : Limits} {o : Owed} {sound a s i have : ℕ} {h h' : ℕ → Store} (w : Whole L o) (b : is_board L s ≡ true)
    (d : is_identifier L.identifiers i ≡ true) (n : HearsNew sound a s i have h h') (old : Spread L sound o h) where
  -- who lacks the statement then has lacked it, and is not a
  abbrev Lacked : ℕ → Type 0
  Lacked k = (in_set sound k ≡ true) × (k ≡ s → ⊥) × (h k s i ≡ 0)

  lacking-lacked : (k : ℕ) → Lacking sound (λ j. h' j s i) k s ↔ ((k ≡ a → ⊥) × Lacked k)
  lacking-lacked k = (
    λ l.
        let z = n.only k s i in
        let apart : k ≡ a → ⊥ = λ (m : k ≡ a). n.new (subst (λ (j : ℕ). h' j s i ≡ 0) m l.not-heard) in
        (apart, (l.is-sound, l.other, grind (arith, z, apart, l.not-heard))),
    λ l.
        record {
          is-sound = l.1.0;
          other = l.1.1;
          not-heard = ⊎_elim (λ z. z ∙ l.1.2) (λ z. absurd (l.0 z.0)) (n.only k s i);
          holder = a;
          holder-sound = n.a-sound;
          holder-has = n.new;
        },
  )

  wants-lacked : (k : ℕ) → Wants L o s i sound have w b d k ↔ Lacked k
  wants-lacked k = (
    λ t. ⊎_elim (λ r. let l = (old k s i).0 r in (l.is-sound, l.other, l.not-heard)) lacks t.2,
    λ l.
        let r = n.range k l.0 in
        (r.0, r.1, inr (record { is-sound = l.0; other = l.1; has-not = r.2 ∙ rw l.2 none })),
  )
    where
      none : not (0 == 0) ≡ false
      none = refl

      lacks : Lacks sound have s k → Lacked k
      lacks l =
          let r = n.range k l.is-sound in
          let z = l.has-not in
          (l.is-sound, l.other, grind (arith, nat_tests, r.2, z))

  -- of another statement all is as it was
  others : {R : Type 0} (k s' i' : ℕ) → (s' ≡ s → i' ≡ i → ⊥) → R ↔ (in_set (receivers L o s' i') k ≡ true)
      → R ↔ Lacking sound (λ j. h' j s' i') k s'
  others k s' i' f r =
      let same : (λ (j : ℕ). h' j s' i') ≡ (λ (j : ℕ). h j s' i') =
      fun_ext
      (λ (j : ℕ). ⊎_elim (λ e. e) (λ (e : (j ≡ a) × (s' ≡ s) × (i' ≡ i)). absurd (f e.1 e.2)) (n.only j s' i')) in
      rw same (λ t. (old k s' i').0 (r.0 t), λ l. r.1 ((old k s' i').1 l))

  every : {R : ℕ → ℕ → ℕ → Type 0} → ((k : ℕ) → R k s i ↔ ((k ≡ a → ⊥) × Lacked k))
      → ((k s' i' : ℕ) → (s' ≡ s → i' ≡ i → ⊥) → R k s' i' ↔ (in_set (receivers L o s' i') k ≡ true))
      → (k s' i' : ℕ) → R k s' i' ↔ Lacking sound (λ j. h' j s' i') k s'
  every {R = R} here there k s' i' = go (ℕ_discrete s' s) (ℕ_discrete i' i)
    where
      go : Dec (s' ≡ s) → Dec (i' ≡ i) → R k s' i' ↔ Lacking sound (λ j. h' j s' i') k s'
      go (yes p) (yes q) =
          rw (p, q) (λ t. (lacking-lacked k).1 ((here k).0 t), λ l. (here k).1 ((lacking-lacked k).0 l))
      go (yes p) (no q) = others k s' i' (λ _ z. q z) (there k s' i' (λ _ z. q z))
      go (no p) q = others k s' i' (λ z _. p z) (there k s' i' (λ z _. p z))

  -- so it is after a delivery to a, and after a signature of a
  pub delivery-spreads : Spread L sound (after_delivery L o a s i sound have) h'
  delivery-spreads =
      every
      (λ k.
      let p = delivery-owes L o s i sound have w b d k a in
      (λ t. let q = p.0 t in (q.0, (wants-lacked k).0 q.1), λ t. p.1 (t.0, (wants-lacked k).1 t.1)))
      (λ k s' i' f. rw (delivery-there L o a s i sound have s' i' f) (λ t. t, λ t. t))

  pub signing-spreads : a ≡ s → Spread L sound (after_signing L o s i sound have) h'
  signing-spreads m =
      every
      (λ k.
      let p = signing-owes L o s i sound have w b d k in
      (λ t. let q = (wants-lacked k).0 (p.0 t) in ((λ z. q.1 (z ∙ m)), q), λ t. p.1 ((wants-lacked k).1 t.1)))
      (λ k s' i' f. rw (signing-there L o s i sound have s' i' f) (λ t. t, λ t. t))
