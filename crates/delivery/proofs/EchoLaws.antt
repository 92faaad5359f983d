-- Who is owed a copy after a signature and after a delivery, board by board. Assumes nothing.
use Rattle.std.specs.Prelude.{◌==◌, ◌&&◌, ◌||◌, not}
use Prim.Native.Nat.{ℕ, ◌≤◌}
use native.Mathlib.Omega.{arith}
use mathlib.Core.Path.{◌≡◌}
use mathlib.Core.Bool.{Bool, true}
use mathlib.Core.Logic.{◌⊎◌, ◌↔◌}
use Rattle.std.proofs.lemmas.Bool.Decides.{nat_tests}
use Rattle.signer.specs.Log.{is_identifier}
use Rattle.delivery.specs.Limits.{Limits}
use Rattle.delivery.specs.Bus.{is_board}
use Rattle.delivery.specs.Sets.{in_set, set_of, bits}
use Rattle.delivery.specs.Owed.{receivers, lacks, after_signing, after_delivery}
use Rattle.delivery.specs.declared.owed.Owed.{Owed}
use Rattle.delivery.specs.Claims.{Lacks}
use Rattle.delivery.proofs.SetLaws.{in-set_of-within, in-set_of-passes, in-set_of-outside}
use Rattle.delivery.proofs.OwedLaws.{Whole, signing-here, delivery-here}

-- the members of a set of 1 to n
members : (n : ℕ) (p : ℕ → Bool) (k : ℕ) → (in_set (set_of n p) k ≡ true) ↔ ((1 ≤ k) × (k ≤ n) × (p k ≡ true))
members n p k =
    let within = in-set_of-within n p k in
    let passes = in-set_of-passes n p k in
    let outside = in-set_of-outside n p k in
    (grind arith, grind arith)

-- what makes a board owed: it was, or it lacks the statement; and it is another than j
wants : (m sound have s k : ℕ)
    → ((in_set m k || lacks sound have s k) ≡ true) ↔ ((in_set m k ≡ true) ⊎ Lacks sound have s k)
unfolding lacks
wants m sound have s k = (λ t. grind (arith, nat_tests), λ t. grind (arith, nat_tests))

another : (k j : ℕ) (b : Bool) → ((not (k == j) && b) ≡ true) ↔ ((k ≡ j → ⊥) × (b ≡ true))
another k j b = (λ t. grind (arith, nat_tests), λ t. grind (arith, nat_tests))

-- a statement of a board, in a record with a place for it
module _ (L : Limits) (o : Owed) (s i sound have : ℕ) (w : Whole L o) (b : is_board L s ≡ true)
    (d : is_identifier L.identifiers i ≡ true) (k : ℕ) where
  -- board k can be owed a copy, and was owed one or lacks one
  abbrev pub Wants : Type 0
  Wants = (1 ≤ k) × (k ≤ bits) × ((in_set (receivers L o s i) k ≡ true) ⊎ Lacks sound have s k)

  -- once s signed the statement a copy is owed to k if it wants one
  pub signing-owes : (in_set (receivers L (after_signing L o s i sound have) s i) k ≡ true) ↔ Wants
  signing-owes =
      let want = wants (receivers L o s i) sound have s k in
      rw (signing-here L o s i sound have w b d) (
        λ t. let m = (members bits _ k).0 t in (m.0, m.1, want.0 m.2),
        λ t. (members bits _ k).1 (t.0, t.1, want.1 t.2),
      )

  -- and once board j delivered it, if k is another than j
  pub delivery-owes : (j : ℕ)
      → (in_set (receivers L (after_delivery L o j s i sound have) s i) k ≡ true) ↔ ((k ≡ j → ⊥) × Wants)
  delivery-owes j =
      let want = wants (receivers L o s i) sound have s k in
      let apart = another k j (in_set (receivers L o s i) k || lacks sound have s k) in
      rw (delivery-here L o j s i sound have w b d) (
        λ t. let m = (members bits _ k).0 t in let x = apart.0 m.2 in (x.0, (m.0, m.1, want.0 x.1)),
        λ t. (members bits _ k).1 (t.1.0, t.1.1, apart.1 (t.0, want.1 t.1.2)),
      )
