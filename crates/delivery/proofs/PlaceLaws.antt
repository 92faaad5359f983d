-- Laws of the places at which entries stand. Assumes nothing.
use Prim.Native.Nat.{ℕ, ◌+◌, ◌-◌, ◌*◌, ◌/◌, ◌≤◌, ◌<◌}
use Rattle.std.specs.Prelude.{None, Some}
use mathlib.Core.Path.{◌≡◌, sym, ap, ◌∙◌}
use mathlib.Core.Bool.{true, false}
use native.Mathlib.Omega.{arith}
use Rattle.std.proofs.lemmas.Nat.{div-mul-add, mul-add-lt}
use Rattle.signer.specs.Log.{is_identifier}
use Rattle.signer.proofs.FromOneLaws.{within-high, within_low}
use Rattle.delivery.specs.Limits.{Limits}
use Rattle.delivery.specs.Bus.{is_board}
use Rattle.delivery.specs.Delivered.{place_of, index_at, index_of}

module _ (L : Limits) (s i : ℕ) where
  -- what no board can say has no place
  pub place-nobody : is_board L s ≡ false → place_of L s i ≡ 0
  unfolding place_of
  place-nobody h = grind arith

  pub place-outside : is_identifier L.identifiers i ≡ false → place_of L s i ≡ 0
  unfolding place_of
  place-outside h = grind arith

  -- and what a board can say has one
  pub place-there : is_board L s ≡ true → is_identifier L.identifiers i ≡ true
      → place_of L s i ≡ (s - 1) * L.identifiers + i
  unfolding place_of
  place-there b h = grind arith

  -- of all that there are
  pub place-high : place_of L s i ≤ L.boards * L.identifiers
  unfolding place_of
  place-high =
      let fits = mul-add-lt (s - 1) L.identifiers (i - 1) L.boards in
      let high = within-high L.boards s in
      grind (arith, fits, within_low L.boards s, high, within_low L.identifiers i, within-high L.identifiers i)

  -- its row and where in the row it is
  row : (place_of L s i ≡ 0 → ⊥)
      → (s ≡ (place_of L s i - 1) / L.identifiers + 1) × (place_of L s i ≡ (s - 1) * L.identifiers + i)
  unfolding place_of
  row z =
      let own = div-mul-add (s - 1) L.identifiers (i - 1) in
      grind (arith, own, within_low L.boards s, within_low L.identifiers i, within-high L.identifiers i)

-- different statements have different places
pub place-own : (L : Limits) (s i s' i' : ℕ) → (place_of L s i ≡ 0 → ⊥) → place_of L s' i' ≡ place_of L s i
    → (s' ≡ s) × (i' ≡ i)
place-own L s i s' i' z e =
    let x = row L s i z in
    let y = row L s' i' (λ n. z (sym e ∙ n)) in
    let r : s' ≡ s = omega (arith, x.0, y.0, ap (λ p. (p - 1) / L.identifiers) e) in
    (r, omega (arith, x.1, y.1, ap (λ a. (a - 1) * L.identifiers) r))

module _ (L : Limits) (s i : ℕ) where
  -- what no board can say has no index
  pub index-nobody : is_board L s ≡ false → index_of L s i ≡ None
  unfolding index_of index_at
  index-nobody h = ap index_at (place-nobody L s i h)

  pub index-outside : is_identifier L.identifiers i ≡ false → index_of L s i ≡ None
  unfolding index_of index_at
  index-outside h = ap index_at (place-outside L s i h)

  -- and what a board can say has one
  pub index-there : is_board L s ≡ true → is_identifier L.identifiers i ≡ true
      → index_of L s i ≡ Some ((s - 1) * L.identifiers + (i - 1))
  unfolding index_of index_at
  index-there b h = grind (arith, place-there L s i b h, within_low L.identifiers i h)

  -- the place of an index, and that it is one of all that there are
  pub place-none : index_of L s i ≡ None → place_of L s i ≡ 0
  unfolding index_of index_at
  place-none e = grind arith

  pub place-some : (j : ℕ) → index_of L s i ≡ Some j → place_of L s i ≡ j + 1
  unfolding index_of index_at
  place-some j e = grind arith

  pub index-high : (j : ℕ) → index_of L s i ≡ Some j → j < L.boards * L.identifiers
  index-high j e = omega (arith, place-some j e, place-high L s i)
