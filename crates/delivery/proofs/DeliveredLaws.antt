-- Laws of what a board has delivered. Assumes nothing.
use Rattle.std.specs.Prelude.{None, Some}
use Prim.Native.Nat.{◌+◌, ◌-◌, ℕ, ◌*◌, ◌≤◌, ◌<◌}
use mathlib.Core.Path.{◌≡◌, ap}
use mathlib.Core.List.{List}
use mathlib.Core.Bool.{true, false}
use mathlib.Core.Logic.{◌⊎◌}
use native.Mathlib.Omega.{arith}
use lib.ListN.{length, get_or, set, length-replicate}
use Rattle.std.proofs.lemmas.Bool.Decides.{nat_tests}
use Rattle.signer.specs.Log.{is_identifier, entry_of}
use Rattle.signer.proofs.FromOneLaws.{nth-none, set_nth-none, nth_after, set_nth-index, length-set_nth, nth-set-same, nth-replicate, within_low, within_in, nth-change}
use Rattle.delivery.specs.Limits.{Limits}
use Rattle.delivery.specs.Bus.{is_board}
use Rattle.delivery.specs.Delivered.{place_of, index_of, heard_in, nothing_delivered, heard, deliver}
use Rattle.delivery.specs.declared.delivered.Delivered.{Delivered}
use Rattle.delivery.proofs.PlaceLaws.{place-none, place-some, place-nobody, place-outside, place-there, place-high, place-own, index-nobody, index-outside, index-there, index-high}

-- there is an entry for each board and identifier
pub record Whole (L : Limits) (d : Delivered) : Type 0 where
  pub size : length d.entries ≡ L.boards * L.identifiers

-- where nothing is delivered
pub nothing-whole : (L : Limits) → Whole L (nothing_delivered L)
unfolding nothing_delivered
nothing-whole L = record { size = length-replicate (L.boards * L.identifiers) 0 }

pub heard-nothing : (L : Limits) (s i : ℕ) → heard L (nothing_delivered L) s i ≡ 0
unfolding heard_in nothing_delivered
heard-nothing L s i = nth-replicate (L.boards * L.identifiers) (place_of L s i) 0

-- a number that is no board's has said nothing, and nobody has said anything under a number that is no identifier
pub heard-nobody : (L : Limits) (es : List ℕ) (s i : ℕ) → is_board L s ≡ false → heard_in L es s i ≡ 0
unfolding heard_in
heard-nobody L es s i h = nth-none es (place_of L s i) 0 (λ l. absurd (omega (arith, place-nobody L s i h)))

pub heard-outside : (L : Limits) (d : Delivered) (s i : ℕ) → is_identifier L.identifiers i ≡ false → heard L d s i ≡ 0
unfolding heard_in
heard-outside L d s i h = nth-none d.entries (place_of L s i) 0 (λ l. absurd (omega (arith, place-outside L s i h)))

module _ (L : Limits) (d : Delivered) (s i v : ℕ) where
  pub deliver-whole : Whole L d → Whole L (deliver L d s i v)
  unfolding deliver
  deliver-whole w = record { size = grind (arith, w.size, length-set_nth d.entries (place_of L s i) (entry_of v)) }

  -- the statement is then there
  pub deliver-same : Whole L d → is_board L s ≡ true → is_identifier L.identifiers i ≡ true → heard L d s i ≡ 0
      → heard L (deliver L d s i v) s i ≡ entry_of v
  unfolding heard_in deliver
  deliver-same w b h n =
      let low : 1 ≤ place_of L s i = omega (arith, place-there L s i b h, within_low L.identifiers i h) in
      let high : place_of L s i ≤ length d.entries = omega (arith, w.size, place-high L s i) in
      let same = nth-set-same d.entries (place_of L s i) (entry_of v) 0 low high in
      grind (arith, nat_tests)

  -- nothing else changes: what is there afterwards was there before, or is this statement, where there was none
  pub deliver-only : (s' i' : ℕ) → (heard L (deliver L d s i v) s' i' ≡ heard L d s' i')
      ⊎ ((s' ≡ s) × (i' ≡ i) × (heard L (deliver L d s i v) s' i' ≡ entry_of v) × (heard L d s' i' ≡ 0))
  unfolding heard_in deliver
  deliver-only s' i' =
      let c = nth-change d.entries (place_of L s' i') (place_of L s i) (entry_of v) 0 in
      let o = place-own L s i s' i' in
      let z = set_nth-none d.entries (place_of L s i) (entry_of v) in
      grind (arith, nat_tests)

  pub deliver-other : (s' i' : ℕ) → (s' ≡ s → i' ≡ i → ⊥) → heard L (deliver L d s i v) s' i' ≡ heard L d s' i'
  deliver-other s' i' h = grind (arith, deliver-only s' i')

  -- what is there is never overwritten
  pub deliver-keeps : (s' i' : ℕ) → (heard L d s' i' ≡ 0 → ⊥) → heard L (deliver L d s i v) s' i' ≡ heard L d s' i'
  deliver-keeps s' i' h = grind (arith, deliver-only s' i')

-- by the index at which an entry stands, for the functions
module _ (L : Limits) (d : Delivered) (s i : ℕ) where
  pub heard-none : index_of L s i ≡ None → heard L d s i ≡ 0
  unfolding heard_in
  heard-none e = nth-none d.entries (place_of L s i) 0 (λ l. absurd (omega (arith, place-none L s i e)))

  pub heard-at : (j : ℕ) → index_of L s i ≡ Some j → heard L d s i ≡ get_or d.entries j 0
  unfolding heard_in
  heard-at j e = rw (place-some L s i j e) (nth_after d.entries j 0)

  pub deliver-none : (v : ℕ) → index_of L s i ≡ None → deliver L d s i v ≡ d
  unfolding deliver
  deliver-none v e =
      let same = set_nth-none d.entries (place_of L s i) (entry_of v) (λ l. absurd (omega (arith, place-none L s i e))) in
      grind arith

  pub deliver-at : (v j : ℕ) → index_of L s i ≡ Some j → get_or d.entries j 0 ≡ 0
      → deliver L d s i v ≡ record { entries = set d.entries j (entry_of v) }
  unfolding deliver
  deliver-at v j e z =
      let there = set_nth-index d.entries (j + 1) (entry_of v) (omega arith) in
      grind (arith, nat_tests, heard-at j e, place-some L s i j e)

  pub deliver-taken : (v j : ℕ) → index_of L s i ≡ Some j → (get_or d.entries j 0 ≡ 0 → ⊥) → deliver L d s i v ≡ d
  unfolding deliver
  deliver-taken v j e f = grind (arith, nat_tests, heard-at j e)

-- so the entries stand by speaker, and of each speaker by identifier
pub heard-index : (L : Limits) (es : List ℕ) (s i : ℕ) → s < L.boards → i < L.identifiers
    → heard_in L es (s + 1) (i + 1) ≡ get_or es (L.identifiers * s + i) 0
unfolding heard_in
heard-index L es s i b h =
    let speaker = within_in L.boards (s + 1) (omega arith) (omega (arith, b)) in
    let identifier = within_in L.identifiers (i + 1) (omega arith) (omega (arith, h)) in
    let back : s + 1 - 1 ≡ s = omega arith in
    let row = ap (λ (j : ℕ). j * L.identifiers + (i + 1)) back in
    let place : place_of L (s + 1) (i + 1) ≡ L.identifiers * s + i + 1 = omega (arith, place-there L (s + 1) (i + 1) speaker identifier, row) in
    rw place (nth_after es (L.identifiers * s + i) 0)

pub ruleset indexes = (index-nobody, index-outside, index-there, within_low)

pub ruleset entries = (heard-at, heard-none, index-high)

pub ruleset delivers = (deliver-at, deliver-none, deliver-taken, index-high)
