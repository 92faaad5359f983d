-- In one store, what q or more accepted ballots bear is one value, whatever the rounds. Only here two
-- quorums have to share e boards. Assumes nothing.
use Prim.Native.Nat.{ℕ, zero, suc, ◌+◌, ◌≤◌, ◌<◌}
use native.Mathlib.Omega.{arith}
use native.Mathlib.Decide.{dec_lt, le_ind}
use mathlib.Core.Path.{◌≡◌, sym}
use mathlib.Core.Bool.{true}
use Rattle.std.proofs.lemmas.Bool.Decides.{nat_tests}
use Rattle.delivery.specs.Counting.{count_in}
use Rattle.delivery.specs.Limits.{Limits}
use Rattle.delivery.specs.Delivered.{Store}
use Rattle.delivery.specs.Acceptance.{opens, allowed, accepts_opening, accepts_ballot}
pub use Rattle.delivery.specs.Claims.{Won}
use Rattle.delivery.proofs.CountLaws.{find, overlap-pos, overlap-le}
use Rattle.delivery.proofs.AllRoundsLaws.{Opens, opened-entry, opening-reads, reads-opening, ballot-needs}
use Rattle.delivery.proofs.OneRoundLaws.{entry, backing, by-counts, later-counts, value-among, blank-backing}

module _ (L : Limits) (n : ℕ) (h : Store) (some : 1 ≤ n) where
  -- what is allowed in a round was allowed in each round before it, from round 1 on
  allowed-was : (r r' w : ℕ) → 1 ≤ r → r ≤ r' → allowed L n h r' w ≡ true → allowed L n h r w ≡ true
  unfolding by-counts accepts_opening opens
  allowed-was r r' w low l =
      le_ind (λ (m : ℕ). allowed L n h m w ≡ true → allowed L n h r w ≡ true) (λ a. a) step r' l
    where
      step : (m : ℕ) → r ≤ m → (allowed L n h m w ≡ true → allowed L n h r w ≡ true)
          → allowed L n h (suc m) w ≡ true → allowed L n h r w ≡ true
      step m l' f a =
          f (grind (arith, nat_tests, later-counts L n h m w (omega (arith, low)) some, opened-entry L n h m w))

  -- what was won was opened, and so allowed, in its round
  pub won-opened : (r v : ℕ) → Won L n h r v → Opens L n h r v
  won-opened r v o =
      let m : 1 ≤ count_in n (λ (s : ℕ). accepts_ballot L n h r s v) =
      omega (arith, o.quorum-bears, overlap-pos n some, overlap-le n) in
      let s = find n (λ (s : ℕ). accepts_ballot L n h r s v) m in
      opening-reads L n h r v (ballot-needs L n h r s.0 v o.value s.3)

  -- and is the only value allowed in any later round
  pub later-only : (r v : ℕ) → Won L n h r v → (r' w : ℕ) → r < r' → allowed L n h r' w ≡ true → w ≡ v
  unfolding allowed by-counts
  later-only zero v o r' w l a = grind (arith, (won-opened 0 v o).permitted)
  later-only (suc r) v o r' w l a =
      let t = allowed-was (suc r + 1) r' w (omega arith) (omega arith) a in
      let opened = reads-opening L n h (suc r) v (won-opened (suc r) v o) in
      let m : count_in n (λ (s : ℕ). accepts_ballot L n h (suc r) s v) ≡ backing L n h (suc r) =
      value-among L n h (suc r) (λ (s : ℕ). true) v o.value opened in
      let e : entry L n h (suc r) ≡ suc v = grind (arith, nat_tests, opened, opened-entry L n h (suc r) v) in
      let k = later-counts L n h (suc r) w (omega arith) some in
      grind (arith, nat_tests, o.quorum-bears, m, blank-backing L n h (suc r), k)

  -- the single-store law: what q or more accepted ballots bear, in whatever two rounds, is one value
  pub won-one : (r v r' w : ℕ) → Won L n h r v → Won L n h r' w → v ≡ w
  won-one r v r' w o p = go (dec_lt r r') (dec_lt r' r)
    where
      go : Dec (r < r') → Dec (r' < r) → v ≡ w
      go (yes l) g = sym (later-only r v o r' w l (won-opened r' w p).permitted)
      go (no l) (yes g) = later-only r' w p r v g (won-opened r v o).permitted
      go (no l) (no g) =
          let e : r' ≡ r = omega arith in
          let p' : Won L n h r w = rw e at p in
          omega (arith, (won-opened r v o).said, (won-opened r w p').said)
