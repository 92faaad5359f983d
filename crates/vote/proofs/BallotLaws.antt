-- Laws of the accepted statements of a round: the opening's value, and how many ballots bear a value. Assumes nothing.
use Prim.Native.Nat.{ℕ, zero, suc, ◌≤◌}
use native.Mathlib.Omega.{arith}
use mathlib.Core.Path.{◌≡◌, refl, ap, ◌∙◌}
use mathlib.Core.Bool.{Bool, true, false, ◌&&◌}
use mathlib.Core.Logic.{◌⊎◌}
use Rattle.std.specs.Prelude.{if◌then◌else◌, ◌==◌, nat_le, not}
use Rattle.std.proofs.lemmas.Bool.Decides.{nat_tests}
use Rattle.signer.specs.Log.{values, value_of, entry_of}
use Rattle.signer.proofs.LogLaws.{value-entry, value-within, entry_value}
use Rattle.delivery.specs.Counting.{count_in}
use Rattle.delivery.specs.Limits.{Limits}
use Rattle.delivery.specs.Bus.{quorum}
use Rattle.delivery.specs.Sets.{in_set}
use Rattle.delivery.specs.Delivered.{Store}
use Rattle.delivery.specs.Acceptance.{opening_entry, ballot_entry, accepts_opening, accepts_ballot, accepts_some, tally_of}
use Rattle.delivery.specs.declared.poll.Tally.{Tally}
use Rattle.delivery.proofs.CountLaws.{find, count-some}
use Rattle.delivery.proofs.SetLaws.{count_set}
use Rattle.delivery.proofs.PollLaws.{backing-bears}
use Rattle.delivery.proofs.AllRoundsLaws.{opened-sent, opened-entry, opening-reads, ballot-reads, accepted-reads, reads-accepted, ballot-needs}
use Rattle.delivery.proofs.AgreementLaws.{Won}
use Rattle.vote.specs.Ballots.{some_value, opened_value, tally, borne_by, value_with}

-- what is found is 0, or one of those that were looked at, and passes; it passes where any of them does
some-found : (n : ℕ) (f : ℕ → ℕ) (p : ℕ → Bool) → (some_value n f p ≡ 0)
    ⊎ ((k : ℕ) × (1 ≤ k) × (k ≤ n) × (some_value n f p ≡ f k) × (p (f k) ≡ true))
unfolding some_value
some-found zero f p = grind arith
some-found (suc n) f p = let x = some-found n f p in grind arith

some-passes : (n : ℕ) (f : ℕ → ℕ) (p : ℕ → Bool) (k : ℕ) → 1 ≤ k → k ≤ n → p (f k) ≡ true → p (some_value n f p) ≡ true
unfolding some_value
some-passes zero f p k l u t = absurd (omega arith)
some-passes (suc n) f p k l u t = let x = some-passes n f p k l in grind arith

module _ (L : Limits) (n : ℕ) (h : Store) (r : ℕ) where
  abbrev opened : ℕ
  opened = opened_value L n h r

  -- the opening's value, where it is not the blank, is that of the accepted opening
  pub opened-reads : (opened ≡ 0 → ⊥) → accepts_opening L n h r opened ≡ true
  unfolding opened_value
  opened-reads z = grind (arith, nat_tests)

  -- no opening with the blank is accepted
  pub opened_some : (w : ℕ) → accepts_opening L n h r w ≡ true → w ≡ 0 → ⊥
  opened_some w o = (opening-reads L n h r w o).value

  pub opened-within : opened ≤ values
  unfolding opened_value
  opened-within = grind (arith, nat_tests, value-within)

  -- what is accepted is that value, where the opening's entry is one of values
  pub reads-opened : (w : ℕ) → opening_entry L n h r ≤ entry_of values → accepts_opening L n h r w ≡ true → opened ≡ w
  unfolding opened_value
  reads-opened w l o =
      let x = opening-reads L n h r w o in
      let e = value-entry w (omega (arith, x.said)) in
      grind (arith, nat_tests)

  -- an opening is accepted where an accepted ballot bears its value
  pub tally-opens : (w : ℕ) → (w ≡ 0 → ⊥) → 1 ≤ tally L n h r w → accepts_opening L n h r w ≡ true
  unfolding tally
  tally-opens w z l = let x = find n (λ (s : ℕ). accepts_ballot L n h r s w) l in ballot-needs L n h r x.0 w z x.3

  -- so no ballot bears another value
  pub tally-other : (w : ℕ) → opening_entry L n h r ≤ entry_of values → (w ≡ 0 → ⊥) → (opened ≡ w → ⊥)
      → tally L n h r w ≡ 0
  tally-other w l z f = let o = tally-opens w z in let x = reads-opened w l in grind arith

  -- what a ballot bears, other than the blank, is the opening's value
  borne-opened : (s : ℕ) → (borne_by L n h r s ≡ 0)
      ⊎ ((borne_by L n h r s ≡ opened) × (accepts_ballot L n h r s opened ≡ true))
  unfolding borne_by
  borne-opened s = go (accepts_some L n h r s) refl
    where
      go : (t : Bool) → accepts_some L n h r s ≡ t → (borne_by L n h r s ≡ 0)
          ⊎ ((borne_by L n h r s ≡ opened) × (accepts_ballot L n h r s opened ≡ true))
      go false e = grind arith
      go true e =
          let x = accepted-reads L n h r s e in
          let b = ballot-reads L n h r s x.0 x.1 in
          let e' = entry_value (ballot_entry L h r s) in
          let u = value-within (ballot_entry L h r s) in
          let o = λ (z : x.0 ≡ 0 → ⊥). opening-reads L n h r x.0 (ballot-needs L n h r s x.0 z x.1) in
          let y = λ (z : x.0 ≡ 0 → ⊥) (l : opening_entry L n h r ≤ entry_of values). reads-opened x.0 l (ballot-needs L n h r s x.0 z x.1) in
          grind arith

  opened-borne : (s : ℕ) → accepts_ballot L n h r s opened ≡ true → borne_by L n h r s ≡ opened
  unfolding borne_by
  opened-borne s a =
      let x = ballot-reads L n h r s opened a in
      let e = value-entry opened opened-within in
      let t = reads-accepted L n h r s opened a in
      grind (arith, nat_tests)

  -- so a value that m or more ballots bear, and one at least, can be no other
  with-some : (m : ℕ) → (opened ≡ 0 → ⊥) → 1 ≤ tally L n h r opened → m ≤ tally L n h r opened
      → value_with L n h r m ≡ 0 → ⊥
  unfolding value_with tally
  with-some m z l g =
      let k = find n (λ (s : ℕ). accepts_ballot L n h r s opened) l in
      let e = opened-borne k.0 k.3 in
      let y = some-passes n (borne_by L n h r) (λ (w : ℕ). not (w == 0) && nat_le m (tally L n h r w)) k.0 k.1 k.2 in
      grind (arith, nat_tests)

  pub with-opened : (m : ℕ)
      → value_with L n h r m ≡ (if nat_le 1 (tally L n h r opened) && nat_le m (tally L n h r opened) then opened else 0)
  unfolding value_with tally
  with-opened m =
      let x = some-found n (borne_by L n h r) (λ (w : ℕ). not (w == 0) && nat_le m (tally L n h r w)) in
      let y = with-some m in
      let g = count-some n (λ (s : ℕ). accepts_ballot L n h r s opened) in
      grind (arith, nat_tests, borne-opened)

  -- by the tally of the round: the accepted opening's value is that of its entry
  pub opened-tallied : value_of (tally_of L n h r).opening ≡ opened
  unfolding opened_value
  opened-tallied =
      grind (
        arith,
        nat_tests,
        opened-sent L n h r,
        opened-entry L n h r (value_of (opening_entry L n h r)),
        entry_value (tally_of L n h r).opening,
      )

  -- and so many ballots bear it as back that entry
  pub backing-tally : (opened ≡ 0 → ⊥) → count_in n (in_set (tally_of L n h r).backing) ≡ tally L n h r opened
  unfolding tally
  backing-tally z =
      let e = rw opened-tallied at (entry_value (tally_of L n h r).opening) in
      ap (λ (m : ℕ). count_in n (in_set m)) (backing-bears L n h r opened (e z)) ∙ count_set n n _ (omega arith)

  -- what q or more bear is won
  pub tally-won : (w : ℕ) → (w ≡ 0 → ⊥) → quorum n ≤ tally L n h r w → Won L n h r w
  unfolding tally
  tally-won w z q = record { value = z; quorum-bears = q }

  -- so, with b for how many do, the value that m or more ballots bear is that one
  pub with-tallied : (t : Tally) (b : ℕ) → t ≡ tally_of L n h r
      → b ≡ (if value_of t.opening == 0 then 0 else count_in n (in_set t.backing))
      → (m : ℕ) → value_with L n h r m ≡ (if nat_le 1 b && nat_le m b then value_of t.opening else 0)
  with-tallied t b e f m = rw e (grind (arith, nat_tests, opened-tallied, backing-tally, with-opened, rw e at f))

-- for the functions
pub ruleset accepted_value = (opened-tallied)
