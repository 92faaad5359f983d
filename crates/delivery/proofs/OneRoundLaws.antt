-- What one round leaves to the next: by some speakers and the accepted ballots among theirs, and so by counts of the
-- round's ballots. Assumes nothing.
use Prim.Native.Nat.{ℕ, ◌+◌, ◌-◌, ◌≤◌, ◌<◌, min}
use native.Mathlib.Omega.{arith}
use native.Mathlib.Decide.{dec_le}
use mathlib.Core.Path.{◌≡◌, sym, ◌∙◌}
use mathlib.Core.Bool.{Bool, true}
use mathlib.Core.Logic.{◌⊎◌, inl, inr, ⊎_elim}
use mathlib.Core.List.{List}
use lib.ListN.{length}
use Rattle.std.specs.Prelude.{◌==◌, nat_le, ◌&&◌, ◌||◌, not}
use Rattle.std.specs.Cmp.{both_ways}
use Rattle.std.proofs.lemmas.Bool.Decides.{nat_tests}
use Rattle.signer.specs.Log.{entry_of}
use Rattle.delivery.specs.Counting.{count_in, count_of, every_of}
use Rattle.delivery.specs.Limits.{Limits}
use Rattle.delivery.specs.Bus.{quorum, overlap}
use Rattle.delivery.specs.Delivered.{Store}
use Rattle.delivery.specs.Acceptance.{says, bears, backs, divided, counts, counts_some, allowed_after, allowed, accepts_opening, accepts_ballot, accepts_some, opened_entry}
use Rattle.delivery.proofs.CountLaws.{count-le, count-cong, count-mono, count-or, find, every-reads, reads-every, overlap-pos}
use Rattle.delivery.proofs.ChoiceLaws.{picked, picked-some, some-picked, length-picked, count-picked, every-picked, first, count-first, count-apart}
use Rattle.delivery.proofs.AllRoundsLaws.{allowed-next, allowed-blank, opened-allowed, opened-entry, accepted-reads, reads-accepted}

-- w is allowed next, where the entry of the opening that counts is x, b ballots are blank and c bear its value; m says
-- whether w is allowed in this round
unfoldable pub by-counts : ℕ → ℕ → ℕ → ℕ → ℕ → ℕ → Bool → Bool
by-counts q e x b c w m =
    not (w == 0) && ((x == entry_of w && nat_le q (b + c) && nat_le e c) || (m && nat_le q (b + min c (e - 1))))

module _ (L : Limits) (n : ℕ) (h : Store) (r : ℕ) where
  -- of some speakers, a ballot is accepted from each, whatever it bears
  abbrev Heard : (ℕ → Bool) → Type 0
  Heard p = (s : ℕ) → 1 ≤ s → s ≤ n → p s ≡ true → (v : ℕ) × (accepts_ballot L n h r s v ≡ true)

  -- how many of them have an accepted ballot with v
  abbrev pub among : (ℕ → Bool) → ℕ → ℕ
  among p v = count_in n (λ (s : ℕ). p s && accepts_ballot L n h r s v)

  -- fewer than k for every value other than the blank
  abbrev Below : (ℕ → Bool) → ℕ → Type 0
  Below p k = (v : ℕ) → (v ≡ 0 → ⊥) → among p v < k

  -- they leave w to the next round: a ballot is accepted from each of them, and e or more of these bear w, or every value
  -- other than the blank stands fewer than e times among them while w is allowed in this round
  pub record Leaves (w : ℕ) (p : ℕ → Bool) : Type 0 where
    pub accepted : Heard p
    pub reason : (overlap n ≤ among p w) ⊎ (Below p (overlap n) × (allowed L n h r w ≡ true))

  count-among : (p : ℕ → Bool) → Heard p → (v : ℕ) → count_of (bears L h r v) (picked n p) ≡ among p v
  unfolding accepts_ballot counts bears
  count-among p c v =
      count-picked n p (bears L h r v) ∙ count-cong n _ _ (λ s l u. grind (arith, nat_tests, c s l u))

  -- the test of a choice that allows w next
  carries : ℕ → List ℕ → Bool
  carries w ss =
      length ss == quorum n
      && every_of (accepts_some L n h r) ss
      && (nat_le (overlap n) (count_of (bears L h r w) ss) || (divided L n h r ss && allowed L n h r w))

  divided-reads : (p : ℕ → Bool) → Heard p → divided L n h r (picked n p) ≡ true → 1 ≤ overlap n → Below p (overlap n)
  unfolding divided says accepts_ballot counts bears
  divided-reads p c d e v z = go (dec_le 1 (among p v))
    where
      go : Dec (1 ≤ among p v) → among p v < overlap n
      go (no l) = omega arith
      go (yes l) =
          let s = find n _ l in
          grind (arith, nat_tests, s.3, count-among p c v, every-reads n _ (sym (every-picked n p _) ∙ d) s.0 s.1 s.2)

  reads-divided : (p : ℕ → Bool) → Heard p → Below p (overlap n) → divided L n h r (picked n p) ≡ true
  unfolding divided says accepts_ballot counts bears
  reads-divided p c d =
      rw every-picked (reads-every n _ (λ s l u. grind (arith, nat_tests, c s l u, count-among p c, d)))

  carries-reads : (w : ℕ) (p : ℕ → Bool) → carries w (picked n p) ≡ true → (count_in n p ≡ quorum n) × Leaves w p
  unfolding carries
  carries-reads w p t =
      let e : every_of (accepts_some L n h r) (picked n p) ≡ true = grind arith in
      let every = every-reads n _ (sym (every-picked n p _) ∙ e) in
      let c : Heard p = λ s l u t. accepted-reads L n h r s (grind (arith, every s l u)) in
      let q : count_in n p ≡ quorum n = grind (arith, nat_tests, length-picked) in
      (q, record { accepted = c; reason = go c (dec_le (overlap n) (among p w)) })
    where
      go : Heard p → Dec (overlap n ≤ among p w)
          → (overlap n ≤ among p w) ⊎ (Below p (overlap n) × (allowed L n h r w ≡ true))
      go c (yes l) = inl l
      go c (no l) =
          let d : divided L n h r (picked n p) ≡ true = grind (arith, nat_tests, count-among p c w) in
          inr (divided-reads p c d (omega arith), grind (arith, nat_tests, count-among p c w))

  reads-carries : (w : ℕ) (p : ℕ → Bool) → count_in n p ≡ quorum n → Leaves w p → carries w (picked n p) ≡ true
  unfolding carries
  reads-carries w p q l =
      let heard : (s : ℕ) → 1 ≤ s → s ≤ n → p s ≡ true → accepts_some L n h r s ≡ true =
      λ s a b t. let x = l.accepted s a b t in reads-accepted L n h r s x.0 x.1 in
      let e : every_of (accepts_some L n h r) (picked n p) ≡ true =
      rw every-picked (reads-every n _ (λ s a b. grind (arith, heard s a b))) in
      let same = count-among p l.accepted w in
      ⊎_elim
      (λ (m : overlap n ≤ among p w). grind (arith, nat_tests, length-picked))
      (λ d. grind (arith, nat_tests, length-picked, reads-divided p l.accepted d.0, d.1))
      l.reason

  -- so what is allowed next is what some q speakers leave
  module _ (w : ℕ) (low : 1 ≤ r) where
    pub later-reads : allowed L n h (r + 1) w ≡ true
        → (w ≡ 0 → ⊥) × ((p : ℕ → Bool) × (count_in n p ≡ quorum n) × Leaves w p)
    unfolding allowed_after carries accepts_some
    later-reads a =
        let a' = rw (allowed-next L n h r w low) at a in
        let x = some-picked n (carries w) (grind (arith, a')) in
        let y = carries-reads w x.0 x.1 in
        (λ z. grind (arith, a'), (x.0, y.0, y.1))

    pub reads-later : (w ≡ 0 → ⊥) → (p : ℕ → Bool) → count_in n p ≡ quorum n → Leaves w p
        → allowed L n h (r + 1) w ≡ true
    unfolding allowed_after carries accepts_some
    reads-later z p q l =
        let x = picked-some n (carries w) p (reads-carries w p q l) in
        rw (allowed-next L n h r w low) (grind (arith, nat_tests))

  -- the entry of the accepted opening, or 0 where none is; how many ballots are blank, and how many bear its value
  abbrev pub entry : ℕ
  entry = opened_entry L n h r

  abbrev pub blank : ℕ
  blank = count_in n (bears L h r 0)

  abbrev pub backing : ℕ
  backing = count_in n (backs L h r entry)

  -- w is allowed next, by these
  abbrev pub counted : ℕ → Bool
  counted w = by-counts (quorum n) (overlap n) entry blank backing w (allowed L n h r w)

  -- and of some speakers' ballots
  abbrev backing-among : (ℕ → Bool) → ℕ
  backing-among p = count_in n (λ (s : ℕ). p s && backs L h r entry s)

  -- the accepted ballots are the blank ones and those for the opening's value, which are apart
  pub some-either : (s : ℕ) → accepts_some L n h r s ≡ (bears L h r 0 s || backs L h r entry s)
  unfolding accepts_some accepts_opening counts_some counts says backs bears
  some-either s = grind (arith, nat_tests, opened-entry L n h r)

  entry-some : entry ≡ 1 → ⊥
  unfolding says
  entry-some e = grind (arith, opened-allowed L n h r, allowed-blank L n h r)

  apart : (s : ℕ) → bears L h r 0 s ≡ true → backs L h r entry s ≡ true → ⊥
  unfolding says backs bears
  apart s b c = grind (arith, nat_tests, entry-some)

  pub blank-backing : blank + backing ≤ n
  blank-backing =
      omega (
        arith,
        count-apart n (bears L h r 0) (backs L h r entry) apart,
        count-le n (λ (s : ℕ). bears L h r 0 s || backs L h r entry s),
      )

  value-backs : (w s : ℕ) → (w ≡ 0 → ⊥) → accepts_ballot L n h r s w ≡ (entry == entry_of w && backs L h r entry s)
  unfolding accepts_ballot accepts_opening counts says backs bears
  value-backs w s z = grind (arith, nat_tests, opened-entry L n h r)

  pub value-among : (p : ℕ → Bool) (w : ℕ) → (w ≡ 0 → ⊥) → accepts_opening L n h r w ≡ true
      → among p w ≡ backing-among p
  value-among p w z o = count-cong n _ _ (λ s l u. grind (arith, value-backs w s, opened-entry L n h r w))

  -- where each value stands fewer than k times among them, so does the opening's
  pub backing-few : (p : ℕ → Bool) (k : ℕ) → 1 ≤ k → Below p k → backing-among p < k
  unfolding backs says
  backing-few p k l f = go (dec_le 1 (backing-among p))
    where
      go : Dec (1 ≤ backing-among p) → backing-among p < k
      go (no m) = omega arith
      go (yes m) =
          let s = find n (λ (s : ℕ). p s && backs L h r entry s) m in
          let v = entry - 1 in
          let z : v ≡ 0 → ⊥ = λ e. grind (arith, s.3, entry-some) in
          let o : accepts_opening L n h r v ≡ true = grind (arith, nat_tests, s.3, opened-entry L n h r v) in
          omega (arith, f v z, value-among p v z o)

  pub leaves-counts : (w : ℕ) (p : ℕ → Bool) → 1 ≤ n → (w ≡ 0 → ⊥) → quorum n ≤ count_in n p → Leaves w p
      → counted w ≡ true
  unfolding by-counts accepts_ballot accepts_opening counts
  leaves-counts w p some z q l =
      ⊎_elim
      (λ (m : overlap n ≤ among p w).
      let s = find n (λ (s : ℕ). p s && accepts_ballot L n h r s w) (omega (arith, m, overlap-pos n some)) in
      let o : accepts_opening L n h r w ≡ true = grind (arith, nat_tests, s.3) in
      grind (arith, nat_tests, size, most, value-among p w z o, opened-entry L n h r w))
      (λ d. grind (arith, nat_tests, d.1, size, most, backing-few p (overlap n) (overlap-pos n some) d.0))
      l.reason
    where
      either : (s : ℕ) → 1 ≤ s → s ≤ n → p s ≡ true → (bears L h r 0 s || (p s && backs L h r entry s)) ≡ true
      either s a b t = let x = l.accepted s a b t in grind (arith, reads-accepted L n h r s x.0 x.1, some-either s)

      size : quorum n ≤ blank + backing-among p
      size = omega (arith, count-mono n p _ either, count-or n (bears L h r 0) (λ (s : ℕ). p s && backs L h r entry s))

      most : backing-among p ≤ backing
      most = count-mono n _ _ (λ s a b t. grind arith)

  module _ (w : ℕ) (low : 1 ≤ r) where
    -- and these counts give a choice of exactly q: i blank ballots and j for the opening's value
    chosen : (i j : ℕ) → (w ≡ 0 → ⊥) → i ≤ blank → j ≤ backing → i + j ≡ quorum n
        → ((entry ≡ entry_of w) × (overlap n ≤ j)) ⊎ ((allowed L n h r w ≡ true) × (j < overlap n))
        → allowed L n h (r + 1) w ≡ true
    unfolding first
    chosen i j z a b e t =
        reads-later w low z p size (record {
          accepted = λ s l u t. accepted-reads L n h r s (grind (arith, some-either s));
          reason = reason;
        })
      where
        p : ℕ → Bool
        p s = first i (bears L h r 0) s || first j (backs L h r entry) s

        size : count_in n p ≡ quorum n
        size =
            omega (
              arith,
              count-apart n (first i (bears L h r 0)) (first j (backs L h r entry)) (λ s b c. grind (arith, apart s)),
              count-first n i (bears L h r 0),
              count-first n j (backs L h r entry),
            )

        back : backing-among p ≡ j
        back =
            count-cong n _ (first j (backs L h r entry)) (λ s l u. grind (arith, apart s))
            ∙ (omega (arith, count-first n j (backs L h r entry)))

        few : (v : ℕ) → (v ≡ 0 → ⊥) → among p v ≤ j
        few v y =
            let l : among p v ≤ backing-among p = count-mono n _ _ (λ s a b t. grind (arith, value-backs v s y)) in
            omega (arith, back)

        reason : (overlap n ≤ among p w) ⊎ (Below p (overlap n) × (allowed L n h r w ≡ true))
        reason =
            ⊎_elim
            (λ t.
            let o = opened-entry L n h r w in
            inl (omega (arith, back, t.1, value-among p w z (grind (arith, nat_tests, t.0, o)))))
            (λ t. inr (λ v y. omega (arith, t.1, few v y), t.0))
            t

    pub counts-later : 1 ≤ n → counted w ≡ true → allowed L n h (r + 1) w ≡ true
    unfolding by-counts
    counts-later some t =
        let z : w ≡ 0 → ⊥ = λ z. grind arith in
        let s : ((entry ≡ entry_of w) × (quorum n ≤ blank + backing) × (overlap n ≤ backing))
        ⊎ ((allowed L n h r w ≡ true) × (quorum n ≤ blank + min backing (overlap n - 1))) = grind (arith, nat_tests) in
        ⊎_elim
        (λ t.
        let j = min backing (quorum n) in
        chosen (quorum n - j) j z (omega arith) (omega arith) (omega arith) (inl (t.0, omega arith)))
        (λ t.
        let j = min backing (overlap n - 1) in
        let e = overlap-pos n some in
        chosen (quorum n - j) j z (omega arith) (omega arith) (omega arith) (inr (t.0, omega arith)))
        s

    -- so what is allowed next goes by them
    pub later-counts : 1 ≤ n → allowed L n h (r + 1) w ≡ counted w
    later-counts some =
        both_ways
        _
        _
        (λ a. let y = later-reads w low a in leaves-counts w y.1.0 some y.0 (omega (arith, y.1.1)) y.1.2)
        (counts-later some)
