-- What is allowed from round to round, by counts of ballots: what the program carries over the rounds, an allowance, stands
-- for it. Assumes nothing.
use Prim.Native.Nat.{ℕ, zero, suc, ◌+◌, ◌-◌, ◌≤◌, ◌<◌, min}
use native.Mathlib.Omega.{arith}
use native.Mathlib.Numerals.{add-one}
use mathlib.Core.Path.{◌≡◌, refl, sym, ap, fun_ext, ◌∙◌}
use mathlib.Core.Bool.{Bool, true, false}
use Rattle.std.specs.Prelude.{if◌then◌else◌, nat_le, ◌||◌}
use Rattle.std.proofs.lemmas.Bool.{false_from_ne_true}
use Rattle.std.proofs.lemmas.Bool.Decides.{nat_tests}
use Rattle.signer.specs.Log.{is_identifier, entry_of}
use Rattle.delivery.specs.Counting.{count_in, count_of, every_of, some_choice}
use Rattle.delivery.specs.Limits.{Limits}
use Rattle.delivery.specs.Bus.{quorum, overlap}
use Rattle.delivery.specs.Rounds.{is_round, identifier_of}
use Rattle.delivery.specs.Delivered.{Store, heard}
use Rattle.delivery.specs.declared.delivered.Delivered.{Delivered}
use Rattle.delivery.specs.declared.round.Phase.TheVariants.{Ballot}
use Rattle.delivery.specs.Acceptance.{says, opening_entry, bears, backs, allowed_after, allowed, accepts_ballot, accepts_some}
use Rattle.delivery.specs.Private.{lets}
use Rattle.delivery.specs.declared.allowance.Allowance.{Allowance}
use Rattle.delivery.specs.declared.allowance.Allowance.TheVariants.{Nothing, Every, Only}
use Rattle.signer.proofs.FromOneLaws.{within_low, within-high}
use Rattle.delivery.proofs.RoundLaws.{identifier-none}
use Rattle.delivery.proofs.DeliveredLaws.{heard-outside}
use Rattle.delivery.proofs.CountLaws.{count-none, overlap-le, overlap-pos, count-cong, count-or, find}
use Rattle.delivery.proofs.AllRoundsLaws.{allowed-blank, opened-entry, opened-found, opening-reads, ballot-needs}
use Rattle.delivery.proofs.OneRoundLaws.{entry, blank, backing, some-either, value-among, backing-few, by-counts, counted, later-counts}

-- where q boards or more have an accepted ballot
module _ (L : Limits) (n : ℕ) (h : Store) (r : ℕ) (some : 1 ≤ n) (low : 1 ≤ r)
    (enough : quorum n ≤ count_in n (accepts_some L n h r)) where
  next : (w : ℕ) → allowed L n h (suc r) w ≡ counted L n h r w
  next w = rw (← add-one r) (later-counts L n h r w low some)

  -- so many are blank or bear the opening's value
  voiced : quorum n ≤ blank L n h r + backing L n h r
  voiced =
      omega (
        arith,
        enough,
        count-or n (bears L h r 0) (backs L h r (entry L n h r)),
        count-cong n _ (λ (s : ℕ). bears L h r 0 s || backs L h r (entry L n h r) s) (λ s l u. some-either L n h r s),
      )

  -- a value that e or more of them bear is allowed in the next round
  pub borne-next : (w : ℕ) → (w ≡ 0 → ⊥) → overlap n ≤ count_in n (λ (s : ℕ). accepts_ballot L n h r s w)
      → allowed L n h (suc r) w ≡ true
  unfolding by-counts
  borne-next w z l =
      let s = find n (λ (s : ℕ). accepts_ballot L n h r s w) (omega (arith, l, overlap-pos n some)) in
      let o = ballot-needs L n h r s.0 w z s.3 in
      let k = value-among L n h r (λ (s : ℕ). true) w z o in
      rw next (grind (arith, nat_tests, voiced, k, o, opened-entry L n h r w))

  -- and where no value has so many, one that is allowed in this round
  pub kept_next : (w : ℕ) → ((v : ℕ) → (v ≡ 0 → ⊥) → count_in n (λ (s : ℕ). accepts_ballot L n h r s v) < overlap n)
      → allowed L n h r w ≡ true → allowed L n h (suc r) w ≡ true
  unfolding by-counts
  kept_next w f a =
      let k = backing-few L n h r (λ (s : ℕ). true) (overlap n) (overlap-pos n some) f in
      rw next (grind (arith, nat_tests, voiced, k, allowed-blank L n h r))

-- what a round leaves of a by its counts, where x is the entry of the opening that counts
settled : (a : Allowance) (q k x b c w : ℕ) → 1 ≤ k → (x ≡ entry_of w → lets a w ≡ true)
    → lets (if nat_le q (b + min c (k - 1)) then a else (if nat_le q (b + c) then Only x else Nothing)) w
    ≡ by-counts q k x b c w (lets a w)
unfolding by-counts lets
settled a q k x b c w some p = grind (arith, nat_tests)

module _ (L : Limits) (n : ℕ) (h : Store) where
  -- in no round nothing is allowed, in the first every value
  pub nothing_before : (r : ℕ) → r ≡ 0 → lets Nothing ≡ allowed L n h r
  unfolding lets allowed
  nothing_before r e = rw e refl

  pub every_first : lets Every ≡ allowed L n h 1
  unfolding lets allowed
  every_first = refl

  -- and among no boards in each: no ballot is asked for
  nobody : (r w : ℕ) → (r ≡ 0 → ⊥) → allowed L 0 h r w ≡ lets Every w
  unfolding allowed allowed_after some_choice every_of count_of lets
  nobody zero w f = absurd (f refl)
  nobody (suc zero) w f = refl
  nobody (suc (suc r)) w f = grind (arith, nat_tests)

  pub every-nobody : (r : ℕ) → n ≡ 0 → (r ≡ 0 → ⊥) → lets Every ≡ allowed L n h r
  every-nobody r e f = fun_ext (λ w. rw e (grind (arith, nobody r w)))

  -- one round of the pass: by the allowance a, the entry x of the opening if that counts, b blank ballots and c for its
  -- value, a' is left
  pub pass-turn : (a a' : Allowance) (r x b c : ℕ) → lets a ≡ allowed L n h r → (n ≡ 0 → ⊥) → 1 ≤ r
      → x ≡ (if says (opening_entry L n h r) (lets a) then opening_entry L n h r else 0)
      → b ≡ count_in n (bears L h r 0)
      → c ≡ count_in n (backs L h r x)
      → a'
      ≡ (if nat_le (quorum n) (b + min c (overlap n - 1))
      then a
      else (if nat_le (quorum n) (b + c) then Only x else Nothing))
      → lets a' ≡ allowed L n h (r + 1)
  pass-turn a a' r x b c f some low opens blanks backers left =
      let same = opened-found L n h r (opening_entry L n h r) x (lets a) refl f opens in
      fun_ext
      (λ w.
      let same-lets : lets a w ≡ allowed L n h r w = ap (λ (p : ℕ → Bool). p w) f in
      let opened = opened-entry L n h r w in
      let accepted = λ (e : x ≡ entry_of w). opening-reads L n h r w (grind (arith, nat_tests, opened)) in
      let passes : x ≡ entry_of w → lets a w ≡ true = λ e. same-lets ∙ (accepted e).permitted in
      let next = settled a (quorum n) (overlap n) x b c w (omega (arith, some)) passes in
      let later = later-counts L n h r w low (omega (arith, some)) in
      rw left (next ∙ (cc same) ∙ sym later))

-- after the last round no ballot is heard, so in the round after that nothing is allowed
late : (L : Limits) (n : ℕ) (d : Delivered) (r w : ℕ) → (n ≡ 0 → ⊥) → 1 ≤ r → L.rounds < r
    → allowed L n (heard L d) (r + 1) w ≡ false
unfolding by-counts backs bears says
late L n d r w some low l =
    let h = heard L d in
    let i = identifier_of L Ballot r in
    let past = false_from_ne_true (is_round L r) (λ t. omega (arith, within-high L.rounds r t)) in
    let zero = identifier-none L Ballot r past in
    let none =
    false_from_ne_true (is_identifier L.identifiers i) (λ t. omega (arith, zero, within_low L.identifiers i t)) in
    let silent = λ (s : ℕ). heard-outside L d s i none in
    let blanks = count-none n (bears L h r 0) (λ s a b. grind (arith, nat_tests, silent s)) in
    let backers = count-none n (backs L h r (entry L n h r)) (λ s a b. grind (arith, nat_tests, silent s)) in
    let counts = later-counts L n h r w low (omega (arith, some)) in
    grind (arith, nat_tests, counts, blanks, backers, overlap-pos n, overlap-le n)

pub nothing-late : (L : Limits) (n : ℕ) (d : Delivered) (r : ℕ) → (n ≡ 0 → ⊥) → L.rounds + 1 < r
    → lets Nothing ≡ allowed L n (heard L d) r
unfolding lets
nothing-late L n d r some l =
    let e : r ≡ (r - 1) + 1 = omega arith in
    rw e (fun_ext (λ w. sym (late L n d (r - 1) w some (omega arith) (omega arith))))

-- for the functions
pub ruleset allowance = (nothing_before, every-nobody, nothing-late, every_first, pass-turn)
