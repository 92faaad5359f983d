-- Laws of the rule of a turn: who may vote and count, and what is known of a board that makes a move. Assumes nothing.
use Prim.Native.Nat.{ℕ, ◌≤◌, ◌<◌, ◌*◌}
use native.Mathlib.Omega.{arith}
use mathlib.Core.Path.{◌≡◌, ap, ◌∙◌}
use mathlib.Core.Bool.{Bool, false}
use mathlib.Core.Logic.{◌⊎◌}
use Rattle.std.specs.Prelude.{min, ◌==◌, ◌||◌}
use Rattle.std.proofs.lemmas.Bool.{false_from_ne_true}
use Rattle.std.proofs.lemmas.Bool.Decides.{nat_tests}
use Rattle.signer.proofs.FromOneLaws.{within-high}
use Rattle.delivery.specs.Counting.{count_in}
use Rattle.delivery.specs.Limits.{Limits}
use Rattle.delivery.specs.Bus.{is_board, quorum, overlap}
use Rattle.delivery.specs.Rounds.{coordinator, identifier_of}
use Rattle.delivery.specs.Sets.{in_set, set_of, bits, union}
use Rattle.delivery.specs.Delivered.{Store, heard}
use Rattle.delivery.specs.Acceptance.{accepts_some}
use Rattle.delivery.specs.declared.delivered.Delivered.{Delivered}
use Rattle.delivery.specs.declared.round.Phase.TheVariants.{Ballot}
use Rattle.delivery.proofs.AllRoundsLaws.{accepted-reads, ballot-reads}
use Rattle.delivery.proofs.CountLaws.{count-cong, count-le, every-counted}
use Rattle.delivery.proofs.DeliveredLaws.{heard-nobody}
use Rattle.delivery.proofs.SetLaws.{count_set, in-set_of-within, in-union, set_beyond}
use Rattle.delivery.proofs.PollLaws.{ballots-tallied}
use Rattle.delivery.proofs.AgreementLaws.{Won}
use Rattle.vote.specs.Ballots.{opened_value, tally}
use Rattle.vote.specs.Rule.{open_move, vote_move, may_count, carried, next_estimate, onward, count_move, move_at, rule}
use Rattle.vote.specs.declared.position.Position.{Position}
use Rattle.vote.specs.declared.position.Stage.TheVariants.{Open, Vote, Count}
use Rattle.vote.specs.declared.rule.Move.{Move}
use Rattle.vote.specs.declared.rule.Move.TheVariants.{Waits, Passes, Opens, Ballots, Decides, Advances, Expires}
use Rattle.vote.proofs.BallotLaws.{with-opened, tally-won}

-- Stage C by sets, as the program counts: m is that of the boards with an accepted ballot. Only boards that there can
-- be have one, so where a quorum has there are no more boards than a set has bits.
module _ (L : Limits) (n : ℕ) (p : Position) (d : Delivered) (m : ℕ) where
  abbrev accepted : ℕ → Bool
  accepted = accepts_some L n (heard L d) p.round.0

  accepted-board : (s : ℕ) → L.boards < s → accepted s ≡ false
  accepted-board s l =
      false_from_ne_true
      (accepted s)
      (λ b.
      let a = accepted-reads L n (heard L d) p.round.0 s b in
      let o = false_from_ne_true (is_board L s) (λ k. omega (arith, within-high L.boards s k)) in
      let x = heard-nobody L d.entries s (identifier_of L Ballot p.round.0) o in
      omega (arith, (ballot-reads L n (heard L d) p.round.0 s a.0 a.1).said, x))

  counted : m ≡ set_of n accepted → count_in n (in_set m) ≡ count_in n accepted
  counted e = ap (λ (s : ℕ). count_in n (in_set s)) e ∙ count_set n n accepted (omega arith)

  few-accepted : m ≡ set_of n accepted → count_in n (in_set m) ≤ L.boards
  few-accepted e =
      let k = min n L.boards in
      let c = ap (λ (s : ℕ). count_in n (in_set s)) (e ∙ set_beyond n L.boards accepted accepted-board) in
      omega (arith, c, count_set n k accepted (omega arith), count-le k accepted)

  pub count-few_in : m ≡ set_of n accepted → count_in n (in_set m) < quorum n → may_count L n p (heard L d) ≡ false
  unfolding may_count
  count-few_in e l = let c = counted e in grind (arith, nat_tests)

  pub count-enough_in : 2 * L.boards ≤ bits → m ≡ set_of n accepted → quorum n ≤ count_in n (in_set m)
      → may_count L n p (heard L d) ≡ ((count_in n (in_set (union m p.suspected))) == n)
  unfolding may_count
  count-enough_in b e l =
      let fits : n ≤ bits = omega (arith, few-accepted e) in
      let present = λ (s : ℕ). accepted s || in_set p.suspected s in
      let c = counted e in
      let u = every-counted n present in
      let same =
      count-cong
      n
      present
      (in_set (union m p.suspected))
      (λ k g u.
      let x = in-set_of-within n accepted k g u in
      let y = in-union m p.suspected k g (omega arith) in
      cc) in
      grind (arith, nat_tests)

-- how a round that decides nothing leaves the estimate: as it was, or a value that e or more accepted ballots bear, and
-- one at least
abbrev pub Next : Limits → ℕ → Position → Store → ℕ → Type 0
Next L n p h v =
    ((v ≡ p.estimate) × (carried L n p h ≡ 0))
    ⊎ ((v ≡ 0 → ⊥) × (1 ≤ tally L n h p.round.0 v) × (overlap n ≤ tally L n h p.round.0 v))

module _ (L : Limits) (n me : ℕ) (p : Position) (h : Store) where
  -- what is known of a board that makes a move
  abbrev pub Makes : Move → Type 0
  Makes Waits = Unit {0}
  Makes Passes = p.stage ≡ Open
  Makes (Opens v) = (p.stage ≡ Open) × (me ≡ coordinator n p.round.0) × (v ≡ p.estimate)
  Makes (Ballots v) = (p.stage ≡ Vote) × (v ≡ opened_value L n h p.round.0)
  Makes (Decides v) = Won L n h p.round.0 v
  Makes (Advances v) =
      (p.stage ≡ Count)
      × (quorum n ≤ count_in n (accepts_some L n h p.round.0))
      × (p.round.0 < L.rounds)
      × Next L n p h v
  Makes (Expires v) = (p.stage ≡ Count) × (L.rounds ≤ p.round.0) × Next L n p h v

  pub rule-makes : Makes (rule L n me p h)
  unfolding rule move_at open_move vote_move may_count next_estimate onward count_move
  rule-makes = grind (arith, nat_tests, with-opened, tally-won)

-- what the program goes by to tell who may count
pub ruleset counts = (count-few_in, count-enough_in, ballots-tallied)
