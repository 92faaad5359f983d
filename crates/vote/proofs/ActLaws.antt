-- A turn and what is said of it in words say the same. This goes by no law of the rule or of a turn, which
-- another text of it might break, right or wrong. Assumes nothing.
use Rattle.std.specs.Prelude.{◌||◌}
use Prim.Native.Nat.{ℕ, ◌≤◌}
use native.Mathlib.Omega.{arith}
use mathlib.Core.Path.{◌≡◌, refl, subst}
use mathlib.Core.Bool.{true}
use mathlib.Core.Logic.{◌↔◌}
use Rattle.std.proofs.lemmas.Bool.Decides.{nat_tests}
use Rattle.signer.proofs.FromOneLaws.{within_in, within-high}
use Rattle.delivery.specs.Limits.{limits}
use Rattle.delivery.specs.Bus.{quorum, overlap}
use Rattle.delivery.specs.Rounds.{is_round}
use Rattle.delivery.specs.Sets.{in_set}
use Rattle.delivery.specs.Delivered.{Store, heard}
use Rattle.delivery.specs.Acceptance.{accepts_opening, accepts_some}
use Rattle.delivery.proofs.CountLaws.{every-reads, reads-every, overlap-pos, overlap-le}
use Rattle.delivery.proofs.RoundLaws.{identifier-opening, identifier-ballot, next-at}
use Rattle.vote.specs.Ballots.{opened_value, tally, value_with}
use Rattle.vote.specs.Rule.{open_move, may_vote, vote_move, may_count, next_estimate, onward, count_move, move_at, rule}
use Rattle.vote.specs.Boards.{hears}
use Rattle.vote.specs.Turns.{answer_to, at_stage, position_after, status_after, said_in, hears_own, take, turn_in, turn}
use Rattle.vote.specs.Acts.{MayVote, MayCount, NoneHas, Leaves, changed, kept, Acts, opens-round, says-nothing, awaits-opening, backs-opening, votes-blank, awaits-ballots, decides-value, goes-on, is-spent, Leads, after-waiting, after-passing, after-opening, after-voting, after-deciding, after-round, after-last, not-started, was-spent, had-decided, makes-move, OfValues, SameMove, SameTurn}
use Rattle.vote.specs.declared.position.Position.{Position}
use Rattle.vote.specs.declared.board.Board.{Board}
use Rattle.vote.specs.declared.board.Status.TheVariants.{Voting}
use Rattle.vote.specs.declared.rule.Move.{Move}
use Rattle.vote.specs.declared.turn.Turn.{Turn}
use Rattle.vote.proofs.BallotLaws.{opened-reads, opened_some, reads-opened, tally-other, with-opened}

module _ (n me : ℕ) (p : Position) (h : Store) (some : 1 ≤ n) (fit : OfValues h) where
  abbrev r : ℕ
  r = p.round.0

  abbrev borne : ℕ → ℕ
  borne m = value_with limits n h r m

  -- the opening that is accepted is that of the round's value
  accepted : (v : ℕ) → accepts_opening limits n h r v ≡ true → opened_value limits n h r ≡ v
  accepted v = reads-opened limits n h r v (fit _ _)

  -- none is found where no value has m ballots
  none-has : (m : ℕ) → 1 ≤ m → borne m ≡ 0 → NoneHas n me p h m
  unfolding tally
  none-has m o z w f =
      let t = tally-other limits n h r w (fit _ _) f in
      grind (arith, nat_tests, with-opened)

  -- what is found has m, and a value that has so many is the one that is found
  found : (m : ℕ) → (borne m ≡ 0 → ⊥) → m ≤ tally limits n h r (borne m)
  found m z = grind (arith, nat_tests, with-opened)

  has : (m w : ℕ) → 1 ≤ m → (w ≡ 0 → ⊥) → m ≤ tally limits n h r w → borne m ≡ w
  has m w o z l =
      let t = tally-other limits n h r w (fit _ _) z in
      grind (arith, nat_tests, with-opened)

  has-none : (m : ℕ) → NoneHas n me p h m → borne m ≡ 0
  unfolding tally
  has-none m f = let t = f (opened_value limits n h r) in grind (arith, nat_tests, with-opened)

  q-some : 1 ≤ quorum n
  q-some = omega (arith, overlap-pos n some, overlap-le n)

  -- who may vote, and count, by either text
  votes : (may_vote limits n p h ≡ true) ↔ MayVote n me p h
  unfolding may_vote
  votes = (grind (arith, nat_tests), grind (arith, nat_tests))

  counts : (may_count limits n p h ≡ true) ↔ MayCount n me p h
  unfolding may_count
  counts =
      let e = every-reads n (λ (s : ℕ). accepts_some limits n h r s || in_set p.suspected s) in
      let f = reads-every n (λ (s : ℕ). accepts_some limits n h r s || in_set p.suspected s) in (
        λ t. record { enough = grind (arith, nat_tests); rest = λ s l u. let x = e (grind arith) s l u in grind arith },
        λ c. grind (arith, nat_tests),
      )

  -- the estimate that the round leaves
  leaves : Leaves n me p h (next_estimate limits n p h)
  unfolding next_estimate tally
  leaves =
      let e = overlap n in
      let c : (borne e ≡ 0 → ⊥) → Leaves n me p h (borne e) = λ z. changed z (found e z) in
      let k : borne e ≡ 0 → Leaves n me p h p.estimate = λ z. kept (none-has e (overlap-pos n some) z) refl in
      grind (arith, nat_tests)

  left : (v : ℕ) → Leaves n me p h v → next_estimate limits n p h ≡ v
  unfolding next_estimate tally
  left v (changed z l) = let e = has (overlap n) v (overlap-pos n some) z l in grind (arith, nat_tests)
  left v (kept f e) = let z = has-none (overlap n) f in grind (arith, nat_tests)

  -- the rule's move is one of the sentences
  rule-acts : Acts n me p h (rule limits n me p h)
  unfolding rule move_at open_move vote_move count_move onward tally
  rule-acts =
      let z = none-has (quorum n) q-some in
      let v = votes in
      let c = counts in
      let b = found (quorum n) in
      let x = leaves in
      grind (
        arith,
        nat_tests,
        accepted,
        opened-reads,
        opened_some,
        opens-round,
        says-nothing,
        awaits-opening,
        backs-opening,
        votes-blank,
        awaits-ballots,
        decides-value,
        goes-on,
        is-spent,
      )

  -- and each sentence is the rule's
  acts-rule : (m : Move) → Acts n me p h m → rule limits n me p h ≡ m
  unfolding rule move_at open_move vote_move count_move onward tally
  acts-rule _ (opens-round s e) = grind (arith, nat_tests)
  acts-rule _ (says-nothing s f) = grind (arith, nat_tests)
  acts-rule _ (awaits-opening s f) = let v = votes in grind arith
  acts-rule _ (backs-opening v s m a) = let t = votes.1 m in let o = accepted v a in grind arith
  acts-rule _ (votes-blank s m f) =
      let t = votes.1 m in
      let o = opened-reads limits n h r in
      let g = f (opened_value limits n h r) in
      grind arith
  acts-rule _ (awaits-ballots s f) = let c = counts in grind arith
  acts-rule _ (decides-value v s m z l) =
      let t = counts.1 m in
      let e = has (quorum n) v q-some z l in
      grind (arith, nat_tests)
  acts-rule _ (goes-on v s m f l x) =
      let t = counts.1 m in
      let z = has-none (quorum n) f in
      let e = left v x in
      grind (arith, nat_tests)
  acts-rule _ (is-spent v s m f l x) =
      let t = counts.1 m in
      let z = has-none (quorum n) f in
      let e = left v x in
      grind (arith, nat_tests)

same-turn : {me : ℕ} {b : Board} {m : Move} {t u : Turn} → Leads me b m t → u ≡ t → Leads me b m u
same-turn x e = rw e x

-- what comes of a move, of a board that is voting in a round
leads : (n me : ℕ) (b : Board) → b.status ≡ Voting → is_round limits b.position.round.0 ≡ true
    → (m : Move) → Acts n me b.position (heard limits b.delivered) m → Leads me b m (take limits me b m)
unfolding answer_to at_stage position_after status_after said_in hears_own hears
leads n me b v i _ (awaits-opening s f) = same-turn after-waiting (grind arith)
leads n me b v i _ (awaits-ballots s f) = same-turn after-waiting (grind arith)
leads n me b v i _ (says-nothing s f) = after-passing
leads n me b v i _ (opens-round s e) = same-turn (after-opening b.position.estimate) (grind (arith, identifier-opening))
leads n me b v i _ (backs-opening w s m a) = same-turn (after-voting w) (grind (arith, identifier-ballot))
leads n me b v i _ (votes-blank s m f) = same-turn (after-voting 0) (grind (arith, identifier-ballot))
leads n me b v i _ (decides-value w s m z l) = after-deciding w
leads n me b v i _ (goes-on w s m f l x) = same-turn (after-round w) (grind (arith, next-at))
leads n me b v i _ (is-spent w s m f l x) = same-turn (after-last w) (grind (arith, within-high))

-- the claims
pub rule-said : SameMove
rule-said n me p h m some fit = (
  λ (e : rule limits n me p h ≡ m). subst (Acts n me p h) e (rule-acts n me p h some fit),
  acts-rule n me p h some fit m,
)

pub turn-said : SameTurn
unfolding turn turn_in
turn-said n me b some fit round =
    let m = rule limits n me b.position (heard limits b.delivered) in
    let x = rule-acts n me b.position (heard limits b.delivered) some fit in
    let i = λ (e : b.status ≡ Voting). within_in limits.rounds b.position.round.0 (round e).0 (round e).1 in
    let y = λ (e : b.status ≡ Voting). makes-move m (take limits me b m) e x (leads n me b e (i e) m x) in
    grind (arith, not-started, was-spent, had-decided)

-- what the program's rule says by its contract
pub ruleset said = (rule-said)
