-- Where the values come from: every estimate of a sound board, and every opening that one signs, was proposed by a
-- sound board or opened by a faulty coordinator. Assumes nothing.
use Prim.Native.Nat.{ℕ}
use native.Mathlib.Omega.{arith}
use mathlib.Core.Path.{◌≡◌, refl, sym, ap, ◌∙◌}
use mathlib.Core.Bool.{true, false, true≢false}
use mathlib.Core.Logic.{◌⊎◌, inl, inr, ⊎_elim}
use Rattle.std.proofs.lemmas.Bool.Decides.{nat_tests}
use Rattle.signer.specs.Log.{entry_of}
use Rattle.signer.proofs.LogLaws.{entry-some}
use Rattle.signer.proofs.FromOneLaws.{within_in, within-zero}
use Rattle.delivery.specs.Limits.{Limits}
use Rattle.delivery.specs.Acceptance.{accepts_opening}
use Rattle.delivery.specs.Sets.{in_set}
use Rattle.delivery.specs.Rounds.{is_round, coordinator, identifier_of}
use Rattle.delivery.specs.declared.round.Phase.TheVariants.{Opening}
use Rattle.std.proofs.lemmas.Bool.{cases_Bool}
use Rattle.delivery.proofs.RoundLaws.{coordinator-in, identifier-none, openings-apart}
use Rattle.delivery.proofs.DeliveredLaws.{heard-outside}
use Rattle.delivery.proofs.AllRoundsLaws.{opening-reads}
use Rattle.vote.specs.Boards.{is_started}
use Rattle.vote.specs.Turns.{statement_of}
use Rattle.vote.specs.declared.board.Status.TheVariants.{Voting}
use Rattle.vote.specs.declared.board.Board.{Board}
use Rattle.vote.specs.declared.statement.Statement.{Statement}
use Rattle.vote.proofs.BoardLaws.{started-voting}
use Rattle.vote.proofs.TurnLaws.{turn-voting, turn-estimate}
use Rattle.vote.proofs.CallLaws.{turn-says, starts-with}
use Rattle.vote.specs.Life.{Signs, signs-opening, signs-ballot}
use Rattle.vote.proofs.SigningLaws.{turn-signs}
use Rattle.vote.proofs.ProperLaws.{voting-round}
use Rattle.bench.specs.Events.{proposing}
use Rattle.bench.specs.Benches.{board_at, heard_by, signed_by}
use Rattle.bench.specs.Setups.{Setup}
use Rattle.bench.specs.Story.{Entry, History, believing}
use Rattle.bench.specs.Claim.{Sound, Origin, was-proposed, was-opened}
use Rattle.bench.specs.declared.bench.Bench.{Bench}
use Rattle.bench.specs.declared.event.Event.{Event}
use Rattle.bench.proofs.MomentLaws.{accepted, ◌then◌, once-kept, once-new}
use Rattle.bench.proofs.HistoryLaws.{SignsNow, signed-kept}
use Rattle.bench.proofs.FitLaws.{Ground, Fit}
use Rattle.bench.proofs.ViewLaws.{View, standing_of, view, setup_of, put-cases}
use Rattle.bench.proofs.ReplayLaws.{was-signed, replay, replay-signs}
use Rattle.bench.proofs.AcceptedLaws.{Accepted}
use Rattle.bench.proofs.SquareLaws.{lawful}
use Rattle.bench.proofs.TellsLaws.{Tells}

-- the estimates of sound boards, and the openings that they signed, have origins
pub record Rooted (L : Limits) (S : Setup) (H : History) (V : View) : Type 0 where
  pub estimates : (k : ℕ) → Sound L S k → ((V.stands k).position.estimate ≡ 0 → ⊥)
      → Origin L S H (V.stands k).position.estimate
  pub openings : (k r v : ℕ) → Sound L S k → is_round L r ≡ true → V.signed k (identifier_of L Opening r) ≡ entry_of v
      → Origin L S H v

-- an origin stays one
origin-kept : (L : Limits) (S : Setup) (H : History) (x : Entry) (v : ℕ) → Origin L S H v → Origin L S (H then x) v
origin-kept L S H x v (was-proposed p s o) = was-proposed p s (once-kept H x _ o)
origin-kept L S H x v (was-opened p r f i c s) =
    was-opened p r f i c (signed-kept L S H x p (identifier_of L Opening r) v s)

pub rooted-refused : (L : Limits) (S : Setup) (H : History) (V : View) (x : Entry) → Rooted L S H V
    → Rooted L S (H then x) V
rooted-refused L S H V x o =
    record {
      estimates = λ k s n. origin-kept L S H x _ (o.estimates k s n);
      openings = λ k r v s i e. origin-kept L S H x v (o.openings k r v s i e);
    }

-- an opening that a board has heard from the round's coordinator has an origin
module _ {L : Limits} {S : Setup} {H : History} {c : Bench} (g : Ground L S) (f : Fit L S c)
    (y : Tells L S H (view L c)) (o : Rooted L S H (view L c)) where
  pub opened-origin : (k r v : ℕ) → heard_by L c k (coordinator S.n r) (identifier_of L Opening r) ≡ entry_of v
      → Origin L S H v
  opened-origin k r v e = go (cases_Bool (is_round L r)) (cases_Bool (in_set S.sound p))
    where
      p : ℕ
      p = coordinator S.n r

      signed : signed_by L c p (identifier_of L Opening r) ≡ entry_of v
      signed = was-signed f.sane k p (identifier_of L Opening r) v e

      go : (is_round L r ≡ true) ⊎ (is_round L r ≡ false) → (in_set S.sound p ≡ true) ⊎ (in_set S.sound p ≡ false)
          → Origin L S H v
      go (inl i) (inl s) = o.openings p r v s i signed
      go (inl i) (inr s) =
          let q = coordinator-in S.n r g.some-board in
          was-opened p r (within_in S.n p q.0 q.1, s) i refl ((y.signed p (identifier_of L Opening r) v).1 signed)
      go (inr i) s =
          absurd
          (entry-some
          v
          (sym e
          ∙ ap (heard_by L c k p) (identifier-none L Opening r i)
          ∙ heard-outside L (board_at L c k).delivered p 0 (within-zero L.identifiers 0 refl)))

module _ {L : Limits} {H : History} {c : Bench} (g : Ground L (setup_of c)) (f : Fit L (setup_of c) c)
    (y : Tells L (setup_of c) H (view L c)) (o : Rooted L (setup_of c) H (view L c)) {e : Event}
    (acc : Accepted L c e) where
  abbrev S : Setup
  S = setup_of c

  abbrev b : Board
  b = board_at L c e.a

  abbrev H' : History
  H' = H then accepted e

  kept-estimate : (k v : ℕ) → Sound L S k → v ≡ (board_at L c k).position.estimate → (v ≡ 0 → ⊥) → Origin L S H' v
  kept-estimate k v s i n = rw i (origin-kept L S H (accepted e) _ (o.estimates k s (λ z. n (i ∙ z))))

  -- the estimate that an event leaves is as it was, was proposed, or was that of an opening that the board accepts
  abbrev estimate : ℕ
  estimate = (believing L c.n e.a (standing_of L b) e).position.estimate

  estimate-comes : (estimate ≡ b.position.estimate)
      ⊎ (((e.kind ≡ proposing) × (e.value ≡ estimate))
      ⊎ (accepts_opening L c.n (heard_by L c e.a) b.position.round.0 estimate ≡ true))
  unfolding believing
  estimate-comes =
      let p = starts-with b.position e.value in
      let t = turn-estimate L c.n e.a b in
      let v = turn-voting L c.n e.a b in
      let w = acc.voting in
      grind (arith, nat_tests)

  believed : Sound L S e.a → (estimate ≡ 0 → ⊥) → Origin L S H' estimate
  believed s n =
      ⊎_elim
      (λ p. kept-estimate e.a estimate s p n)
      (⊎_elim
      (λ q. was-proposed e.a s (once-new H e _ (record { kind = q.0; board = refl; value = q.1 })))
      (λ q.
      let r = b.position.round.0 in
      let heard = (opening-reads L c.n (heard_by L c e.a) r estimate q).said in
      origin-kept L S H (accepted e) estimate (opened-origin g f y o e.a r estimate heard)))
      estimate-comes

  -- an opening that a sound board signs in its turn has its estimate
  signed-origin : (k r v : ℕ) → Sound L S k → is_round L r ≡ true
      → SignsNow L S (view L c).stands e k (identifier_of L Opening r) v → Origin L S H' v
  signed-origin k r v s i (inr p) = absurd (true≢false (sym s ∙ p.0.1))
  signed-origin k r v s i (inl p) =
      go (turn-signs L c.n k (board_at L c k) _ (turn-says L c.n k (board_at L c k) votes ∙ p.1.says))
    where
      votes : (board_at L c k).status ≡ Voting
      votes = rw p.1.board at (acc.voting p.1.kind)

      go : Signs L c.n k (board_at L c k) (statement_of L k Opening r v) → Origin L S H' v
      go (signs-opening x q m j) =
          let z : (board_at L c k).position.estimate ≡ v = ap (λ (z : Statement). z.value) j in
          kept-estimate k v s (sym z) (λ w. (f.proper k).estimate (ap is_started x ∙ started-voting) (z ∙ w))
      go (signs-ballot x q j) =
          absurd
          (openings-apart
          L
          r
          (board_at L c k).position.round.0
          i
          (voting-round L (board_at L c k) (f.proper k) x)
          (sym (ap (λ (z : Statement). z.id.0) j)))

  -- and so it is after an accepted event
  pub rooted-accepted : Rooted L S H' (replay L S (view L c) e)
  rooted-accepted =
      record {
        estimates =
            λ k s n.
            ⊎_elim
            (λ q. rw q.1 (believed (rw q.0 at s) (rw q.1 at n)))
            (λ q. rw q.1 (origin-kept L S H (accepted e) _ (o.estimates k s (rw q.1 at n))))
            (put-cases (view L c).stands (replay L S (view L c) e).stands e.a _ (λ j. refl) k);
        openings =
            λ k r v s i j.
            ⊎_elim
            (λ q. origin-kept L S H (accepted e) v (o.openings k r v s i q))
            (signed-origin k r v s i)
            ((replay-signs (lawful g f acc) f.sane k (identifier_of L Opening r) v).0 j);
      }
