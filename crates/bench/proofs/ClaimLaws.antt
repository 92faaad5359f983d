-- Every list of events keeps its bench fit, tells what the bench shows, and has its values from sound boards or faulty
-- coordinators; so agreement holds of it. Assumes nothing.
use Prim.Native.Nat.{ℕ, zero, suc}
use native.Mathlib.Omega.{arith}
use mathlib.Core.Path.{◌≡◌, refl, sym, ap, subst, subst⁻¹, ◌∙◌}
use mathlib.Core.Bool.{true, false}
use mathlib.Core.List.{List, [], ◌∷◌, ◌++◌, append-nil, append_assoc}
use mathlib.Core.Logic.{⊎_elim, ◌↔◌}
use Rattle.signer.specs.Log.{is_identifier, entry_of}
use Rattle.signer.proofs.LogLaws.{entry-one}
use Rattle.signer.proofs.FromOneLaws.{within_low}
use Rattle.signer.specs.Signer.{grants}
use Rattle.signer.proofs.SignerLaws.{grants-above}
use Rattle.delivery.specs.Limits.{Limits}
use Rattle.delivery.specs.Sets.{in_set}
use Rattle.delivery.specs.Owed.{receivers}
use Rattle.delivery.specs.declared.round.Phase.TheVariants.{Opening, Ballot}
use Rattle.std.proofs.lemmas.Bool.{cases_Bool}
use Rattle.delivery.proofs.RoundLaws.{identifier-within}
use Rattle.delivery.proofs.GrowthLaws.{Grows, won-grows}
use Rattle.delivery.proofs.AgreementLaws.{Won, won-opened, won-one}
use Rattle.vote.specs.Turns.{turn}
use Rattle.vote.specs.declared.statement.Statement.{Statement}
use Rattle.std.specs.Prelude.{Some}
use Rattle.vote.specs.Boards.{decision_of}
use Rattle.vote.specs.declared.board.Status.TheVariants.{Decided as decided-with}
use Rattle.bench.specs.Shows.{decided_as, shown}
use Rattle.vote.proofs.ProperLaws.{voting-round}
use Rattle.vote.specs.Life.{Signs, signs-opening, signs-ballot}
use Rattle.vote.proofs.SigningLaws.{signs-due, turn-signs}
use Rattle.bench.specs.Benches.{board_at, signer_at, heard_by, signed_by}
use Rattle.bench.specs.Setups.{Setup, setup, bench_of, fresh_bench, fresh_of}
use Rattle.bench.specs.Answers.{answer_number, is_accepted}
use Rattle.bench.specs.Table.{check_of}
use Rattle.bench.specs.Effects.{effect_of, step_of}
use Rattle.bench.specs.Runs.{steps, last_of, after, answers_to}
use Rattle.bench.specs.Story.{Entry, History, history_of, Standing}
use Rattle.bench.specs.Claim.{Sound, Decided, Owed, NothingOwed, AllAlike, Agreement}
use Rattle.bench.specs.declared.bench.Bench.{Bench}
use Rattle.bench.specs.declared.event.Event.{Event}
use Rattle.bench.proofs.AnswerLaws.{step-accepted, step-refused}
use Rattle.bench.proofs.MomentLaws.{accepted, ◌then◌}
use Rattle.bench.proofs.ViewLaws.{view, setup_of}
use Rattle.bench.proofs.ReplayLaws.{was-signed, heard-or-not}
use Rattle.bench.proofs.FitLaws.{Ground, Fit}
use Rattle.bench.proofs.AcceptedLaws.{accepted-passed, passed-accepted}
use Rattle.bench.proofs.SquareLaws.{lawful, square}
use Rattle.bench.proofs.SpreadLaws.{Lacking}
use Rattle.bench.proofs.InvariantLaws.{kept, same-setup}
use Rattle.bench.proofs.TellsLaws.{Tells, tells-refused, tells-accepted}
use Rattle.bench.proofs.OwedLaws.{Lacks, owed-lacks, lacks-owed, nothing-owed}
use Rattle.bench.proofs.OriginLaws.{Rooted, rooted-refused, opened-origin, rooted-accepted}
use Rattle.bench.proofs.ShowLaws.{shown-decided}

-- what every list of events keeps
pub record Sure (L : Limits) (S : Setup) (H : History) (c : Bench) : Type 0 where
  pub bus : setup_of c ≡ S
  pub fit : Fit L S c
  pub tells : Tells L S H (view L c)
  pub rooted : Rooted L S H (view L c)

-- the entry of an event on a bench
abbrev entry_for : Limits → Bench → Event → Entry
entry_for L c e = record { event = e; answer = answer_number (step_of L c e).answer }

module _ (L : Limits) where
  -- one event
  sure-accepted : (H : History) (c : Bench) (e : Event) → Ground L (setup_of c) → Sure L (setup_of c) H c
      → is_accepted (check_of L c e) ≡ true
      → Sure L (setup_of c) (H then accepted e) (effect_of L c e)
  sure-accepted H c e g y t =
      let acc = passed-accepted L c e (accepted-passed L c e t) in
      let w = lawful g y.fit acc in
      let q = square g y.fit acc in
      record {
        bus = same-setup g y.fit acc;
        fit = kept g y.fit acc;
        tells = subst⁻¹ (Tells L (setup_of c) (H then accepted e)) q (tells-accepted y.tells w y.fit.sane);
        rooted = subst⁻¹ (Rooted L (setup_of c) (H then accepted e)) q (rooted-accepted g y.fit y.tells y.rooted acc);
      }

  sure-refused : (S : Setup) (H : History) (c : Bench) (x : Entry) → (x.answer ≡ 0 → ⊥) → Sure L S H c
      → Sure L S (H then x) c
  sure-refused S H c x n y =
      record {
        bus = y.bus;
        fit = y.fit;
        tells = tells-refused y.tells x n;
        rooted = rooted-refused L S H (view L c) x y.rooted;
      }

  module _ (S : Setup) (g : Ground L S) where
    sure_step : (H : History) (c : Bench) (e : Event) → Sure L S H c
        → Sure L S (H then entry_for L c e) (step_of L c e).bench
    sure_step H c e y =
        ⊎_elim
        (λ (t : is_accepted (check_of L c e) ≡ true).
        let q = step-accepted L c e t in
        rw
        (q.0, q.1)
        (subst
        (λ (T : Setup). Ground L T → Sure L T H c → Sure L T (H then accepted e) (effect_of L c e))
        y.bus
        (λ g y. sure-accepted H c e g y t)
        g
        y))
        (λ (t : is_accepted (check_of L c e) ≡ false).
        let q = step-refused L c e t in
        subst⁻¹ (Sure L S (H then entry_for L c e)) q.0 (sure-refused S H c (entry_for L c e) q.1 y))
        (cases_Bool (is_accepted (check_of L c e)))

    -- and any list of them
    pub sure-after : (es : List Event) (H : History) (c : Bench) → Sure L S H c
        → Sure L S (H ++ history_of es (answers_to L c es)) (after L c es)
    unfolding history_of answers_to after steps last_of
    sure-after [] H c y = rw append-nil y
    sure-after (e ∷ es) H c y =
        subst
        (λ (K : History). Sure L S K (after L (step_of L c e).bench es))
        (append_assoc H (entry_for L c e ∷ []) (history_of es (answers_to L (step_of L c e).bench es)))
        (sure-after es (H then entry_for L c e) (step_of L c e).bench (sure_step H c e y))

module _ {L : Limits} {S : Setup} {H : History} {c : Bench} (g : Ground L S) (y : Sure L S H c) where
  -- what a board has decided has its ballots among what it heard, and so among what was signed
  heard-won : (k r v : ℕ) → Decided L S H k r v → Won L S.n (heard_by L c k) r v
  heard-won k r v d = (y.fit.grounded k).won (decision_of r v) ((y.tells.decided k r v).0 d).1

  heard-signed : (k : ℕ) → Grows (heard_by L c k) (signed_by L c)
  heard-signed k = record { keeps = λ s i z. ⊎_elim (λ e. absurd (z e)) sym (y.fit.sane.part k s i) }

  signed-won : (k r v : ℕ) → Decided L S H k r v → Won L S.n (signed_by L c) r v
  signed-won k r v d = won-grows L S.n (heard_by L c k) (signed_by L c) (heard-signed k) r v (heard-won k r v d)

  -- who lacks a statement by the history lacks it on the bench
  lacks-lacking : (k s i v : ℕ)
      → Lacks L S H k s i v ↔ (Lacking S.sound (λ j. heard_by L c j s i) k s × (signed_by L c s i ≡ entry_of v))
  lacks-lacking k s i v = (
    λ l.
        let has : heard_by L c l.holder s i ≡ entry_of v = (y.tells.delivered l.holder s i v).0 l.holder-has in
        let signed = was-signed y.fit.sane l.holder s i v has in
        let or-not = heard-or-not y.fit.sane k s i v signed in (
          record {
            is-sound = l.is-sound;
            other = l.other;
            not-heard = ⊎_elim (λ z. z) (λ z. absurd (l.has-not ((y.tells.delivered k s i v).1 z))) or-not;
            holder = l.holder;
            holder-sound = l.holder-has.0;
            holder-has = λ z. omega (arith, has, z);
          },
          signed,
        ),
    λ l.
        let j = l.0.holder in
        let or-not = heard-or-not y.fit.sane j s i v l.1 in
        record {
          is-sound = l.0.is-sound;
          other = l.0.other;
          has-not = λ d. omega (arith, (y.tells.delivered k s i v).0 d, l.0.not-heard);
          holder = j;
          holder-has = (y.tells.delivered j s i v).1 (⊎_elim (λ z. absurd (l.0.holder-has z)) (λ z. z) or-not);
        },
  )

  owed-shown : (k s i v : ℕ)
      → Owed L S H k s i v ↔ ((in_set (receivers L c.owed s i) k ≡ true) × (signed_by L c s i ≡ entry_of v))
  owed-shown k s i v = (
    λ o. let l = (lacks-lacking k s i v).0 (owed-lacks o) in ((y.fit.spread k s i).1 l.0, l.1),
    λ p. lacks-owed ((lacks-lacking k s i v).1 ((y.fit.spread k s i).0 p.0, p.1)),
  )

  -- what a copy is owed of was signed
  owed-value : (k s i : ℕ) → in_set (receivers L c.owed s i) k ≡ true → (v : ℕ) × Owed L S H k s i v
  owed-value k s i t = go (heard_by L c l.holder s i) refl
    where
      l : Lacking S.sound (λ j. heard_by L c j s i) k s
      l = (y.fit.spread k s i).0 t

      go : (x : ℕ) → heard_by L c l.holder s i ≡ x → (v : ℕ) × Owed L S H k s i v
      go zero e = absurd (l.holder-has e)
      go (suc v) e = (v, (owed-shown k s i v).1 (t, was-signed y.fit.sane l.holder s i v e))

  -- where no copy is owed, what one sound board has heard every other has
  all_alike : NothingOwed L S H → AllAlike L S H
  all_alike n j k p q s i v d =
      ⊎_elim
      (λ z. absurd (n k s i v (lacks-owed (lacks z))))
      (y.tells.delivered k s i v).1
      (heard-or-not y.fit.sane k s i v signed)
    where
      signed : signed_by L c s i ≡ entry_of v
      signed = was-signed y.fit.sane j s i v ((y.tells.delivered j s i v).0 d)

      lacks : heard_by L c k s i ≡ 0 → Lacks L S H k s i v
      lacks z =
          record {
            is-sound = q;
            other = λ (m : k ≡ s). omega (arith, rw m at (y.fit.sane.own k i q), rw m at z, signed);
            has-not = λ x. omega (arith, (y.tells.delivered k s i v).0 x, z);
            holder = j;
            holder-has = d;
          }

  -- what a sound board says in its turn its signer signs
  identified : (k : ℕ) (s : Statement) → Signs L c.n k (board_at L c k) s → is_identifier L.identifiers s.id.0 ≡ true
  identified k s (signs-opening v q m j) =
      rw (← j) (identifier-within L Opening _ g.identifiers-enough (voting-round L (board_at L c k) (y.fit.proper k) v))
  identified k s (signs-ballot v q j) =
      rw (← j) (identifier-within L Ballot _ g.identifiers-enough (voting-round L (board_at L c k) (y.fit.proper k) v))

  sure-signs : (k : ℕ) → Sound L S k → (s : Statement) → (turn L c.n k (board_at L c k)).signed ≡ Some s
      → grants L.identifiers (signer_at L c k) s.id.0 ≡ true
  sure-signs k t s e =
      let w = turn-signs L c.n k (board_at L c k) s e in
      let o = signs-due L c.n k (board_at L c k) s w in
      let i = identified k s w in
      grants-above
      L.identifiers
      (signer_at L c k)
      s.id.0
      i
      (omega (arith, o, y.fit.ahead k t, within_low L.identifiers s.id.0 i))

  -- the letter D is shown just where a sound board has decided
  decided-shown : (k r v : ℕ)
      → (Sound L S k × ((board_at L c k).status ≡ decided-with (decision_of r v))) ↔ (shown L c k ≡ decided_as r v)
  decided-shown k r v =
      subst
      (λ (T : Setup). Ground L T
      → (Sound L T k × ((board_at L c k).status ≡ decided-with (decision_of r v))) ↔ (shown L c k ≡ decided_as r v))
      y.bus
      (λ g. let w = shown-decided L c k r v (g.members k) in (w.1, w.0))
      g

-- agreement, of any bench and history of which this is sure
pub sure-agrees : (L : Limits) (n : ℕ) (marks : List ℕ) → Ground L (setup L n marks) → (H : History) (c : Bench)
    → Sure L (setup L n marks) H c → Agreement L n marks H c
unfolding fresh_of fresh_bench bench_of
sure-agrees L n marks g H c y =
    record {
      agreement =
          λ j k r r' v w p q.
          let a = signed-won g y j r v p in
          let b = signed-won g y k r' w q in
          won-one L (setup L n marks).n (signed_by L c) g.some-board r v r' w a b;
      one_round =
          λ k r r' v w p q.
          let d = ((y.tells.decided k r v).0 p).1 in
          let d' = ((y.tells.decided k r' w).0 q).1 in
          grind arith;
      validity =
          λ k r v d.
          let o = won-opened L (setup L n marks).n (heard_by L c k) g.some-board r v (heard-won g y k r v d) in
          opened-origin g y.fit y.tells y.rooted k r v o.said;
      one_value = λ k i v w p q. entry-one v w (sym ((y.tells.signed k i v).0 p) ∙ (y.tells.signed k i w).0 q);
      integrity =
          λ k s i v d. (y.tells.signed s i v).1 (was-signed y.fit.sane k s i v ((y.tells.delivered k s i v).0 d));
      owed = (all_alike g y, nothing-owed);
      shows =
          record {
            decided =
                λ k r v.
                let t = y.tells.decided k r v in
                let w = decided-shown g y k r v in
                (λ d. w.0 (t.0 d), λ e. t.1 (w.1 e));
            delivered = y.tells.delivered;
            signed = y.tells.signed;
            owed = owed-shown g y;
            no_more = owed-value g y;
          };
      fixed = (ap (λ (T : Setup). T.n) y.bus, ap (λ (T : Setup). T.sound) y.bus);
      stands =
          λ k _. (
            ap (λ (t : Standing). t.position) (sym (y.tells.stands k)),
            λ s i. ap (λ (t : Standing). t.heard s i) (sym (y.tells.stands k)),
          );
      signs = sure-signs g y;
    }
