-- An accepted event keeps what holds of every bench that was played from a fresh one. Assumes nothing.
use Prim.Native.Nat.{ℕ, ◌≤◌, ◌-◌}
use native.Mathlib.Omega.{arith}
use native.Mathlib.Decide.{ℕ_discrete}
use mathlib.Core.Path.{◌≡◌, refl, sym, ap, subst⁻¹, ◌∙◌, fun_ext}
use mathlib.Core.Bool.{true, false}
use mathlib.Core.Logic.{◌⊎◌, ⊎_elim}
use Rattle.std.specs.Prelude.{if◌then◌else◌, Option, None, Some, IfSome, ◌==◌, not}
use Rattle.std.proofs.lemmas.Bool.Decides.{nat_tests}
use Rattle.std.proofs.lemmas.Option.{none-some}
use Rattle.signer.specs.Signer.{grants}
use Rattle.signer.proofs.FromOneLaws.{within_low, within-high}
use Rattle.signer.proofs.SignerLaws.{WellFormed, sign-last, sign-wellformed}
use Rattle.delivery.specs.Limits.{Limits}
use Rattle.delivery.specs.Sets.{in_set, bits}
use Rattle.delivery.specs.declared.owed.Owed.{Owed}
use Rattle.delivery.proofs.SetLaws.{in-set_of-within}
use Rattle.delivery.proofs.OwedLaws.{Whole, after-signing-whole, after-delivery-whole}
use Rattle.vote.specs.Boards.{fresh_board}
use Rattle.vote.specs.Calls.{Call, own_turn, called}
use Rattle.vote.specs.Turns.{turn}
use Rattle.vote.specs.declared.board.Board.{Board}
use Rattle.vote.specs.declared.statement.Statement.{Statement}
use Rattle.vote.proofs.SigningLaws.{due, signed-past}
use Rattle.vote.proofs.ProperLaws.{Proper, voting-round, called-proper}
use Rattle.vote.proofs.LifeLaws.{Grounded, called-due, called-grounded, call-comes}
use Rattle.vote.proofs.CallLaws.{New, turn-says}
use Rattle.bench.specs.Events.{delivering, turning}
use Rattle.bench.specs.Benches.{is_sound, holds, holders, board_at, signer_at, heard_by}
use Rattle.bench.specs.Story.{hearing, hearing_said}
use Rattle.bench.specs.Effects.{effect_of}
use Rattle.bench.specs.Setups.{Setup}
use Rattle.bench.specs.declared.bench.Bench.{Bench}
use Rattle.bench.specs.declared.event.Event.{Event}
use Rattle.bench.proofs.ViewLaws.{View, view, setup_of, put, put-cases}
use Rattle.bench.proofs.ReplayLaws.{Sane, replay, believing-heard, replay-sane}
use Rattle.bench.proofs.SpreadLaws.{Spread, delivery-spreads, signing-spreads}
use Rattle.bench.proofs.FitLaws.{Ground, is-there, Fit}
use Rattle.bench.proofs.AcceptedLaws.{Accepted}
use Rattle.bench.proofs.EffectLaws.{call_of, board_then, asked_for, said_then, owed_saying, each-board, each-owed, same-bus, same-sizes, owed-turning, owed-delivering, owed-kept, signers-then}
use Rattle.bench.proofs.SquareLaws.{has-board, says-new, lawful, boards-now, square}

module _ {L : Limits} {c : Bench} (g : Ground L (setup_of c)) (f : Fit L (setup_of c) c) {e : Event}
    (acc : Accepted L c e) where
  abbrev b : Board
  b = board_at L c e.a

  abbrev S : Setup
  S = setup_of c

  abbrev c' : Bench
  c' = effect_of L c e

  -- what each board has heard then, and who had heard a statement
  heard-then : (k s i : ℕ) → heard_by L c' k s i ≡ ((replay L S (view L c) e).stands k).heard s i
  heard-then k s i = ap (λ (V : View). (V.stands k).heard s i) (square g f acc)

  range : (s i k : ℕ) → is_sound c k ≡ true
      → (1 ≤ k) × (k ≤ bits) × (in_set (holders L c s i) k ≡ not (heard_by L c k s i == 0))
  unfolding holders holds
  range s i k t =
      let w = is-there g k (g.members k t) in
      let l = within_low L.boards k w in
      let h = within-high L.boards k w in
      (l, omega (arith, g.bits-enough), in-set_of-within L.boards (λ (j : ℕ). not (heard_by L c j s i == 0)) k l h)

  -- an event of which nobody hears anything, a delivery, and a turn
  unheard : ((k s i : ℕ) → heard_by L c' k s i ≡ heard_by L c k s i) → Spread L c.sound c.owed (heard_by L c')
  unheard q k s i = let z = fun_ext (λ (j : ℕ). q j s i) in rw z (f.spread k s i)

  quiet : (e.kind ≡ turning → ⊥) → (e.kind ≡ delivering → ⊥) → Spread L c.sound c'.owed (heard_by L c')
  unfolding put
  quiet n m =
      let h = believing-heard L S (view L c) e in
      subst⁻¹
      (λ (o : Owed). Spread L c.sound o (heard_by L c'))
      (owed-kept L c e n m)
      (unheard (λ k s i. heard-then k s i ∙ grind (arith, nat_tests)))

  hears : e.kind ≡ delivering → Spread L c.sound c'.owed (heard_by L c')
  unfolding put hearing
  hears m =
      let h = believing-heard L S (view L c) e in
      subst⁻¹
      (λ (o : Owed). Spread L c.sound o (heard_by L c'))
      (owed-delivering L c e m)
      (delivery-spreads
      f.complete
      (is-there g e.b (acc.speaker m))
      (acc.identified m)
      (record {
        a-sound = acc.sound (grind arith);
        range = range e.b e.id;
        only = λ k s i. let z = heard-then k s i in grind (arith, nat_tests);
        new = λ z. let y = heard-then e.a e.b e.id in grind (arith, nat_tests);
      })
      f.spread)

  turns : e.kind ≡ turning → Spread L c.sound c'.owed (heard_by L c')
  unfolding put hearing hearing_said owed_saying
  turns m =
      subst⁻¹
      (λ (o : Owed). Spread L c.sound o (heard_by L c'))
      (owed-turning L c e m)
      (go (turn L c.n e.a b).signed refl (says-new g f acc m))
    where
      heard-said : (k s i : ℕ) → heard_by L c' k s i
          ≡ (if k == e.a then hearing_said (heard_by L c k) (turn L c.n e.a b).signed s i else heard_by L c k s i)
      heard-said k s i =
          let h = believing-heard L S (view L c) e in
          let z = heard-then k s i in
          let y = turn-says L c.n e.a b (acc.voting m) in
          grind (arith, nat_tests)

      go : (x : Option Statement) → (turn L c.n e.a b).signed ≡ x
          → IfSome x (λ (y : Statement). (y.speaker ≡ e.a) × New L b.delivered e.a y.id.0)
          → Spread L c.sound (owed_saying L c e x) (heard_by L c')
      go None n p = unheard (λ k s i. let z = heard-said k s i in grind (arith, nat_tests))
      go (Some x) n p =
          signing-spreads
          f.complete
          p.1.speaker
          p.1.identifier
          (record {
            a-sound = acc.sound (grind arith);
            range = range e.a x.id.0;
            only = λ k s i. let z = heard-said k s i in grind (arith, nat_tests);
            new = λ z. let y = heard-said e.a e.a x.id.0 in grind (arith, nat_tests);
          })
          f.spread
          refl

  -- so copies are owed as they should be
  spread-kept : Spread L c.sound c'.owed (heard_by L c')
  spread-kept = go (ℕ_discrete e.kind turning) (ℕ_discrete e.kind delivering)
    where
      go : Dec (e.kind ≡ turning) → Dec (e.kind ≡ delivering) → Spread L c.sound c'.owed (heard_by L c')
      go (yes p) q = turns p
      go (no p) (yes q) = hears q
      go (no p) (no q) = quiet p q

  -- each board, and each signer, is as it was or is that of the event
  boards-cases : (k : ℕ)
      → ((k ≡ e.a) × (board_at L c' k ≡ board_then L c e)) ⊎ ((k ≡ e.a → ⊥) × (board_at L c' k ≡ board_at L c k))
  boards-cases = put-cases (board_at L c) (board_at L c') e.a (board_then L c e) (boards-now g f acc)

  signers-cases : (k : ℕ) → ((k ≡ e.a) × (signer_at L c' k ≡ asked_for L c e (signer_at L c e.a) (said_then L c e)))
      ⊎ ((k ≡ e.a → ⊥) × (signer_at L c' k ≡ signer_at L c k))
  signers-cases =
      put-cases (signer_at L c) (signer_at L c') e.a _ (signers-then acc (omega (arith, has-board g f acc, f.signers)))

  every-board : (P : Board → Type 0) → ((k : ℕ) → P (board_at L c k)) → ((x : Call) → P (called L c.n e.a b x))
      → (k : ℕ) → P (board_at L c' k)
  every-board P p q k =
      ⊎_elim (λ z. rw z.1 (each-board L c e P (p e.a) q)) (λ z. rw z.1 (p k)) (boards-cases k)

  asked-formed : (x : Option Statement) → WellFormed L.identifiers (asked_for L c e (signer_at L c e.a) x)
  unfolding asked_for
  asked-formed None = f.formed e.a
  asked-formed (Some x) = sign-wellformed L.identifiers (signer_at L c e.a) x.id.0 x.value (f.formed e.a)

  -- a sound board signs next above what it signed
  rises : due L b ≤ due L (board_then L c e)
  rises = each-board L c e (λ (y : Board). due L b ≤ due L y) (omega arith) (called-due L c.n e.a b (f.proper e.a))

  in-turn : e.kind ≡ turning
      → (board_then L c e ≡ (turn L c.n e.a b).board) × (said_then L c e ≡ (turn L c.n e.a b).signed)
  unfolding board_then said_then call_of
  in-turn k = let t = call-comes L c.n e.a b own_turn in (grind (arith, nat_tests), grind (arith, nat_tests))

  else-none : is_sound c e.a ≡ true → (e.kind ≡ turning → ⊥) → said_then L c e ≡ None
  unfolding said_then
  else-none t k = let q = acc.faulty in grind (arith, nat_tests)

  own-ahead : is_sound c e.a ≡ true
      → (asked_for L c e (signer_at L c e.a) (said_then L c e)).last.0 ≤ due L (board_then L c e) - 1
  unfolding asked_for
  own-ahead t = go (ℕ_discrete e.kind turning) (said_then L c e) refl
    where
      go : Dec (e.kind ≡ turning) → (x : Option Statement) → said_then L c e ≡ x
          → (asked_for L c e (signer_at L c e.a) x).last.0 ≤ due L (board_then L c e) - 1
      go k None n = omega (arith, rises, f.ahead e.a t)
      go (yes k) (Some x) n =
          let q = in-turn k in
          let s : (turn L c.n e.a b).signed ≡ Some x = sym q.1 ∙ n in
          let o : (x.speaker ≡ e.a) × (grants L.identifiers (signer_at L c e.a) x.id.0 ≡ true) =
          rw s at (acc.speaks k) in
          omega (
            arith,
            ap (due L) q.0,
            sign-last L.identifiers (signer_at L c e.a) x.id.0 x.value o.1,
            signed-past L c.n e.a b x s (voting-round L b (f.proper e.a)),
          )
      go (no k) (Some x) n = absurd (none-some x (sym (else-none t k) ∙ n))

  apart-kept : (k : ℕ) → is_sound c k ≡ false → board_at L c' k ≡ fresh_board L
  unfolding board_then
  apart-kept k t = let p = boards-cases k in let q = acc.sound in let r = f.apart k t in grind (arith, nat_tests)

  ahead-kept : (k : ℕ) → is_sound c k ≡ true → (signer_at L c' k).last.0 ≤ due L (board_at L c' k) - 1
  ahead-kept k t =
      let p = boards-cases k in let q = signers-cases k in let r = f.ahead k t in let u = own-ahead in grind arith

  -- and is one of the same bus
  pub same-setup : setup_of c' ≡ S
  same-setup = let p = same-bus L c e in cc

  -- the bench after an accepted event is fit
  pub kept : Fit L S c'
  kept =
      record {
        boards = (same-sizes L c e).0 ∙ f.boards;
        signers = (same-sizes L c e).1 ∙ f.signers;
        complete =
            each-owed
            L
            c
            e
            (Whole L)
            f.complete
            (λ s i sound have. after-signing-whole L c.owed s i sound have f.complete)
            (λ j s i sound have. after-delivery-whole L c.owed j s i sound have f.complete);
        proper = every-board (Proper L) f.proper (called-proper L b (f.proper e.a) c.n e.a g.some-round);
        grounded = every-board (Grounded L c.n) f.grounded (called-grounded L c.n e.a b (f.grounded e.a));
        formed =
            λ k. ⊎_elim (λ z. rw z.1 (asked-formed (said_then L c e))) (λ z. rw z.1 (f.formed k)) (signers-cases k);
        apart = apart-kept;
        ahead = ahead-kept;
        sane = subst⁻¹ (Sane L S) (square g f acc) (replay-sane (lawful g f acc) f.sane);
        spread = spread-kept;
      }
