-- The square: the view of the bench after an accepted event is the event replayed on the view before. Assumes nothing.
use Prim.Native.Nat.{ℕ, ◌≤◌}
use native.Mathlib.Omega.{arith}
use mathlib.Core.Path.{◌≡◌, ap, subst, ◌∙◌, fun_ext}
use mathlib.Core.Bool.{true}
use lib.ListN.{length}
use Rattle.std.specs.Prelude.{if◌then◌else◌, Option, None, Some, IfSome, ◌==◌}
use Rattle.std.proofs.lemmas.Bool.Decides.{nat_tests}
use Rattle.std.proofs.lemmas.Option.{IfSome_then}
use Rattle.signer.specs.Signer.{grants}
use Rattle.signer.proofs.FromOneLaws.{within-high}
use Rattle.signer.proofs.SignerLaws.{WellFormed, grants-only, granted-entry, granted-new}
use Rattle.delivery.specs.Limits.{Limits}
use Rattle.delivery.specs.Delivered.{heard}
use Rattle.delivery.specs.declared.delivered.Delivered.{Delivered}
use Rattle.delivery.proofs.DeliveredLaws.{Whole}
use Rattle.vote.specs.Boards.{hears}
use Rattle.vote.specs.Turns.{turn, hears_own}
use Rattle.vote.specs.declared.board.Board.{Board}
use Rattle.vote.specs.declared.statement.Statement.{Statement}
use Rattle.vote.proofs.BoardLaws.{is-idle}
use Rattle.vote.proofs.CallLaws.{Taken, left, taken-leaves, turn-says, New, hears-new, own-none, own-some}
use Rattle.bench.specs.Setups.{Setup}
use Rattle.bench.specs.Events.{turning, delivering, signing}
use Rattle.bench.specs.Benches.{board_at, signer_at, signed_by}
use Rattle.bench.specs.Effects.{effect_of}
use Rattle.bench.specs.Story.{hearing, hearing_said, believing}
use Rattle.bench.specs.declared.bench.Bench.{Bench}
use Rattle.bench.specs.declared.event.Event.{Event}
use Rattle.bench.proofs.ViewLaws.{standing_of, view, setup_of, put, put-map}
use Rattle.bench.proofs.ReplayLaws.{status_then, signed_then, replay, Lawful}
use Rattle.bench.proofs.AcceptedLaws.{Accepted}
use Rattle.bench.proofs.EffectLaws.{call_of, c', board_then, asked_for, said_then, boards-then, signers-then}
use Rattle.bench.proofs.FitLaws.{Ground, is-there, Fit}

-- a statement is heard, as the story has it
hears-hearing : (L : Limits) (d : Delivered) (x : Statement) → Whole L d → New L d x.speaker x.id.0
    → heard L (hears L d x) ≡ hearing (heard L d) x.speaker x.id.0 x.value
unfolding hearing
hears-hearing L d x w n = fun_ext (λ s. fun_ext (hears-new L d x w n s))

said-hearing : (L : Limits) (d : Delivered) (o : Option Statement) → Whole L d
    → IfSome o (λ (x : Statement). New L d x.speaker x.id.0)
    → heard L (hears_own L d o) ≡ hearing_said (heard L d) o
unfolding hearing_said
said-hearing L d None w n = ap (heard L) (own-none L d)
said-hearing L d (Some x) w n = ap (heard L) (own-some L d x) ∙ hears-hearing L d x w n

-- the board of an accepted event, and what is signed, side by side
module _ {L : Limits} {c : Bench} {e : Event} (acc : Accepted L c e) where
  abbrev b : Board
  b = board_at L c e.a

  -- it takes the call that the event is
  taken : (e.kind ≡ signing → ⊥) → Taken L c.n e.a b (call_of e)
  unfolding call_of
  taken n = let i = is-idle b.status in grind (arith, nat_tests)

  left-then : board_then L c e ≡ (if e.kind == signing then b else left L c.n e.a b (call_of e))
  unfolding board_then
  left-then = grind (arith, nat_tests, taken, taken-leaves)

  stand-then : Whole L b.delivered → (e.kind ≡ delivering → New L b.delivered e.b e.id)
      → (e.kind ≡ turning → IfSome (turn L c.n e.a b).signed (λ (x : Statement). New L b.delivered x.speaker x.id.0))
      → standing_of L (board_then L c e) ≡ believing L c.n e.a (standing_of L b) e
  unfolding call_of believing
  stand-then w brings says =
      let p = left-then in
      let q = turn-says L c.n e.a b in
      grind (arith, nat_tests, hears-hearing, said-hearing)

  status-now : (board_then L c e).status ≡ status_then L (setup_of c) (view L c) e
  unfolding status_then call_of
  status-now = let p = left-then in grind (arith, nat_tests)

  signed-now : WellFormed L.identifiers (signer_at L c e.a) → e.a ≤ length c.signers → (k i : ℕ)
      → signed_by L (c' L c e) k i ≡ signed_then L (setup_of c) (view L c) e k i
  unfolding signed_by signed_then asked_for said_then hearing hearing_said put
  signed-now f h k i =
      let now = signers-then acc h k in
      let says = turn-says L c.n e.a b in
      grind (arith, nat_tests, granted-entry)

module _ {L : Limits} {c : Bench} (g : Ground L (setup_of c)) (f : Fit L (setup_of c) c) {e : Event}
    (acc : Accepted L c e) where
  abbrev S : Setup
  S = setup_of c

  pub has-board : e.a ≤ L.boards
  has-board = omega (arith, within-high c.n e.a acc.within, g.boards-enough)

  unsigned : (i : ℕ) → grants L.identifiers (signer_at L c e.a) i ≡ true → signed_by L c e.a i ≡ 0
  unfolding signed_by
  unsigned i = granted-new L.identifiers (signer_at L c e.a) i (f.formed e.a)

  -- what is said in a turn has not been signed, and is new to who says it
  pub says-new : e.kind ≡ turning
      → IfSome
      (turn L c.n e.a (board_at L c e.a)).signed
      (λ (x : Statement). (x.speaker ≡ e.a) × New L (board_at L c e.a).delivered e.a x.id.0)
  says-new k =
      IfSome_then
      (turn L c.n e.a (board_at L c e.a)).signed
      (acc.speaks k)
      (λ x p. (
        p.0,
        record {
          speaker = is-there g e.a acc.within;
          identifier = (grants-only L.identifiers (signer_at L c e.a) x.id.0 p.1).0;
          unheard = f.sane.own e.a x.id.0 (acc.sound (grind arith)) ∙ unsigned x.id.0 p.1;
        },
      ))

  -- the event is lawful on the view
  pub lawful : Lawful L S (view L c) e
  lawful =
      record {
        is-sound = acc.sound;
        faulty = λ k. (acc.within, acc.faulty k);
        asked = λ k. unsigned e.id (acc.granted k);
        says =
            λ k.
            subst
            (λ (o : Option Statement). IfSome o (λ (x : Statement). (x.speaker ≡ e.a) × (signed_by L c e.a x.id.0 ≡ 0)))
            (turn-says L c.n e.a (board_at L c e.a) (acc.voting k))
            (IfSome_then (turn L c.n e.a (board_at L c e.a)).signed (acc.speaks k) (λ x p. (p.0, unsigned x.id.0 p.1)));
        brings = acc.signed;
        lacking = acc.unheard;
        idle = acc.idle;
        going = acc.voting;
        undecided = λ k. (acc.convinced k).undecided;
      }

  pub boards-now : (k : ℕ) → board_at L (effect_of L c e) k ≡ put (board_at L c) e.a (board_then L c e) k
  boards-now = boards-then acc (omega (arith, has-board, f.boards))

  stands-now : standing_of L (board_then L c e) ≡ believing L c.n e.a (standing_of L (board_at L c e.a)) e
  stands-now =
      stand-then
      acc
      (f.proper e.a).whole
      (λ k. record { speaker = is-there g e.b (acc.speaker k); identifier = acc.identified k; unheard = acc.unheard k })
      (λ k. IfSome_then (turn L c.n e.a (board_at L c e.a)).signed (says-new k) (λ x p. rw p.0 p.1))

  -- reading the bench after the event gives what replaying the event gives on what was read before
  pub square : view L (effect_of L c e) ≡ replay L S (view L c) e
  square =
      let old = board_at L c in
      let new = board_at L (c' L c e) in
      let p = fun_ext (put-map (standing_of L) old new e.a _ _ boards-now stands-now) in
      let q = fun_ext (put-map (λ (x : Board). x.status) old new e.a _ _ boards-now (status-now acc)) in
      let r = fun_ext (λ (k : ℕ). fun_ext (signed-now acc (f.formed e.a) (omega (arith, has-board, f.signers)) k)) in
      cc
