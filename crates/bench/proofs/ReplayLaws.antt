-- An accepted event replayed on a view, and that what it adds to a history is what is new there. No bench is looked at.
-- Assumes nothing.
use Prim.Native.Nat.{ℕ}
use native.Mathlib.Omega.{arith}
use mathlib.Core.Path.{◌≡◌, sym, ◌∙◌}
use mathlib.Core.Bool.{false}
use mathlib.Core.Logic.{◌⊎◌, inl, inr, ⊎_elim, ◌↔◌}
use Rattle.std.specs.Prelude.{if◌then◌else◌, IfSome, ◌==◌}
use Rattle.std.proofs.lemmas.Bool.Decides.{nat_tests}
use Rattle.signer.specs.Log.{entry_of}
use Rattle.delivery.specs.Limits.{Limits}
use Rattle.delivery.specs.Delivered.{Store}
use Rattle.vote.specs.Boards.{decision_of, is_decided}
use Rattle.vote.specs.Turns.{status_after}
use Rattle.vote.specs.declared.board.Status.{Status}
use Rattle.vote.specs.declared.board.Status.TheVariants.{Idle, Voting, Decided}
use Rattle.vote.specs.declared.statement.Statement.{Statement}
use Rattle.vote.proofs.BoardLaws.{has-one, status-decides}
use Rattle.bench.specs.Events.{proposing, turning, delivering, announcing, signing}
use Rattle.bench.specs.Setups.{Setup}
use Rattle.bench.specs.Story.{Standing, hearing, hearing_said, move_of, saying, believing}
use Rattle.bench.specs.Claim.{Sound, Faulty}
use Rattle.bench.specs.declared.event.Event.{Event}
use Rattle.bench.proofs.ViewLaws.{View, put}
use Rattle.bench.proofs.HistoryLaws.{SignsNow, DeliversNow, DecidesNow}

module _ (L : Limits) (S : Setup) (V : View) (e : Event) where
  abbrev t : Standing
  t = V.stands e.a

  -- on the board that it is for, and on what is signed
  unfoldable pub status_then : Status
  status_then =
      if e.kind == proposing then Voting
      else if e.kind == turning then status_after t.position.round.0 (move_of L S.n e.a t)
      else if e.kind == announcing then Decided (decision_of e.id e.value)
      else V.status e.a

  unfoldable pub signed_then : Store
  signed_then =
      if e.kind == turning then hearing_said V.signed (saying L S.n e.a t)
      else if e.kind == signing then hearing V.signed e.a e.id e.value
      else V.signed

  abbrev pub replay : View
  replay =
      record {
        stands = put V.stands e.a (believing L S.n e.a t e);
        status = put V.status e.a status_then;
        signed = signed_then;
      }

  -- what that board has heard then
  pub believing-heard : (believing L S.n e.a t e).heard
      ≡ (if e.kind == turning then hearing_said t.heard (saying L S.n e.a t)
      else if e.kind == delivering then hearing t.heard e.b e.id e.value
      else t.heard)
  unfolding believing
  believing-heard = grind (arith, nat_tests)

  -- what an accepted event is, as far as a view shows it
  pub record Lawful : Type 0 where
    pub is-sound : (e.kind ≡ signing → ⊥) → Sound L S e.a
    pub faulty : e.kind ≡ signing → Faulty L S e.a
    pub asked : e.kind ≡ signing → V.signed e.a e.id ≡ 0
    pub says : e.kind ≡ turning
        → IfSome (saying L S.n e.a t) (λ (x : Statement). (x.speaker ≡ e.a) × (V.signed e.a x.id.0 ≡ 0))
    pub brings : e.kind ≡ delivering → V.signed e.b e.id ≡ entry_of e.value
    pub lacking : e.kind ≡ delivering → t.heard e.b e.id ≡ 0
    pub idle : e.kind ≡ proposing → V.status e.a ≡ Idle
    pub going : e.kind ≡ turning → V.status e.a ≡ Voting
    pub undecided : e.kind ≡ announcing → is_decided (V.status e.a) ≡ false

-- what is heard was signed, and a sound board has heard what it signed
pub record Sane (L : Limits) (S : Setup) (V : View) : Type 0 where
  pub part : (k s i : ℕ) → ((V.stands k).heard s i ≡ 0) ⊎ ((V.stands k).heard s i ≡ V.signed s i)
  pub own : (k i : ℕ) → Sound L S k → (V.stands k).heard k i ≡ V.signed k i

pub was-signed : {L : Limits} {S : Setup} {V : View} → Sane L S V → (k s i v : ℕ)
    → (V.stands k).heard s i ≡ entry_of v → V.signed s i ≡ entry_of v
was-signed f k s i v e = ⊎_elim (λ z. absurd (omega (arith, z, e))) (λ z. sym z ∙ e) (f.part k s i)

pub heard-or-not : {L : Limits} {S : Setup} {V : View} → Sane L S V → (k s i v : ℕ)
    → V.signed s i ≡ entry_of v → ((V.stands k).heard s i ≡ 0) ⊎ ((V.stands k).heard s i ≡ entry_of v)
heard-or-not f k s i v e = ⊎_elim (λ z. inl z) (λ z. inr (z ∙ e)) (f.part k s i)

-- what the event adds to a history is what is new on the view
module _ {L : Limits} {S : Setup} {V : View} {e : Event} (w : Lawful L S V e) (f : Sane L S V) where
  abbrev V' : View
  V' = replay L S V e

  pub replay-signs : (k i v : ℕ)
      → (V'.signed k i ≡ entry_of v) ↔ ((V.signed k i ≡ entry_of v) ⊎ SignsNow L S V.stands e k i v)
  unfolding signed_then hearing hearing_said
  replay-signs k i v = (grind (arith, nat_tests), grind (arith, nat_tests))

  pub replay-delivers : (k s i v : ℕ) → ((V'.stands k).heard s i ≡ entry_of v)
      ↔ (((V.stands k).heard s i ≡ entry_of v) ⊎ DeliversNow L S V.stands e k s i v)
  unfolding put hearing hearing_said
  replay-delivers k s i v = let h = believing-heard L S V e in (grind (arith, nat_tests), grind (arith, nat_tests))

  pub replay-decides : (k r v : ℕ) → (Sound L S k × (V'.status k ≡ Decided (decision_of r v)))
      ↔ ((Sound L S k × (V.status k ≡ Decided (decision_of r v))) ⊎ DecidesNow L S V.stands e k r v)
  unfolding put status_then
  replay-decides k r v =
      let t = V.stands e.a in
      let p = status-decides t.position.round.0 (move_of L S.n e.a t) (decision_of r v) in
      let u = has-one (Decided (decision_of r v)) in
      (grind (arith, nat_tests), grind (arith, nat_tests))

  pub replay-sane : Sane L S V'
  unfolding put signed_then hearing hearing_said
  replay-sane =
      let h = believing-heard L S V e in
      record { part = λ k s i. grind (arith, nat_tests); own = λ k i t. grind (arith, nat_tests) }
