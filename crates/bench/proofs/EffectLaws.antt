-- Laws of what an accepted event does: by its kind, and each board, each signer and what is owed, read back. Assumes
-- nothing.
use Prim.Native.Nat.{ℕ, ◌≤◌}
use native.Mathlib.Omega.{arith}
use mathlib.Core.Path.{◌≡◌}
use lib.ListN.{length}
use Rattle.std.specs.Prelude.{if◌then◌else◌, Option, None, Some, ◌==◌}
use Rattle.std.proofs.lemmas.Bool.Decides.{nat_tests}
use Rattle.signer.specs.Signer.{sign}
use Rattle.signer.specs.declared.signer.Signer.{Signer}
use Rattle.std.proofs.lemmas.Bool.{cond_both}
use Rattle.signer.proofs.FromOneLaws.{nth-set-same, nth-set-other, length-set_nth, within_low}
use Rattle.delivery.specs.Limits.{Limits}
use Rattle.delivery.specs.Owed.{after_signing, after_delivery}
use Rattle.delivery.specs.declared.owed.Owed.{Owed}
use Rattle.vote.specs.Turns.{turn}
use Rattle.vote.specs.Calls.{Call, proposal, own_turn, delivery, suspicion, restored-trust, announcement, called}
use Rattle.vote.specs.declared.board.Board.{Board}
use Rattle.vote.specs.declared.statement.Statement.{Statement}
use Rattle.vote.proofs.LifeLaws.{call-comes}
use Rattle.bench.specs.Events.{proposing, turning, delivering, announcing, suspecting, signing}
use Rattle.bench.specs.Benches.{board_at, signer_at, holders}
use Rattle.bench.specs.Effects.{with_board_at, with_signature, with_owed, after_saying, after_turn, after_hearing, brought, effect_of}
use Rattle.bench.specs.declared.bench.Bench.{Bench}
use Rattle.bench.specs.declared.event.Event.{Event}
use Rattle.bench.proofs.ViewLaws.{put}
use Rattle.bench.proofs.AcceptedLaws.{Accepted}

-- the call that an event is
unfoldable pub call_of : Event → Call
call_of e =
    if e.kind == proposing then proposal e.value
    else if e.kind == turning then own_turn
    else if e.kind == delivering then delivery (brought e)
    else if e.kind == announcing then announcement e.id e.value
    else if e.kind == suspecting then suspicion e.b
    else restored-trust e.b

module _ (L : Limits) (c : Bench) (e : Event) where
  abbrev b : Board
  b = board_at L c e.a

  abbrev pub c' : Bench
  c' = effect_of L c e

  -- its board then, and that this is as it was or as a call has made it
  unfoldable pub board_then : Board
  board_then = if e.kind == signing then b else called L c.n e.a b (call_of e)

  pub each-board : (P : Board → Type 0) → P b → ((x : Call) → P (called L c.n e.a b x)) → P board_then
  unfolding board_then
  each-board P p q = cond_both (e.kind == signing) _ _ P (λ t. p) (λ t. q (call_of e))

  -- what its signer is asked to sign, and the signer then
  unfoldable pub said_then : Option Statement
  said_then =
      if e.kind == turning then (turn L c.n e.a b).signed
      else if e.kind == signing then Some (record { speaker = e.a; id = record { 0 = e.id }; value = e.value })
      else None

  unfoldable pub asked_for : Signer → Option Statement → Signer
  asked_for s None = s
  asked_for s (Some x) = (sign L.identifiers s x.id.0 x.value).signer

  -- what is owed once it has said something in its turn
  unfoldable pub owed_saying : Option Statement → Owed
  owed_saying None = c.owed
  owed_saying (Some x) = after_signing L c.owed e.a x.id.0 c.sound (holders L c e.a x.id.0)

  pub owed-turning : e.kind ≡ turning → c'.owed ≡ owed_saying (turn L c.n e.a b).signed
  unfolding effect_of after_turn after_saying with_board_at with_owed owed_saying
  owed-turning k = grind arith

  pub owed-delivering : e.kind ≡ delivering
      → c'.owed ≡ after_delivery L c.owed e.a e.b e.id c.sound (holders L c e.b e.id)
  unfolding effect_of after_hearing with_board_at with_owed
  owed-delivering k = rw k

  pub owed-kept : (e.kind ≡ turning → ⊥) → (e.kind ≡ delivering → ⊥) → c'.owed ≡ c.owed
  unfolding effect_of with_board_at with_signature
  owed-kept t d = grind (arith, nat_tests)

  -- the copies are as they were, or as a signature or a delivery has made them
  pub each-owed : (P : Owed → Type 0) → P c.owed → ((s i sound have : ℕ) → P (after_signing L c.owed s i sound have))
      → ((j s i sound have : ℕ) → P (after_delivery L c.owed j s i sound have)) → P c'.owed
  unfolding effect_of after_turn after_hearing after_saying with_board_at with_signature with_owed
  each-owed P p q r = grind (arith, nat_tests)

  -- how many boards and signers there are, and which are sound, stays
  pub same-bus : (c'.n ≡ c.n) × (c'.sound ≡ c.sound)
  unfolding effect_of after_turn after_hearing after_saying with_board_at with_signature with_owed
  same-bus = (grind (arith, nat_tests), grind (arith, nat_tests))

  pub same-sizes : (length c'.boards ≡ length c.boards) × (length c'.signers ≡ length c.signers)
  unfolding effect_of after_turn after_hearing after_saying with_board_at with_signature with_owed
  same-sizes = (grind (arith, nat_tests, length-set_nth), grind (arith, nat_tests, length-set_nth))

-- each board and each signer of a bench that has those of its bus
module _ {L : Limits} {c : Bench} {e : Event} (acc : Accepted L c e) where
  pub boards-then : e.a ≤ length c.boards → (k : ℕ)
      → board_at L (c' L c e) k ≡ put (board_at L c) e.a (board_then L c e) k
  unfolding effect_of after_turn after_hearing after_saying with_board_at with_signature with_owed board_at put board_then call_of
  boards-then h k =
      let low = within_low c.n e.a acc.within in
      let first = acc.low in
      let last = acc.high in
      grind (arith, nat_tests, nth-set-same, nth-set-other, call-comes)

  pub signers-then : e.a ≤ length c.signers → (k : ℕ)
      → signer_at L (c' L c e) k ≡ put (signer_at L c) e.a (asked_for L c e (signer_at L c e.a) (said_then L c e)) k
  unfolding effect_of after_turn after_hearing after_saying with_board_at with_signature with_owed signer_at put said_then asked_for
  signers-then h k =
      let low = within_low c.n e.a acc.within in
      let first = acc.low in
      let last = acc.high in
      grind (arith, nat_tests, nth-set-same, nth-set-other)
