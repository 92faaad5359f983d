-- A sound board's estimate is allowed in its round by what the board itself has delivered. Assumes nothing.
use Prim.Native.Nat.{ℕ, suc, ◌≤◌, ◌<◌}
use native.Mathlib.Omega.{arith}
use mathlib.Core.Path.{◌≡◌}
use mathlib.Core.Bool.{true}
use mathlib.Core.List.{List, [], ◌∷◌}
use Rattle.std.proofs.lemmas.Bool.Decides.{nat_tests}
use Rattle.signer.specs.Log.{values, entry_of}
use Rattle.signer.proofs.FromOneLaws.{within_low}
use Rattle.delivery.specs.Counting.{count_in}
use Rattle.delivery.specs.Limits.{Limits}
use Rattle.delivery.specs.Bus.{quorum, overlap}
use Rattle.delivery.specs.Delivered.{Store, heard}
use Rattle.delivery.specs.Acceptance.{opening_entry, allowed, accepts_some}
use Rattle.delivery.proofs.CountLaws.{overlap-pos}
use Rattle.delivery.proofs.DeliveredLaws.{heard-nothing, deliver-only}
use Rattle.delivery.proofs.RoundLaws.{next-at}
use Rattle.delivery.proofs.AllRoundsLaws.{allowed-first, opening-reads}
use Rattle.delivery.proofs.AllowanceLaws.{borne-next, kept_next}
use Rattle.delivery.proofs.GrowthLaws.{allowed-grows}
use Rattle.vote.specs.Ballots.{tally}
use Rattle.vote.specs.Boards.{fresh_position, fresh_board, is_started, with_status, starting_with, propose, hears, deliver_to, suspect, trust}
use Rattle.vote.specs.Announcements.{convinced, announce}
use Rattle.vote.specs.Rule.{carried}
use Rattle.vote.specs.Turns.{at_stage, position_after, status_after, said_in, hears_own, turn_in, turn}
use Rattle.vote.specs.Calls.{Call, called, after}
use Rattle.vote.specs.Life.{Fits, EachFits, none_left, fits-first}
use Rattle.vote.specs.declared.position.Position.{Position}
use Rattle.vote.specs.declared.board.Board.{Board}
use Rattle.vote.proofs.BallotLaws.{opened-within, tally-opens, tally-other, with-opened}
use Rattle.vote.proofs.RuleLaws.{Next, rule-makes}
use Rattle.vote.proofs.ProperLaws.{Proper, called-proper}
use Rattle.vote.proofs.LifeLaws.{called-grows}

-- what a round leaves, whose opening, as it was sent, is that of a value
module _ (L : Limits) (n : ℕ) (p : Position) (h : Store) (l : opening_entry L n h p.round.0 ≤ entry_of values) where
  -- what ballots bear was opened, so it is a value
  tally-within : (w : ℕ) → (w ≡ 0 → ⊥) → 1 ≤ tally L n h p.round.0 w → w ≤ values
  tally-within w z t = omega (arith, (opening-reads L n h p.round.0 w (tally-opens L n h p.round.0 w z t)).said)

  -- where no value is carried on, none has e ballots
  carried-few : 1 ≤ n → carried L n p h ≡ 0 → (w : ℕ) → (w ≡ 0 → ⊥) → tally L n h p.round.0 w < overlap n
  carried-few some z w f =
      let e = overlap-pos n some in
      grind (arith, nat_tests, with-opened, tally-other)

  -- the estimate after it is a value
  next-within : (v : ℕ) → p.estimate ≤ values → Next L n p h v → v ≤ values
  next-within v e x = grind (arith, tally-within)

  -- that is allowed in this round
  next-permitted : (v : ℕ) → Next L n p h v → allowed L n h p.round.0 p.estimate ≡ true
      → allowed L n h p.round.0 v ≡ true
  next-permitted v x a = grind (arith, tally-opens, opening-reads)

  -- and in the next one
  next-allowed : (v : ℕ) → 1 ≤ n → 1 ≤ p.round.0 → quorum n ≤ count_in n (accepts_some L n h p.round.0) → Next L n p h v
      → allowed L n h p.round.0 p.estimate ≡ true → allowed L n h (suc p.round.0) v ≡ true
  unfolding tally
  next-allowed v some low m x a =
      let k = λ (z : carried L n p h ≡ 0). kept_next L n h p.round.0 some low m p.estimate (carried-few some z) in
      let b = borne-next L n h p.round.0 some low m v in
      grind arith

-- a board whose store holds values alone, and whose estimate is one that its round allows once it has started
pub record Admitted (L : Limits) (n : ℕ) (b : Board) : Type 0 where
  pub plain : (s i : ℕ) → heard L b.delivered s i ≤ entry_of values
  pub value : b.position.estimate ≤ values
  pub permitted : is_started b.status ≡ true
      → allowed L n (heard L b.delivered) b.position.round.0 b.position.estimate ≡ true

-- a fresh board is one
pub fresh-admitted : (L : Limits) (n : ℕ) → Admitted L n (fresh_board L)
unfolding fresh_board fresh_position is_started
fresh-admitted L n = grind (arith, heard-nothing)

-- every call that fits keeps it
pub called-admitted : (L : Limits) (n me : ℕ) (b : Board) → 1 ≤ n → Proper L b → Admitted L n b → (c : Call) → Fits c
    → Admitted L n (called L n me b c)
unfolding called propose starting_with deliver_to hears announce convinced with_status suspect trust turn turn_in
    position_after at_stage status_after said_in hears_own is_started
called-admitted L n me b some p a c f =
    let h = heard L b.delivered in
    let m = rule-makes L n me b.position h in
    let o = opened-within L n h b.position.round.0 in
    let l = a.plain _ _ in
    record {
      plain = λ s i. let x = a.plain s i in grind (arith, nat_tests, deliver-only);
      value = grind (arith, nat_tests, next-within L n b.position h l);
      permitted =
          let g = allowed-grows L n h (heard L (called L n me b c).delivered) (called-grows L n me b c) in
          let r = within_low L.rounds b.position.round.0 in
          let y = next-permitted L n b.position h l in
          let z = next-allowed L n b.position h l in
          grind (arith, nat_tests, allowed-first, next-at);
    }

-- so does every list of calls that fit
pub after-admitted : (L : Limits) (n me : ℕ) → 1 ≤ n → 1 ≤ L.rounds → (b : Board) → Proper L b → Admitted L n b
    → (cs : List Call) → EachFits cs → Admitted L n (after L n me b cs)
unfolding after
after-admitted L n me some rounds b p a [] none_left = a
after-admitted L n me some rounds b p a (c ∷ cs) (fits-first _ _ f fs) =
    let q = called-proper L b p n me rounds c in
    after-admitted L n me some rounds (called L n me b c) q (called-admitted L n me b some p a c f) cs fs
