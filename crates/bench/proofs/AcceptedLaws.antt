-- What an accepted event is: the rows that it passed, and what these say of it and of the bench. Assumes nothing.
use Prim.Native.Nat.{◌≤◌}
use native.Mathlib.Omega.{arith}
use mathlib.Core.Path.{◌≡◌}
use mathlib.Core.Bool.{true, false}
use Rattle.std.proofs.lemmas.Bool.Decides.{nat_tests}
use Rattle.std.specs.Prelude.{IfSome}
use Rattle.signer.specs.FromOne.{is_within}
use Rattle.signer.specs.Log.{is_identifier, entry_of}
use Rattle.signer.specs.Signer.{grants}
use Rattle.signer.proofs.FromOneLaws.{within_low, within-high}
use Rattle.signer.proofs.SignerLaws.{grants-above}
use Rattle.delivery.specs.Limits.{Limits}
use Rattle.vote.specs.Turns.{turn}
use Rattle.vote.specs.declared.board.Status.TheVariants.{Idle, Voting}
use Rattle.vote.specs.declared.statement.Statement.{Statement}
use Rattle.vote.proofs.BallotLaws.{tally-won}
use Rattle.vote.proofs.BoardLaws.{is-idle, going-voting, Convinced}
use Rattle.vote.proofs.CallLaws.{says-own}
use Rattle.bench.specs.Events.{proposing, turning, delivering, announcing, signing, uses_other}
use Rattle.bench.specs.Benches.{is_sound, board_at, signer_at, heard_by, signed_by}
use Rattle.bench.specs.Answers.{is_accepted}
use Rattle.bench.specs.Table.{kind_row, boards_row, fields_row, mark_row, start_row, end_row, wrong_id, wrong_value, must_wait, refuses, signed_row, last_row, delivered_row, ballots_row, turn_row, first_of, check_of}
use Rattle.bench.specs.declared.bench.Bench.{Bench}
use Rattle.bench.specs.declared.event.Event.{Event}

-- e passed the table: of its rows, those that something later needs (14 and 20 are not among them)
pub record Passed (L : Limits) (c : Bench) (e : Event) : Type 0 where
  pub kind : kind_row e ≡ false
  pub boards : boards_row c e ≡ false
  pub fields : fields_row L e ≡ false
  pub mark : mark_row c e ≡ false
  pub start : start_row L c e ≡ false
  pub end : end_row L c e ≡ false
  pub signed : signed_row L c e ≡ false
  pub last : last_row L c e ≡ false
  pub delivered : delivered_row L c e ≡ false
  pub ballots : ballots_row L c e ≡ false
  pub turn : turn_row L c e ≡ false

-- an accepted event has passed them
pub accepted-passed : (L : Limits) (c : Bench) (e : Event) → is_accepted (check_of L c e) ≡ true → Passed L c e
unfolding check_of first_of is_accepted
accepted-passed L c e t = grind arith

-- what then holds of the event and of the bench, by its kind
pub record Accepted (L : Limits) (c : Bench) (e : Event) : Type 0 where
  pub low : 1 ≤ e.kind
  pub high : e.kind ≤ signing
  pub within : is_within c.n e.a ≡ true
  pub sound : (e.kind ≡ signing → ⊥) → is_sound c e.a ≡ true
  pub faulty : e.kind ≡ signing → is_sound c e.a ≡ false
  pub granted : e.kind ≡ signing → grants L.identifiers (signer_at L c e.a) e.id ≡ true
  pub idle : e.kind ≡ proposing → (board_at L c e.a).status ≡ Idle
  pub valued : e.kind ≡ proposing → e.value ≡ 0 → ⊥
  pub voting : e.kind ≡ turning → (board_at L c e.a).status ≡ Voting
  pub speaks : e.kind ≡ turning → IfSome (turn L c.n e.a (board_at L c e.a)).signed
      (λ (s : Statement). (s.speaker ≡ e.a) × (grants L.identifiers (signer_at L c e.a) s.id.0 ≡ true))
  pub speaker : e.kind ≡ delivering → is_within c.n e.b ≡ true
  pub identified : e.kind ≡ delivering → is_identifier L.identifiers e.id ≡ true
  pub signed : e.kind ≡ delivering → signed_by L c e.b e.id ≡ entry_of e.value
  pub unheard : e.kind ≡ delivering → heard_by L c e.a e.b e.id ≡ 0
  pub convinced : e.kind ≡ announcing → Convinced L c.n (board_at L c e.a) e.id e.value

module _ (L : Limits) (c : Bench) (e : Event) (p : Passed L c e) where
  pub passed-accepted : Accepted L c e
  unfolding kind_row boards_row fields_row wrong_id wrong_value mark_row start_row end_row signed_row last_row delivered_row ballots_row turn_row uses_other must_wait refuses
  passed-accepted =
      record {
        low = within_low signing e.kind (grind (arith, nat_tests));
        high = within-high signing e.kind (grind (arith, nat_tests));
        within = grind (arith, nat_tests);
        sound = λ k. grind (arith, nat_tests);
        faulty = λ k. grind (arith, nat_tests);
        granted =
            λ k.
            grants-above L.identifiers (signer_at L c e.a) e.id (grind (arith, nat_tests)) (grind (arith, nat_tests));
        idle = λ k. (is-idle (board_at L c e.a).status).0 (grind (arith, nat_tests));
        valued = λ k z. grind (arith, nat_tests);
        voting = λ k. going-voting (board_at L c e.a).status (grind (arith, nat_tests)) (grind (arith, nat_tests));
        speaks = λ k. let own = says-own L c.n e.a (board_at L c e.a) in grind (arith, nat_tests);
        speaker = λ k. grind (arith, nat_tests);
        identified = λ k. grind (arith, nat_tests);
        signed = λ k. grind (arith, nat_tests);
        unheard = λ k. grind (arith, nat_tests);
        convinced =
            λ k.
            record {
              started = grind (arith, nat_tests);
              undecided = grind (arith, nat_tests);
              won =
                  tally-won
                  L
                  c.n
                  (heard_by L c e.a)
                  e.id
                  e.value
                  (λ z. grind (arith, nat_tests))
                  (grind (arith, nat_tests));
            };
      }
