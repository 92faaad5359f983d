-- The answer to an event is the lowest number that applies. Assumes nothing.
use Prim.Native.Nat.{ℕ, suc, ◌+◌, ◌≤◌, ◌<◌}
use native.Mathlib.Omega.{arith}
use mathlib.Core.Path.{◌≡◌, refl, sym, ap, subst, ◌∙◌}
use mathlib.Core.Bool.{Bool, true, false}
use mathlib.Core.List.{List, [], ◌∷◌}
use mathlib.Core.Logic.{◌⊎◌, inl, inr, ◌↔◌}
use Rattle.std.specs.Prelude.{◌==◌}
use Rattle.std.proofs.lemmas.Bool.{cases_Bool}
use Rattle.std.proofs.lemmas.Bool.Decides.{nat_tests}
use Rattle.signer.proofs.FromOneLaws.{within_low, within-high, within_in}
use Rattle.delivery.specs.Limits.{limits}
use Rattle.vote.proofs.BoardLaws.{is-idle, has-one, is-over, has-decided}
use Rattle.vote.specs.Turns.{turn_number}
use Rattle.vote.specs.declared.turn.Refusal.TheVariants.{Ended}
use Rattle.vote.proofs.TurnLaws.{turn-refused, not_started-is, ended-is, waiting-is}
use Rattle.vote.specs.declared.board.Status.TheVariants.{Voting}
use Rattle.bench.specs.Events.{uses_other, uses_id, uses_value}
use Rattle.bench.specs.Benches.{board_at}
use Rattle.bench.specs.Answers.{refusal_number, answer_number}
use Rattle.bench.specs.Table.{kind_row, boards_row, wrong_other, wrong_id, wrong_value, fields_row, mark_row, pair_row, start_row, end_row, signed_row, last_row, delivered_row, announcer_row, ballots_row, is_waiting, refuses, must_wait, turn_row, first_of, table_of, check_of}
use Rattle.bench.specs.Effects.{step_of}
use Rattle.bench.specs.Applies.{Applies, no-kind, no-board, no-other, unused-other, unused-id, unused-value, no-identifier, no-round, blank, sound-asked, faulty-told, of-itself, started, not-started, ended, decided as is-decided, not-signed, not-above, delivered, not-decided, few-ballots, waits, unsigned, Answering}
use Rattle.bench.specs.declared.bench.Bench.{Bench}
use Rattle.bench.specs.declared.event.Event.{Event}
use Rattle.bench.specs.declared.answer.Refusal.{Refusal}
use Rattle.bench.proofs.TurnLaws.{wait-waits, wait-refuses, wait-neither}
use Rattle.bench.proofs.AnswerLaws.{refused-same}

-- rows whose numbers rise by one from m, and each of which applies where its number does in A; none does from there on
data Says (A : ℕ → Type 0) : ℕ → List (Bool × Refusal) → Type 0 where
  no-row : {m : ℕ} → ((k : ℕ) → m ≤ k → A k → ⊥) → Says A m []
  ◌next◌ : {m : ℕ} {b : Bool} {r : Refusal} {rows : List (Bool × Refusal)}
      → (refusal_number r ≡ m) × (b ≡ true → A m) × (A m → b ≡ true) → Says A (suc m) rows → Says A m ((b, r) ∷ rows)

infixr 5 ◌next◌
-- n is 0 where none of the numbers from m on applies in A, and else the lowest of them that does
abbrev Lowest : (ℕ → Type 0) → ℕ → ℕ → Type 0
Lowest A m n =
    ((n ≡ 0) × ((k : ℕ) → m ≤ k → A k → ⊥))
    ⊎ ((m ≤ n) × A n × ((k : ℕ) → m ≤ k → k < n → A k → ⊥))

-- two numbers are the same or not
same_or_not : (j k : ℕ) → (j ≡ k) ⊎ (j ≡ k → ⊥)
same_or_not j k = grind (arith, nat_tests, cases_Bool (j == k))

-- so the number of the first of them that applies is the lowest that does
lowest : (A : ℕ → Type 0) (m : ℕ) (rows : List (Bool × Refusal)) → Says A m rows
    → Lowest A m (answer_number (first_of rows))
unfolding first_of answer_number
lowest A m _ (no-row f) = inl (refl, f)
lowest A m ((true, r) ∷ _) (s next rows) = inr (grind (arith, s.0), subst A (sym s.0) (s.1 refl), grind arith)
lowest A m ((false, r) ∷ _) (s next rows) = grind (arith, lowest A (suc m) _ rows, same_or_not)

-- only a board that is voting has to wait in its turn
must-vote : (c : Bench) (k : ℕ) → must_wait limits c k ≡ true → (board_at limits c k).status ≡ Voting
unfolding must_wait is_waiting refuses
must-vote c k = let t = turn-refused limits c.n k (board_at limits c k) in grind arith

row_16-is : turn_number Ended ≡ 16
row_16-is = ended-is ∙ ap (λ (m : ℕ). m + 1) not_started-is

-- what is known of a row's tests
ruleset fields = (arith, nat_tests, within_in, within_low, within-high)

ruleset tests = (fields, is-idle, has-one, is-over, has-decided, must-vote, wait-waits, wait-refuses, wait-neither)

-- the rows of the table are such rows, from 10 on
module _ (c : Bench) (e : Event) where
  says : Says (Applies c e) 10 (table_of limits c e)
  unfolding refusal_number kind_row boards_row fields_row wrong_other wrong_id wrong_value mark_row pair_row start_row
      end_row signed_row last_row delivered_row announcer_row ballots_row turn_row refuses uses_other uses_id uses_value
  says =
      (refl, grind (tests, no-kind), grind tests)
      next (refl, grind (tests, no-board, no-other), grind tests)
      next (refl, grind (tests, unused-other, unused-id, unused-value, no-identifier, no-round, blank), grind tests)
      next (refl, grind (tests, sound-asked, faulty-told), grind tests)
      next (refl, grind (tests, of-itself), grind tests)
      next (not_started-is, grind (tests, started, not-started), grind tests)
      next (row_16-is, grind (tests, ended, is-decided), grind tests)
      next (refl, grind (tests, not-signed), grind tests)
      next (refl, grind (tests, not-above), grind tests)
      next (refl, grind (tests, delivered), grind tests)
      next (refl, grind (tests, not-decided), grind tests)
      next (refl, grind (tests, few-ballots), grind tests)
      next (waiting-is, grind (tests, waits, unsigned), grind tests)
      next no-row (grind arith)

  least : (k : ℕ) → Applies c e k → (10 ≤ k) × (k ≤ 22)
  least k x = grind arith

  answer : ℕ
  answer = answer_number (step_of limits c e).answer

  answered : Lowest (Applies c e) 10 answer
  unfolding answer step_of check_of
  answered = lowest (Applies c e) 10 (table_of limits c e) says

  accepted-none : (answer ≡ 0) ↔ ((k : ℕ) → Applies c e k → ⊥)
  accepted-none = (grind (arith, answered, least), grind (arith, answered, least))

  first-number : (m : ℕ) → 0 < m → (answer ≡ m) ↔ (Applies c e m × ((k : ℕ) → k < m → Applies c e k → ⊥))
  first-number m p = (grind (arith, answered, least), grind (arith, answered, least))

pub answering : Answering
unfolding answer refusal_number
answering =
    record {
      accepted = accepted-none;
      first = first-number;
      numbers = λ c e i.
          10 ∷ 11 ∷ 12 ∷ 13 ∷ 14 ∷ not_started-is i ∷ row_16-is i ∷ 17 ∷ 18 ∷ 19 ∷ 20 ∷ 21 ∷ waiting-is i ∷ [];
      refused = refused-same limits;
    }
