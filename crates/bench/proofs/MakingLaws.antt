-- What is claimed of the call for a fresh bench. Assumes nothing.
use Prim.Native.Nat.{ℕ, ◌≤◌, ◌<◌}
use native.Mathlib.Omega.{arith}
use mathlib.Core.Path.{◌≡◌, refl, sym, ap, ◌∙◌}
use mathlib.Core.Bool.{true, false}
use mathlib.Core.List.{List, [], ◌∷◌}
use mathlib.Core.Logic.{◌⊎◌, inl, inr, ⊎_elim, ◌↔◌}
use borrow.Author.Tests.{eq-eqb, leb-true, leb-false}
use Rattle.std.proofs.lemmas.Bool.{cases_Bool}
use Rattle.std.specs.Prelude.{Result, Ok, Err, ◌==◌}
use Rattle.std.proofs.lemmas.Bool.Decides.{nat_tests}
use Rattle.std.proofs.lemmas.List.{get_or-take}
use Rattle.signer.proofs.FromOneLaws.{nth-index, nth_after, within_low, within-high, within_in}
use Rattle.delivery.specs.Counting.{every_in}
use Rattle.delivery.specs.Limits.{limits}
use Rattle.delivery.specs.Sets.{in_set, set_of, with_board}
use Rattle.delivery.proofs.CountLaws.{every-reads, every-fails}
use Rattle.delivery.proofs.SetLaws.{set-none, set-take, set-leave, set-cong, in-set_of-within, in-set_of-passes}
use Rattle.bench.specs.Setups.{is_mark_at, is_marked_sound, setup_by, fresh_answer, bench_of, fresh_bench, fresh_of}
use Rattle.bench.specs.Answers.{setup_number, fresh_number}
use Rattle.bench.specs.Making.{IsBusSize, mark, Making}
use Rattle.bench.specs.declared.answer.SetupFault.{SetupFault}
use Rattle.bench.specs.declared.answer.SetupFault.TheVariants.{NoBus, NoMark}
use Rattle.bench.proofs.SetupLaws.{in_within, all, alone-set, marks-none, marks-next}

-- what the call's functions go by: a number of boards is within the limit; and a mark more is passed
pub ruleset bus_size = (within-high)

pub ruleset marks_passed = (set-none, set-take, set-leave, marks-none, marks-next, nth_after, get_or-take)

module _ (n : ℕ) (marks : List ℕ) where
  abbrev WellMarked : Type 0
  WellMarked = (k : ℕ) → 1 ≤ k → k ≤ n → mark marks k ≤ 1

  abbrev IllMarked : Type 0
  IllMarked = (k : ℕ) × (1 ≤ k) × (k ≤ n) × (1 < mark marks k)

  -- either all marks are marks, or one is none
  marked : ((every_in n (is_mark_at marks) ≡ true) × WellMarked) ⊎ ((every_in n (is_mark_at marks) ≡ false) × IllMarked)
  unfolding is_mark_at
  marked =
      ⊎_elim
      (λ t. inl (t, λ k l u. leb-true _ 1 (every-reads n _ t k l u)))
      (λ f. inr (f, let x = every-fails n (is_mark_at marks) f in (x.0, x.1, x.2, leb-false _ 1 x.3)))
      (cases_Bool (every_in n (is_mark_at marks)))

  abbrev answer : Result (Unit {0}) SetupFault
  answer = fresh_answer limits n marks

  -- so the call goes in one of three ways
  abbrev Course : Type 0
  Course =
      ((IsBusSize n → ⊥) × (answer ≡ Err NoBus))
      ⊎ ((IsBusSize n × IllMarked × (answer ≡ Err NoMark))
      ⊎ (IsBusSize n × WellMarked × (answer ≡ Ok tt)))

  course : Course
  unfolding fresh_answer
  course = grind (arith, marked, within_in, within_low, within-high)

  number : ℕ
  number = fresh_number (fresh_of limits n marks).answer

  no-bus : (number ≡ 2) ↔ (IsBusSize n → ⊥)
  unfolding number fresh_of fresh_number setup_number
  no-bus = (grind (arith, course), grind (arith, course))

  no-mark : (number ≡ 3) ↔ (IsBusSize n × ((k : ℕ) × (1 ≤ k) × (k ≤ n) × (1 < mark marks k)))
  unfolding number fresh_of fresh_number setup_number
  no-mark = (grind (arith, course), grind (arith, course))

  answered : (number ≡ 0) ⊎ ((number ≡ 2) ⊎ (number ≡ 3))
  unfolding number fresh_of fresh_number setup_number
  answered = grind (arith, course)

  accepted : number ≡ 0 → answer ≡ Ok tt
  unfolding number fresh_of fresh_number setup_number
  accepted = grind (arith, course)

  -- the bench, by the answer
  asked-is : answer ≡ Ok tt → (fresh_of limits n marks).bench ≡ bench_of limits n (set_of n (is_marked_sound marks))
  unfolding fresh_of fresh_bench setup_by
  asked-is e = rw e

  alone-is : (number ≡ 0 → ⊥) → (fresh_of limits n marks).bench ≡ bench_of limits 1 (with_board 0 1)
  unfolding number fresh_of fresh_bench setup_by fresh_number setup_number
  alone-is f = grind (arith, course)

  sound-where : (k : ℕ)
      → (in_set (set_of n (is_marked_sound marks)) k ≡ true) ↔ ((1 ≤ k) × (k ≤ n) × (mark marks k ≡ 0))
  unfolding is_marked_sound
  sound-where k = (
    grind (arith, nat_tests, in_within, within_low, within-high, in-set_of-passes),
    grind (arith, nat_tests, in-set_of-within),
  )

  asked : number ≡ 0
      → ((fresh_of limits n marks).bench.n ≡ n)
      × ((k : ℕ) → (in_set (fresh_of limits n marks).bench.sound k ≡ true) ↔ ((1 ≤ k) × (k ≤ n) × (mark marks k ≡ 0)))
  unfolding bench_of
  asked z = rw (asked-is (accepted z)) (refl, sound-where)

-- one board, marked sound
mark-sole : (k : ℕ) → 1 ≤ k → k ≤ 1 → mark (0 ∷ []) k ≡ 0
mark-sole k l u = let e : k ≡ 1 = omega arith in ap (mark (0 ∷ [])) e ∙ nth-index (0 ∷ []) 1 0 (omega arith)

sole : answer 1 (0 ∷ []) ≡ Ok tt
sole = grind (arith, course 1 (0 ∷ []), mark-sole)

sole-set : with_board 0 1 ≡ set_of 1 (is_marked_sound (0 ∷ []))
unfolding is_marked_sound
sole-set = alone-set ∙ set-cong 1 all (is_marked_sound (0 ∷ [])) (λ k l u. sym (eq-eqb _ _ (mark-sole k l u)))

alone : (n : ℕ) (marks : List ℕ) → (number n marks ≡ 0 → ⊥)
    → (fresh_of limits n marks).bench ≡ (fresh_of limits 1 (0 ∷ [])).bench
alone n marks f = alone-is n marks f ∙ ap (bench_of limits 1) sole-set ∙ sym (asked-is 1 (0 ∷ []) sole)

-- marks that are the same up to the n-th
module _ (n : ℕ) (marks rest : List ℕ) (same : (k : ℕ) → 1 ≤ k → k ≤ n → mark marks k ≡ mark rest k) where
  same-answer : answer n marks ≡ answer n rest
  same-answer = grind (arith, course n marks, course n rest)

  same-set : set_of n (is_marked_sound marks) ≡ set_of n (is_marked_sound rest)
  unfolding is_marked_sound
  same-set = set-cong n _ _ (λ k l u. ap (λ (m : ℕ). m == 0) (same k l u))

  unread : fresh_of limits n marks ≡ fresh_of limits n rest
  unfolding fresh_of fresh_bench setup_by
  unread = grind (arith, same-answer, same-set)

pub making : Making
unfolding number
making =
    record {
      no_bus = no-bus;
      no_mark = no-mark;
      answered = answered;
      asked = asked;
      alone = alone;
      unread = unread;
    }
