-- The examples of specs/Examples: those that compute, and those about acceptance, for every value. Assumes nothing.
use Prim.Native.Nat.{ℕ, ◌+◌, ◌-◌, min}
use native.Mathlib.Omega.{arith}
use mathlib.Core.Path.{◌≡◌, refl, sym, ap, ◌∙◌}
use mathlib.Core.Bool.{Bool}
use Rattle.signer.specs.FromOne.{is_within, nth, set_nth}
use Rattle.delivery.specs.Counting.{plus, count_in}
use Rattle.std.specs.Prelude.{if◌then◌else◌, nat_le}
use Rattle.std.proofs.lemmas.Bool.{false_from_ne_true}
use Rattle.std.proofs.lemmas.Bool.Decides.{nat_tests}
use Rattle.delivery.specs.Bus.{quorum, overlap}
use Rattle.delivery.specs.Limits.{limits}
use Rattle.delivery.specs.Rounds.{coordinator, phase_of, identifier_of, next_round}
use Rattle.delivery.specs.Sets.{in_set, set_of, with_board, without_board, union, minus}
use Rattle.delivery.specs.Delivered.{place_of, index_at, index_of, heard_in, nothing_delivered, heard, deliver}
use Rattle.delivery.specs.Owed.{no_copies, receivers_at, with_receivers_at, nothing_owed, copies_of, with_copies, receivers, with_receivers, lacks, after_signing, after_delivery}
use Rattle.delivery.specs.Acceptance.{says, opening_entry, bears, backs, allowed, accepts_opening}
use Rattle.delivery.specs.Private.{lets}
use Rattle.delivery.specs.declared.allowance.Allowance.{Allowance}
use Rattle.delivery.specs.declared.allowance.Allowance.TheVariants.{Nothing, Every, Only}
use Rattle.delivery.specs.Examples.{nine-blank, blank-blank, nine-blank-blank, nine-alone, nine-nine-blank, unopened, LetterA, LetterB, LetterC, OtherSizes, Coordinators, Identifiers, NextRounds, Masks, Places, Copies, LetterE, LetterF, LetterG, LetterH, LetterI, LetterJ, LetterK}
use Rattle.delivery.specs.declared.delivered.Delivered.{Delivered}
use Rattle.delivery.proofs.AllRoundsLaws.{opening-reads, ballot-unopened}
use Rattle.delivery.proofs.AllowanceLaws.{every_first, pass-turn}

pub letter-a : LetterA
letter-a = (
  (refl, refl, refl),
  (refl, refl, refl),
  (refl, refl, refl),
  (refl, refl, refl),
  (refl, refl, refl),
)

pub other-sizes : OtherSizes
other-sizes = ((refl, refl, refl), (refl, refl, refl))

pub letter-b : LetterB
unfolding coordinator
letter-b = (refl, refl, refl, refl)

pub coordinators : Coordinators
unfolding coordinator
coordinators = (refl, refl, refl, refl, refl)

pub letter-c : LetterC
unfolding identifier_of phase_of is_within
letter-c = (refl, refl)

pub identifiers_of_rounds : Identifiers
unfolding identifier_of phase_of is_within
identifiers_of_rounds = (refl, refl, refl, refl, refl, refl)

pub next-rounds : NextRounds
unfolding next_round
next-rounds = (refl, refl, refl)

pub masks : Masks
unfolding in_set set_of with_board without_board union minus count_in plus
masks = (refl, refl, refl, refl, refl, refl, refl, refl, refl, refl, refl, refl, refl, refl, refl)

pub places : Places
unfolding index_of index_at place_of is_within
places = (refl, refl, refl, refl, refl, refl, refl, refl)

pub copies : Copies
unfolding
    after_signing after_delivery nothing_owed no_copies receivers receivers_at with_receivers with_receivers_at copies_of
    with_copies lacks in_set set_of nth set_nth
copies = (refl, refl, refl, refl)

-- in round 2, by what is counted in round 1: the opening's entry is 10, b ballots are blank and c bear 9; what that leaves
abbrev Tallied : ℕ → Delivered → ℕ → ℕ → Allowance → Type 0
Tallied n d b c a =
    (opening_entry limits n (heard limits d) 1 ≡ 10)
    × (b ≡ count_in n (bears limits (heard limits d) 1 0))
    × (c ≡ count_in n (backs limits (heard limits d) 1 10))
    × (a
    ≡ (if nat_le (quorum n) (b + min c (overlap n - 1)) then Every else (if nat_le (quorum n) (b + c) then Only 10 else Nothing)))

second : (n : ℕ) (d : Delivered) (b c : ℕ) (a : Allowance) → Tallied n d b c a → (n ≡ 0 → ⊥) → (w : ℕ)
    → allowed limits n (heard limits d) 2 w ≡ lets a w
unfolding says lets
second n d b c a k l w =
    let h = heard limits d in
    let first = every_first limits n h in
    let next = pass-turn limits n h Every a 1 10 b c first l (omega arith) (rw k.0 refl) k.1 k.2 k.3 in
    ap (λ (p : ℕ → Bool). p w) (sym next)

tallies : (Tallied 3 nine-blank 1 1 (Only 10))
    × (Tallied 3 blank-blank 2 0 Every)
    × (Tallied 3 nine-blank-blank 2 1 Every)
    × (Tallied 3 nine-alone 0 1 Nothing)
    × (Tallied 4 nine-blank-blank 2 1 Every)
    × (Tallied 4 nine-nine-blank 1 2 (Only 10))
unfolding
    heard_in place_of deliver nothing_delivered identifier_of phase_of is_within coordinator says bears
    backs lets count_in plus nth set_nth
tallies = (
  (refl, refl, refl, refl),
  (refl, refl, refl, refl),
  (refl, refl, refl, refl),
  (refl, refl, refl, refl),
  (refl, refl, refl, refl),
  (refl, refl, refl, refl),
)

-- letters e to j
pub letter-e : LetterE
unfolding lets
letter-e w = second 3 nine-blank 1 1 (Only 10) tallies.0 (omega arith) w ∙ (grind (arith, nat_tests))

pub letter-f : LetterF
unfolding lets
letter-f = second 3 blank-blank 2 0 Every tallies.1 (omega arith)

pub letter-g : LetterG
unfolding lets
letter-g = second 3 nine-blank-blank 2 1 Every tallies.2 (omega arith)

pub letter-h : LetterH
unfolding lets
letter-h = second 3 nine-alone 0 1 Nothing tallies.3 (omega arith)

pub letter-i : LetterI
unfolding lets
letter-i = second 4 nine-blank-blank 2 1 Every tallies.4 (omega arith)

pub letter-j : LetterJ
unfolding lets
letter-j w = second 4 nine-nine-blank 1 2 (Only 10) tallies.5 (omega arith) w ∙ (grind (arith, nat_tests))

-- letter k: no opening was heard, so no ballot with a value is accepted
pub letter-k : LetterK
unfolding
    heard_in place_of deliver nothing_delivered identifier_of phase_of is_within coordinator nth set_nth
letter-k v = (
  refl,
  λ s w z.
      let h = heard limits (unopened v) in
      let none = false_from_ne_true (accepts_opening limits 4 h 1 w) (λ o. omega (arith, (opening-reads limits 4 h 1 w o).said)) in
      ballot-unopened limits 4 h 1 s w z none,
)
