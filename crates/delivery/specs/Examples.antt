-- Worked examples of sizes, rounds, sets, stores, owed copies and acceptance, with the numbers written out; letters a to c and
-- e to k of the bench examples are among them. All are shown in proofs/ExampleLaws.
use Rattle.std.specs.Prelude.{ℕ, suc, ◌≡◌, true, false, None, Some, ◌==◌, not}
use Rattle.delivery.specs.Counting.{count_in}
use Rattle.delivery.specs.Limits.{limits}
use Rattle.delivery.specs.Bus.{faults, quorum, overlap}
use Rattle.delivery.specs.Rounds.{coordinator, identifier_of, next_round}
use Rattle.delivery.specs.Sets.{in_set, with_board, without_board, union, minus}
use Rattle.delivery.specs.Delivered.{index_of, nothing_delivered, heard, deliver}
use Rattle.delivery.specs.Owed.{nothing_owed, receivers, after_signing, after_delivery}
use Rattle.delivery.specs.Acceptance.{allowed, accepts_ballot}
use Rattle.delivery.specs.declared.delivered.Delivered.{Delivered}
use Rattle.delivery.specs.declared.owed.Owed.{Owed}
use Rattle.delivery.specs.declared.round.Phase.TheVariants.{Opening, Ballot}

-- letter a: f, q and e of 1, 2, 3, 4 and 7 boards
abbrev pub Sizes : ℕ → ℕ → ℕ → ℕ → Type 0
Sizes n f q e = (faults n ≡ f) × (quorum n ≡ q) × (overlap n ≡ e)

abbrev pub LetterA : Type 0
LetterA = (Sizes 1 0 1 1) × (Sizes 2 0 2 2) × (Sizes 3 1 2 1) × (Sizes 4 1 3 2) × (Sizes 7 3 4 1)

-- and of the other buses that there can be: of 5 and of 6 boards
abbrev pub OtherSizes : Type 0
OtherSizes = (Sizes 5 2 3 1) × (Sizes 6 2 4 2)

-- letter b: the coordinators of rounds 1 to 4 among three boards
abbrev pub LetterB : Type 0
LetterB = (coordinator 3 1 ≡ 1) × (coordinator 3 2 ≡ 2) × (coordinator 3 3 ≡ 3) × (coordinator 3 4 ≡ 1)

-- and of other buses: of one board, and of seven
abbrev pub Coordinators : Type 0
Coordinators = (coordinator 1 1 ≡ 1) × (coordinator 1 32 ≡ 1) × (coordinator 7 7 ≡ 7) × (coordinator 7 8 ≡ 1) × (coordinator 7 32 ≡ 4)

-- letter c: the identifiers of the last round; its ballot's is the highest that there is
abbrev pub LetterC : Type 0
LetterC = (identifier_of limits Opening 32 ≡ 63) × (identifier_of limits Ballot 32 ≡ 64)

-- those of the first round, and that what is no round has none, which is 0
abbrev pub Identifiers : Type 0
Identifiers =
    (identifier_of limits Opening 1 ≡ 1)
    × (identifier_of limits Ballot 1 ≡ 2)
    × (identifier_of limits Opening 0 ≡ 0)
    × (identifier_of limits Ballot 0 ≡ 0)
    × (identifier_of limits Opening 33 ≡ 0)
    × (identifier_of limits Ballot 33 ≡ 0)

-- after round 1 comes 2, after 31 the last, and the last stays
abbrev pub NextRounds : Type 0
NextRounds = (next_round limits 1 ≡ 2) × (next_round limits 31 ≡ 32) × (next_round limits 32 ≡ 32)

-- board k is bit k - 1 of a set: boards 1 and 3 are the set 5, board 16 alone is 32,768, and 17 has no bit
abbrev pub Masks : Type 0
Masks =
    (in_set 5 0 ≡ false)
    × (in_set 5 1 ≡ true)
    × (in_set 5 2 ≡ false)
    × (in_set 5 3 ≡ true)
    × (in_set 65535 16 ≡ true)
    × (in_set 65535 17 ≡ false)
    × (with_board 0 1 ≡ 1)
    × (with_board 5 2 ≡ 7)
    × (with_board 0 16 ≡ 32768)
    × (with_board 0 17 ≡ 0)
    × (without_board 7 2 ≡ 5)
    × (union 5 6 ≡ 7)
    × (minus 7 5 ≡ 2)
    × (count_in 3 (in_set 5) ≡ 2)
    × (count_in 2 (in_set 5) ≡ 1)

-- where statements stand: a row for each of seven boards, and in it 64 places
abbrev pub Places : Type 0
Places =
    (index_of limits 1 1 ≡ Some 0)
    × (index_of limits 1 64 ≡ Some 63)
    × (index_of limits 2 1 ≡ Some 64)
    × (index_of limits 7 64 ≡ Some 447)
    × (index_of limits 0 1 ≡ None)
    × (index_of limits 8 1 ≡ None)
    × (index_of limits 1 0 ≡ None)
    × (index_of limits 1 65 ≡ None)

-- copies of what board 1 said under 1, of three boards: it is sound and signed, so they are owed to 2 and 3 (the set 6); then 2
-- delivers it, and one is owed to 3 (the set 4); then 3 does, and none is. A faulty board 1 makes none owed by signing, but
-- one is to 3 as soon as 2 delivers.
abbrev pub signed_by_one : Owed
signed_by_one = after_signing limits (nothing_owed limits) 1 1 7 1

abbrev pub delivered_by_two : Owed
delivered_by_two = after_delivery limits signed_by_one 2 1 1 7 3

abbrev pub Copies : Type 0
Copies =
    (receivers limits signed_by_one 1 1 ≡ 6)
    × (receivers limits delivered_by_two 1 1 ≡ 4)
    × (receivers limits (after_delivery limits delivered_by_two 3 1 1 7 7) 1 1 ≡ 0)
    × (receivers limits (after_delivery limits (nothing_owed limits) 2 1 1 6 2) 1 1 ≡ 4)

-- A board that has delivered the opening of round 1 with 9, which board 1 sends under 1, and some ballots of round 1, which are
-- sent under 2.
abbrev pub opened : Delivered
opened = deliver limits (nothing_delivered limits) 1 1 9

abbrev pub ballot : ℕ → ℕ → Delivered → Delivered
ballot s v d = deliver limits d s 2 v

-- What it allows in round 2, among n boards: one value only, every value, or none. The blank is no value.
abbrev pub AllowsOnly : ℕ → ℕ → Delivered → Type 0
AllowsOnly v n d = (w : ℕ) → allowed limits n (heard limits d) 2 w ≡ (w == v)

abbrev pub AllowsEvery : ℕ → Delivered → Type 0
AllowsEvery n d = (w : ℕ) → allowed limits n (heard limits d) 2 w ≡ not (w == 0)

abbrev pub AllowsNone : ℕ → Delivered → Type 0
AllowsNone n d = (w : ℕ) → allowed limits n (heard limits d) 2 w ≡ false

-- the boards' ballots, board 1's first
abbrev pub nine-blank : Delivered
nine-blank = ballot 2 0 (ballot 1 9 opened)

abbrev pub blank-blank : Delivered
blank-blank = ballot 2 0 (ballot 1 0 opened)

abbrev pub nine-blank-blank : Delivered
nine-blank-blank = ballot 3 0 (ballot 2 0 (ballot 1 9 opened))

abbrev pub nine-alone : Delivered
nine-alone = ballot 1 9 opened

abbrev pub nine-nine-blank : Delivered
nine-nine-blank = ballot 3 0 (ballot 2 9 (ballot 1 9 opened))

-- letters e to h, of three boards, and i and j, of four
abbrev pub LetterE : Type 0
LetterE = AllowsOnly 9 3 nine-blank

abbrev pub LetterF : Type 0
LetterF = AllowsEvery 3 blank-blank

abbrev pub LetterG : Type 0
LetterG = AllowsEvery 3 nine-blank-blank

abbrev pub LetterH : Type 0
LetterH = AllowsNone 3 nine-alone

abbrev pub LetterI : Type 0
LetterI = AllowsEvery 4 nine-blank-blank

abbrev pub LetterJ : Type 0
LetterJ = AllowsOnly 9 4 nine-nine-blank

-- letter k, among n boards: a ballot of board 2 with any value v and no opening. The ballot is there, and no
-- ballot with a value is accepted.
abbrev pub unopened : ℕ → Delivered
unopened v = ballot 2 v (nothing_delivered limits)

abbrev pub Unopened : ℕ → Type 0
Unopened n =
    (v : ℕ)
    → (heard limits (unopened v) 2 2 ≡ suc v)
    × ((s w : ℕ) → (w ≡ 0 → ⊥) → accepts_ballot limits n (heard limits (unopened v)) 1 s w ≡ false)

abbrev pub LetterK : Type 0
LetterK = Unopened 4
