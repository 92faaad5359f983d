-- Laws of rounds, their coordinators and their identifiers. Assumes nothing.
use Prim.Native.Nat.{ℕ, suc, ◌+◌, ◌-◌, ◌*◌, ◌/◌, ◌≤◌, ◌<◌}
use mathlib.Core.Path.{◌≡◌}
use mathlib.Core.Bool.{true, false}
use native.Mathlib.Omega.{arith}
use native.Mathlib.Nat.{mod-lt}
use Rattle.std.proofs.lemmas.Bool.Decides.{nat_tests}
use Rattle.std.proofs.lemmas.Nat.{div-add-mod'}
use Rattle.signer.specs.Log.{is_identifier}
use Rattle.signer.proofs.FromOneLaws.{within_low, within-high, within_in}
use Rattle.delivery.specs.Limits.{Limits}
use Rattle.delivery.specs.Rounds.{is_round, next_round, coordinator, phase_of, identifier_of}
use Rattle.delivery.specs.declared.round.Phase.{Phase}
use Rattle.delivery.specs.declared.round.Phase.TheVariants.{Opening, Ballot}

-- each round's coordinator is a board of the bus
pub coordinator-in : (n r : ℕ) → 1 ≤ n → (1 ≤ coordinator n r) × (coordinator n r ≤ n)
unfolding coordinator
coordinator-in n r h = omega (arith, mod-lt (r - 1) h)

-- and they take turns: the rounds before r are whole turns of n, and then one for each board before its coordinator
pub coordinator-turns : (n r : ℕ) → 1 ≤ n → 1 ≤ r
    → (1 ≤ coordinator n r) × (coordinator n r ≤ n) × ((m : ℕ) × (r ≡ m * n + coordinator n r))
unfolding coordinator
coordinator-turns n r h l =
    let c = coordinator-in n r h in
    (c.0, c.1, ((r - 1) / n, omega (arith, div-add-mod' (r - 1) n)))

-- the identifiers of a round, as numbers; and of what is none
pub identifier-opening : (L : Limits) (r : ℕ) → is_round L r ≡ true → identifier_of L Opening r ≡ 2 * r - 1
unfolding identifier_of phase_of
identifier-opening L r h = grind arith

pub identifier-ballot : (L : Limits) (r : ℕ) → is_round L r ≡ true → identifier_of L Ballot r ≡ 2 * r
unfolding identifier_of phase_of
identifier-ballot L r h = grind arith

pub identifier-none : (L : Limits) (p : Phase) (r : ℕ) → is_round L r ≡ false → identifier_of L p r ≡ 0
unfolding identifier_of
identifier-none L p r h = grind arith

-- no opening is a ballot
pub openings-apart : (L : Limits) (r r' : ℕ)
    → is_round L r ≡ true → is_round L r' ≡ true → identifier_of L Opening r ≡ identifier_of L Ballot r' → ⊥
openings-apart L r r' h h' e =
    omega (arith, identifier-opening L r h, identifier-ballot L r' h', within_low L.rounds r h)

-- with two identifiers for each round, each of a round's is an identifier
pub identifier-within : (L : Limits) (p : Phase) (r : ℕ)
    → 2 * L.rounds ≤ L.identifiers → is_round L r ≡ true → is_identifier L.identifiers (identifier_of L p r) ≡ true
unfolding identifier_of phase_of
identifier-within L p r w h =
    let low : 1 ≤ identifier_of L p r = grind (arith, within_low L.rounds r h) in
    within_in L.identifiers (identifier_of L p r) low (grind (arith, within-high L.rounds r h))

-- identifiers rise: the opening of a round, its ballot, the opening of the next
pub opening-ballot : (L : Limits) (r : ℕ) → is_round L r ≡ true → identifier_of L Opening r < identifier_of L Ballot r
opening-ballot L r h = omega (arith, identifier-opening L r h, identifier-ballot L r h, within_low L.rounds r h)

pub ballot-opening : (L : Limits) (r : ℕ)
    → is_round L r ≡ true → is_round L (suc r) ≡ true → identifier_of L Ballot r < identifier_of L Opening (suc r)
ballot-opening L r h h' = omega (arith, identifier-ballot L r h, identifier-opening L (suc r) h')

-- the next round
pub next-at : (L : Limits) (r : ℕ) → r < L.rounds → next_round L r ≡ suc r
unfolding next_round
next-at L r l = grind (arith, nat_tests)

-- for the functions
pub ruleset within = (within-high, within_low)
