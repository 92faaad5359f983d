-- The boards whose ballots bear something, and whose are accepted, as the program collects them. Assumes nothing.
use Rattle.std.specs.Prelude.{◌==◌, ◌&&◌, ◌||◌, not}
use Prim.Native.Nat.{ℕ, ◌≤◌, min, ◌<◌}
use native.Mathlib.Omega.{arith}
use mathlib.Core.Path.{◌≡◌, refl, sym, ◌∙◌}
use mathlib.Core.Bool.{Bool, false, true}
use mathlib.Core.Logic.{inl, inr}
use mathlib.Core.List.{List}
use Rattle.std.proofs.lemmas.Bool.{false_from_ne_true}
use Rattle.std.proofs.lemmas.Bool.Decides.{nat_tests}
use Rattle.signer.specs.Log.{entry_of}
use Rattle.delivery.specs.Counting.{count_in}
use Rattle.delivery.specs.Limits.{Limits}
use Rattle.delivery.specs.Bus.{is_board}
use Rattle.delivery.specs.Rounds.{identifier_of}
use Rattle.delivery.specs.Sets.{set_of, bits, union}
use Rattle.delivery.specs.Delivered.{Store, heard_in}
use Rattle.delivery.specs.Acceptance.{says, opening_entry, ballot_entry, bears, backs, opens, counts, counts_some, accepts_opening, accepts_ballot, accepts_some, opened_entry, tally_of, bearers}
use Rattle.delivery.specs.declared.poll.Tally.{Tally}
use Rattle.delivery.specs.declared.round.Phase.TheVariants.{Ballot}
use Rattle.signer.proofs.FromOneLaws.{within-high}
use Rattle.delivery.proofs.CountLaws.{count-le, count-take, count-leave, count_beyond}
use Rattle.delivery.proofs.SetLaws.{union-sets, set-none, set-take, set-leave, set-cong, set_beyond, set-fits}
use Rattle.delivery.proofs.DeliveredLaws.{heard-nobody}
use Rattle.delivery.proofs.AllRoundsLaws.{ballot-sent, ballot-unopened, opened-backs, opened-entry}

module _ (L : Limits) (es : List ℕ) (r : ℕ) where
  -- a number that no board can have bears nothing
  silent : (s : ℕ) → L.boards < s → ballot_entry L (heard_in L es) r s ≡ 0
  silent s l =
      let none = false_from_ne_true (is_board L s) (λ b. omega (arith, within-high L.boards s b)) in
      heard-nobody L es s (identifier_of L Ballot r) none

  -- a ballot is blank, or backs the entry x, exactly if its entry is so
  pub blank-test : (s i : ℕ) → i ≡ identifier_of L Ballot r
      → bears L (heard_in L es) r 0 s ≡ (heard_in L es s i == entry_of 0)
  unfolding bears
  blank-test s i e = grind (arith, nat_tests)

  pub backs-test : (x s i : ℕ) → i ≡ identifier_of L Ballot r
      → backs L (heard_in L es) r x s ≡ (heard_in L es s i == x && not (x == 0))
  unfolding backs says bears
  backs-test x s i e = grind (arith, nat_tests)

  -- so a search among the boards that there can be finds all of 1 to n whose ballots are so, and counts them
  pub backs-found : (n x : ℕ)
      → set_of (min n L.boards) (backs L (heard_in L es) r x) ≡ set_of n (backs L (heard_in L es) r x)
  unfolding backs says bears
  backs-found n x = sym (set_beyond n L.boards _ (λ s l. grind (arith, nat_tests, silent s l)))

  pub backs-counted : (n x : ℕ)
      → count_in (min n L.boards) (backs L (heard_in L es) r x) ≡ count_in n (backs L (heard_in L es) r x)
  unfolding backs says bears
  backs-counted n x = sym (count_beyond n L.boards _ (λ s l. grind (arith, nat_tests, silent s l)))

  pub blank-found : (n : ℕ)
      → set_of (min n L.boards) (bears L (heard_in L es) r 0) ≡ set_of n (bears L (heard_in L es) r 0)
  unfolding backs says
  blank-found n = backs-found n (entry_of 0)

  pub blank-counted : (n : ℕ)
      → count_in (min n L.boards) (bears L (heard_in L es) r 0) ≡ count_in n (bears L (heard_in L es) r 0)
  unfolding backs says
  blank-counted n = backs-counted n (entry_of 0)

-- what is found is accepted, where the opening's entry is that of the accepted one
module _ (L : Limits) (n : ℕ) (h : Store) (r : ℕ) where
  pub blank-accepted : set_of n (bears L h r 0) ≡ set_of n (λ (s : ℕ). accepts_ballot L n h r s 0)
  blank-accepted = set-cong n _ _ (λ s a b. sym (ballot-sent L n h r s 0 (inl refl)))

  pub backing-accepted : (x : ℕ) → x ≡ opened_entry L n h r
      → set_of n (backs L h r x) ≡ set_of n (λ (s : ℕ). says (opened_entry L n h r) (accepts_ballot L n h r s))
  backing-accepted x e = rw e (set-cong n _ _ (λ s a b. sym (opened-backs L n h r s)))

  -- the boards whose accepted ballots bear w: those of the blank ones, or of those for the opening
  abbrev bearing : ℕ → ℕ
  bearing w = set_of n (λ (s : ℕ). accepts_ballot L n h r s w)

  blank-bears : (w : ℕ) → w ≡ 0 → (tally_of L n h r).blank ≡ bearing w
  blank-bears w e = rw e refl

  pub backing-bears : (w : ℕ) → opened_entry L n h r ≡ entry_of w → (tally_of L n h r).backing ≡ bearing w
  unfolding says
  backing-bears w e = rw e refl

  -- asked of one value: the same is found by what the coordinator sent, with 0 in its place where that is w and not accepted
  abbrev scanned : ℕ → Tally
  scanned x = record { opening = x; blank = set_of n (bears L h r 0); backing = set_of n (backs L h r x) }

  unsent : (w : ℕ) → accepts_opening L n h r w ≡ false → (w ≡ 0 → ⊥) → bearing w ≡ 0
  unsent w f z = set-none n (λ (s : ℕ). accepts_ballot L n h r s w) (λ s a b. ballot-unopened L n h r s w z f)

  pub bearers-other : (w : ℕ) → (opening_entry L n h r ≡ entry_of w → ⊥) → bearers (scanned (opening_entry L n h r)) w ≡ bearing w
  unfolding bearers accepts_opening opens
  bearers-other w d = grind (arith, nat_tests, unsent w, blank-accepted)

  pub bearers-unsent : (w : ℕ) → accepts_opening L n h r w ≡ false → bearers (scanned 0) w ≡ bearing w
  unfolding bearers
  bearers-unsent w f = grind (arith, nat_tests, unsent w f, blank-accepted)

  pub bearers-sent : (w : ℕ) → opening_entry L n h r ≡ entry_of w → accepts_opening L n h r w ≡ true
      → bearers (scanned (opening_entry L n h r)) w ≡ bearing w
  unfolding bearers backs says
  bearers-sent w e o =
      let sent = set-cong n (bears L h r w) _ (λ s a b. sym (ballot-sent L n h r s w (inr o))) in
      grind (arith, nat_tests, e, sent, blank-accepted)

  -- so of the tally, the boards whose ballots bear a value are those whose accepted ballots do
  pub bearers-tallied : (w : ℕ) → bearers (tally_of L n h r) w ≡ bearing w
  unfolding bearers
  bearers-tallied w =
      let none = λ (z : w ≡ 0 → ⊥) (f : accepts_opening L n h r w ≡ false).
      set-none n (λ (s : ℕ). accepts_ballot L n h r s w) (λ s a b. ballot-unopened L n h r s w z f) in
      grind (arith, nat_tests, blank-bears w, none, backing-bears w, opened-entry L n h r w)

module _ (L : Limits) (es : List ℕ) (r n : ℕ) where
  abbrev h : Store
  h = heard_in L es

  -- and those with a ballot, in either of its sets, are those with an accepted one
  either : ℕ → Bool
  either s = accepts_ballot L n h r s 0 || says (opened_entry L n h r) (accepts_ballot L n h r s)

  either-accepted : (s : ℕ) → either s ≡ accepts_some L n h r s
  unfolding either says bears counts counts_some accepts_opening accepts_ballot accepts_some
  either-accepted s = grind (arith, nat_tests, opened-backs L n h r s, opened-entry L n h r)

  either-board : (s : ℕ) → L.boards < s → either s ≡ false
  unfolding either says bears counts accepts_ballot
  either-board s g = grind (arith, nat_tests, silent L es r s g)

  pub ballots-tallied : L.boards ≤ bits
      → union (tally_of L n h r).blank (tally_of L n h r).backing ≡ set_of n (accepts_some L n h r)
  unfolding either
  ballots-tallied l =
      union-sets n _ _ (set-fits n L.boards either either-board l) ∙ set-cong n _ _ (λ s a b. either-accepted s)

-- for the functions
pub ruleset scanning = (
  blank-test,
  backs-test,
  blank-found,
  backs-found,
  blank-counted,
  backs-counted,
  set-take,
  set-leave,
  count-take,
  count-leave,
  count-le,
)

pub ruleset tallied = (blank-accepted, backing-accepted)

pub ruleset backers = (bearers-other, bearers-unsent, bearers-sent)

pub ruleset joined = (ballots-tallied)
