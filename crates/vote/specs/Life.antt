-- What holds of a board's whole life, whatever is asked of it and in whatever order. Each of these is claimed, in src/claims.
use Rattle.std.specs.Prelude.{ℕ, suc, ◌≡◌, ◌≢◌, ◌≤◌, ◌⊎◌, true, List, [], ◌∷◌, None, Some, Ok}
use Rattle.signer.specs.Log.{values, is_identifier, entry_of}
use Rattle.delivery.specs.Limits.{Limits, limits}
use Rattle.delivery.specs.Bus.{is_board, quorum}
use Rattle.delivery.specs.Rounds.{is_round, coordinator}
use Rattle.delivery.specs.Delivered.{heard}
use Rattle.delivery.specs.Acceptance.{allowed, accepts_opening}
use Rattle.delivery.specs.declared.round.Phase.TheVariants.{Opening, Ballot}
use Rattle.vote.specs.Ballots.{opened_value, tally}
use Rattle.vote.specs.Boards.{fresh_board, is_started, deliver_to, suspect, trust}
use Rattle.vote.specs.Turns.{statement_of, turn}
use Rattle.vote.specs.Acts.{OfValues}
use Rattle.vote.specs.Calls.{Call, proposal, own_turn, delivery, announcement, suspicion, restored-trust, after, board_after, statements}
use Rattle.vote.specs.declared.position.Stage.TheVariants.{Open, Vote, Count}
use Rattle.vote.specs.declared.statement.Statement.{Statement}
use Rattle.vote.specs.declared.board.Board.{Board}
use Rattle.vote.specs.declared.board.Decision.{Decision}
use Rattle.vote.specs.declared.board.Status.TheVariants.{Voting, Spent, Decided}

-- What a board has decided, by its turn or by an announcement, is not the blank, and q or more of the ballots of that round that it
-- accepts bear it.
abbrev pub DecidesByQuorum : Type 0
DecidesByQuorum =
    (n me : ℕ) (cs : List Call) (d : Decision) → let b = board_after n me cs in
    b.status ≡ Decided d → (d.value ≢ 0) × (quorum n ≤ tally limits n (heard limits b.delivered) d.round.0 d.value)

-- It decides once: whatever is asked of it afterwards, it has decided the same.
abbrev pub DecidesOnce : Type 0
DecidesOnce =
    (n me : ℕ) (b : Board) (cs : List Call) (d : Decision) → b.status ≡ Decided d → (after limits n me b cs).status ≡ Decided d

-- What board `me` of n signs in its turn is what its stage says: at stage A, as the coordinator of its round, the round's opening
-- with its estimate; at stage B the round's ballot.
pub data Signs (L : Limits) (n me : ℕ) (b : Board) (s : Statement) : Type 0 where
  signs-opening : b.status ≡ Voting → b.position.stage ≡ Open → me ≡ coordinator n b.position.round.0
      → statement_of L me Opening b.position.round.0 b.position.estimate ≡ s → Signs L n me b s
  signs-ballot : b.status ≡ Voting → b.position.stage ≡ Vote
      → statement_of L me Ballot b.position.round.0 (opened_value L n (heard L b.delivered) b.position.round.0) ≡ s
      → Signs L n me b s

abbrev pub SignsByStage : Type 0
SignsByStage =
    (n me : ℕ) (b : Board) (s : Statement) → (turn limits n me b).signed ≡ Some s → Signs limits n me b s

-- identifiers that rise from m on, so that none comes twice
pub data Rising : ℕ → List Statement → Type 0 where
  no_more : (m : ℕ) → Rising m []
  and_then : (m : ℕ) (s : Statement) (ss : List Statement) → m ≤ s.id.0 → Rising (suc s.id.0) ss → Rising m (s ∷ ss)

-- What it signs, from the first call on, it signs under identifiers that rise.
abbrev pub SignsRising : Type 0
SignsRising = (n me : ℕ) (cs : List Call) → Rising 0 (statements limits n me (fresh_board limits) cs)

-- An estimate that a turn changes was the value of an opening that the board accepts.
abbrev pub EstimateOpened : Type 0
EstimateOpened =
    (n me : ℕ) (b : Board) → let x = (turn limits n me b).board.position.estimate in
    (x ≡ b.position.estimate) ⊎ (accepts_opening limits n (heard limits b.delivered) b.position.round.0 x ≡ true)

-- calls that bring no more than the highest value
abbrev pub Fits : Call → Type 0
Fits (proposal v) = v ≤ values
Fits own_turn = Unit {0}
Fits (delivery s) = s.value ≤ values
Fits (announcement r v) = Unit {0}
Fits (suspicion k) = Unit {0}
Fits (restored-trust k) = Unit {0}

pub data EachFits : List Call → Type 0 where
  none_left : EachFits []
  fits-first : (c : Call) (cs : List Call) → Fits c → EachFits cs → EachFits (c ∷ cs)

-- After such calls the board holds values alone: so the second text of a turn holds of each of its turns.
abbrev pub HoldsValues : Type 0
HoldsValues =
    (n me : ℕ) (cs : List Call) → 1 ≤ n → EachFits cs → let b = board_after n me cs in
    OfValues (heard limits b.delivered) × (b.position.estimate ≤ values)

-- The estimate of a board that has started is allowed in its round, by what the board itself has delivered.
abbrev pub EstimateAllowed : Type 0
EstimateAllowed =
    (n me : ℕ) (cs : List Call) → 1 ≤ n → EachFits cs → let b = board_after n me cs in
    is_started b.status ≡ true → allowed limits n (heard limits b.delivered) b.position.round.0 b.position.estimate ≡ true

-- A turn that is not taken changes nothing and signs nothing, above all one in which the board waits or has decided.
abbrev pub UntakenKeeps : Type 0
UntakenKeeps =
    (n me : ℕ) (b : Board) → let t = turn limits n me b in
    t.answer ≢ Ok tt → (t.board ≡ b) × (t.signed ≡ None)

-- A board that has started is in one of the rounds and has a value for its estimate; one that is spent is at stage C of the last
-- round.
pub record Stands (b : Board) : Type 0 where
  pub round : is_started b.status ≡ true → is_round limits b.position.round.0 ≡ true
  pub estimate : is_started b.status ≡ true → b.position.estimate ≢ 0
  pub spent : b.status ≡ Spent → (b.position.stage ≡ Count) × (b.position.round.0 ≡ limits.rounds)

abbrev pub StandsInRounds : Type 0
StandsInRounds = (n me : ℕ) (cs : List Call) → Stands (board_after n me cs)

-- A statement that a board lacks is delivered to it, however far it is,
abbrev pub HearsAlways : Type 0
HearsAlways =
    (n me : ℕ) (cs : List Call) (s : Statement) → let b = board_after n me cs in
    is_board limits s.speaker ≡ true → is_identifier limits.identifiers s.id.0 ≡ true
    → heard limits b.delivered s.speaker s.id.0 ≡ 0
    → heard limits (deliver_to limits b s).delivered s.speaker s.id.0 ≡ entry_of s.value

-- and what it has delivered stays.
abbrev pub KeepsDelivered : Type 0
KeepsDelivered =
    (n me : ℕ) (b : Board) (cs : List Call) (s i : ℕ) → heard limits b.delivered s i ≢ 0
    → heard limits (after limits n me b cs).delivered s i ≡ heard limits b.delivered s i

-- A suspicion, or trust, changes nothing the second time.
abbrev pub SuspectsOnce : Type 0
SuspectsOnce = (b : Board) (k : ℕ) → (suspect (suspect b k) k ≡ suspect b k) × (trust (trust b k) k ≡ trust b k)
