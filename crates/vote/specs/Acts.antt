-- A board's turn a second time, in words of its own: a constructor for each sentence about what a board does, on how many ballots
-- bear a value and not on a search for one, and a constructor for what comes of each move. Numbers are written out. It shares no
-- definition with Rule, Ballots and Turns. That a turn is what is said here is claimed (`SameMove`, `SameTurn`), in src/claims.
use Rattle.std.specs.Prelude.{ℕ, ◌+◌, ◌-◌, ◌*◌, ◌≡◌, ◌≢◌, ◌≤◌, ◌<◌, true, ◌⊎◌, ◌↔◌, None, Some, Ok, Err}
use Rattle.delivery.specs.Counting.{count_in}
use Rattle.delivery.specs.Limits.{limits}
use Rattle.delivery.specs.Bus.{quorum, overlap}
use Rattle.delivery.specs.Rounds.{coordinator}
use Rattle.delivery.specs.Sets.{in_set}
use Rattle.delivery.specs.Delivered.{Store, heard, deliver}
use Rattle.delivery.specs.Acceptance.{opening_entry, accepts_opening, accepts_ballot, accepts_some}
use Rattle.vote.specs.Rule.{rule}
use Rattle.vote.specs.Turns.{turn}
use Rattle.vote.specs.declared.board.Board.{Board}
use Rattle.vote.specs.declared.board.Decision.{Decision}
use Rattle.vote.specs.declared.board.Status.{Status}
use Rattle.vote.specs.declared.board.Status.TheVariants.{Idle, Voting, Spent, Decided}
use Rattle.vote.specs.declared.position.Position.{Position}
use Rattle.vote.specs.declared.position.Stage.{Stage}
use Rattle.vote.specs.declared.position.Stage.TheVariants.{Open, Vote, Count}
use Rattle.vote.specs.declared.rule.Move.{Move}
use Rattle.vote.specs.declared.rule.Move.TheVariants.{Waits, Passes, Opens, Ballots, Decides, Advances, Expires}
use Rattle.vote.specs.declared.turn.Refusal.{Refusal}
use Rattle.vote.specs.declared.turn.Refusal.TheVariants.{NotStarted, Ended, Waiting}
use Rattle.vote.specs.declared.turn.Turn.{Turn}

-- of board `me` of n, at position p, with the store h of what it has delivered
module _ (n me : ℕ) (p : Position) (h : Store) where
  abbrev r : ℕ
  r = p.round.0

  abbrev Suspects : ℕ → Type 0
  Suspects s = in_set p.suspected s ≡ true

  -- it accepts the opening of its round with v; a ballot of that round from s, whatever it bears
  abbrev Accepts : ℕ → Type 0
  Accepts v = accepts_opening limits n h r v ≡ true

  abbrev HasBallot : ℕ → Type 0
  HasBallot s = accepts_some limits n h r s ≡ true

  -- how many ballots of that round bear v
  abbrev ballots_for : ℕ → ℕ
  ballots_for v = count_in n (λ (s : ℕ). accepts_ballot limits n h r s v)

  -- It may vote: the round's coordinator has opened it, or is suspected.
  abbrev pub MayVote : Type 0
  MayVote = (opening_entry limits n h r ≢ 0) ⊎ Suspects (coordinator n r)

  -- It may count: it has the ballots of q boards or more, and suspects each board of which it has none.
  pub record MayCount : Type 0 where
    pub enough : quorum n ≤ count_in n (accepts_some limits n h r)
    pub rest : (s : ℕ) → 1 ≤ s → s ≤ n → HasBallot s ⊎ Suspects s

  -- no value has m ballots
  abbrev pub NoneHas : ℕ → Type 0
  NoneHas m = (w : ℕ) → w ≢ 0 → ballots_for w < m

  -- The estimate after a round that decides nothing: a value with e ballots or more, or, where there is none, as before.
  pub data Leaves (v : ℕ) : Type 0 where
    changed : v ≢ 0 → overlap n ≤ ballots_for v → Leaves v
    kept : NoneHas (overlap n) → v ≡ p.estimate → Leaves v

  pub data Acts : Move → Type 0 where
    -- Stage A: the coordinator of the round opens it with its own estimate; any other board passes.
    opens-round : p.stage ≡ Open → me ≡ coordinator n r → Acts (Opens p.estimate)
    says-nothing : p.stage ≡ Open → me ≢ coordinator n r → Acts Passes
    -- Stage B: the board waits until it may vote. Then its ballot is for the value of the opening that it accepts; where it
    -- accepts none, it is blank.
    awaits-opening : p.stage ≡ Vote → (MayVote → ⊥) → Acts Waits
    backs-opening : (v : ℕ) → p.stage ≡ Vote → MayVote → Accepts v → Acts (Ballots v)
    votes-blank : p.stage ≡ Vote → MayVote → ((v : ℕ) → Accepts v → ⊥) → Acts (Ballots 0)
    -- Stage C: it waits until it may count. A value with q ballots or more it decides. Where there is none it goes on to the
    -- next round, or in round 32 is spent, with the estimate that the round leaves it.
    awaits-ballots : p.stage ≡ Count → (MayCount → ⊥) → Acts Waits
    decides-value : (v : ℕ) → p.stage ≡ Count → MayCount → v ≢ 0 → quorum n ≤ ballots_for v → Acts (Decides v)
    goes-on : (v : ℕ) → p.stage ≡ Count → MayCount → NoneHas (quorum n) → r < 32 → Leaves v → Acts (Advances v)
    is-spent : (v : ℕ) → p.stage ≡ Count → MayCount → NoneHas (quorum n) → 32 ≤ r → Leaves v → Acts (Expires v)

-- a turn that is not taken
abbrev pub untaken : Board → Refusal → Turn
untaken b a = record { board = b; answer = Err a; signed = None }

-- What comes of a move: after A comes B, after B comes C, and after C stage A of the next round. A round has two identifiers,
-- 2 r - 1 for its opening and 2 r for its ballots. What a board signs it has delivered.
module _ (me : ℕ) (b : Board) where
  abbrev now : ℕ
  now = b.position.round.0

  abbrev standing_at : ℕ → ℕ → Stage → Position
  standing_at i e s = record { round = record { 0 = i }; estimate = e; stage = s; suspected = b.position.suspected }

  -- a turn that signs nothing, after which it stands there; and one that signs v under i
  abbrev silent : Position → Status → Turn
  silent p s = record { board = record { position = p; delivered = b.delivered; status = s }; answer = Ok tt; signed = None }

  abbrev signing : Position → ℕ → ℕ → Turn
  signing p i v =
      record {
        board = record { position = p; delivered = deliver limits b.delivered me i v; status = Voting };
        answer = Ok tt;
        signed = Some (record { speaker = me; id = record { 0 = i }; value = v });
      }

  pub data Leads : Move → Turn → Type 0 where
    after-waiting : Leads Waits (untaken b Waiting)
    after-passing : Leads Passes (silent (standing_at now b.position.estimate Vote) Voting)
    after-opening : (v : ℕ) → Leads (Opens v) (signing (standing_at now b.position.estimate Vote) (2 * now - 1) v)
    after-voting : (v : ℕ) → Leads (Ballots v) (signing (standing_at now b.position.estimate Count) (2 * now) v)
    after-deciding : (v : ℕ) → Leads (Decides v) (silent b.position (Decided (record { round = record { 0 = now }; value = v })))
    after-round : (v : ℕ) → Leads (Advances v) (silent (standing_at (now + 1) v Open) Voting)
    after-last : (v : ℕ) → Leads (Expires v) (silent (standing_at 32 v Count) Spent)

-- A turn: a board that has not started takes none, and neither does one that is spent or has decided; one that is voting makes
-- its move.
pub data Takes (n me : ℕ) (b : Board) : Turn → Type 0 where
  not-started : b.status ≡ Idle → Takes n me b (untaken b NotStarted)
  was-spent : b.status ≡ Spent → Takes n me b (untaken b Ended)
  had-decided : (d : Decision) → b.status ≡ Decided d → Takes n me b (untaken b Ended)
  makes-move : (m : Move) (t : Turn) → b.status ≡ Voting → Acts n me b.position (heard limits b.delivered) m
      → Leads me b m t → Takes n me b t

-- every entry of a store stands for nothing, for the blank or for a value up to 65,535
abbrev pub OfValues : Store → Type 0
OfValues h = (s i : ℕ) → h s i ≤ 65536

-- the first claim: on a bus that has boards, the rule's move is m exactly where the sentences have it so
abbrev pub SameMove : Type 0
SameMove =
    (n me : ℕ) (p : Position) (h : Store) (m : Move) → 1 ≤ n → OfValues h
    → (rule limits n me p h ≡ m) ↔ Acts n me p h m

-- the second: a turn comes to what the sentences have it come to, where a board that is voting is in a round from 1 to 32
abbrev pub SameTurn : Type 0
SameTurn =
    (n me : ℕ) (b : Board) → 1 ≤ n → OfValues (heard limits b.delivered)
    → (b.status ≡ Voting → (1 ≤ b.position.round.0) × (b.position.round.0 ≤ 32))
    → Takes n me b (turn limits n me b)
