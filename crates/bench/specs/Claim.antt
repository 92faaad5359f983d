-- Agreement: what is claimed of a history of events and answers, and of the bench after it. It is one claim about the whole
-- list. `Bench::play` promises it of each list that it plays, and `every_list` of every list.
use Rattle.std.specs.Prelude.{ℕ, ◌≡◌, true, false, List, ◌∷◌, ◌++◌, ◌⊎◌, ◌↔◌, Some}
use Rattle.signer.specs.FromOne.{is_within}
use Rattle.signer.specs.Log.{entry_of}
use Rattle.delivery.specs.Limits.{Limits}
use Rattle.delivery.specs.Rounds.{is_round, coordinator, identifier_of}
use Rattle.delivery.specs.Sets.{in_set}
use Rattle.delivery.specs.Owed.{receivers}
use Rattle.delivery.specs.declared.round.Phase.TheVariants.{Opening}
use Rattle.vote.specs.declared.rule.Move.TheVariants.{Decides}
use Rattle.bench.specs.Events.{proposing, turning, delivering, announcing, signing}
use Rattle.signer.specs.Signer.{grants}
use Rattle.vote.specs.Turns.{turn}
use Rattle.vote.specs.declared.statement.Statement.{Statement}
use Rattle.bench.specs.Benches.{board_at, signer_at, heard_by, signed_by}
use Rattle.bench.specs.Setups.{Setup, setup, fresh_of}
use Rattle.bench.specs.Shows.{decided_as, shown}
use Rattle.bench.specs.Story.{History, Standing, move_of, saying, standing_after}
use Rattle.bench.specs.declared.bench.Bench.{Bench}
use Rattle.bench.specs.declared.event.Event.{Event}

-- a moment of a history: an event that was answered 0, with what had happened before it and what came after
pub record Moment (H : History) : Type 0 where
  pub before : History
  pub event : Event
  pub later : History
  pub whole : H ≡ before ++ (record { event = event; answer = 0 } ∷ later)

-- what an event says by itself
pub record Proposes (e : Event) (k v : ℕ) : Type 0 where
  pub kind : e.kind ≡ proposing
  pub board : e.a ≡ k
  pub value : e.value ≡ v

pub record Delivers (e : Event) (k s i v : ℕ) : Type 0 where
  pub kind : e.kind ≡ delivering
  pub board : e.a ≡ k
  pub speaker : e.b ≡ s
  pub id : e.id ≡ i
  pub value : e.value ≡ v

pub record Announces (e : Event) (k r v : ℕ) : Type 0 where
  pub kind : e.kind ≡ announcing
  pub board : e.a ≡ k
  pub round : e.id ≡ r
  pub value : e.value ≡ v

pub record Asks (e : Event) (k i v : ℕ) : Type 0 where
  pub kind : e.kind ≡ signing
  pub board : e.a ≡ k
  pub id : e.id ≡ i
  pub value : e.value ≡ v

-- something was so at some moment
pub record Once (H : History) (P : History → Event → Type 0) : Type 0 where
  pub moment : Moment H
  pub so : P moment.before moment.event

-- on a bus of n boards of which some are sound
module _ (L : Limits) (S : Setup) where
  abbrev pub Sound : ℕ → Type 0
  Sound k = in_set S.sound k ≡ true

  abbrev pub Faulty : ℕ → Type 0
  Faulty k = (is_within S.n k ≡ true) × (in_set S.sound k ≡ false)

  -- a turn has board k, which stands so, sign value v under identifier i, or decide v in round r
  pub record TurnSigns (t : Standing) (e : Event) (k i v : ℕ) : Type 0 where
    pub kind : e.kind ≡ turning
    pub board : e.a ≡ k
    pub says : saying L S.n k t ≡ Some (record { speaker = k; id = record { 0 = i }; value = v })

  pub record TurnDecides (t : Standing) (e : Event) (k r v : ℕ) : Type 0 where
    pub kind : e.kind ≡ turning
    pub board : e.a ≡ k
    pub decides : move_of L S.n k t ≡ Decides v
    pub round : t.position.round.0 ≡ r

  -- what happened in a history: board k proposed v; it signed v under i; it delivered v from s under i; it decided v in
  -- round r
  abbrev pub Proposed : History → ℕ → ℕ → Type 0
  Proposed H k v = Once H (λ (B : History) (e : Event). Proposes e k v)

  abbrev pub SignedInTurn : History → ℕ → ℕ → ℕ → Type 0
  SignedInTurn H k i v = Once H (λ (B : History) (e : Event). TurnSigns (standing_after L S.n k B) e k i v)

  abbrev pub Asked : History → ℕ → ℕ → ℕ → Type 0
  Asked H k i v = Once H (λ (B : History) (e : Event). Asks e k i v)

  abbrev pub Signed : History → ℕ → ℕ → ℕ → Type 0
  Signed H k i v = (Sound k × SignedInTurn H k i v) ⊎ (Faulty k × Asked H k i v)

  abbrev pub Reached : History → ℕ → ℕ → ℕ → ℕ → Type 0
  Reached H k s i v = Once H (λ (B : History) (e : Event). Delivers e k s i v)

  abbrev pub Delivered : History → ℕ → ℕ → ℕ → ℕ → Type 0
  Delivered H k s i v = Sound k × (((s ≡ k) × Signed H k i v) ⊎ Reached H k s i v)

  abbrev pub Decided : History → ℕ → ℕ → ℕ → Type 0
  Decided H k r v =
      Sound k
      × (Once H (λ (B : History) (e : Event). Announces e k r v)
      ⊎ Once H (λ (B : History) (e : Event). TurnDecides (standing_after L S.n k B) e k r v))

  -- An event makes a copy of a statement of s become owed to k, if k lacks it: s is sound, stands so and signs it in a turn,
  -- or a sound board other than k delivers it.
  pub data Spreads (t : Standing) (e : Event) (k s i v : ℕ) : Type 0 where
    by-signing : Sound s → TurnSigns t e s i v → Spreads t e k s i v
    by-echo : (j : ℕ) → Sound j → (j ≡ k → ⊥) → Delivers e j s i v → Spreads t e k s i v

  -- A copy of what s said is owed to k, another sound board: it became owed at some moment when k had not delivered the
  -- statement, and has not been delivered to k since.
  pub record Owed (H : History) (k s i v : ℕ) : Type 0 where
    pub is-sound : Sound k
    pub other : k ≡ s → ⊥
    pub moment : Moment H
    pub spreads : Spreads (standing_after L S.n s moment.before) moment.event k s i v
    pub not-before : Delivered moment.before k s i v → ⊥
    pub not-since : Reached moment.later k s i v → ⊥

  -- where a decided value comes from: a sound board proposed it, or a faulty one signed it as the opening of a round that
  -- it coordinates
  pub data Origin (H : History) (v : ℕ) : Type 0 where
    was-proposed : (p : ℕ) → Sound p → Proposed H p v → Origin H v
    was-opened : (p r : ℕ) → Faulty p → is_round L r ≡ true → coordinator S.n r ≡ p
        → Signed H p (identifier_of L Opening r) v → Origin H v

  -- no copy is owed; and all sound boards have delivered the same statements
  abbrev pub NothingOwed : History → Type 0
  NothingOwed H = (k s i v : ℕ) → Owed H k s i v → ⊥

  abbrev pub AllAlike : History → Type 0
  AllAlike H = (j k : ℕ) → Sound j → Sound k → (s i v : ℕ) → Delivered H j s i v → Delivered H k s i v

  -- the bench shows exactly these decisions, deliveries, signatures and owed copies; and it marks no board as owed a copy
  -- to which none is owed
  pub record Shows (H : History) (c : Bench) : Type 0 where
    pub decided : (k r v : ℕ) → Decided H k r v ↔ (shown L c k ≡ decided_as r v)
    pub delivered : (k s i v : ℕ) → Delivered H k s i v ↔ (heard_by L c k s i ≡ entry_of v)
    pub signed : (k i v : ℕ) → Signed H k i v ↔ (signed_by L c k i ≡ entry_of v)
    pub owed : (k s i v : ℕ) → Owed H k s i v ↔ ((in_set (receivers L c.owed s i) k ≡ true) × (signed_by L c s i ≡ entry_of v))
    pub no_more : (k s i : ℕ) → in_set (receivers L c.owed s i) k ≡ true → (v : ℕ) × Owed H k s i v

-- The claim, of a history H that starts from n and the marks, whatever these are, and of the bench c after it.
pub record Agreement (L : Limits) (n : ℕ) (marks : List ℕ) (H : History) (c : Bench) : Type 0 where
  -- any two sound boards that decided, or one that did so twice, decided the same value; and one board in one round
  pub agreement : (j k r r' v w : ℕ) → Decided L (setup L n marks) H j r v → Decided L (setup L n marks) H k r' w → v ≡ w
  pub one_round : (k r r' v w : ℕ) → Decided L (setup L n marks) H k r v → Decided L (setup L n marks) H k r' w → r ≡ r'
  -- a decided value has an origin
  pub validity : (k r v : ℕ) → Decided L (setup L n marks) H k r v → Origin L (setup L n marks) H v
  -- under one identifier a board has signed one value at most; and what a sound board has delivered was signed
  pub one_value : (k i v w : ℕ) → Signed L (setup L n marks) H k i v → Signed L (setup L n marks) H k i w → v ≡ w
  pub integrity : (k s i v : ℕ) → Delivered L (setup L n marks) H k s i v → Signed L (setup L n marks) H s i v
  -- no copy is owed exactly when all sound boards have delivered the same
  pub owed : NothingOwed L (setup L n marks) H ↔ AllAlike L (setup L n marks) H
  -- the bench shows all this; its boards are those that the call for the fresh bench asked for, and are marked as there
  pub shows : Shows L (setup L n marks) H c
  pub fixed : (c.n ≡ (fresh_of L n marks).bench.n) × (c.sound ≡ (fresh_of L n marks).bench.sound)
  -- each sound board stands where the story has it, and has delivered what it has there
  pub stands : (k : ℕ) → Sound L (setup L n marks) k → let t = standing_after L (setup L n marks).n k H in
      ((board_at L c k).position ≡ t.position) × ((s i : ℕ) → heard_by L c k s i ≡ t.heard s i)
  -- and what it says in its next turn its signer signs
  pub signs : (k : ℕ) → Sound L (setup L n marks) k → (x : Statement) → (turn L c.n k (board_at L c k)).signed ≡ Some x
      → grants L.identifiers (signer_at L c k) x.id.0 ≡ true
