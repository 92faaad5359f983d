-- Laws of a list of events that is played from its bytes: what one event more does, how long the lists are, and what is
-- written in a lent buffer. Assumes nothing.
use Prim.Native.Nat.{ℕ, zero, suc, ◌+◌, ◌-◌, ◌*◌, ◌≤◌, ◌<◌, ◌/◌}
use native.Mathlib.Nat.{zero-add}
use native.Mathlib.Omega.{arith}
use mathlib.Core.Path.{◌≡◌, refl, ap, ◌∙◌}
use mathlib.Core.List.{List, [], ◌∷◌, ◌++◌}
use lib.ListN.{length, drop, length-append, length-drop, get_or-append}
use lib.Seq.{sets, sets-eq, drop-drop}
use Rattle.std.proofs.lemmas.Bool.Decides.{nat_tests}
use Rattle.delivery.specs.Limits.{Limits}
use Rattle.bench.specs.Events.{high_first, event_bytes, event_from}
use Rattle.bench.specs.Answers.{answer_number}
use Rattle.bench.specs.Effects.{step_of}
use Rattle.bench.specs.Runs.{steps, last_of, after, answers_to, events_in, ending_of, played_by, events_played, written}
use Rattle.bench.specs.Story.{history_of}
use Rattle.bench.specs.declared.bench.Bench.{Bench}
use Rattle.bench.specs.declared.event.Event.{Event}

-- an event is its six bytes, and no byte after them matters
pub event-bytes : (k a b i high low : ℕ) (bs : List ℕ)
    → event_from (k ∷ a ∷ b ∷ i ∷ high ∷ low ∷ bs)
    ≡ record { kind = k; a = a; b = b; id = i; value = high_first high low }
unfolding event_from
event-bytes k a b i high low bs = refl

pub event-append : (bs more : List ℕ) → event_bytes ≤ length bs → event_from (bs ++ more) ≡ event_from bs
unfolding event_from
event-append bs more h = grind (arith, get_or-append)

-- what comes of no event, and of one and then others
pub steps-nil : (L : Limits) (c : Bench) → steps L c [] ≡ []
unfolding steps
steps-nil L c = refl

pub steps-cons : (L : Limits) (c : Bench) (e : Event) (es : List Event)
    → steps L c (e ∷ es) ≡ step_of L c e ∷ steps L (step_of L c e).bench es
unfolding steps
steps-cons L c e es = refl

-- the bench after no event, and after one and then others
pub after-nil : (L : Limits) (c : Bench) → after L c [] ≡ c
unfolding after steps last_of
after-nil L c = refl

pub after-cons : (L : Limits) (c : Bench) (e : Event) (es : List Event)
    → after L c (e ∷ es) ≡ after L (step_of L c e).bench es
unfolding after steps last_of
after-cons L c e es = refl

-- and the answers to them
pub answers-nil : (L : Limits) (c : Bench) → answers_to L c [] ≡ []
unfolding answers_to steps
answers-nil L c = refl

pub answers-cons : (L : Limits) (c : Bench) (e : Event) (es : List Event)
    → answers_to L c (e ∷ es) ≡ answer_number (step_of L c e).answer ∷ answers_to L (step_of L c e).bench es
unfolding answers_to steps
answers-cons L c e es = refl

-- no events, and one more
pub events-none : (bs : List ℕ) → events_in 0 bs ≡ []
unfolding events_in
events-none bs = refl

pub events-more : (k : ℕ) (bs : List ℕ) → events_in (suc k) bs ≡ event_from bs ∷ events_in k (drop event_bytes bs)
unfolding events_in
events-more k bs = refl

-- as many events are read as are asked for
pub length-events : (k : ℕ) (bs : List ℕ) → length (events_in k bs) ≡ k
unfolding events_in
length-events zero bs = refl
length-events (suc k) bs = ap suc (length-events k (drop event_bytes bs))

-- and each is answered
pub length-answers : (L : Limits) (c : Bench) (es : List Event) → length (answers_to L c es) ≡ length es
unfolding answers_to steps
length-answers L c [] = refl
length-answers L c (e ∷ es) = ap suc (length-answers L (step_of L c e).bench es)

-- of the events that are left after k of n, the first is at the head of the bytes that are left
pub events-next : (n k at : ℕ) (bs : List ℕ) → k < n
    → events_in (n - k) (drop at bs) ≡ event_from (drop at bs) ∷ events_in (n - (k + 1)) (drop (at + event_bytes) bs)
events-next n k at bs h =
    let e : n - k ≡ suc (n - (k + 1)) = omega arith in
    grind (arith, e, events-more (n - (k + 1)) (drop at bs), drop-drop event_bytes at bs)

-- writing one after another from the start is writing all in place of the first
pub sets-written : (xs ys : List ℕ) → length xs ≤ length ys → sets ys 0 xs ≡ written xs ys
unfolding written
sets-written xs ys h = sets-eq xs ys 0 (omega arith) ∙ ap (λ (m : ℕ). xs ++ drop m ys) (zero-add (length xs))

-- what the list and the buffer of a run are known by
pub ruleset run_lengths = (length-events, length-answers, sets-written)

-- a buffer that is written stays as long as it was
pub length-written : (xs ys : List ℕ) → length xs ≤ length ys → length (written xs ys) ≡ length ys
unfolding written
length-written xs ys h = omega (arith, length-append xs (drop (length xs) ys), length-drop (length xs) ys)

-- there is room for the answers to what is played
pub played-fits : (bs : List ℕ) (room : ℕ) → length (events_played bs room) ≤ room
unfolding ending_of played_by
played-fits bs room = grind (arith, nat_tests, length-events)

-- whole events for which there is room are played
pub events-played : (k room : ℕ) (bs : List ℕ) → length bs ≡ event_bytes * k → k ≤ room
    → events_played bs room ≡ events_in k bs
unfolding ending_of played_by
events-played k room bs e h = let count : length bs / event_bytes ≡ k = omega arith in grind (arith, nat_tests, count)

-- a history looks at no more of the buffer than the answers
history-append : (L : Limits) (c : Bench) (es : List Event) (ys : List ℕ)
    → history_of es (answers_to L c es ++ ys) ≡ history_of es (answers_to L c es)
unfolding history_of answers_to steps
history-append L c [] ys = refl
history-append L c (e ∷ es) ys = grind (arith, history-append L (step_of L c e).bench es ys)

pub history-written : (L : Limits) (c : Bench) (es : List Event) (buf : List ℕ)
    → history_of es (written (answers_to L c es) buf) ≡ history_of es (answers_to L c es)
unfolding written
history-written L c es buf = history-append L c es (drop (length (answers_to L c es)) buf)

-- the bytes of one event are played as that event
one-event : (bs : List ℕ) → length bs ≡ event_bytes → events_played bs 1 ≡ event_from bs ∷ []
unfolding ending_of played_by
one-event bs n =
    let one : length bs / event_bytes ≡ 1 = omega (arith, n) in
    let read : events_in (length bs / event_bytes) bs ≡ event_from bs ∷ [] =
    rw (one, events-more 0 bs, events-none (drop event_bytes bs)) refl in
    grind (arith, nat_tests, n, one, read)

pub one-played : (L : Limits) (c : Bench) (bs : List ℕ) (m : ℕ) → length bs ≡ event_bytes → let x = step_of L c (event_from bs) in
    (after L c (events_played bs 1) ≡ x.bench)
    × (written (answers_to L c (events_played bs 1)) (m ∷ []) ≡ answer_number x.answer ∷ [])
unfolding written
one-played L c bs m n =
    let e = event_from bs in
    let x = step_of L c e in
    let answers : answers_to L c (e ∷ []) ≡ answer_number x.answer ∷ [] =
    answers-cons L c e [] ∙ ap (λ (ms : List ℕ). answer_number x.answer ∷ ms) (answers-nil L x.bench) in
    rw (one-event bs n, answers) (after-cons L c e [] ∙ after-nil L x.bench, refl)
