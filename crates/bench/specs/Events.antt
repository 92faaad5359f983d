-- Document 01, "Events" and "Schedule file and program": the kinds of events, the fields that each uses, and an event's
-- bytes.
use Rattle.std.specs.Prelude.{ℕ, ◌+◌, ◌*◌, Bool, List, Result, Ok, Err, slice_index, if◌then◌else◌, ◌==◌, ◌||◌}
use Rattle.bench.specs.declared.answer.Refusal.{Refusal}
use Rattle.bench.specs.declared.answer.Refusal.TheVariants.{NoKind}
use Rattle.bench.specs.declared.event.Event.{Event}
use Rattle.bench.specs.declared.event.Kind.{Kind}
use Rattle.bench.specs.declared.event.Kind.TheVariants.{Propose, Turn, Deliver, Announce, Suspect, Trust, Sign}

-- the kinds
abbrev pub proposing : ℕ
proposing = 1

abbrev pub turning : ℕ
turning = 2

abbrev pub delivering : ℕ
delivering = 3

abbrev pub announcing : ℕ
announcing = 4

abbrev pub suspecting : ℕ
suspecting = 5

abbrev pub trusting : ℕ
trusting = 6

abbrev pub signing : ℕ
signing = 7

unfoldable pub kind_number : Kind → ℕ
kind_number Propose = proposing
kind_number Turn = turning
kind_number Deliver = delivering
kind_number Announce = announcing
kind_number Suspect = suspecting
kind_number Trust = trusting
kind_number Sign = signing

-- the kind that a number stands for
unfoldable pub kind_of : ℕ → Result Kind Refusal
kind_of k =
    if k == proposing then Ok Propose
    else if k == turning then Ok Turn
    else if k == delivering then Ok Deliver
    else if k == announcing then Ok Announce
    else if k == suspecting then Ok Suspect
    else if k == trusting then Ok Trust
    else if k == signing then Ok Sign
    else Err NoKind

-- Every kind is about the board a. Some name another, b: the speaker of a statement, the announcer, or whom a suspects or
-- trusts.
unfoldable pub uses_other : ℕ → Bool
uses_other k = k == delivering || k == announcing || k == suspecting || k == trusting

-- some have an identifier, or the round of an announcement
unfoldable pub uses_id : ℕ → Bool
uses_id k = k == delivering || k == announcing || k == signing

-- and some have a value
unfoldable pub uses_value : ℕ → Bool
uses_value k = k == proposing || uses_id k

-- a number in two bytes, the high one first
abbrev pub high_first : ℕ → ℕ → ℕ
high_first high low = high * 256 + low

-- an event's bytes: kind, a, b, id, and the value
abbrev pub event_bytes : ℕ
event_bytes = 6

unfoldable pub event_from : List ℕ → Event
event_from bs =
    record {
      kind = slice_index bs 0;
      a = slice_index bs 1;
      b = slice_index bs 2;
      id = slice_index bs 3;
      value = high_first (slice_index bs 4) (slice_index bs 5);
    }
