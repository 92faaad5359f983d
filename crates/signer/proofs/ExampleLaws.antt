-- The examples of specs/Examples, computed. Assumes nothing.
use Rattle.std.specs.Prelude.{refl}
use Rattle.signer.specs.FromOne.{is_within, nth, set_nth}
use Rattle.signer.specs.Log.{value_of, empty_log, entry_at, with_entry}
use Rattle.signer.specs.Signer.{fresh_signer, grants, sign, after, history}
use Rattle.signer.specs.Examples.{LetterD, KeptD, Ends, Entries}

pub letter-d : LetterD
unfolding history sign grants is_within fresh_signer
letter-d u v w x = refl

pub kept-d : KeptD
unfolding after sign grants is_within fresh_signer empty_log entry_at with_entry nth set_nth
kept-d u v w x = (refl, refl, refl, refl)

pub ends : Ends
unfolding history sign grants is_within fresh_signer
ends u v w x = refl

pub entries : Entries
unfolding value_of
entries = (refl, refl, refl, refl, refl, refl, refl, refl)

pub ruleset examples = (letter-d, kept-d, ends, entries)
