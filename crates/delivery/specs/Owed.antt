-- Document 01, "Delivery": the copies that are owed.
use Rattle.std.specs.Prelude.{ℕ, Bool, replicate, ◌==◌, ◌&&◌, ◌||◌, not}
use Rattle.signer.specs.FromOne.{nth, set_nth}
use Rattle.delivery.specs.Limits.{Limits}
use Rattle.delivery.specs.Sets.{in_set, set_of, bits}
use Rattle.delivery.specs.declared.owed.Copies.{Copies}
use Rattle.delivery.specs.declared.owed.Owed.{Owed}

-- no copy of this speaker's statements is owed
unfoldable pub no_copies : Limits → Copies
no_copies L = record { receivers = replicate L.identifiers 0 }

-- the boards to which a copy of what it said under i is owed
unfoldable pub receivers_at : Copies → ℕ → ℕ
receivers_at c i = nth c.receivers i 0

-- with the boards m there instead
unfoldable pub with_receivers_at : Copies → ℕ → ℕ → Copies
with_receivers_at c i m = record { receivers = set_nth c.receivers i m }

-- nothing is owed
unfoldable pub nothing_owed : Limits → Owed
nothing_owed L = record { speakers = replicate L.boards (no_copies L) }

-- the copies of the statements of s; none where s is no board
unfoldable pub copies_of : Limits → Owed → ℕ → Copies
copies_of L o s = nth o.speakers s (no_copies L)

-- with these of s instead
unfoldable pub with_copies : Owed → ℕ → Copies → Owed
with_copies o s c = record { speakers = set_nth o.speakers s c }

-- the boards to which a copy of what s said under i is owed
unfoldable pub receivers : Limits → Owed → ℕ → ℕ → ℕ
receivers L o s i = receivers_at (copies_of L o s) i

-- with the boards m there instead
unfoldable pub with_receivers : Limits → Owed → ℕ → ℕ → ℕ → Owed
with_receivers L o s i m = with_copies o s (with_receivers_at (copies_of L o s) i m)

-- board k is one of the sound boards, is not the speaker s, and is not among those that have the statement
unfoldable pub lacks : ℕ → ℕ → ℕ → ℕ → Bool
lacks sound have s k = in_set sound k && not (k == s) && not (in_set have k)

-- sound board s has signed under i: a copy is owed to whom one was owed, and to each board that lacks the
-- statement
unfoldable pub after_signing : Limits → Owed → ℕ → ℕ → ℕ → ℕ → Owed
after_signing L o s i sound have =
    with_receivers L o s i (set_of bits (λ (k : ℕ). in_set (receivers L o s i) k || lacks sound have s k))

-- sound board j has delivered what s said under i: the same for every board other than j (the copies to those that
-- lack it are the ECHO of the published vote), and none is owed to j any more
unfoldable pub after_delivery : Limits → Owed → ℕ → ℕ → ℕ → ℕ → ℕ → Owed
after_delivery L o j s i sound have =
    with_receivers
    L
    o
    s
    i
    (set_of bits (λ (k : ℕ). not (k == j) && (in_set (receivers L o s i) k || lacks sound have s k)))
