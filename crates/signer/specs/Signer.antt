-- Document 01, "Signer": first a fresh signer and what one request does, then a list of requests.
use Rattle.std.specs.Prelude.{ℕ, ◌≡◌, Bool, true, false, ◌&&◌, nat_lt}
use mathlib.Core.List.{List, [], ◌∷◌, Memᴰ}
use Rattle.std.specs.Prelude.{if◌then◌else◌}
use Rattle.signer.specs.Log.{entry_of, is_identifier, empty_log, entry_at, with_entry}
use Rattle.signer.specs.declared.signer.Signer.{Signer}

-- a fresh signer: `last` is 0, and nothing is signed
unfoldable pub fresh_signer : ℕ → Signer
fresh_signer limit = record { last = record { 0 = 0 }; log = empty_log limit }

-- the signer has signed value v under identifier i
abbrev pub Signed : Signer → ℕ → ℕ → Type 0
Signed s i v = entry_at s.log i ≡ entry_of v

-- a request under i is granted if i is an identifier above `last`; the value plays no part
unfoldable pub grants : ℕ → Signer → ℕ → Bool
grants limit s i = is_identifier limit i && nat_lt s.last.0 i

-- what comes of a request: the signer afterwards, and whether it signed
pub record Signing : Type 0 where
  pub signer : Signer
  pub signed : Bool

-- a request for value v under identifier i: if it is granted, v is recorded under i, which is the new
-- `last`; if it is refused, the signer is as it was, so nothing later depends on what was refused
unfoldable pub sign : ℕ → Signer → ℕ → ℕ → Signing
sign limit s i v =
    if grants limit s i
    then record { signer = record { last = record { 0 = i }; log = with_entry s.log i (entry_of v) }; signed = true }
    else record { signer = s; signed = false }

-- a request; in a list of them the oldest comes first
pub record Request : Type 0 where
  pub identifier : ℕ
  pub value : ℕ

-- what comes of a request
abbrev pub ask : ℕ → Signer → Request → Signing
ask limit s r = sign limit s r.identifier r.value

-- the signer after the list
unfoldable pub after : ℕ → Signer → List Request → Signer
after limit s [] = s
after limit s (r ∷ rs) = after limit (ask limit s r).signer rs

-- each request with its answer: true if it was signed
unfoldable pub history : ℕ → Signer → List Request → List (Request × Bool)
history limit s [] = []
history limit s (r ∷ rs) = (r, (ask limit s r).signed) ∷ history limit (ask limit s r).signer rs

-- a request for v under i is in the list, and was signed
abbrev pub WasSigned : ℕ → Signer → List Request → ℕ → ℕ → Type 0
WasSigned limit s rs i v = Memᴰ (record { identifier = i; value = v }, true) (history limit s rs)
