-- What holds of every list of requests to a fresh signer: nothing is asked of it, and src/claims promises it.
use Rattle.std.specs.Prelude.{ℕ, ◌≡◌, ◌≤◌, ◌<◌, Bool, true, false, List, ◌∷◌, ◌++◌, ◌⊎◌, ◌↔◌}
use Rattle.signer.specs.Log.{identifiers, entry_at}
use Rattle.signer.specs.Signer.{Request, fresh_signer, Signed, WasSigned, ask, after, history}
use Rattle.signer.specs.declared.signer.Signer.{Signer}

-- a fresh signer after these requests
abbrev pub asked : List Request → Signer
asked rs = after identifiers (fresh_signer identifiers) rs

-- each of them with its answer, and after them each of some more
abbrev pub answered : List Request → List (Request × Bool)
answered rs = history identifiers (fresh_signer identifiers) rs

abbrev pub answered_after : List Request → List Request → List (Request × Bool)
answered_after rs more = history identifiers (asked rs) more

-- of these requests one was for v under i, and was answered "signed"
abbrev pub SignedIn : List Request → ℕ → ℕ → Type 0
SignedIn rs i v = WasSigned identifiers (fresh_signer identifiers) rs i v

-- v stands under i after them
abbrev pub StandsAfter : List Request → ℕ → ℕ → Type 0
StandsAfter rs i v = Signed (asked rs) i v

-- after them the request r is refused
abbrev pub IsRefused : List Request → Request → Type 0
IsRefused rs r = (ask identifiers (asked rs) r).signed ≡ false

-- no two values are signed under one identifier
abbrev pub OneValue : Type 0
OneValue = (rs : List Request) (i v w : ℕ) → SignedIn rs i v → SignedIn rs i w → v ≡ w

-- what was answered "signed" is exactly what stands in the end
abbrev pub Stands : Type 0
Stands = (rs : List Request) (i v : ℕ) → SignedIn rs i v ↔ StandsAfter rs i v

-- and it stays, whatever is asked next
abbrev pub Stays : Type 0
Stays = (rs more : List Request) (i v : ℕ) → StandsAfter rs i v → StandsAfter (rs ++ more) i v

-- `last` is the highest identifier signed: it is 0 or signed, an identifier that is signed is at most `last`, and it never
-- falls
abbrev pub Highest : Type 0
Highest =
    (rs : List Request)
    → (((asked rs).last.0 ≡ 0) ⊎ ((v : ℕ) × StandsAfter rs (asked rs).last.0 v))
    × ((i v : ℕ) → StandsAfter rs i v → i ≤ (asked rs).last.0)

abbrev pub Rises : Type 0
Rises = (rs more : List Request) → (asked rs).last.0 ≤ (asked (rs ++ more)).last.0

-- a request is granted exactly if its identifier is above `last` and is one, whatever the value is; so the blank is signed
-- as a value is
abbrev pub Granted : Type 0
Granted =
    (rs : List Request) (r : Request)
    → ((ask identifiers (asked rs) r).signed ≡ true) ↔ (((asked rs).last.0 < r.identifier) × (r.identifier ≤ identifiers))

-- and the blank that is signed stands, where no statement would
abbrev pub BlankStands : Type 0
BlankStands = (rs : List Request) (i : ℕ) → StandsAfter rs i 0 → entry_at (asked rs).log i ≡ 0 → ⊥

-- a refused request changes nothing
abbrev pub Unchanged : Type 0
Unchanged = (rs : List Request) (r : Request) → IsRefused rs r → (ask identifiers (asked rs) r).signer ≡ asked rs

-- and is skipped: after more requests the signer is as it would be without it, and they get the answers that they get where
-- they are asked right after those before it
abbrev pub Skipped : Type 0
Skipped =
    (rs more : List Request) (r : Request)
    → IsRefused rs r
    → (asked (rs ++ r ∷ more) ≡ asked (rs ++ more))
    × (answered (rs ++ r ∷ more) ≡ answered rs ++ (r, false) ∷ answered_after rs more)
