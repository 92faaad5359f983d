-- Worked examples of signers and entries, with the numbers written out; letter d of the bench examples is one of them.
-- They are computed in proofs/ExampleLaws.
use Rattle.std.specs.Prelude.{ℕ, suc, ◌≡◌, Bool, true, false, List, [], ◌∷◌, map}
use Rattle.signer.specs.Log.{identifiers, entry_of, value_of, entry_at}
use Rattle.signer.specs.Signer.{Request, fresh_signer, after, history}

-- a request for v under i
abbrev pub under : ℕ → ℕ → Request
under i v = record { identifier = i; value = v }

-- what a fresh signer answers to each of these
abbrev pub answers : List Request → List Bool
answers rs = map (λ (h : Request × Bool). h.1) (history identifiers (fresh_signer identifiers) rs)

-- letter d: asked under 5, 3, 5 and 6, for any four values, it signs the first, refuses the next two and signs the last
abbrev pub LetterD : Type 0
LetterD =
    (u v w x : ℕ)
    → answers (under 5 u ∷ under 3 v ∷ under 5 w ∷ under 6 x ∷ []) ≡ true ∷ false ∷ false ∷ true ∷ []

-- after that `last` is 6, and under 5 and 6 stand the entries of what was signed, under 3 none
abbrev pub KeptD : Type 0
KeptD =
    (u v w x : ℕ)
    → let s = after identifiers (fresh_signer identifiers) (under 5 u ∷ under 3 v ∷ under 5 w ∷ under 6 x ∷ []) in
    (s.last.0 ≡ 6) × (entry_at s.log 5 ≡ suc u) × (entry_at s.log 3 ≡ 0) × (entry_at s.log 6 ≡ suc x)

-- 1 and 64 are identifiers, 0 and 65 are none
abbrev pub Ends : Type 0
Ends =
    (u v w x : ℕ)
    → answers (under 0 u ∷ under 1 v ∷ under 65 w ∷ under 64 x ∷ []) ≡ false ∷ true ∷ false ∷ true ∷ []

-- entries: the blank's is 1 and that of the highest value 65,536; 0 stands for nothing, and what is above for no value
abbrev pub Entries : Type 0
Entries =
    (entry_of 0 ≡ 1)
    × (entry_of 1 ≡ 2)
    × (entry_of 65535 ≡ 65536)
    × (value_of 0 ≡ 0)
    × (value_of 1 ≡ 0)
    × (value_of 2 ≡ 1)
    × (value_of 65536 ≡ 65535)
    × (value_of 65537 ≡ 0)
