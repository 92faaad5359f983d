-- Laws of a list of requests: what stands at the end is exactly what was signed on the way, once and for good.
-- Assumes nothing.
use Prim.Native.Nat.{ℕ, ◌≤◌}
use native.Mathlib.Omega.{arith}
use mathlib.Core.Path.{◌≡◌, refl}
use mathlib.Core.Logic.{◌⊎◌}
use mathlib.Core.List.Memᴰ
use mathlib.Core.List.{List, [], ◌∷◌, ◌++◌}
use Rattle.std.specs.Prelude.{◌↔◌}
use Rattle.std.proofs.lemmas.Bool.Decides.{nat_tests}
use Rattle.signer.specs.Log.{entry_at}
use Rattle.signer.specs.Signer.{Request, Signed, WasSigned, ask, after, history}
use Rattle.signer.specs.declared.signer.Signer.{Signer}
use Rattle.signer.proofs.SignerLaws.{WellFormed, sign-wellformed, asks}

-- `last` is 0, or under it stands what was signed
abbrev pub Reached : Signer → Type 0
Reached s = (s.last.0 ≡ 0) ⊎ (1 ≤ entry_at s.log s.last.0)

-- what a list of requests makes of the signer s: it stays well-formed, `last` never falls and is reached, and
-- what stands afterwards is what stood before and what was signed on the way
pub record Leads (limit : ℕ) (s : Signer) (rs : List Request) : Type 0 where
  pub formed : WellFormed limit (after limit s rs)
  pub rises : s.last.0 ≤ (after limit s rs).last.0
  pub reached : Reached s → Reached (after limit s rs)
  pub stands : (i v : ℕ) → Signed (after limit s rs) i v ↔ (Signed s i v ⊎ WasSigned limit s rs i v)

-- a member of a longer list
ruleset members = (Memᴰ.head, Memᴰ.tail, Memᴰ.cases_cons)

module _ (limit : ℕ) where
  pub leads : (s : Signer) (rs : List Request) → WellFormed limit s → Leads limit s rs
  unfolding after history
  leads s [] w =
      record {
        formed = w;
        rises = omega arith;
        reached = λ h. h;
        stands = λ i v. grind (arith, Memᴰ.not-nil);
      }
  leads s (r ∷ rs) w =
      let t = leads (ask limit s r).signer rs (sign-wellformed limit s r.identifier r.value w) in
      record {
        formed = t.formed;
        rises = grind (arith, t.rises, asks);
        reached = λ h. t.reached (grind (arith, nat_tests, h, asks));
        stands = λ i v. grind (arith, nat_tests, t.stands i v, w.capped i v, asks, members);
      }

  -- one list after another
  pub after-append : (s : Signer) (xs ys : List Request) → after limit s (xs ++ ys) ≡ after limit (after limit s xs) ys
  unfolding after
  after-append s [] ys = refl
  after-append s (x ∷ xs) ys = after-append (ask limit s x).signer xs ys

  pub history-append : (s : Signer) (xs ys : List Request)
      → history limit s (xs ++ ys) ≡ history limit s xs ++ history limit (after limit s xs) ys
  unfolding after history
  history-append s [] ys = refl
  history-append s (x ∷ xs) ys = grind (arith, history-append (ask limit s x).signer xs ys)
