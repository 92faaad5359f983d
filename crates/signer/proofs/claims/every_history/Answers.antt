-- Each claim about a fresh signer is read off what a list of requests makes of a signer. Assumes nothing.
use Prim.Native.Nat.{◌-◌}
use native.Mathlib.Omega.{arith}
use mathlib.Core.Logic.{inl, inr, ⊎_elim}
use Rattle.std.proofs.lemmas.Bool.Decides.{nat_tests}
use Rattle.std.specs.Prelude.{List}
use Rattle.signer.specs.FromOne.{is_within}
use Rattle.signer.specs.Log.{identifiers, entry_at}
use Rattle.signer.specs.Signer.{Request, fresh_signer, grants, sign, after, history}
use Rattle.signer.specs.Claims.{asked, Stands, Highest}
use Rattle.signer.proofs.SignerLaws.{fresh-last, fresh-unsigned, fresh-wellformed}
use Rattle.signer.proofs.HistoryLaws.{Leads, leads, after-append, history-append}
use Rattle.signer.proofs.claims.every_history.Goals as goal

-- after any requests a fresh signer is one that these led to, and after more, one that those led to from there
fresh-leads : (rs : List Request) → Leads identifiers (fresh_signer identifiers) rs
fresh-leads rs = leads identifiers (fresh_signer identifiers) rs (fresh-wellformed identifiers)

more-leads : (rs more : List Request) → Leads identifiers (asked rs) more
more-leads rs more = leads identifiers (asked rs) more (fresh-leads rs).formed

fresh-stands : Stands
fresh-stands rs i v = grind (arith, (fresh-leads rs).stands i v, fresh-unsigned identifiers i v)

-- what stands under `last` has an entry of one more than its value
fresh-highest : Highest
fresh-highest rs = (
  ⊎_elim
      inl
      (λ p. inr (entry_at (asked rs).log (asked rs).last.0 - 1, omega arith))
      ((fresh-leads rs).reached (inl (fresh-last identifiers))),
  (fresh-leads rs).formed.capped,
)

pub returns : goal.returns
unfolding after history sign grants is_within
returns c =
    record {
      one_value = λ rs i v w p q. grind (arith, fresh-stands rs i v, fresh-stands rs i w);
      stands = fresh-stands;
      stays = λ rs more i v h. rw after-append (grind (arith, (more-leads rs more).stands i v));
      highest = fresh-highest;
      rises = λ rs more. rw after-append (more-leads rs more).rises;
      granted = λ rs r. grind (arith, nat_tests);
      blank = λ rs i p q. omega arith;
      unchanged = λ rs r h. grind arith;
      skipped = λ rs more r h. grind (arith, after-append, history-append);
    }
