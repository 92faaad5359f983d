-- Each claim is a law, or what the laws of its subject say together. Assumes nothing.
use native.Mathlib.Omega.{arith}
use Rattle.delivery.specs.Limits.{limits}
use Rattle.delivery.specs.Claims.{HasSets}
use Rattle.delivery.specs.declared.owed.Owed.{Owed}
use Rattle.delivery.proofs.SetLaws.{in-none}
use Rattle.delivery.proofs.GrowthLaws.{deliver-grows}
use Rattle.delivery.proofs.DeliveredLaws as delivered
use Rattle.delivery.proofs.OwedLaws as owed
use Rattle.delivery.proofs.EchoLaws as echo
use Rattle.delivery.proofs.claims.every_copy.Goals as goal

-- the form of a record of owed copies, and the laws' word for it
whole : (o : Owed) → HasSets o → owed.Whole limits o
whole o w = record { size = w.speakers; each = w.identifiers }

sets : (o : Owed) → owed.Whole limits o → HasSets o
sets o w = record { speakers = w.size; identifiers = w.each }

pub returns : goal.returns
returns c =
    record {
      nothing_delivered = ((delivered.nothing-whole limits).size, delivered.heard-nothing limits);
      keeps = λ d s i v. (
        λ p. (delivered.deliver-whole limits d s i v (record { size = p })).size,
        deliver-grows limits d s i v,
      );
      adds = λ d s i v p. delivered.deliver-same limits d s i v (record { size = p });
      only = delivered.deliver-other limits;
      nothing_owed = (
        sets _ (owed.nothing-whole limits),
        λ s i k t. grind (arith, owed.owed-nothing limits s i, in-none k),
      );
      signing = λ o s i sound have k w b d low high.
          let owes = echo.signing-owes limits o s i sound have (whole o w) b d k in
          (λ t. (owes.0 t).2, λ t. owes.1 (low, high, t));
      delivery = λ o j s i sound have k w b d low high.
          let owes = echo.delivery-owes limits o s i sound have (whole o w) b d k j in
          (λ t. ((owes.0 t).0, (owes.0 t).1.2), λ t. owes.1 (t.0, (low, high, t.1)));
      others = λ o j s i sound have s' i' f. (
        owed.signing-there limits o s i sound have s' i' f,
        owed.delivery-there limits o j s i sound have s' i' f,
      );
      sets = λ o j s i sound have w. (
        sets _ (owed.after-signing-whole limits o s i sound have (whole o w)),
        sets _ (owed.after-delivery-whole limits o j s i sound have (whole o w)),
      );
    }
