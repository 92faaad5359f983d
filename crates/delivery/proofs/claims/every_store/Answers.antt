-- Each claim is a law, or what the laws of its subject say together. Assumes nothing.
use Prim.Native.Nat.{ℕ}
use native.Mathlib.Omega.{arith}
use mathlib.Core.Bool.{Bool}
use Rattle.std.proofs.lemmas.Bool.Decides.{nat_tests}
use Rattle.delivery.specs.Limits.{limits}
use Rattle.delivery.specs.Delivered.{Store}
use Rattle.delivery.specs.Claims.{Leaves}
use Rattle.delivery.proofs.CountLaws.{sizes-fit, quorums-share, overlap-pos}
use Rattle.delivery.proofs.RoundLaws.{coordinator-turns}
use Rattle.delivery.proofs.OneRoundLaws as round
use Rattle.delivery.proofs.AllRoundsLaws.{allowed-first, opening-reads, reads-opening, one-opening, ballot-reads, reads-ballot, accepted-reads, reads-accepted}
use Rattle.delivery.proofs.AgreementLaws.{won-one, later-only}
use Rattle.delivery.proofs.GrowthLaws.{allowed-grows, opening-grows, ballot-grows, won-grows}
use Rattle.delivery.proofs.claims.every_store.Goals as goal

-- speakers that leave w, as the laws of one round say it
leaves : (n : ℕ) (h : Store) (r w : ℕ) (p : ℕ → Bool) → Leaves n h r w p → round.Leaves limits n h r w p
leaves n h r w p l = record { accepted = l.accepted; reason = l.reason }

pub returns : goal.returns
returns c =
    record {
      sizes = sizes-fit;
      turns = coordinator-turns;
      quorums = quorums-share;
      shared = overlap-pos;
      openings = λ n h r w. (
        λ a. let o = opening-reads limits n h r w a in (o.said, o.value, o.permitted),
        λ o. reads-opening limits n h r w (record { said = o.0; value = o.1; permitted = o.2 }),
      );
      ballots = λ n h r s w. (
        λ a. let b = ballot-reads limits n h r s w a in (b.said, b.backed),
        λ b. reads-ballot limits n h r s w (record { said = b.0; backed = b.1 }),
      );
      some_ballots = λ n h r s. (accepted-reads limits n h r s, λ b. reads-accepted limits n h r s b.0 b.1);
      first_round = λ n h w.
          rw (allowed-first limits n h w) (λ a. grind (arith, nat_tests), λ z. grind (arith, nat_tests));
      later_rounds = λ n h r w low. (
        λ a.
            let x = round.later-reads limits n h r w low a in
            (x.0, (x.1.0, x.1.1, record { accepted = x.1.2.accepted; reason = x.1.2.reason })),
        λ x. round.reads-later limits n h r w low x.0 x.1.0 x.1.1 (leaves n h r w x.1.0 x.1.2),
      );
      more_speakers = λ n h r w some low z p q l.
          let counted = round.leaves-counts limits n h r w p some z q (leaves n h r w p l) in
          round.counts-later limits n h r w low some counted;
      one_opening = one-opening limits;
      one_won = won-one limits;
      only_later = later-only limits;
      grows = λ n h h' g.
          record {
            values = allowed-grows limits n h h' g;
            openings = opening-grows limits n h h' g;
            ballots = ballot-grows limits n h h' g;
            won = won-grows limits n h h' g;
          };
    }
