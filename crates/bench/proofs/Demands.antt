-- What is claimed of every list of events. Nothing is assumed: it holds whatever the fields hold and however many boards are
-- faulty.
use Prim.Native.Nat.{ℕ}
use mathlib.Core.List.{List, []}
use Rattle.delivery.specs.Limits.{limits}
use Rattle.bench.specs.Setups.{setup, fresh_bench}
use Rattle.bench.specs.Runs.{bench_after}
use Rattle.bench.specs.Claim.{Agreement}
use Rattle.bench.specs.Demands.{history_from, Agreeing}
use Rattle.bench.specs.declared.event.Event.{Event}
use Rattle.bench.proofs.SetupLaws.{limits-ground}
use Rattle.bench.proofs.ClaimLaws.{sure-after, sure-agrees}
use Rattle.bench.proofs.OutsetLaws.{sure-fresh}

pub agreed : (n : ℕ) (marks : List ℕ) (es : List Event)
    → Agreement limits n marks (history_from n marks es) (bench_after limits n marks es)
unfolding fresh_bench
agreed n marks es =
    let S = setup limits n marks in
    let ground = limits-ground n marks in
    let sure = sure-after limits S ground es [] (fresh_bench limits n marks) (sure-fresh limits S) in
    sure-agrees limits n marks ground _ _ sure

pub agreeing : Agreeing
agreeing = record { agrees = agreed }
