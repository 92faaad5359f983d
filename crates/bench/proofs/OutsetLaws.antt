-- Before the first event: the fresh bench shows nothing, which is what the empty history tells, and it is fit. Assumes
-- nothing.
use Prim.Native.Nat.{ℕ}
use native.Mathlib.Omega.{arith}
use mathlib.Core.Path.{◌≡◌, refl, sym, ap, ◌∙◌, fun_ext}
use mathlib.Core.Bool.{true≢false}
use mathlib.Core.List.{[]}
use mathlib.Core.Logic.{⊎_elim, inl, inr}
use lib.ListN.{length-replicate}
use Rattle.signer.specs.Log.{entry_at}
use Rattle.signer.specs.Signer.{fresh_signer}
use Rattle.signer.specs.declared.signer.Signer.{Signer}
use Rattle.signer.proofs.SignerLaws.{fresh-last, fresh-entry, fresh-wellformed}
use Rattle.delivery.specs.Limits.{Limits}
use Rattle.delivery.specs.Sets.{in_set}
use Rattle.delivery.proofs.SetLaws.{in-none}
use Rattle.delivery.proofs.DeliveredLaws.{heard-nothing}
use Rattle.delivery.proofs.OwedLaws.{nothing-whole, owed-nothing}
use Rattle.vote.specs.Boards.{fresh_board}
use Rattle.vote.proofs.BoardLaws.{fresh-is, fresh-estimate}
use Rattle.vote.specs.declared.board.Board.{Board}
use Rattle.vote.specs.declared.board.Status.TheVariants.{Idle}
use Rattle.vote.proofs.ProperLaws.{fresh-proper}
use Rattle.vote.proofs.LifeLaws.{fresh-grounded}
use Rattle.bench.specs.Benches.{heard_by, signed_by}
use Rattle.bench.specs.Setups.{Setup, bench_of}
use Rattle.bench.specs.Story.{outset}
use Rattle.bench.specs.Claim.{Signed, Delivered, Decided}
use Rattle.bench.specs.declared.bench.Bench.{Bench}
use Rattle.bench.proofs.BenchLaws.{board-fresh, signer-fresh}
use Rattle.bench.proofs.MomentLaws.{once-none, standing-none}
use Rattle.bench.proofs.ViewLaws.{View, standing_of, view}
use Rattle.bench.proofs.FitLaws.{Fit}
use Rattle.bench.proofs.TellsLaws.{Tells}
use Rattle.bench.proofs.OriginLaws.{Rooted}
use Rattle.bench.proofs.ClaimLaws.{Sure}

-- what is seen where nothing has happened
abbrev nothing : View
nothing = record { stands = λ (k : ℕ). outset; status = λ (k : ℕ). Idle; signed = λ (s i : ℕ). 0 }

module _ (L : Limits) (S : Setup) where
  abbrev empty : Bench
  empty = bench_of L S.n S.sound

  stands-fresh : standing_of L (fresh_board L) ≡ outset
  unfolding outset
  stands-fresh =
      let p = fresh-is L in
      let q = fun_ext (λ (s : ℕ). fun_ext (heard-nothing L s)) in
      cc

  sees-nothing : view L empty ≡ nothing
  unfolding signed_by
  sees-nothing =
      λ j.
      record {
        stands = fun_ext (λ (k : ℕ). ap (standing_of L) (board-fresh L S.n S.sound k) ∙ stands-fresh) j;
        status = fun_ext (λ (k : ℕ). ap (λ (b : Board). b.status) (board-fresh L S.n S.sound k ∙ fresh-is L)) j;
        signed =
            fun_ext
            (λ (k : ℕ).
            let s = signer-fresh L S.n S.sound k in
            fun_ext (λ (i : ℕ). ap (λ (s : Signer). entry_at s.log i) s ∙ fresh-entry L.identifiers i))
            j;
      }

  heard-fresh : (k s i : ℕ) → heard_by L empty k s i ≡ 0
  unfolding outset
  heard-fresh k s i = ap (λ (V : View). (V.stands k).heard s i) sees-nothing

  -- nothing has happened
  not-signed : (k i v : ℕ) → Signed L S [] k i v → ⊥
  not-signed k i v (inl p) = once-none _ p.1
  not-signed k i v (inr p) = once-none _ p.1

  not-delivered : (k s i v : ℕ) → Delivered L S [] k s i v → ⊥
  not-delivered k s i v (t, inl p) = not-signed k i v p.1
  not-delivered k s i v (t, inr p) = once-none _ p

  not-decided : (k r v : ℕ) → Decided L S [] k r v → ⊥
  not-decided k r v p = ⊎_elim (once-none _) (once-none _) p.1

  tells-nothing : Tells L S [] nothing
  unfolding outset
  tells-nothing =
      record {
        stands = λ k. standing-none L S.n k;
        signed = λ k i v. (λ p. absurd (not-signed k i v p), λ e. absurd (omega (arith, e)));
        delivered = λ k s i v. (λ p. absurd (not-delivered k s i v p), λ e. absurd (omega (arith, e)));
        decided = λ k r v. (λ p. absurd (not-decided k r v p), λ e. let q = e.1 in absurd (cc));
      }

  rooted-nothing : Rooted L S [] nothing
  unfolding outset
  rooted-nothing =
      record {
        estimates = λ k s n. absurd (n fresh-estimate);
        openings = λ k r v s i e. absurd (omega (arith, e));
      }

  fresh-fit : Fit L S empty
  unfolding bench_of outset
  fresh-fit =
      record {
        boards = length-replicate L.boards (fresh_board L);
        signers = length-replicate L.boards (fresh_signer L.identifiers);
        complete = nothing-whole L;
        proper = λ k. rw (board-fresh L S.n S.sound k) (fresh-proper L);
        grounded = λ k. rw (board-fresh L S.n S.sound k) (fresh-grounded L S.n);
        formed = λ k. rw (signer-fresh L S.n S.sound k) (fresh-wellformed L.identifiers);
        apart = λ k f. board-fresh L S.n S.sound k;
        ahead =
            λ k t.
            let z = ap (λ (x : Signer). x.last.0) (signer-fresh L S.n S.sound k) ∙ fresh-last L.identifiers in
            omega (arith, z);
        spread =
            λ k s i. (
              λ h. absurd (true≢false (sym h ∙ ap (λ (m : ℕ). in_set m k) (owed-nothing L s i) ∙ in-none k)),
              λ l. absurd (l.holder-has (heard-fresh l.holder s i)),
            );
        sane = rw sees-nothing (record { part = λ k s i. inl refl; own = λ k i t. refl });
      }

  -- so all that every list keeps holds of the empty one
  pub sure-fresh : Sure L S [] empty
  unfolding bench_of
  sure-fresh =
      record {
        bus = refl;
        fit = fresh-fit;
        tells = rw sees-nothing tells-nothing;
        rooted = rw sees-nothing rooted-nothing;
      }
