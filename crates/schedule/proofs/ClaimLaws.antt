-- What is claimed of every file (specs/Claims). Nothing is assumed: it holds of every list of bytes, of any length.
use Prim.Native.Nat.{ℕ, zero, suc, ◌+◌, ◌-◌, ◌≤◌, ◌<◌}
use native.Mathlib.Omega.{arith}
use mathlib.Core.Path.{◌≡◌, refl, sym, ap, ◌∙◌}
use mathlib.Core.List.{List, [], ◌∷◌, ◌++◌, append_assoc}
use lib.ListN.{length}
use Rattle.std.specs.Prelude.{codes, decimal}
use Rattle.std.proofs.lemmas.Fmt.{decimal_digit}
use Rattle.signer.proofs.FromOneLaws.{within_low, nth-index}
use Rattle.delivery.specs.Limits.{limits}
use Rattle.bench.specs.Runs.{after, answers_to}
use Rattle.bench.specs.Shows.{letter_byte, shown}
use Rattle.bench.specs.declared.show.Shown.{Shown}
use Rattle.bench.proofs.SetupLaws.{board-made}
use Rattle.bench.proofs.Demands.{agreed}
use Rattle.schedule.specs.Files.{got, fault_number, Contents, first_bench, file_due}
use Rattle.schedule.specs.Prints.{line, space, parts_to, event_lines, board_line, board_lines, refused_line, printed_from, printed}
use Rattle.schedule.specs.Stops.{Answered}
use Rattle.schedule.specs.Claims.{Plays, Reporting}
use Rattle.schedule.specs.declared.fault.Fault.{Fault}
use Rattle.schedule.proofs.FaultLaws.{fault-row}
use Rattle.schedule.proofs.FileLaws.{ReadAs, answered, known, file-got}

-- a text ends with a line end
abbrev Ended : List ℕ → Type 0
Ended xs = (front : List ℕ) × (xs ≡ front ++ codes "\n")

ended-after : (xs ys : List ℕ) → Ended ys → Ended (xs ++ ys)
ended-after xs ys e = (xs ++ e.0, ap (λ (zs : List ℕ). xs ++ zs) e.1 ∙ sym (append_assoc xs e.0 (codes "\n")))

line-ended : (ws : List (List ℕ)) → Ended (line ws)
line-ended [] = ([], refl)
line-ended (w ∷ []) = (w, refl)
line-ended (w ∷ x ∷ ws) = ended-after w (space ∷ line (x ∷ ws)) (ended-after (space ∷ []) (line (x ∷ ws)) (line-ended (x ∷ ws)))

-- so do one part or more, of which each does
parts-ended : (n : ℕ) (f : ℕ → List ℕ) → 1 ≤ n → ((k : ℕ) → Ended (f k)) → Ended (parts_to n f)
unfolding parts_to
parts-ended zero f h e = absurd (omega arith)
parts-ended (suc n) f h e = ended-after (parts_to n f) (f (suc n)) (e (suc n))

board-ended : (k : ℕ) (s : Shown) → Ended (board_line k s)
unfolding board_line
board-ended k s = line-ended (decimal k ∷ (letter_byte s.letter ∷ []) ∷ decimal s.round.0 ∷ decimal s.value ∷ [])

-- the line of a refused file
refused-words : (w : Fault) → refused_line w ≡ codes "refused " ++ (48 + fault_number w) ∷ codes "\n"
unfolding refused_line
refused-words w = ap (λ (ds : List ℕ). codes "refused " ++ ds ++ codes "\n") (decimal_digit (fault_number w) (omega (arith, fault-row w)))

module _ (bs : List ℕ) where
  -- one that is taken gets its bench and plays as every list does
  plays : (f : Contents) (rest : List ℕ) → file_due limits bs ≡ got f rest → Plays f (printed limits bs)
  unfolding printed_from
  plays f rest e =
      let h = (file-got bs f rest e).holds in
      record {
        made = board-made limits (length f.marks) f.marks h.boards
            (λ k l u. rw (nth-index f.marks k 0 l) (h.marks (k - 1) 0 (omega arith)));
        report = ap (printed_from limits) e;
        agreement = agreed (length f.marks) f.marks f.events;
      }

  -- and one that is refused prints its number
  refused : (m : ℕ) → 0 < m → Answered bs m → printed limits bs ≡ codes "refused " ++ (48 + m) ∷ codes "\n"
  unfolding printed_from
  refused m l a = go m l (answered bs m a)
    where
      go : (m : ℕ) → 0 < m → ReadAs bs m → printed limits bs ≡ codes "refused " ++ (48 + m) ∷ codes "\n"
      go zero l d = absurd (omega arith)
      go (suc m) l (w, (d, n)) = rw d (rw n at (refused-words w))

  ended : Ended (printed limits bs)
  unfolding printed_from
  ended = go (known bs)
    where
      go : (m : ℕ) × (Answered bs m × ReadAs bs m) → Ended (printed limits bs)
      go (zero, (_, (f, r))) =
          let c = first_bench limits f in
          rw r.due
          (ended-after
          (event_lines (length f.events) (answers_to limits c f.events))
          (board_lines limits (length f.marks) (after limits c f.events))
          (parts-ended (length f.marks) _ (within_low limits.boards _ r.holds.boards) (λ k. board-ended k (shown limits (after limits c f.events) k))))
      go (suc m, (_, (w, (d, _)))) = rw d (codes "refused " ++ (48 + fault_number w) ∷ [], refused-words w)

pub reporting : Reporting
reporting bs =
    record {
      taken = plays bs;
      refused = refused bs;
      ends = ended bs;
    }
