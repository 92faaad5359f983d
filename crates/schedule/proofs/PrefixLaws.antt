-- How many bytes of a file are looked at: what follows the longest file and one byte more changes nothing. Assumes nothing.
use Prim.Native.Nat.{ℕ, zero, suc, ◌+◌, ◌≤◌, ◌<◌}
use native.Mathlib.Omega.{arith}
use native.Mathlib.Decide.{dec_le}
use mathlib.Core.Path.{◌≡◌, sym, ap, ◌∙◌}
use mathlib.Core.List.{List, ◌∷◌, ◌++◌, append_assoc}
use lib.ListN.{length, take, drop, length-append, length-take, take-append-drop}
use lib.Seq.{take_all}
use Rattle.delivery.specs.Limits.{limits}
use Rattle.schedule.specs.Files.{fault, file_due, longest_file}
use Rattle.schedule.specs.Claims.{LookedAt}
use Rattle.schedule.specs.Stops.{
  Answered,
  taken,
  ends-at-once,
  ends-in-marks,
  ends-in-count,
  ends-in-events,
  no-bus,
  no-mark,
  too-many,
  left-over,
}
use Rattle.schedule.proofs.FaultLaws.{fault-same}
use Rattle.schedule.proofs.FileLaws.{ReadAs, answered, known}

-- Of a file longer than any that is taken, what follows does not matter:
overlong : (bs rest : List ℕ) (m : ℕ) → longest_file limits < length bs → Answered bs m → (0 < m) × Answered (bs ++ rest) m
overlong bs rest m l (taken n h k ms cs f t g) = absurd (omega (arith, length-append ms (h ∷ k ∷ cs), f))
overlong bs rest m l ends-at-once = absurd (omega arith)
overlong bs rest m l (ends-in-marks n ms f h) = absurd (omega (arith, f))
overlong bs rest m l (ends-in-count n ms cs f h) = absurd (omega (arith, length-append ms cs, f))
overlong bs rest m l (ends-in-events n h k ms cs f t g) = absurd (omega (arith, length-append ms (h ∷ k ∷ cs), f))
overlong bs rest m l (no-bus n cs o) = (omega arith, no-bus n (cs ++ rest) o)
overlong bs rest m l (no-mark n k ms cs f h w) = (omega arith, rw append_assoc (no-mark n k ms (cs ++ rest) f h w))
overlong bs rest m l (too-many n h k ms cs f t) = (omega arith, rw append_assoc (too-many n h k ms (cs ++ rest) f t))
overlong bs rest m l (left-over n h k ms cs f t g) = (omega arith, rw append_assoc (left-over n h k ms (cs ++ rest) f t (omega (arith, length-append cs rest))))

same-fault : (bs cs : List ℕ) (m : ℕ) → 0 < m → ReadAs bs m → ReadAs cs m → file_due limits cs ≡ file_due limits bs
same-fault bs cs zero l r s = absurd (omega arith)
same-fault bs cs (suc m) l (w, (e, n)) (v, (g, k)) = g ∙ ap fault (fault-same v w (k ∙ sym n)) ∙ sym e

-- so a buffer of one byte more than the longest file is enough for any
pub enough-read : LookedAt
enough-read bs = go (dec_le (length bs) (longest_file limits + 1))
  where
    front : List ℕ
    front = take (longest_file limits + 1) bs

    go : Dec (length bs ≤ longest_file limits + 1) → file_due limits front ≡ file_due limits bs
    go (yes h) = ap (file_due limits) (take_all (longest_file limits + 1) bs h)
    go (no h) =
        let k = known front in
        let o = overlong front (drop (longest_file limits + 1) bs) k.0 (omega (arith, length-take (longest_file limits + 1) bs)) k.1.0 in
        sym (same-fault front _ k.0 o.0 k.1.1 (answered _ k.0 o.1)) ∙ ap (file_due limits) (take-append-drop (longest_file limits + 1) bs)
