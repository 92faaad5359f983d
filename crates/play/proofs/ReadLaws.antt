-- What a reader lost is what it was read for. Assumes nothing.
use Prim.Native.Nat.{ℕ, ◌+◌, ◌≤◌}
use mathlib.Core.Path.{◌≡◌, sym, ap, subst, ◌∙◌}
use mathlib.Core.List.{List, ◌++◌}
use lib.ListN.{length, take, drop}
use lib.Seq.{take-add, take-append-le}
use borrow.Rule.Slice.PartMut.{put_mid, post_of}
use Rattle.std.proofs.Common.{le_refl, drop_at, length-take-le}
use Rattle.std.proofs.KnownBytes.{Consumes-trans, Consumes-kept}
use Rattle.std.proofs.lemmas.Slice.{take-put_mid_below}
use Rattle.std.specs.Prelude.{Option}
use Rattle.std.specs.Io.KnownBytes.{Consumes, Keeps}

-- A part of a room is read into, from `at` on: what is filled then is what was filled before, and the read's bytes.
filled : (at n k : ℕ) (room bytes : List ℕ) → at ≤ length room → n ≤ length bytes
    → take (at + n) (put_mid at k room bytes) ≡ take at room ++ take n bytes
filled at n k room bytes w h =
    let front = take-put_mid_below at k room bytes at (le_refl at) w in
    let back = ap (take n) (drop_at (take at room) (bytes ++ post_of at k room) at (length-take-le at room w)) ∙ take-append-le n bytes _ h in
    take-add at n (put_mid at k room bytes) ∙ ap (λ l. l ++ take n (drop at (put_mid at k room bytes))) front ∙ ap (λ l. take at room ++ l) back

-- So what is filled is what the reader lost, after a read too, be it one that failed.
module _ (a b c : Option (List ℕ)) (at k : ℕ) (room bytes : List ℕ) where
  pub read-more : (n : ℕ) → at ≤ length room → n ≤ length bytes → Consumes a b (take at room) → Consumes b c (take n bytes)
      → Consumes a c (take (at + n) (put_mid at k room bytes))
  read-more n w h p q = subst (Consumes a c) (sym (filled at n k room bytes w h)) (Consumes-trans a b c _ _ p q)

  pub read-again : at ≤ length room → Consumes a b (take at room) → Keeps b c → Consumes a c (take at (put_mid at k room bytes))
  read-again w p q = subst (Consumes a c) (sym (take-put_mid_below at k room bytes at (le_refl at) w)) (Consumes-kept a b c _ p q)
