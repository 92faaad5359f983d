-- As much of a file as the longest one that is taken has, and one byte more, means what all of it does. Assumes nothing.
use Prim.Native.Nat.{ℕ, ◌+◌}
use mathlib.Core.Path.{◌≡◌, ap, ◌∙◌}
use mathlib.Core.List.{List}
use lib.ListN.{take}
use Rattle.std.specs.Prelude.{IfSome, Option, None, Some}
use Rattle.delivery.specs.Limits.{limits}
use Rattle.schedule.specs.Files.{file_due, longest_file}
use Rattle.schedule.proofs.PrefixLaws.{enough-read}

-- So of what a reader had left, if that is known, everything holds that is so of each file that means what was read.
pub whole-read : (known : Option (List ℕ)) (read : List ℕ) (room : ℕ) → room ≡ longest_file limits + 1
    → IfSome known (λ file. read ≡ take room file)
    → (P : List ℕ → Type 0) → ((file : List ℕ) → file_due limits read ≡ file_due limits file → P file) → IfSome known P
whole-read None read room l h P p = tt
whole-read (Some file) read room l h P p =
    p file (ap (file_due limits) (h ∙ ap (λ (n : ℕ). take n file) l) ∙ enough-read file)
