-- `Words::list` meets its contract. Assumes nothing.
use native.Mathlib.Omega.{arith}
use Rattle.std.proofs.Common.{rules}
use mathlib.Core.Path.{refl}
use Rattle.fenderacai.proofs.RowLaws.{words_put}
use Rattle.fenderacai.proofs.row.Words.list.Goals as goal

pub returns : goal.returns
returns c =
    record {
      text = record { place = refl; bytes = words_put _ _ _ _ _ c.copy_from_slice.ensures.after (omega arith) c.requires };
      same = search rules;
    }
