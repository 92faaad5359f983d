-- The loop's invariant of `Words::owed`: the sets of the first k speakers are put.
use Rattle.delivery.specs.Limits.{limits}
use Rattle.delivery.specs.Owed.{receivers}
use Rattle.schedule.specs.Prints.{parts_to}
use Rattle.schedule.specs.Private.{Puts}
use Rattle.fenderacai.specs.Rows.{words_to}
use Rattle.fenderacai.proofs.row.Words.owed.Given as goal

abbrev pub invariant-loop-k : goal.invariant-loop-k
invariant-loop-k l = Puts (parts_to l.k (λ s. words_to limits.identifiers (receivers limits l.owed s))) l.fn.self.out l.fn.self.length l.self.out l.self.length
