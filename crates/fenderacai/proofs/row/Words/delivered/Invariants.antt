-- The loop's invariant of `Words::delivered`: what the first k boards delivered is put.
use Rattle.delivery.specs.Limits.{limits}
use Rattle.bench.specs.Benches.{heard_by}
use Rattle.schedule.specs.Prints.{parts_to}
use Rattle.schedule.specs.Private.{Puts}
use Rattle.fenderacai.specs.Rows.{table_words}
use Rattle.fenderacai.proofs.row.Words.delivered.Given as goal

abbrev pub invariant-loop-k : goal.invariant-loop-k
invariant-loop-k l = Puts (parts_to l.k (λ k'. table_words limits (heard_by limits l.bench k'))) l.fn.self.out l.fn.self.length l.self.out l.self.length
