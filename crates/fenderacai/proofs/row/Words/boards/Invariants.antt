-- The loop's invariant of `Words::boards`: the first k boards are put.
use Rattle.delivery.specs.Limits.{limits}
use Rattle.bench.specs.Benches.{board_at, signer_at}
use Rattle.schedule.specs.Prints.{parts_to}
use Rattle.schedule.specs.Private.{Puts}
use Rattle.fenderacai.specs.Rows.{board_words}
use Rattle.fenderacai.proofs.row.Words.boards.Given as goal

abbrev pub invariant-loop-k : goal.invariant-loop-k
invariant-loop-k l = Puts (parts_to l.k (λ k'. board_words (board_at limits l.bench k') (signer_at limits l.bench k').last.0)) l.fn.self.out l.fn.self.length l.self.out l.self.length
