-- The loop's invariant of `Words::signed`: what the first k signers signed is put.
use Rattle.delivery.specs.Limits.{limits}
use Rattle.bench.specs.Benches.{signed_by}
use Rattle.schedule.specs.Prints.{parts_to}
use Rattle.schedule.specs.Private.{Puts}
use Rattle.fenderacai.specs.Rows.{words_to}
use Rattle.fenderacai.proofs.row.Words.signed.Given as goal

abbrev pub invariant-loop-k : goal.invariant-loop-k
invariant-loop-k l = Puts (parts_to l.k (λ s. words_to limits.identifiers (signed_by limits l.bench s))) l.fn.self.out l.fn.self.length l.self.out l.self.length
