-- `Schedule::read` meets its contract: the second section begins after the first, and what is longer than both goes on
-- after the last event. Assumes nothing.
use Prim.Native.Nat.{ℕ, ◌-◌, ◌<◌}
use native.Mathlib.Omega.{arith}
use borrow.Author.Rules.{part_to_end}
use mathlib.Core.Path.{◌≡◌, sym, ◌∙◌}
use Rattle.std.proofs.Common.{rules}
use mathlib.Core.List.{List}
use lib.ListN.{length, take, drop}
use Rattle.std.specs.Prelude.{Result, Err, IfOk, IfErr}
use Rattle.delivery.specs.Limits.{limits}
use Rattle.schedule.specs.Files.{fault_number}
use Rattle.schedule.specs.Readings.{section_of, schedule_of}
use Rattle.schedule.specs.declared.fault.Fault.{Fault}
use Rattle.schedule.specs.Stops.{Answered}
use Rattle.schedule.specs.declared.file.Schedule.{Schedule}
use Rattle.schedule.specs.declared.section.Section.{Section}
use Rattle.schedule.proofs.StopLaws.{read-answered, read-fault}
use Rattle.schedule.proofs.FileLaws.{schedule-front, schedule-back, events-within, schedule-over, schedule-there}
use Rattle.schedule.proofs.file.Schedule.read.Goals as goal

-- what is read of the part of the file after the first section
rest-read : (bs : List ℕ) (at : ℕ) {x y : Result Section Fault}
    → x ≡ section_of (take (length bs - at) (drop at bs)) → x ≡ y → section_of (drop at bs) ≡ y
rest-read bs at e f = sym (rw (part_to_end bs at) at e) ∙ f

-- and the number of what was read
abbrev Told : List ℕ → Result Schedule Fault → Type 0
Told bs r =
    record {
      meaning : r ≡ schedule_of limits bs;
      taken : IfOk r (λ s. Answered bs 0);
      refused : IfErr r (λ w. Answered bs (fault_number w));
      numbered : (m : ℕ) → 0 < m → Answered bs m → (w : Fault) × ((r ≡ Err w) × (fault_number w ≡ m));
    }

told : (bs : List ℕ) {r : Result Schedule Fault} → r ≡ schedule_of limits bs → Told bs r
told bs {r} e = let a = read-answered bs r e in record { meaning = e; taken = a.0; refused = a.1; numbered = read-fault bs r e }

pub returns-in_err-bus : goal.returns-in_err-bus
returns-in_err-bus c =
    let failed : c.from_residual.result ≡ Err c.in_err-bus.field-0.0 = search rules in
    told c.args.file.now (failed ∙ sym (schedule-front c.args.file.now _ (sym c.read.ensures ∙ c.in_err-bus.was)))

pub returns-in_err-count : goal.returns-in_err-count
returns-in_err-count c =
    let failed : c.from_residual-in_err-count.result ≡ Err c.in_err-count.field-0.0 = search rules in
    told c.args.file.now (failed ∙ sym (schedule-back c.args.file.now _ (sym c.read.ensures ∙ c.in_ok-bus.was) _ (rest-read c.args.file.now _ c.read-2.ensures c.in_err-count.was)))

pub overflow_sub-file : goal.overflow_sub-file
overflow_sub-file c =
    events-within _ _ (sym c.read.ensures ∙ c.in_ok-bus.was) _ (rest-read c.args.file.now _ c.read-2.ensures c.in_ok-count.was)

pub returns-then-file-start : goal.returns-then-file-start
returns-then-file-start c =
    told c.args.file.now (sym (schedule-over _ _ (sym c.read.ensures ∙ c.in_ok-bus.was) _ (rest-read c.args.file.now _ c.read-2.ensures c.in_ok-count.was) (omega (arith, c.if-file-start.true))))

pub returns : goal.returns
returns c =
    told c.args.file.now (sym (schedule-there _ _ (sym c.read.ensures ∙ c.in_ok-bus.was) _ (rest-read c.args.file.now _ c.read-2.ensures c.in_ok-count.was) (omega (arith, c.if-file-start.false))))
