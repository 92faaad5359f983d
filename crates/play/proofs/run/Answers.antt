-- `run` meets its contract: what was read means what the whole file does. Assumes nothing.
use mathlib.Core.Path.{ap, subst, ◌∙◌}
use Rattle.std.proofs.Common.{rules}
use Rattle.std.specs.Io.KnownBytes.{Appends}
use Rattle.std.proofs.lemmas.Result.{on_ok_weaker}
use Rattle.delivery.specs.Limits.{limits}
use Rattle.schedule.specs.Prints.{printed_from}
use Rattle.play.proofs.RunLaws.{whole-read}
use Rattle.play.proofs.run.Goals as goal

pub returns-clause-written : goal.returns-clause-written
returns-clause-written g c =
    on_ok_weaker
    c.write_all.result
    (λ bytes.
    whole-read
    (g.R.Read.remaining c.args.reader.now)
    _
    _
    (search rules)
    c.in_ok-read.ensures.read
    _
    (λ file e. subst (Appends _ _) (c.print-length.ensures.text ∙ ap (printed_from limits) e) bytes))
    c.write_all.ensures.bytes
