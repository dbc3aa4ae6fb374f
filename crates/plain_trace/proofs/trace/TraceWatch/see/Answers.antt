use Rattle.std.proofs.Common.{◌∙◌, sym}
use Rattle.plain_run.specs.Notes.{noted_in}
use Rattle.plain_trace.proofs.Showing.{shows_more}
use Rattle.plain_trace.proofs.trace.TraceWatch.see.Goals as goal

pub returns-in-Ok-clause-noted : goal.returns-in-Ok-clause-noted
returns-in-Ok-clause-noted c = λ first ns before unfailed.
    shows_more first.options ns (noted_in c.args.kernel.now c.args.item.now) c.args.self.now c.add.new.self
    (before (sym c.in-Ok.ensures.failed ∙ unfailed)) c.in-Ok.ensures.options c.in-Ok.ensures.bytes c.in-Ok.ensures.printer
