use Rattle.std.proofs.Common.{subst}
use Rattle.trace_command.specs.Noting.{NotesHere}
use Rattle.trace_command.proofs.second.run_plan.Goals as goal

pub returns-in-Ok-clause-notes : goal.returns-in-Ok-clause-notes
returns-in-Ok-clause-notes c =
    subst
    (λ schedule. NotesHere c.args.plan.options c.args.plan.script c.args.plan.boot schedule c.args.kept.now.asked.events
    c.run_here.new.kept.known.events)
    c.words-schedule.ensures c.in-Ok.ensures.notes
