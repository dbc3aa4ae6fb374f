use Rattle.guest_commands.proofs.Planned.{runs_words}
use Rattle.guest_commands.proofs.plain.run.Goals as goal

pub returns : goal.returns
returns g c =
    runs_words g.R.File.Read.remaining c.args.matches.now (g.I.Read.remaining c.args.input.now) c.in-Ok.plan
    c.run_plan-err.new.plan.kernel c.explained_status-status.result c.run_plan-err.result.1
    c.in-Ok.ensures.plan c.explained_status-status.ensures c.run_plan-err.ensures.to c.run_plan-err.ensures.status
