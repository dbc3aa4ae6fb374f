use Rattle.lx_proc.specs.declared.state.Shared.{Shared}
use Rattle.lx_proc.specs.declared.state.UserState.{UserState}
use Rattle.pt_schedule.specs.declared.schedule.Schedule.{Schedule}
use Rattle.trace_run.specs.LocalRuns.{local_answers}
use Rattle.trace_run.proofs.InProcess.{local_links_tell}
use Rattle.trace_run.proofs.Locals.{Cited}
use Rattle.trace_run.proofs.laws.local_links_tell.Goals as goal

pub returns : goal.returns
returns c =
    let cited : Cited Schedule Shared UserState local_answers = record {
      tells = c.runs_tell.ensures.own;
      own = c.own_replies_tell.ensures.talks;
      lists = c.schedules_are_lists.ensures;
      calls = c.worlds_attend.ensures.calls;
      appends = c.worlds_attend.ensures.append;
      nothing = c.own_replies_tell.ensures.out_of_turns;
      transparent = c.tracing_is_transparent.ensures;
      texts = c.texts_are_whole.ensures;
    } in
    local_links_tell cited c.local_links_serve.ensures c.hosts_run_alike.ensures.begin c.linux_is_a_machine.ensures c.linux_is_told.ensures
