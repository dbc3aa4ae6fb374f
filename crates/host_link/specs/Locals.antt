-- A host in the tracer's own process: how a request is served.
use Rattle.std.specs.Prelude.{◌≡◌, unwrap_or, List, Option, Some}
use Rattle.lx_abi.specs.declared.ptrace.Reply.{Reply}
use Rattle.lx_abi.specs.declared.ptrace.Reply.TheVariants.{OutOfTurns as Out_of_turns}
use Rattle.lx_abi.specs.declared.ptrace.Request.{Request}
use Rattle.lx_abi.specs.declared.schedule.Event.{Event}
use Rattle.pt_kernel.specs.Attends.{Attended, Attends}
use Rattle.pt_kernel.specs.Hosts.{HostState}
use Rattle.pt_kernel.specs.Noted.{noting}
use Rattle.pt_schedule.specs.declared.schedule.Schedule.{Schedule}
use Rattle.pt_model.specs.Hosting.{hosting_asked}

-- the request is put to the host, and the schedule's events follow until it is answered, or the schedule has ended
pub record Serves (a : HostState) (s : Schedule) (q : Request) (z : Attended) : Type 0 where
  pub asked : HostState
  pub put : hosting_asked a.hosting q a.hosting.pending ≡ Some asked.hosting
  pub rest : asked ≡ record a { hosting = asked.hosting }
  pub attends : Attends asked s z

-- and these events are noted
pub record ServesNoting (a : HostState) (s : Schedule) (noted : Option (List Event)) (q : Request) (z : Attended)
    (noted' : Option (List Event)) : Type 0 where
  pub serves : Serves a s q z
  pub noted_are : noted' ≡ noting noted serves.attends.fed

-- where the schedule has ended, for good, every request is answered so
abbrev pub reply_or_over : Option Reply → Reply
reply_or_over r = unwrap_or r Out_of_turns
