-- What a call of a link to a host in the tracer's own process may do.
use Rattle.std.specs.Prelude.{◌≡◌, ◌⊎◌, ℕ, ◌^◌, Bool, true, false, cond, is_none, List, Option, Result, Ok, Err}
use Rattle.lx_abi.specs.declared.ptrace.Reply.{Reply}
use Rattle.lx_abi.specs.declared.ptrace.Reply.TheVariants.{OutOfTurns as Out_of_turns}
use Rattle.lx_abi.specs.declared.ptrace.Request.{Request}
use Rattle.lx_abi.specs.declared.schedule.Event.{Event}
use Rattle.pt_kernel.specs.Hosts.{HostState, is_boot}
use Rattle.pt_kernel.specs.Noted.{noting}
use Rattle.pt_schedule.specs.declared.schedule.Schedule.{Schedule}
use Rattle.pt_model.specs.Ptrace.{is_there}
use Rattle.host_link.specs.declared.fault.LinkFault.{LinkFault}
use Rattle.host_link.specs.declared.fault.LinkFault.TheVariants.{Ended, TooMany, Memory, Sequence}
use Rattle.host_link.specs.declared.local.LocalLink.{LocalLink}
use Rattle.host_link.specs.Locals.{Serves, reply_or_over}

abbrev pub host_of : LocalLink → HostState
host_of l = l.host

abbrev pub schedule_of : LocalLink → Schedule
schedule_of l = l.schedule

-- the events so far, where they are noted
abbrev pub noted_of : LocalLink → Option (List Event)
noted_of l = l.noted

abbrev pub given_of : LocalLink → ℕ
given_of l = l.given

abbrev pub faults_of : LocalLink → ℕ
faults_of l = cond l.is_broken 1 0

abbrev pub is_over : LocalLink → Bool
is_over l = l.over

-- no request waits for the host to serve it
abbrev pub IsIdle : LocalLink → Type 0
IsIdle l = is_over l ≡ false → is_there (host_of l).hosting.pending ≡ false

-- the host and its schedule are as they were
abbrev pub IsUntouched : LocalLink → LocalLink → Type 0
IsUntouched a b = (b.host ≡ a.host) × (b.schedule ≡ a.schedule)

unfoldable pub Calls : LocalLink → Request → Result Reply LinkFault → LocalLink → Type 0
Calls a q (Ok r) b =
    ((a.over ≡ true)
    × ((r ≡ Out_of_turns)
    × ((b.host ≡ a.host) × ((b.schedule ≡ a.schedule) × ((b.over ≡ true) × (b.noted ≡ a.noted))))))
    ⊎ ((a.over ≡ false)
    × ((is_boot q ≡ false)
    × ((x : Option Reply)
    × ((serves : Serves a.host a.schedule q (record { host = b.host; schedule = b.schedule; reply = x }))
    × ((r ≡ reply_or_over x) × ((b.over ≡ is_none x) × (b.noted ≡ noting a.noted serves.attends.fed)))))))
Calls a q (Err Ended) b = IsUntouched a b × ((a.is_broken ≡ true) ⊎ (is_boot q ≡ true))
Calls a q (Err TooMany) b = IsUntouched a b × (a.given ≡ 2 ^ 40)
Calls a q (Err Memory) b = b.host.failed ≡ true
Calls a q (Err Sequence) b = IsUntouched a b × (a.over ≡ false) × (is_there a.host.hosting.pending ≡ true)
Calls a q (Err f) b = ⊥
