-- Where a process stands to its tracer after a turn of the kernel (ptrace(2), "Stopped states").
use Rattle.std.specs.Prelude.{ℕ, Bool, true, false, Option, Some, None}
use Rattle.lx_abi.specs.declared.log.Item.{Item}
use Rattle.lx_abi.specs.declared.ptrace.Ask.{Ask}
use Rattle.lx_abi.specs.declared.ptrace.Ask.TheVariants.{Seize}
use Rattle.lx_abi.specs.declared.log.Mode.{Mode}
use Rattle.lx_abi.specs.declared.status.Stop.{Stop}
use Rattle.lx_model.specs.declared.event.PtraceEvent.{PtraceEvent}
use Rattle.lx_model.specs.declared.event.PtraceEvent.TheVariants.{Plain, Execed, Forked}
use Rattle.lx_model.specs.declared.stage.Task.{Task}
use Rattle.lx_model.specs.declared.stage.Task.TheVariants.{Alive, Dying, Gone}
use Rattle.lx_abi.specs.declared.ptrace.TraceOptions.{TraceOptions}
use Rattle.pt_model.specs.Ptrace.{event_stop}
use Rattle.pt_model.specs.Hosting.{told_stop, ends_dying}

-- the stop of a tracee whose turn told this: one that bore a child stands at its call
abbrev pub turn_stop : TraceOptions → Option Mode → Option Item → PtraceEvent ℕ → Option Stop
turn_stop w after item Plain = told_stop w after item Plain
turn_stop w after item Execed = told_stop w after item Execed
turn_stop w after item (Forked child) = event_stop w (Forked child)

abbrev pub stop_after : Option TraceOptions → Option Mode → Option Item → PtraceEvent ℕ → Option Stop
stop_after None after item e = None
stop_after (Some w) after item e = turn_stop w after item e

abbrev pub dies_after : Option Mode → PtraceEvent ℕ → Bool
dies_after after Plain = ends_dying after
dies_after after Execed = ends_dying after
dies_after after (Forked child) = false

-- it has not ended
abbrev pub is_alive : {B : Type 0} → Task B → Bool
is_alive (Alive b stage) = true
is_alive (Dying word) = false
is_alive Gone = false

-- the options of a Seize
abbrev pub seize_options : Ask → Option ℕ
seize_options (Seize options) = Some options
seize_options _ = None
