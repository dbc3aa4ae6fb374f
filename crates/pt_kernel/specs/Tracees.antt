-- What a host keeps of the processes that a tracer has to do with (ptrace(2), wait(2)).
use Rattle.std.specs.Prelude.{ℕ, ◌==◌, Bool, true, cond, not, List, [], ◌∷◌, ◌++◌, Option, Some, None, filter}
use Rattle.std.specs.Ordering.{nat_cmp}
use Rattle.std.specs.FinMap as maps
use Rattle.lx_abi.specs.declared.ptrace.Reply.{Reply}
use Rattle.lx_abi.specs.declared.status.EventStop.TheVariants.{Stop as At_start}
use Rattle.lx_abi.specs.declared.status.Stop.{Stop}
use Rattle.lx_abi.specs.declared.status.Stop.TheVariants.{Syscall as Syscall_stop, Signal as Signal_stop, Group as Group_stop, Event as Event_stop, Ended}
use Rattle.lx_abi.specs.declared.ptrace.TraceOptions.{TraceOptions}
use Rattle.pt_model.specs.declared.ptrace.Report.{Report}
use Rattle.pt_model.specs.declared.ptrace.Traced.{Traced}
use Rattle.lx_model.specs.declared.event.PtraceEvent.{PtraceEvent}
use Rattle.lx_model.specs.declared.event.PtraceEvent.TheVariants.{Plain, Execed, Forked}
use Rattle.pt_model.specs.Ptrace.{inherits, is_there, reports_of, without}
use Rattle.pt_model.specs.Requests.{echild, told}
use Rattle.pt_model.specs.Hosting.{message_after, released}
use Rattle.pt_kernel.specs.declared.tracees.Tracees.{Tracees}

-- A turn

abbrev pub Traceds : Type 0
Traceds = maps.FinMap nat_cmp Traced

-- a tracee that has come to a stop is held; of who is none nothing is kept
abbrev pub stopped_at : Traceds → ℕ → ℕ → Option TraceOptions → Option Stop → PtraceEvent ℕ → Traceds
stopped_at traced p message None stop event = traced
stopped_at traced p message (Some w) stop event = maps.insert traced p (record {
  held = is_there stop;
  options = Some w;
  message = message_after message p w event;
})

-- a process becomes a tracee, and its EVENT_STOP is reported
abbrev pub attached : Tracees → ℕ → Traced → Tracees
attached x p traced = record {
  traced = maps.insert x.traced p traced;
  queue = x.queue ++ record { pid = p; stop = Event_stop At_start } ∷ [];
  pids = x.pids ++ p ∷ [];
}

-- a child that is a tracee is held
abbrev pub with_newborn : Tracees → ℕ → Option TraceOptions → Tracees
with_newborn x child None = x
with_newborn x child (Some w) = attached x child (record { held = true; options = Some w; message = 0 })

abbrev pub with_birth : Tracees → Option TraceOptions → PtraceEvent ℕ → Tracees
with_birth x w Plain = x
with_birth x w Execed = x
with_birth x w (Forked child) = with_newborn x child (inherits w)

-- the stop is reported last; a process that is dying has no earlier report
abbrev pub after_turn : Tracees → ℕ → Traced → Option Stop → Bool → PtraceEvent ℕ → Tracees
after_turn x p traced stop dying event = with_birth (record {
  traced = stopped_at x.traced p traced.message traced.options stop event;
  queue = cond dying (without p x.queue) x.queue ++ reports_of p stop;
  pids = x.pids;
}) traced.options event

-- Wait

pub record Waited : Type 0 where
  pub tracees : Tracees
  pub reply : Option Reply

abbrev pub took : Tracees → List Report → ℕ → Stop → Tracees
took x rest p (Syscall_stop good) = record x { queue = rest }
took x rest p (Signal_stop signal) = record x { queue = rest }
took x rest p (Group_stop signal) = record x { queue = rest }
took x rest p (Event_stop event) = record x { queue = rest }
took x rest p (Ended word) = record {
  traced = released x.traced p (maps.get x.traced p);
  queue = rest;
  pids = filter (λ q. not (p == q)) x.pids;
}

abbrev pub tells : Tracees → Option Reply → Waited
tells x r = record { tracees = x; reply = r }

abbrev pub waited : Tracees → List Report → List ℕ → Waited
waited x [] [] = record { tracees = x; reply = Some echild }
waited x [] (q ∷ qs) = record { tracees = x; reply = None }
waited x (r ∷ rest) qs = record { tracees = took x rest r.pid r.stop; reply = Some (told r.pid r.stop) }

-- Seize of process 1

abbrev pub seized : Tracees → ℕ → Traced → TraceOptions → Tracees
seized x p traced w = attached x p (record { held = traced.held; options = Some w; message = traced.message })
