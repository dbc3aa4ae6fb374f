-- Turns of traced processes keep families, and requests leave them.
use Rattle.std.proofs.Common.{ℕ, Bool, true, false, cond, List, [], ◌∷◌, Option, Some, None}
use Rattle.lx_abi.specs.Scripts.{no_choice}
use Rattle.lx_abi.specs.declared.outcome.Outcome.{Outcome}
use Rattle.lx_abi.specs.declared.ptrace.Reply.{Reply}
use Rattle.lx_abi.specs.declared.ptrace.Request.{Request}
use Rattle.lx_abi.specs.declared.ptrace.Request.TheVariants.{Boot as Boot_with, Wait, To, Outcome as Ask_outcome}
use Rattle.lx_abi.specs.declared.ptrace.TraceOptions.{TraceOptions}
use Rattle.lx_abi.specs.declared.schedule.Event.{Event}
use Rattle.lx_abi.specs.declared.schedule.Event.TheVariants.{Turn, Serve}
use Rattle.lx_abi.specs.declared.status.Stop.{Stop}
use Rattle.lx_abi.specs.declared.status.Stop.TheVariants.{Syscall as Syscall_stop, Signal as Signal_stop, Group as Group_stop, Event as Event_stop, Ended}
use Rattle.lx_model.specs.Kernel.{Script}
use Rattle.lx_model.specs.Turn.{Out}
use Rattle.lx_model.specs.declared.event.PtraceEvent.{PtraceEvent}
use Rattle.lx_model.specs.declared.event.PtraceEvent.TheVariants.{Plain, Execed, Forked}
use Rattle.lx_proc.specs.declared.state.Shared.{Shared}
use Rattle.lx_proc.specs.declared.state.UserState.{UserState}
use Rattle.lx_boot.specs.First.{first_shared}
use Rattle.lx_exec.specs.Programs.{booted}
use Rattle.lx_turn.specs.Linux.{linux}
use Rattle.lx_sound.proofs.Turns.{first_sound}
use Rattle.lx_laws.specs.Families.{AreFamilies}
use Rattle.lx_laws.proofs.Turning.{turn_holds}
use Rattle.lx_laws.proofs.Families.{first_families, of_turns}
use Rattle.pt_model.specs.declared.ptrace.Report.{Report}
use Rattle.pt_model.specs.Ptrace.{Host, is_effective, host_turn_of, moved, inherits, newborn, bears}
use Rattle.pt_model.specs.Requests.{take_report, serve_wait, serve}
use Rattle.pt_model.specs.Parts.{Options}
use Rattle.pt_model.specs.Tracer.{Focus, request}
use Rattle.pt_model.specs.World.{World, met, happens_asked, happens, world_run, first_world}
use Rattle.pt_sound.specs.Families.{HasFamilies, TurnsKeepFamilies, RequestsKeepFamilies, WorldsHaveFamilies}
use Rattle.pt_sound.specs.Traced.{HostIsSound}
use Rattle.pt_sound.proofs.Traced.{turns_sound, requests_sound}

abbrev TheHost : Type 0
TheHost = Host Shared UserState

-- a child changes nothing that is shared
newborn_keeps : (h : TheHost) (b : UserState) (w : Option TraceOptions) → HasFamilies h → HasFamilies (newborn h b w)
newborn_keeps h b None k = k
newborn_keeps h b (Some w) k = k

bears_keeps : (h : TheHost) (w : Option TraceOptions) (e : PtraceEvent UserState) → HasFamilies h → HasFamilies (bears h w e)
bears_keeps h w Plain k = k
bears_keeps h w Execed k = k
bears_keeps h w (Forked b) k = newborn_keeps h b (inherits w) k

pub turns_keep_families : TurnsKeepFamilies
turns_keep_families h p sound k = go (is_effective linux h.shared p (h.procs p))
  where
    o : Out Shared UserState
    o = host_turn_of linux h p

    go : (t : Bool) → HasFamilies (cond t (bears (moved h p (h.procs p).options (host_turn_of linux h p)) (h.procs p).options (host_turn_of linux h p).event) h)
    go true = bears_keeps (moved h p (h.procs p).options (host_turn_of linux h p)) (h.procs p).options (host_turn_of linux h p).event
        (turn_holds h.shared h.child p (h.procs p).task (λ t. AreFamilies t.entries) (of_turns h.shared (λ i. (h.procs i).task) h.child p sound k) no_choice)
    go false = k

took_keeps : (h : TheHost) (rest : List Report) (p : ℕ) (stop : Stop) → HasFamilies h → HasFamilies (take_report h rest p stop)
took_keeps h rest p (Syscall_stop good) k = k
took_keeps h rest p (Signal_stop signal) k = k
took_keeps h rest p (Group_stop signal) k = k
took_keeps h rest p (Event_stop event) k = k
took_keeps h rest p (Ended word) k = k

wait_keeps : (h : TheHost) (queue : List Report) (tracees : List ℕ) → HasFamilies h → HasFamilies (serve_wait h queue tracees).host
wait_keeps h [] [] k = k
wait_keeps h [] (q ∷ qs) k = k
wait_keeps h (r ∷ rest) qs k = took_keeps h rest r.pid r.stop k

pub requests_keep_families : RequestsKeepFamilies
requests_keep_families outcome h (Boot_with boot limit words) k = k
requests_keep_families outcome h Wait k = wait_keeps h h.queue h.tracees k
requests_keep_families outcome h (To p q) k = k
requests_keep_families outcome h Ask_outcome k = k

-- A world.

record IsKept (h : TheHost) : Type 0 where
  sound : HostIsSound h
  families : HasFamilies h

module _ (outcome : Shared → Outcome) (options : Options) (script : Script) where
  met_kept : (w : World Shared UserState) (focus : Focus) (h : TheHost) (r : Option Reply) → IsKept h → IsKept (met options script w focus h r).host
  met_kept w focus h None k = k
  met_kept w focus h (Some r) k = k

  asked_kept : (w : World Shared UserState) (focus : Focus) (q : Option Request) (e : Event) → IsKept w.host → IsKept (happens_asked linux outcome options script w focus q e).host
  asked_kept w focus None e k = k
  asked_kept w focus (Some q) (Turn p) k = record { sound = turns_sound w.host p k.sound; families = turns_keep_families w.host p k.sound k.families }
  asked_kept w focus (Some q) Serve k =
      met_kept w focus (serve linux outcome w.host q).host (serve linux outcome w.host q).reply
      (record { sound = requests_sound outcome w.host q k.sound; families = requests_keep_families outcome w.host q k.families })

  run_kept : (w : World Shared UserState) (events : List Event) → IsKept w.host → IsKept (world_run linux outcome options script w events).host
  run_kept w [] k = k
  run_kept w (e ∷ events) k = run_kept (happens linux outcome options script w e) events (asked_kept w w.tracer.focus (request options w.tracer.focus) e k)

pub worlds_have_families : WorldsHaveFamilies
worlds_have_families outcome options script boot events none =
    (run_kept outcome options script (first_world (first_shared boot.limits boot.files boot.input) (booted boot.argv boot.env)) events
    (record { sound = first_sound boot none; families = first_families })).families
