-- No event changes how many processes there may be.
use Rattle.std.proofs.Common.{◌≡◌, ℕ, Bool, true, false, cond, List, [], ◌∷◌, Option, Some, None, refl, ap, sym, ◌∙◌}
use Rattle.std.specs.Prelude.{◌==◌}
use Rattle.lx_abi.specs.Log.{entries, items_of}
use Rattle.lx_abi.specs.Scripts.{no_choice}
use Rattle.lx_abi.specs.declared.boot.Boot.{Boot}
use Rattle.lx_abi.specs.declared.outcome.Outcome.{Outcome}
use Rattle.lx_abi.specs.declared.ptrace.Reply.{Reply}
use Rattle.lx_abi.specs.declared.ptrace.Request.{Request}
use Rattle.lx_abi.specs.declared.ptrace.Request.TheVariants.{Boot as Boot_with, Wait, To, Outcome as Ask_outcome}
use Rattle.lx_abi.specs.declared.ptrace.TraceOptions.{TraceOptions}
use Rattle.lx_abi.specs.declared.schedule.Event.{Event}
use Rattle.lx_abi.specs.declared.schedule.Event.TheVariants.{Turn, Serve}
use Rattle.lx_abi.specs.declared.script.Choice.{Choice}
use Rattle.lx_abi.specs.declared.status.Stop.{Stop}
use Rattle.lx_abi.specs.declared.status.Stop.TheVariants.{Syscall as Syscall_stop, Signal as Signal_stop}
use Rattle.lx_abi.specs.declared.status.Stop.TheVariants.{Group as Group_stop, Event as Event_stop, Ended}
use Rattle.lx_model.specs.Turn.{Out, turn}
use Rattle.lx_model.specs.Kernel.{Script, Kernel, choice_at, after_turn, with_child}
use Rattle.lx_model.specs.declared.event.PtraceEvent.{PtraceEvent}
use Rattle.lx_model.specs.declared.event.PtraceEvent.TheVariants.{Plain, Execed, Forked}
use Rattle.lx_model.specs.declared.stage.Task.{Task}
use Rattle.lx_model.specs.declared.stage.Task.TheVariants as task
use Rattle.lx_proc.specs.declared.state.ProcessLimits.{ProcessLimits}
use Rattle.lx_proc.specs.declared.state.Shared.{Shared}
use Rattle.lx_proc.specs.declared.state.UserState.{UserState}
use Rattle.lx_proc.specs.State.{limits_of}
use Rattle.lx_boot.specs.Boots.{fault_of}
use Rattle.lx_boot.specs.First.{first_shared}
use Rattle.lx_exec.specs.Programs.{booted}
use Rattle.lx_turn.specs.Linux.{linux}
use Rattle.lx_sound.proofs.Limits.{limits_stay}
use Rattle.lx_sound.proofs.Turns.{first_sound}
use Rattle.pt_model.specs.declared.ptrace.Report.{Report}
use Rattle.pt_model.specs.Ptrace.{Host, is_effective, host_turn, host_turn_of, moved, inherits, newborn, bears}
use Rattle.pt_model.specs.Requests.{take_report, serve_wait, serve}
use Rattle.pt_model.specs.Parts.{Options}
use Rattle.pt_model.specs.Tracer.{Focus, request}
use Rattle.pt_model.specs.World.{World, met, happens_asked, happens, world_run, first_world}
use Rattle.pt_sound.specs.Limits.{EventsKeepLimits, WorldsKeepLimits}
use Rattle.pt_sound.specs.Traced.{HostIsSound}
use Rattle.pt_sound.proofs.Traced.{asked_sound}

abbrev TheHost : Type 0
TheHost = Host Shared UserState

abbrev TheKernel : Type 0
TheKernel = Kernel Shared UserState

-- A turn is one of the untraced kernel under no script.

abbrev nothing_chosen : Script
nothing_chosen call n = no_choice

none_chosen : (traced : Bool) (count : ℕ → ℕ) (t : Task UserState)
    → choice_at linux nothing_chosen traced count t ≡ no_choice
none_chosen true count (task.Alive b stage) = refl
none_chosen true count (task.Dying w) = refl
none_chosen true count task.Gone = refl
none_chosen false count t = refl

abbrev as_kernel : TheHost → TheKernel
as_kernel h = record { shared = h.shared; tasks = λ p. (h.procs p).task; child = h.child; log = [] }

child_same : (k : TheKernel) (e : PtraceEvent UserState) → (with_child k e).shared ≡ k.shared
child_same k Plain = refl
child_same k Execed = refl
child_same k (Forked b) = refl

out_keeps : (h : TheHost) (p : ℕ) → HostIsSound h → (host_turn_of linux h p).shared.limits ≡ h.shared.limits
out_keeps h p sound =
    let k : TheKernel = as_kernel h in
    let c : Choice = choice_at linux nothing_chosen (p == 1) (λ n. entries p n (items_of k.log)) (k.tasks p) in
    let o : Out Shared UserState = turn linux c k.shared k.child p (k.tasks p) in
    ap (λ x. (turn linux x k.shared k.child p (k.tasks p)).shared.limits)
    (sym (none_chosen (p == 1) (λ n. entries p n (items_of k.log)) (k.tasks p)))
    ∙ ap (λ (s : Shared). s.limits) (sym (child_same (after_turn k p o) o.event))
    ∙ limits_stay nothing_chosen false k p sound

newborn_same : (h : TheHost) (b : UserState) (w : Option TraceOptions) → (newborn h b w).shared ≡ h.shared
newborn_same h b None = refl
newborn_same h b (Some w) = refl

bears_same : (h : TheHost) (w : Option TraceOptions) (e : PtraceEvent UserState) → (bears h w e).shared ≡ h.shared
bears_same h w Plain = refl
bears_same h w Execed = refl
bears_same h w (Forked b) = newborn_same h b (inherits w)

turn_keeps : (h : TheHost) (p : ℕ) → HostIsSound h → (host_turn linux h p).shared.limits ≡ h.shared.limits
turn_keeps h p sound = go (is_effective linux h.shared p (h.procs p))
  where
    o : Out Shared UserState
    o = host_turn_of linux h p

    there : TheHost
    there = moved h p (h.procs p).options o

    go : (b : Bool) → (cond b (bears there (h.procs p).options o.event) h).shared.limits ≡ h.shared.limits
    go true =
        ap (λ (s : Shared). s.limits) (bears_same there (h.procs p).options o.event) ∙ out_keeps h p sound
    go false = refl

-- A request changes nothing that processes share.

took_same : (h : TheHost) (rest : List Report) (p : ℕ) (stop : Stop) → (take_report h rest p stop).shared ≡ h.shared
took_same h rest p (Syscall_stop good) = refl
took_same h rest p (Signal_stop signal) = refl
took_same h rest p (Group_stop signal) = refl
took_same h rest p (Event_stop event) = refl
took_same h rest p (Ended word) = refl

wait_same : (h : TheHost) (queue : List Report) (tracees : List ℕ) → (serve_wait h queue tracees).host.shared ≡ h.shared
wait_same h [] [] = refl
wait_same h [] (q ∷ qs) = refl
wait_same h (r ∷ rest) qs = took_same h rest r.pid r.stop

serve_same : (outcome : Shared → Outcome) (h : TheHost) (q : Request) → (serve linux outcome h q).host.shared ≡ h.shared
serve_same outcome h (Boot_with boot limit words) = refl
serve_same outcome h Wait = wait_same h h.queue h.tracees
serve_same outcome h (To p q) = refl
serve_same outcome h Ask_outcome = refl

-- An event.

module _ (outcome : Shared → Outcome) (options : Options) (script : Script) where
  met_same : (w : World Shared UserState) (focus : Focus) (h : TheHost) (r : Option Reply)
      → (met options script w focus h r).host ≡ h
  met_same w focus h None = refl
  met_same w focus h (Some r) = refl

  asked_keeps : (w : World Shared UserState) (focus : Focus) (q : Option Request) (e : Event) → HostIsSound w.host
      → (happens_asked linux outcome options script w focus q e).host.shared.limits ≡ w.host.shared.limits
  asked_keeps w focus None e sound = refl
  asked_keeps w focus (Some q) (Turn p) sound = turn_keeps w.host p sound
  asked_keeps w focus (Some q) Serve sound =
      let there = serve linux outcome w.host q in
      ap (λ (h : TheHost). h.shared.limits) (met_same w focus there.host there.reply)
      ∙ ap (λ (s : Shared). s.limits) (serve_same outcome w.host q)

  -- a world that is sound, with these limits
  pub record Keeps (limits : ProcessLimits) (w : World Shared UserState) : Type 0 where
    pub sound : HostIsSound w.host
    pub limits_are : w.host.shared.limits ≡ limits

  pub keeps_on : (limits : ProcessLimits) (w : World Shared UserState) (e : Event) → Keeps limits w
      → Keeps limits (happens linux outcome options script w e)
  keeps_on limits w e k = record {
    sound = asked_sound outcome options script w w.tracer.focus (request options w.tracer.focus) e k.sound;
    limits_are = asked_keeps w w.tracer.focus (request options w.tracer.focus) e k.sound ∙ k.limits_are;
  }

  run_keeps : (limits : ProcessLimits) (w : World Shared UserState) (events : List Event) → Keeps limits w
      → Keeps limits (world_run linux outcome options script w events)
  run_keeps limits w [] k = k
  run_keeps limits w (e ∷ events) k =
      run_keeps limits (happens linux outcome options script w e) events (keeps_on limits w e k)

  pub first_keeps : (boot : Boot) → fault_of boot ≡ None
      → Keeps (limits_of boot.limits)
      (first_world (first_shared boot.limits boot.files boot.input) (booted boot.argv boot.env))
  first_keeps boot none = record { sound = first_sound boot none; limits_are = refl }

pub events_keep_limits : EventsKeepLimits
events_keep_limits outcome options script w e sound =
    asked_keeps outcome options script w w.tracer.focus (request options w.tracer.focus) e sound

pub worlds_keep_limits : WorldsKeepLimits
worlds_keep_limits outcome options script boot events none =
    (run_keeps outcome options script (limits_of boot.limits)
    (first_world (first_shared boot.limits boot.files boot.input) (booted boot.argv boot.env)) events
    (first_keeps outcome options script boot none)).limits_are
