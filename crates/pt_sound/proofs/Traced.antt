-- Turns, requests and events keep the states of a traced run sound.
use Rattle.std.proofs.Common.{◌≡◌, ℕ, suc, Bool, true, false, cond, List, [], ◌∷◌, Option, Some, None, refl, ap, sym, subst, ◌∙◌, arith}
use Rattle.std.proofs.lemmas.Bool.Decides.{nat_tests}
use Rattle.std.specs.Prelude.{◌==◌}
use Rattle.std.specs.Option.{unwrap_or}
use Rattle.std.specs.FinMap as maps
use Rattle.lx_abi.specs.Scripts.{no_choice}
use Rattle.lx_abi.specs.declared.outcome.Outcome.{Outcome}
use Rattle.lx_abi.specs.declared.ptrace.Ask.{Ask}
use Rattle.lx_abi.specs.declared.ptrace.Ask.TheVariants.{Seize, SetOptions, GetRegs, SetRegs, Peek, Syscall, EventMsg, SigInfo, Listen}
use Rattle.lx_abi.specs.declared.ptrace.Reply.{Reply}
use Rattle.lx_abi.specs.declared.ptrace.Request.{Request}
use Rattle.lx_abi.specs.declared.ptrace.Request.TheVariants.{Boot as Boot_with, Wait, To, Outcome as Ask_outcome}
use Rattle.lx_abi.specs.declared.ptrace.TraceOptions.{TraceOptions}
use Rattle.lx_abi.specs.Options.{trace_options}
use Rattle.lx_abi.specs.declared.schedule.Event.{Event}
use Rattle.lx_abi.specs.declared.schedule.Event.TheVariants.{Turn, Serve}
use Rattle.lx_abi.specs.declared.status.Stop.{Stop}
use Rattle.lx_abi.specs.declared.status.Stop.TheVariants.{Syscall as Syscall_stop, Signal as Signal_stop, Group as Group_stop, Event as Event_stop, Ended}
use Rattle.lx_model.specs.Rows.{row}
use Rattle.lx_model.specs.Turn.{Out}
use Rattle.lx_model.specs.Kernel.{Script, put, after_turn, with_child}
use Rattle.lx_model.specs.declared.event.PtraceEvent.{PtraceEvent}
use Rattle.lx_model.specs.declared.event.PtraceEvent.TheVariants.{Plain, Execed, Forked}
use Rattle.lx_model.specs.declared.stage.Stage.{Stage}
use Rattle.lx_model.specs.declared.stage.Stage.TheVariants.{Born}
use Rattle.lx_model.specs.declared.stage.Task.{Task}
use Rattle.lx_model.specs.declared.stage.Task.TheVariants as task
use Rattle.lx_proc.specs.declared.state.Shared.{Shared}
use Rattle.lx_proc.specs.declared.state.UserState.{UserState}
use Rattle.lx_boot.specs.First.{first_shared}
use Rattle.lx_exec.specs.Programs.{booted}
use Rattle.lx_turn.specs.Linux.{linux}
use Rattle.lx_sound.specs.Pages.{HasFewPages, IsSmall}
use Rattle.lx_sound.specs.Sound.{Agree, Sound, IsSound, RunsSoundly}
use Rattle.lx_sound.proofs.Turns.{turn_sound, first_sound}
use Rattle.lx_sound.proofs.Ends.{stands}
use Rattle.pt_model.specs.declared.ptrace.Report.{Report}
use Rattle.pt_model.specs.Ptrace.{Proc, Host, is_effective, host_turn_of, proc_after, moved, inherits, newborn, bears}
use Rattle.pt_model.specs.Requests.{Answered, stopped, goes_from, set_options, seize, unseized, answer_at, answer, answered, take_report, serve_wait, serve}
use Rattle.pt_model.specs.Parts.{Options}
use Rattle.pt_model.specs.Tracer.{Focus, request}
use Rattle.pt_model.specs.World.{World, met, happens_asked, happens, world_run, first_world}
use Rattle.pt_model.specs.Hosting.{Hosting, host_in, IsFresh, hosting_turn, hosting_serve, hosting_pending, hosting_event, hosting_asked, first_hosting}
use Rattle.pt_model.specs.HostLaws.{HostsTurnAlike, HostsServeAlike, HostsBeginAlike}
use Rattle.pt_sound.specs.Traced.{HostIsSound, TurnsStaySound, RequestsStaySound, WorldsAreSound, Deed, Puts, Comes, after, after_all, HostsAreSound}

-- A turn.

abbrev Tasks : Type 0
Tasks = ℕ → Task UserState

-- what each process is at counts alone
same_tasks : (s : Shared) (f g : Tasks) (child : ℕ) → ((p : ℕ) → f p ≡ g p) → Sound s f child → Sound s g child
same_tasks s f g child same h = record {
  parts = h.parts;
  agree = λ p. subst (Agree (maps.get s.entries p)) (same p) (h.agree p);
  words = h.words;
  pids = h.pids;
  live = h.live;
  last = h.last;
  pages = λ p. subst IsSmall (same p) (h.pages p);
}

abbrev TheHost : Type 0
TheHost = Host Shared UserState

abbrev task_of : Proc UserState → Task UserState
task_of t = t.task

put_task : (f : ℕ → Proc UserState) (p : ℕ) (t : Proc UserState) (q : ℕ) → put (λ i. (f i).task) p t.task q ≡ (put f p t q).task
put_task f p t q = go (p == q)
  where
    go : (b : Bool) → cond b t.task (f q).task ≡ task_of (cond b t (f q))
    go true = refl
    go false = refl

module _ (h : TheHost) (p : ℕ) (w : Option TraceOptions) (o : Out Shared UserState) where
  abbrev there : TheHost
  there = moved h p w o

  moved_tasks : (q : ℕ) → put (λ i. (h.procs i).task) p o.task q ≡ (there.procs q).task
  moved_tasks q = put_task h.procs p (proc_after w o.task o.item o.event) q

  born_tasks : (b : UserState) (t : Proc UserState) → t.task ≡ task.Alive b Born → (q : ℕ) → put (put (λ i. (h.procs i).task) p o.task) h.child (task.Alive b Born) q ≡ (put there.procs h.child t q).task
  born_tasks b t is q = go (h.child == q)
    where
      go : (c : Bool) → cond c (task.Alive b Born) (put (λ i. (h.procs i).task) p o.task q) ≡ task_of (cond c t (there.procs q))
      go true = sym is
      go false = moved_tasks q

  newborn_sound : (b : UserState) (x : Option TraceOptions) → Sound o.shared (put (put (λ i. (h.procs i).task) p o.task) h.child (task.Alive b Born)) (suc h.child) → HostIsSound (newborn there b x)
  newborn_sound b None s = same_tasks o.shared _ _ (suc h.child) (born_tasks b (record { task = task.Alive b Born; held = false; options = None }) refl) s
  newborn_sound b (Some y) s = same_tasks o.shared _ _ (suc h.child) (born_tasks b (record { task = task.Alive b Born; held = true; options = Some y }) refl) s

  bears_sound : (e : PtraceEvent UserState) → IsSound (with_child (after_turn (record { shared = h.shared; tasks = λ i. (h.procs i).task; child = h.child; log = [] }) p o) e) → HostIsSound (bears there w e)
  bears_sound Plain s = same_tasks o.shared _ _ h.child moved_tasks s
  bears_sound Execed s = same_tasks o.shared _ _ h.child moved_tasks s
  bears_sound (Forked b) s = newborn_sound b (inherits w) s

pub turns_sound : TurnsStaySound
turns_sound h p s = go (is_effective linux h.shared p (h.procs p))
  where
    o : Out Shared UserState
    o = host_turn_of linux h p

    turned : HostIsSound (bears (moved h p (h.procs p).options o) (h.procs p).options o.event)
    turned = bears_sound h p (h.procs p).options o o.event
        (turn_sound no_choice (record { shared = h.shared; tasks = λ i. (h.procs i).task; child = h.child; log = [] }) p (h.procs p).task refl s)

    go : (b : Bool) → HostIsSound (cond b (bears (moved h p (h.procs p).options o) (h.procs p).options o.event) h)
    go true = turned
    go false = s

-- A request.

-- a process is at what it was at, or lives on elsewhere
data Stands (t : Task UserState) (t' : Task UserState) : Type 0 where
  Stays : t' ≡ t → Stands t t'
  Goes : (b c : UserState) (stage next : Stage) → t ≡ task.Alive b stage → t' ≡ task.Alive c next → c.memory ≡ b.memory → Stands t t'

abbrev Keeps : Proc UserState → Answered UserState → Type 0
Keeps t a = Stands t.task a.proc.task

module _ (t : Proc UserState) (b : UserState) (stage : Stage) (is : t.task ≡ task.Alive b stage) where
  options_keep : (x : Option TraceOptions) → Keeps t (set_options t x)
  options_keep None = Stays refl
  options_keep (Some w) = Stays refl

  goes_keeps : (x : Option Stage) → Keeps t (goes_from t b x)
  goes_keeps None = Stays refl
  goes_keeps (Some next) = Goes b b stage next is refl refl

  stopped_keeps : (message : ℕ) (q : Ask) → Keeps t (stopped linux t b stage message q)
  stopped_keeps message (Seize options) = Stays refl
  stopped_keeps message (SetOptions options) = options_keep (trace_options options)
  stopped_keeps message GetRegs = Stays refl
  stopped_keeps message (SetRegs r) = Goes b (linux.with_regs b r) stage stage is refl refl
  stopped_keeps message (Peek address length) = Stays refl
  stopped_keeps message (Syscall n) = goes_keeps ((row stage).resume n)
  stopped_keeps message EventMsg = Stays refl
  stopped_keeps message SigInfo = Stays refl
  stopped_keeps message Listen = goes_keeps (row stage).listen

seize_keeps : (t : Proc UserState) (x : Option TraceOptions) → Keeps t (seize t x)
seize_keeps t None = Stays refl
seize_keeps t (Some w) = Stays refl

unseized_keeps : (t : Proc UserState) (q : Ask) → Keeps t (unseized t q)
unseized_keeps t (Seize options) = seize_keeps t (trace_options options)
unseized_keeps t (SetOptions options) = Stays refl
unseized_keeps t GetRegs = Stays refl
unseized_keeps t (SetRegs r) = Stays refl
unseized_keeps t (Peek address length) = Stays refl
unseized_keeps t (Syscall n) = Stays refl
unseized_keeps t EventMsg = Stays refl
unseized_keeps t SigInfo = Stays refl
unseized_keeps t Listen = Stays refl

answer_keeps : (message : ℕ) (t : Proc UserState) (held : Bool) (w : Option TraceOptions) (at : Task UserState) (q : Ask) → t.task ≡ at → Keeps t (answer_at linux message t held w at q)
answer_keeps message t true (Some w) (task.Alive b stage) q is = stopped_keeps t b stage is message q
answer_keeps message t true (Some w) (task.Dying word) q is = Stays refl
answer_keeps message t true (Some w) task.Gone q is = Stays refl
answer_keeps message t true None at q is = unseized_keeps t q
answer_keeps message t false w at q is = Stays refl

-- another process of the table stays
stays_at : (f : ℕ → Proc UserState) (p : ℕ) (t : Proc UserState) → t.task ≡ (f p).task → (q : ℕ) → (f q).task ≡ (put f p t q).task
stays_at f p t is q = go (p == q) refl
  where
    go : (b : Bool) → (p == q) ≡ b → (f q).task ≡ task_of (cond b t (f q))
    go true eq = let same : p ≡ q = grind (arith, nat_tests, eq) in sym (is ∙ ap (λ i. (f i).task) same)
    go false other = refl

answered_sound : (h : TheHost) (p : ℕ) (a : Answered UserState) → Keeps (h.procs p) a → HostIsSound h → HostIsSound (answered h p a)
answered_sound h p a (Stays same) s = same_tasks h.shared _ _ h.child (stays_at h.procs p a.proc same) s
answered_sound h p a (Goes b c stage next is new kept) s =
    same_tasks h.shared _ _ h.child (λ q. ap (λ t. put (λ i. (h.procs i).task) p t q) (sym new) ∙ put_task h.procs p a.proc q)
    (stands h.shared (λ i. (h.procs i).task) h.child p b c stage next is (subst HasFewPages (sym kept) (subst IsSmall is (s.pages p))) s)

took_sound : (h : TheHost) (rest : List Report) (p : ℕ) (stop : Stop) → HostIsSound h → HostIsSound (take_report h rest p stop)
took_sound h rest p (Syscall_stop good) s = s
took_sound h rest p (Signal_stop signal) s = s
took_sound h rest p (Group_stop signal) s = s
took_sound h rest p (Event_stop event) s = s
took_sound h rest p (Ended word) s =
    same_tasks h.shared _ _ h.child (stays_at h.procs p (record { task = (h.procs p).task; held = false; options = (h.procs p).options }) refl) s

wait_sound : (h : TheHost) (queue : List Report) (tracees : List ℕ) → HostIsSound h → HostIsSound (serve_wait h queue tracees).host
wait_sound h [] [] s = s
wait_sound h [] (q ∷ qs) s = s
wait_sound h (r ∷ rest) qs s = took_sound h rest r.pid r.stop s

pub requests_sound : RequestsStaySound
requests_sound outcome h (Boot_with boot limit words) s = s
requests_sound outcome h Wait s = wait_sound h h.queue h.tracees s
requests_sound outcome h (To p q) s =
    let t : Proc UserState = h.procs p in
    answered_sound h p (answer linux (h.messages p) t q) (answer_keeps (h.messages p) t t.held t.options t.task q refl) s
requests_sound outcome h Ask_outcome s = s

-- A world.

module _ (outcome : Shared → Outcome) (options : Options) (script : Script) where
  met_sound : (w : World Shared UserState) (focus : Focus) (h : TheHost) (r : Option Reply) → HostIsSound h → HostIsSound (met options script w focus h r).host
  met_sound w focus h None s = s
  met_sound w focus h (Some r) s = s

  pub asked_sound : (w : World Shared UserState) (focus : Focus) (q : Option Request) (e : Event) → HostIsSound w.host → HostIsSound (happens_asked linux outcome options script w focus q e).host
  asked_sound w focus None e s = s
  asked_sound w focus (Some q) (Turn p) s = turns_sound w.host p s
  asked_sound w focus (Some q) Serve s = met_sound w focus (serve linux outcome w.host q).host (serve linux outcome w.host q).reply (requests_sound outcome w.host q s)

  run_sound : (w : World Shared UserState) (events : List Event) → HostIsSound w.host → HostIsSound (world_run linux outcome options script w events).host
  run_sound w [] s = s
  run_sound w (e ∷ events) s = run_sound (happens linux outcome options script w e) events (asked_sound w w.tracer.focus (request options w.tracer.focus) e s)

pub worlds_sound : WorldsAreSound
worlds_sound outcome options script boot events none =
    run_sound outcome options script (first_world (first_shared boot.limits boot.files boot.input) (booted boot.argv boot.env)) events (first_sound boot none)

-- The machine that code has.

abbrev TheHosting : Type 0
TheHosting = Hosting Shared UserState

record IsKept (v : TheHosting) : Type 0 where
  sound : RunsSoundly v.running
  fresh : IsFresh v

module _ (turns : HostsTurnAlike Shared UserState) (serves : HostsServeAlike Shared UserState) (outcome : Shared → Outcome) (follow : Bool) where
  turn_kept : (v : TheHosting) (p : ℕ) → IsKept v → IsKept (hosting_turn linux follow v p)
  turn_kept v p h = let alike = turns linux follow v p h.fresh in record {
    sound = subst HostIsSound (sym alike.0) (turns_sound (host_in v) p h.sound);
    fresh = alike.1;
  }

  serve_kept : (v : TheHosting) (q : Request) → IsKept v → IsKept (hosting_serve linux outcome v q).hosting
  serve_kept v q h = let alike = serves linux outcome v q h.fresh in record {
    sound = subst HostIsSound (sym alike.0) (requests_sound outcome (host_in v) q h.sound);
    fresh = alike.2;
  }

  pending_kept : (v : TheHosting) (q : Option Request) → IsKept v → IsKept (hosting_pending linux outcome v q).hosting
  pending_kept v None h = h
  pending_kept v (Some q) h = let served = serve_kept v q h in record { sound = served.sound; fresh = served.fresh }

  event_kept : (v : TheHosting) (e : Event) → IsKept v → IsKept (hosting_event linux outcome follow v e).hosting
  event_kept v (Turn p) h = turn_kept v p h
  event_kept v Serve h = pending_kept v v.pending h

  put_kept : (v : TheHosting) (q : Request) (o : Option Request) → IsKept v → IsKept (unwrap_or (hosting_asked v q o) v)
  put_kept v q None h = record { sound = h.sound; fresh = h.fresh }
  put_kept v q (Some other) h = h

  deed_kept : (v : TheHosting) (d : Deed) → IsKept v → IsKept (after outcome follow v d)
  deed_kept v (Puts q) h = put_kept v q v.pending h
  deed_kept v (Comes e) h = event_kept v e h

  deeds_kept : (v : TheHosting) (ds : List Deed) → IsKept v → IsKept (after_all outcome follow v ds)
  deeds_kept v [] h = h
  deeds_kept v (d ∷ ds) h = deeds_kept (after outcome follow v d) ds (deed_kept v d h)

pub hosts_sound : HostsTurnAlike Shared UserState → HostsServeAlike Shared UserState → HostsBeginAlike Shared UserState → HostsAreSound
hosts_sound turns serves begins outcome follow boot deeds none =
    let s : Shared = first_shared boot.limits boot.files boot.input in
    let b : UserState = booted boot.argv boot.env in
    let alike = begins s b in
    (deeds_kept turns serves outcome follow (first_hosting s b) deeds (record { sound = subst HostIsSound (sym alike.0) (first_sound boot none); fresh = alike.1 })).sound
