-- The events of a journal as the world makes them.
use Rattle.std.proofs.Common.{◌≡◌, ◌⊎◌, ℕ, suc, ◌-◌, ◌≤◌, Bool, true, false, cond, List, [], ◌∷◌, length, map}
use Rattle.std.proofs.Common.{Option, Some, None, refl, sym, ap, ap₂, subst, ◌∙◌, inl, inr, arith}
use Rattle.std.proofs.lemmas.Bool.Decides.{nat_tests}
use Rattle.std.specs.Cmp.{nat_cmp_total}
use Rattle.std.specs.FinMap as maps
use Rattle.std.specs.Prelude.{◌==◌, ◌&&◌}
use Rattle.lx_abi.specs.Scripts.{choice_of, no_choice}
use Rattle.lx_abi.specs.declared.boot.Boot.{Boot}
use Rattle.lx_abi.specs.declared.ptrace.Reply.{Reply}
use Rattle.lx_abi.specs.declared.ptrace.Request.{Request}
use Rattle.lx_abi.specs.declared.schedule.Event.{Event}
use Rattle.lx_abi.specs.declared.schedule.Event.TheVariants.{Turn, Serve}
use Rattle.lx_abi.specs.declared.script.Rule.{Rule}
use Rattle.lx_boot.specs.First.{first_entry, first_shared}
use Rattle.lx_exec.specs.Programs.{booted}
use Rattle.lx_kernel.specs.Outcomes.{outcome_in}
use Rattle.lx_model.specs.Finite.{task_mode}
use Rattle.lx_model.specs.Kernel.{Script, born}
use Rattle.lx_model.specs.Turn.{turn}
use Rattle.lx_model.specs.declared.stage.Stage.TheVariants.{Born}
use Rattle.lx_model.specs.declared.stage.Task.TheVariants.{Alive}
use Rattle.lx_proc.specs.State.{limits_of}
use Rattle.lx_proc.specs.declared.state.ProcessLimits.{ProcessLimits}
use Rattle.lx_proc.specs.declared.state.Shared.{Shared}
use Rattle.lx_proc.specs.declared.state.UserState.{UserState}
use Rattle.lx_turn.specs.Linux.{linux}
use Rattle.lx_turn.specs.Reactions.{is_killed}
use Rattle.pt_model.specs.Attending.{Attending, is_ready, left_pending, listed}
use Rattle.pt_model.specs.HostLaws.{HostsAreReady, HostsAttendAlike, HostsBeginAlike}
use Rattle.pt_model.specs.Hosting.{host_in, hosting_event, hosting_turn, with_pending, IsFresh}
use Rattle.pt_model.specs.Parts as parts
use Rattle.pt_model.specs.Ptrace.{Host, Proc, is_effective, is_there}
use Rattle.pt_model.specs.Tracer.{asked_options, next, request}
use Rattle.pt_model.specs.World.{World, first_world, happens, world_run}
use Rattle.pt_journal.specs.Journals.{events_of, last_from, last_turn, Replays}
use Rattle.pt_journal.specs.Telling.{Asks, AsksAtEach, JournalRun, JournalsTell}
use Rattle.pt_journal.specs.Told.{Told}
use Rattle.pt_journal.specs.declared.entry.Entry.{Entry}
use Rattle.pt_journal.specs.declared.entry.Entry.TheVariants.{Ask, Did}
use Rattle.pt_journal.proofs.Running as running
use Rattle.pt_kernel.specs.Hosts.{Linux_host, readiness_of}
use Rattle.pt_kernel.specs.Seen.{is_able}
use Rattle.pt_kernel.proofs.Called.{readiness_is}
use Rattle.pt_schedule.specs.Cycle.{next_able}
use Rattle.pt_schedule.specs.Modes.{moves}
use Rattle.pt_schedule.specs.Schedules.{Readiness}
use Rattle.pt_sound.proofs.Limits.{Keeps, first_keeps, keeps_on}
use Rattle.host_shared.specs.HeldStates.{first_of, host_by, InCycle, IsStuck}
use Rattle.tr_core.specs.Settings.{options_by}
use Rattle.tr_core.specs.declared.settings.Options.{Options}
use Rattle.trace_run.specs.BootedRuns.{following}
use Rattle.trace_run.specs.Local.{Feeds}
use Rattle.trace_run.specs.declared.local.Run.{Run}
use Rattle.trace_run.specs.declared.running.Ended.{Ended}
use Rattle.trace_run.specs.declared.running.Ended.TheVariants.{Whole, OutOfTurns}
use Rattle.trace_threads.specs.InTurn.{AreDue, BeginServed, IsDue, TakesTurns, ThreadsTakeTurns, last_after, next_in}
use Rattle.trace_threads.specs.ThreadRuns.{ThreadRun}
use Rattle.trace_threads.proofs.Found.{next_found}
use Rattle.trace_threads.proofs.Serving.{first, second, third, to_second, to_third}

abbrev Linux_world : Type 0
Linux_world = World Shared UserState

-- ---- nobody is able before process 1 is resumed

abbrev able_by : Shared → ℕ → ℕ → Proc UserState → Bool
able_by s child p t =
    is_effective linux s p t && moves (task_mode t.task) (task_mode (turn linux no_choice s child p t.task).task)

-- ---- the events, by the entries

module _ (ready : HostsAreReady Shared UserState) (alike : HostsAttendAlike Shared UserState) (o : parts.Options)
    (script : Script) (follow : Bool) (limits : ProcessLimits) where
  able_so : (v : Linux_host) (w : Linux_world) → w.host ≡ host_in v
      → (readiness_of (host_by v follow)).able ≡ is_able linux w.host
  able_so v w h =
      ap (λ (r : Readiness). r.able) (readiness_is ready (host_by v follow) refl) ∙ ap (is_able linux) (sym h)

  abbrev Steady : Linux_world → Type 0
  Steady w = Keeps outcome_in o script limits w

  pids_so : (v : Linux_host) (w : Linux_world) → w.host ≡ host_in v → Steady w
      → (readiness_of (host_by v follow)).last_pid ≡ limits.last_pid
  pids_so v w h k =
      ap (λ (x : Host Shared UserState). x.shared.limits.last_pid) (sym h)
      ∙ ap (λ (l : ProcessLimits). l.last_pid) k.limits_are

  next_so : (v : Linux_host) (w : Linux_world) (n : ℕ) → w.host ≡ host_in v → Steady w
      → next_able (readiness_of (host_by v follow)).able (readiness_of (host_by v follow)).last_pid n
      ≡ next_in limits.last_pid w n
  next_so v w n h k = ap₂ (λ able most. next_able able most n) (able_so v w h) (pids_so v w h k)

  -- how the entries end, whose last turn was of this process
  abbrev Ends : Linux_world → List Event → ℕ → ℕ → Linux_host → Type 0
  Ends w es left last g =
      (request o (world_run linux outcome_in o script w es).tracer.focus ≡ None)
      ⊎ ((length es ≡ left) ⊎ IsStuck (host_by g follow) last)

  ends_on : (w w' : Linux_world) (e : Event) (es : List Event) (left last : ℕ) (g : Linux_host)
      → happens linux outcome_in o script w e ≡ w' → Ends w (e ∷ es) left last g → Ends w' es (left - 1) last g
  ends_on w w' e es left last g went (inl over) =
      inl (ap (λ (u : Linux_world). request o (world_run linux outcome_in o script u es).tracer.focus) (sym went) ∙ over)
  ends_on w w' e es left last g went (inr (inl full)) = inr (inl (omega (arith, full)))
  ends_on w w' e es left last g went (inr (inr stuck)) = inr (inr stuck)

  abbrev Due : Linux_world → ℕ → ℕ → List Event → Type 0
  Due w last left es = AreDue limits.last_pid o script w last left es

  due_on : (w w' : Linux_world) (e : Event) (last left : ℕ) (es : List Event)
      → happens linux outcome_in o script w e ≡ w' → is_there (request o w.tracer.focus) ≡ true
      → IsDue limits.last_pid w last e → length (e ∷ es) ≤ left → Due w' (last_after last e) (left - 1) es
      → Due w last left (e ∷ es)
  due_on w w' e last left es went asked due few rest = (
    asked,
    (
      due,
      (
        omega (arith, few),
        subst (λ (u : Linux_world). Due u (last_after last e) (left - 1) es) (sym went) rest,
      ),
    ),
  )

  steady_on : (w w' : Linux_world) (e : Event) → happens linux outcome_in o script w e ≡ w' → Steady w → Steady w'
  steady_on w w' e went k = subst Steady went (keeps_on outcome_in o script limits w e k)

  at_end : (v g : Linux_host) (w : Linux_world) (xs : List (Request × Reply)) (left last : ℕ) → w.host ≡ host_in v
      → Steady w → running.IsNext v.pending xs → Asks o script w.tracer xs → g ≡ v → Ends w [] left last g
      → Due w last left []
  at_end v g w xs left last h k due asks same (inl over) = inl over
  at_end v g w xs left last h k due asks same (inr (inl full)) = inr (inl (sym full))
  at_end v g w xs left last h k due asks same (inr (inr stuck)) =
      let here : w.host ≡ host_in g = h ∙ ap host_in (sym same) in
      let pending : g.pending ≡ request o w.tracer.focus =
      running.pending_at linux outcome_in follow o script alike v g w xs same due asks stuck.0 in
      inr (inr (record {
        waits =
            ap₂ (λ (a : Host Shared UserState) (q : Option Request). is_ready linux outcome_in (record { host = a; pending = q }))
            here (sym pending)
            ∙ sym (ap (λ (r : Readiness). r.ready) (readiness_is ready (host_by g follow) refl)) ∙ stuck.1;
        pids = ap (λ (l : ProcessLimits). l.last_pid) k.limits_are;
        nobody = sym (next_so g w last here k) ∙ stuck.2;
      }))

  due_by : (es : List Entry) (v g : Linux_host) (w : Linux_world) (xs : List (Request × Reply)) (n left : ℕ)
      → IsFresh v → w.host ≡ host_in v → Steady w → running.IsNext v.pending xs
      → Replays linux outcome_in follow v es g → Told es xs → Asks o script w.tracer xs → InCycle follow v n es
      → length (events_of es) ≤ left → Ends w (events_of es) left (last_from n es) g → Due w n left (events_of es)
  due_by [] v g w xs n left fresh h k due rep told asks cyc few ends = at_end v g w xs left n h k due asks rep ends
  due_by (Ask q ∷ es) v g w [] n left fresh h k due rep told asks cyc few ends = absurd told
  due_by (Ask q ∷ es) v g w (x ∷ xs) n left fresh h k due rep told asks cyc few ends =
      due_by es (with_pending v (Some q)) g w (x ∷ xs) n left fresh h k told.0 rep.2 told.1 asks cyc.1 few ends
  due_by (Did (Turn p) None ∷ es) v g w [] n left fresh h k due rep told asks cyc few ends = absurd told
  due_by (Did (Turn p) None ∷ es) v g w (x ∷ xs) n left fresh h k due rep told asks cyc few ends =
      let like = alike linux outcome_in follow v (Turn p) fresh in
      let s = running.step_turn linux outcome_in follow o script alike v w p x.0 fresh h asks.0 in
      let v' : Linux_host = hosting_turn linux follow v p in
      let w' : Linux_world = running.after_turn linux outcome_in follow o script alike w p in
      let still : v'.pending ≡ v.pending = ap (λ (a : Attending Shared UserState). a.pending) like.0 in
      due_on w w' (Turn p) n left (events_of es) s.went s.asked (sym (next_so v w n h k) ∙ cyc.0) few
      (due_by es v' g w' (x ∷ xs) p (left - 1) like.3 s.host (steady_on w w' (Turn p) s.went k)
      (subst (λ z. running.IsNext z (x ∷ xs)) (sym still) due) rep.2 told asks cyc.1 (omega (arith, few))
      (ends_on w w' (Turn p) (events_of es) left (last_from p es) g s.went ends))
  due_by (Did (Turn p) (Some r) ∷ es) v g w xs n left fresh h k due rep told asks cyc few ends = absurd (cc (rep.0.1))
  due_by (Did Serve None ∷ es) v g w xs n left fresh h k due rep told asks cyc few ends = absurd (cc cyc.0)
  due_by (Did Serve (Some r) ∷ es) v g w [] n left fresh h k due rep told asks cyc few ends = absurd told
  due_by (Did Serve (Some r) ∷ es) v g w (x ∷ xs) n left fresh h k due rep told asks cyc few ends =
      let sv = running.served linux outcome_in follow o script alike v x.0 w.host fresh h
      (running.next_of v.pending x xs rep.0.0 due) in
      let s = running.step_serve linux outcome_in follow o script alike v w x.0 (Some r) h asks.0 sv rep.0.1 in
      let v' : Linux_host = (hosting_event linux outcome_in follow v Serve).hosting in
      let w' : Linux_world = running.after_serve linux outcome_in follow o script alike w x.0 (Some r) in
      let free : v'.pending ≡ None = sv.pending ∙ ap (λ z. left_pending x.0 z) (sym rep.0.1) in
      due_on w w' Serve n left (events_of es) s.went s.asked tt few
      (due_by es v' g w' xs n (left - 1) sv.fresh s.host (steady_on w w' Serve s.went k)
      (running.none_next linux outcome_in follow o script alike v' xs free) rep.2 told.1
      (subst (λ z. Asks o script (next o script w.tracer z).tracer xs) (sym told.0) asks.1) cyc.1 (omega (arith, few))
      (ends_on w w' Serve (events_of es) left (last_from n es) g s.went ends))

-- ---- the first three

module _ (o : parts.Options) (script : Script) (boot : Boot) where
  abbrev s : Shared
  s = first_shared boot.limits boot.files boot.input

  abbrev b : UserState
  b = booted boot.argv boot.env

  abbrev one : Linux_world
  one = first linux outcome_in o script s b

  abbrev two : Linux_world
  two = second linux outcome_in o script s b

  abbrev three : Linux_world
  three = third linux outcome_in o script s b

  safe_at : (p : ℕ) → (p == 1) ≡ true → is_killed (maps.get s.entries p) ≡ false
  safe_at p e =
      let at : p ≡ 1 = grind (arith, nat_tests, e) in
      ap (λ q. is_killed (maps.get s.entries q)) at ∙ ap is_killed (maps.get-insert nat_cmp_total maps.empty 1 first_entry 1)

  -- a process at the boot, process 1 or another
  abbrev other : Bool → Proc UserState
  other t = record { task = born t b; held = t; options = None }

  nobody_first : (p : ℕ) → is_able linux one.host p ≡ false
  nobody_first p = go (p == 1)
    where
      go : (t : Bool) → able_by s 2 p (other t) ≡ false
      go true = refl
      go false = refl

  -- once it is seized

  abbrev seized : Proc UserState
  seized = record { task = Alive b Born; held = true; options = Some (asked_options o.follow) }

  nobody_second : (p : ℕ) → is_able linux two.host p ≡ false
  nobody_second p = go (1 == p) refl
    where
      go : (t : Bool) → (1 == p) ≡ t → able_by s 2 p (cond t seized (other (p == 1))) ≡ false
      go true e =
          let at : (p == 1) ≡ true = grind (arith, nat_tests, e) in
          ap (λ k. k && moves (task_mode (Alive b Born)) (task_mode (turn linux no_choice s 2 p (Alive b Born)).task))
          (safe_at p at)
      go false e = let at : (p == 1) ≡ false = grind (arith, nat_tests, e) in ap (λ t. able_by s 2 p (other t)) at

  nobody_third : (p : ℕ) → is_able linux three.host p ≡ false
  nobody_third p = nobody_second p

  abbrev No_turn : Linux_world → Type 0
  No_turn w = (p : ℕ) → is_able linux w.host p ≡ false

  no_turn : (last_pid last p : ℕ) (w : Linux_world) → No_turn w → next_in last_pid w last ≡ Some p → ⊥
  no_turn last_pid last p w none due =
      let f = next_found (is_able linux w.host) last_pid last p due in absurd (cc (sym (none p) ∙ f.able_so))

  -- where nobody is able the first is no turn
  serves : (k last_pid last left : ℕ) (w w' : Linux_world) (es : List Event) → No_turn w
      → happens linux outcome_in o script w Serve ≡ w'
      → ((es : List Event) → AreDue last_pid o script w' last (left - 1) es → BeginServed k es)
      → AreDue last_pid o script w last left es → BeginServed (suc k) es
  serves k last_pid last left w w' [] none went again d = tt
  serves k last_pid last left w w' (Turn p ∷ es) none went again d = no_turn last_pid last p w none d.1.0
  serves k last_pid last left w w' (Serve ∷ es) none went again d =
      again es (subst (λ (u : Linux_world). AreDue last_pid o script u last (left - 1) es) went d.1.1.1)

  begin_served : (last_pid limit : ℕ) (es : List Event) → AreDue last_pid o script one 0 limit es → BeginServed 3 es
  begin_served last_pid limit es d =
      serves 2 last_pid 0 limit one two es nobody_first (to_second linux outcome_in o script s b)
      (λ fs x.
      serves 1 last_pid 0 (limit - 1) two three fs nobody_second (to_third linux outcome_in o script s b)
      (λ gs y.
      serves 0 last_pid 0 (limit - 1 - 1) three (happens linux outcome_in o script three Serve) gs nobody_third refl
      (λ hs z. tt) y) x) d

-- ---- all of them are the run's

abbrev first_event : Event → Option (Event × List Event) → Event
first_event e None = e
first_event e (Some x) = x.0

abbrev rest_of : List Event → Option (Event × List Event) → List Event
rest_of l None = l
rest_of l (Some x) = x.1

module _ (o : parts.Options) (script : Script) where
  all_fed : (es fs : List Event) (w : Linux_world) → AsksAtEach linux outcome_in o script w es
      → Feeds listed linux outcome_in o script es w fs → fs ≡ es
  all_fed [] [] w a f = refl
  all_fed [] (e ∷ fs) w a f = absurd (cc f.1.1)
  all_fed (e ∷ es) [] w a (inl over) = absurd (cc (sym a.0 ∙ ap is_there over))
  all_fed (e ∷ es) [] w a (inr none) = absurd (cc none)
  all_fed (e ∷ es) (d ∷ fs) w a f =
      let same : e ≡ d = ap (first_event e) f.1.1 in
      let rest : es ≡ f.0 = ap (rest_of es) f.1.1 in
      let on : Linux_world = happens linux outcome_in o script w e in
      ap₂ (λ x xs. x ∷ xs) (sym same)
      (all_fed es fs on a.1
      (subst (λ l. Feeds listed linux outcome_in o script l on fs) (sym rest)
      (subst (λ x. Feeds listed linux outcome_in o script f.0 (happens linux outcome_in o script w x) fs) (sym same)
      f.1.2)))

-- ---- the law

-- what is cited of hosts and of journals
pub record Cited_hosts : Type 0 where
  pub ready : HostsAreReady Shared UserState
  pub alike : HostsAttendAlike Shared UserState
  pub begin : HostsBeginAlike Shared UserState
  pub journals : JournalsTell Shared UserState

module _ (cited : Cited_hosts) (boot : Boot) (limit : ℕ) (script : List Rule) (options : Options) (run : Run)
    (t : ThreadRun boot limit script options false run) where
  abbrev settings : parts.Options
  settings = options_by (following options boot.follow)

  abbrev world : Linux_world
  world = first_world (first_shared boot.limits boot.files boot.input) (booted boot.argv boot.env)

  told : JournalRun linux outcome_in settings (choice_of script) (first_shared boot.limits boot.files boot.input)
      (booted boot.argv boot.env) (events_of t.entries) (map (λ x. x.1) t.given) t.hosting
  told =
      cited.journals linux outcome_in boot.follow settings (choice_of script)
      (first_shared boot.limits boot.files boot.input) (booted boot.argv boot.env) t.entries t.hosting t.given t.replayed
      t.told t.asked

  all : t.run_of.events ≡ events_of t.entries
  all = all_fed settings (choice_of script) (events_of t.entries) t.run_of.events world told.asked t.run_of.given

  ends_by : (ended : Ended) → run.ended ≡ ended
      → Ends cited.ready cited.alike settings (choice_of script) boot.follow (limits_of boot.limits) world
      (events_of t.entries) limit (last_turn t.entries) t.hosting
  ends_by (Whole x) is =
      inl (ap (request settings)
      (ap (λ l. (world_run linux outcome_in settings (choice_of script) world l).tracer.focus) (sym all)
      ∙ t.run_of.told x is))
  ends_by OutOfTurns is = out (t.cut is)
    where
      out : (length (events_of t.entries) ≡ limit)
          ⊎ (IsStuck (host_by t.hosting boot.follow) (last_turn t.entries) ⊎ (false ≡ true))
          → Ends cited.ready cited.alike settings (choice_of script) boot.follow (limits_of boot.limits) world
          (events_of t.entries) limit (last_turn t.entries) t.hosting
      out (inl full) = inr (inl full)
      out (inr (inl stuck)) = inr (inr stuck)
      out (inr (inr bad)) = absurd (cc bad)

  due : AreDue boot.limits.last_pid settings (choice_of script) world 0 limit (events_of t.entries)
  due =
      let s : Shared = first_shared boot.limits boot.files boot.input in
      let b : UserState = booted boot.argv boot.env in
      due_by cited.ready cited.alike settings (choice_of script) boot.follow (limits_of boot.limits) t.entries
      (first_of boot) t.hosting world t.given 0 limit (cited.begin s b).1 (sym (cited.begin s b).0)
      (first_keeps outcome_in settings (choice_of script) boot t.accepted) tt t.replayed t.told t.asked t.cycled t.few
      (ends_by run.ended refl)

  takes_turns : TakesTurns boot limit script options run t
  takes_turns = record {
    all = all;
    served = begin_served settings (choice_of script) boot boot.limits.last_pid limit (events_of t.entries) due;
    due = due;
  }

pub threads_take_turns : Cited_hosts → ThreadsTakeTurns
threads_take_turns cited boot limit script options run t = takes_turns cited boot limit script options run t
