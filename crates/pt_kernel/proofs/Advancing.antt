-- Turns of the kernel in a row are turns of the host.
use Rattle.std.proofs.Common.{◌≡◌, ℕ, zero, suc, ◌<◌, ◌≤◌, Bool, true, false, cond, List, [], ◌∷◌, ◌++◌, replicate, Option, Some, None, unwrap_or, refl, sym, ap, ap₂, subst, ◌∙◌, append-nil, append_assoc, arith}
use Rattle.std.specs.Prelude.{◌&&◌}
use Rattle.std.specs.Ordering.{nat_cmp}
use Rattle.std.specs.FinMap as maps
use Rattle.lx_abi.specs.declared.log.Item.{Item}
use Rattle.lx_abi.specs.declared.log.Mode.{Mode}
use Rattle.lx_abi.specs.declared.log.Mode.TheVariants as mode
use Rattle.lx_abi.specs.declared.ptrace.Request.{Request}
use Rattle.lx_abi.specs.declared.ptrace.TraceOptions.{TraceOptions}
use Rattle.lx_abi.specs.declared.schedule.Event.TheVariants.{Turn}
use Rattle.lx_abi.specs.declared.status.Stop.{Stop}
use Rattle.lx_abi.specs.Scripts.{choice_of}
use Rattle.lx_model.specs.declared.event.PtraceEvent.{PtraceEvent}
use Rattle.lx_model.specs.declared.event.PtraceEvent.TheVariants.{Plain}
use Rattle.lx_model.specs.declared.stage.Task.{Task}
use Rattle.lx_model.specs.declared.stage.Task.TheVariants.{Alive, Dying, Gone}
use Rattle.lx_model.specs.Events.{by_pid}
use Rattle.lx_model.specs.Finite.{at, task_mode, turn_out}
use Rattle.lx_proc.specs.declared.state.Entry.{Entry}
use Rattle.lx_proc.specs.declared.state.UserState.{UserState}
use Rattle.lx_turn.specs.Linux.{linux}
use Rattle.lx_turn.specs.Modes.{task_mode as kernel_mode}
use Rattle.lx_kernel.specs.Advances.{is_under_way, GoesOn, IsQuiet, Quietly, IsTurn, Leads as KernelLeads}
use Rattle.lx_kernel.specs.Outcomes.{outcome_in}
use Rattle.lx_kernel.specs.Runs.{Run as KernelRun, after_turn, mode_in}
use Rattle.lx_kernel.specs.Tracing.{task_in}
use Rattle.lx_kernel.proofs.Placed.{put_same}
use Rattle.pt_model.specs.declared.ptrace.Traced.{Traced}
use Rattle.pt_model.specs.Ptrace.{is_effective, may_die}
use Rattle.pt_model.specs.Hosting.{IsFresh, as_proc, untraced, no_script, ready_in}
use Rattle.pt_model.proofs.Hosts.{empty_script_is_none, hosts_attend_alike}
use Rattle.pt_schedule.specs.Modes.{is_finished, moves}
use Rattle.pt_schedule.specs.Rows.{Continues}
use Rattle.pt_schedule.proofs.Modes.{able_by_modes}
use Rattle.pt_kernel.specs.declared.tracees.Tracees.{Tracees}
use Rattle.pt_kernel.specs.Advances.{Leads}
use Rattle.pt_kernel.specs.AfterEvents.{after}
use Rattle.pt_kernel.specs.Hosts.{HostState, IsSwept, able_in, hosting_by, readiness_of}
use Rattle.pt_kernel.specs.Stops.{stop_after, dies_after}
use Rattle.pt_kernel.specs.Tracees.{stopped_at, after_turn as tracees_after}
use Rattle.pt_kernel.proofs.Sweeping.{swept_event}
use Rattle.pt_kernel.proofs.Turning.{turn_made}

-- Where a process is under way it has no stop

no_stop : (w : Option TraceOptions) (m : Mode) → is_under_way m ≡ true → stop_after w (Some m) None Plain ≡ None
no_stop None m h = refl
no_stop (Some w) mode.Born h = refl
no_stop (Some w) mode.Run h = refl
no_stop (Some w) mode.Faulting h = refl
no_stop (Some w) mode.Entered h = absurd (cc h)
no_stop (Some w) mode.Doing h = refl
no_stop (Some w) mode.Acted h = refl
no_stop (Some w) mode.Finished h = absurd (cc h)
no_stop (Some w) mode.Taken h = refl
no_stop (Some w) mode.Stopped h = refl
no_stop (Some w) mode.Woken h = absurd (cc h)
no_stop (Some w) mode.Dying h = refl
no_stop (Some w) mode.Zombie h = refl

no_end : (m : Mode) → is_under_way m ≡ true → dies_after (Some m) Plain ≡ false
no_end mode.Born h = refl
no_end mode.Run h = refl
no_end mode.Faulting h = refl
no_end mode.Entered h = refl
no_end mode.Doing h = refl
no_end mode.Acted h = refl
no_end mode.Finished h = refl
no_end mode.Taken h = refl
no_end mode.Stopped h = refl
no_end mode.Woken h = refl
no_end mode.Dying h = absurd (cc h)
no_end mode.Zombie h = refl

-- and no call of it is finished

unfinished : (m : Mode) → is_under_way m ≡ true → is_finished (Some m) ≡ false
unfinished mode.Born h = refl
unfinished mode.Run h = refl
unfinished mode.Faulting h = refl
unfinished mode.Entered h = refl
unfinished mode.Doing h = refl
unfinished mode.Acted h = refl
unfinished mode.Finished h = absurd (cc h)
unfinished mode.Taken h = refl
unfinished mode.Stopped h = refl
unfinished mode.Woken h = refl
unfinished mode.Dying h = refl
unfinished mode.Zombie h = refl

unfinished_in : (x : Option Entry) (task : Task UserState) (m : Mode) → kernel_mode x task ≡ Some m → is_under_way m ≡ true → is_finished (task_mode task) ≡ false
unfinished_in x (Alive b stage) m e h = ap is_finished e ∙ unfinished m h
unfinished_in x (Dying w) m e h = refl
unfinished_in x Gone m e h = refl

abbrev state : KernelRun → Tracees → List ℕ → Option Request → HostState
state k x turns pending = record { hosting = hosting_by k.running x turns pending; follow = k.follow; failed = false }

-- What is kept of who isn't held stays as it is

module _ (x : Tracees) (p : ℕ) where
  abbrev kept_tracees : Traced → Tracees
  kept_tracees t = tracees_after x p t None false Plain

  kept_by : (o : Option Traced) → maps.get x.traced p ≡ o → (unwrap_or o untraced).held ≡ false → stopped_at x.traced p (unwrap_or o untraced).message (unwrap_or o untraced).options None Plain ≡ x.traced
  kept_by None e h = refl
  kept_by (Some t) e h = of_options t.options refl
    where
      of_options : (w : Option TraceOptions) → t.options ≡ w → stopped_at x.traced p t.message w None Plain ≡ x.traced
      of_options None f = refl
      of_options (Some w) f = put_same x.traced p (record { held = false; options = Some w; message = t.message })
          (e ∙ ap₂ (λ held options. Some (record { held = held; options = options; message = t.message })) h f)

  by_options : (traced : maps.FinMap nat_cmp Traced) (w : Option TraceOptions) → traced ≡ x.traced → record { traced = traced; queue = x.queue ++ []; pids = x.pids } ≡ x
  by_options traced w e = ap₂ (λ f q. record { traced = f; queue = q; pids = x.pids }) e (append-nil x.queue)

  pub kept : (t : Traced) → t ≡ at untraced x.traced p → t.held ≡ false → x ≡ kept_tracees t
  kept t known free =
      sym (ap kept_tracees known ∙ by_options _ (at untraced x.traced p).options (kept_by (maps.get x.traced p) refl (ap (λ (u : Traced). u.held) (sym known) ∙ free)))

-- Turns in a row

module _ (x : Tracees) (pending : Option Request) (p : ℕ) (t : Traced) (known : t ≡ at untraced x.traced p) where
  module _ (free : t.held ≡ false) (waits : ready_in pending x.queue x.pids ≡ false) where
    effective_is : (k : KernelRun) → is_effective linux k.running.shared p (as_proc (task_in k p) t) ≡ true
    effective_is k = ap (λ held. cond held (may_die linux k.running.shared p t.options (task_in k p)) true) free

    -- a quiet one
    quiet_made : (k : KernelRun) (turns : List ℕ) → k.script ≡ [] → IsQuiet k p → state (after_turn k p) x (turns ++ p ∷ []) pending ≡ after (state k x turns pending) (Turn p)
    quiet_made k turns empty quiet =
        let m = quiet.on.1.0 in
        let stands = quiet.on.1.1.0 in
        let made = turn_made k x turns pending p t known (after_turn k p) x (turns ++ p ∷ []) None false Plain (Some m) None empty (effective_is k) refl (sym stands) (sym quiet.item_is)
        (sym (ap (by_pid k.running.child) quiet.event_is)) (sym (no_stop t.options m quiet.on.1.1.1)) (sym (no_end m quiet.on.1.1.1)) (kept x p t known free) refl in
        λ i. record { hosting = made i; follow = k.follow; failed = false }

    -- after which the process can have another
    able_again : (k : KernelRun) (turns : List ℕ) → k.script ≡ [] → GoesOn k p → able_in (hosting_by k.running x turns pending) k.follow p ≡ true
    able_again k turns empty on =
        ap (λ (u : Traced). cond u.held (may_die linux k.running.shared p u.options (task_in k p)) true
        && moves (task_mode (at Gone k.running.tasks p)) (task_mode (turn_out linux no_script k.follow k.running p).task)) (sym known)
        ∙ ap (λ held. cond held (may_die linux k.running.shared p t.options (task_in k p)) true
        && moves (task_mode (at Gone k.running.tasks p)) (task_mode (turn_out linux no_script k.follow k.running p).task)) free
        ∙ ap (λ script. moves (task_mode (at Gone k.running.tasks p)) (task_mode (turn_out linux script k.follow k.running p).task)) (sym (ap choice_of empty ∙ empty_script_is_none))
        ∙ sym (able_by_modes true _ _ (λ e. on.0) (λ e. refl))

    continues : (k : KernelRun) (turns : List ℕ) → k.script ≡ [] → GoesOn k p → Continues (readiness_of (state k x turns pending)) p
    continues k turns empty on = record {
      waits = waits;
      able = able_again k turns empty on;
      within = unfinished_in (maps.get k.running.shared.entries p) (at Gone k.running.tasks p) on.1.0 on.1.1.0 on.1.1.1;
    }

  module _ (k' : KernelRun) (x' : Tracees) (turns' : List ℕ) (stop : Option Stop) (dying : Bool) (e : PtraceEvent ℕ) (stands : Option Mode) (item : Option Item)
      (e_after : stands ≡ mode_in k' p) (e_stop : stop ≡ stop_after t.options stands item e) (e_dying : dying ≡ dies_after stands e)
      (e_x : x' ≡ tracees_after x p t stop dying e) where
    last_made : (k : KernelRun) (turns : List ℕ) → k.script ≡ [] → is_effective linux k.running.shared p (as_proc (task_in k p) t) ≡ true → IsTurn k p item e k' → turns' ≡ turns ++ p ∷ [] →
        record { hosting = hosting_by k'.running x' turns' pending; follow = k.follow; failed = false } ≡ after (state k x turns pending) (Turn p)
    last_made k turns empty effective last e_turns =
        let made = turn_made k x turns pending p t known k' x' turns' stop dying e stands item empty effective last.turned e_after last.item_is last.event_is e_stop e_dying e_x e_turns in
        λ i. record { hosting = made i; follow = k.follow; failed = false }

    pub leads_made : (n : ℕ) (k : KernelRun) (turns : List ℕ) → k.script ≡ [] → is_effective linux k.running.shared p (as_proc (task_in k p) t) ≡ true
        → (0 < n → (t.held ≡ false) × (ready_in pending x.queue x.pids ≡ false))
        → KernelLeads k p (suc n) item e k' → turns' ≡ turns ++ replicate (suc n) p
        → Leads (state k x turns pending) p n (record { hosting = hosting_by k'.running x' turns' pending; follow = k.follow; failed = false })
    unfolding Leads
    leads_made zero k turns empty effective alone leads e_turns =
        last_made k turns empty effective (subst (λ b. IsTurn b p item e k') leads.1 leads.2) e_turns
    leads_made (suc n) k turns empty effective alone leads e_turns =
        let free = (alone (omega arith)).0 in
        let waits = (alone (omega arith)).1 in
        let quiet = leads.1.0 in
        let here = quiet_made free waits k turns empty quiet in (
          subst (λ h. Continues (readiness_of h) p) here (continues free waits (after_turn k p) (turns ++ p ∷ []) empty quiet.on),
          subst (λ h. Leads h p n (record { hosting = hosting_by k'.running x' turns' pending; follow = k.follow; failed = false })) here
              (leads_made n (after_turn k p) (turns ++ p ∷ []) empty (effective_is free waits (after_turn k p)) (λ l. (free, waits)) (leads.0, leads.1.1, leads.2)
              (e_turns ∙ sym (append_assoc turns (p ∷ []) (replicate (suc n) p)))),
        )

-- A host that hasn't failed stays one that is sound

pub sound_leads : (n : ℕ) (h h' : HostState) (p : ℕ) → Leads h p n h' → IsSwept h.hosting.running → IsFresh h.hosting → IsSwept h'.hosting.running × IsFresh h'.hosting
unfolding Leads
sound_leads zero h h' p leads swept fresh =
    subst (λ (x : HostState). IsSwept x.hosting.running × IsFresh x.hosting) (sym leads)
    (swept_event outcome_in h.follow h.hosting (Turn p) swept, (hosts_attend_alike linux outcome_in h.follow h.hosting (Turn p) fresh).3)
sound_leads (suc n) h h' p leads swept fresh =
    sound_leads n (after h (Turn p)) h' p leads.1 (swept_event outcome_in h.follow h.hosting (Turn p) swept) (hosts_attend_alike linux outcome_in h.follow h.hosting (Turn p) fresh).3

-- A turn changes neither script nor follow

kept_quietly : (n : ℕ) (k k' : KernelRun) (p : ℕ) → Quietly k p n k' → (k'.script ≡ k.script) × (k'.follow ≡ k.follow)
kept_quietly zero k k' p same = (ap (λ (x : KernelRun). x.script) same, ap (λ (x : KernelRun). x.follow) same)
kept_quietly (suc n) k k' p quietly = kept_quietly n (after_turn k p) k' p quietly.1

pub kept_by_leads : (n : ℕ) (k k' : KernelRun) (p : ℕ) (item : Option Item) (e : PtraceEvent ℕ) → KernelLeads k p (suc n) item e k' → (k'.script ≡ k.script) × (k'.follow ≡ k.follow)
kept_by_leads n k k' p item e leads =
    let before = kept_quietly n k leads.0 p leads.1 in (
      ap (λ (x : KernelRun). x.script) leads.2.turned ∙ before.0,
      ap (λ (x : KernelRun). x.follow) leads.2.turned ∙ before.1,
    )

-- the first turn alone
pub led_none : (n : ℕ) (h h' : HostState) (p : ℕ) → n ≤ 0 → Leads h p n h' → h' ≡ after h (Turn p)
unfolding Leads
led_none zero h h' p l leads = leads
led_none (suc n) h h' p l leads = absurd (omega (arith, l))
