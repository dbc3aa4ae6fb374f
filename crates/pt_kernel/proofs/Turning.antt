-- What a host keeps after a turn is what the ptrace machine does.
use Rattle.std.proofs.Common.{◌≡◌, ℕ, Bool, true, false, cond, List, [], ◌∷◌, ◌++◌, Option, Some, None, refl, sym, ap, ap₂, ◌∙◌}
use Rattle.lx_abi.specs.declared.log.Item.{Item}
use Rattle.lx_abi.specs.declared.log.Mode.{Mode}
use Rattle.lx_abi.specs.declared.ptrace.Request.{Request}
use Rattle.lx_abi.specs.declared.status.Stop.{Stop}
use Rattle.lx_abi.specs.Scripts.{choice_of}
use Rattle.lx_model.specs.declared.event.PtraceEvent.{PtraceEvent}
use Rattle.lx_model.specs.declared.event.PtraceEvent.TheVariants.{Plain, Execed, Forked}
use Rattle.lx_model.specs.Turn.{Out}
use Rattle.lx_model.specs.Events.{by_pid}
use Rattle.lx_model.specs.Finite.{at, item_of, Running, ran, bore, turn_out}
use Rattle.lx_proc.specs.declared.state.Shared.{Shared}
use Rattle.lx_proc.specs.declared.state.UserState.{UserState}
use Rattle.lx_turn.specs.Linux.{linux}
use Rattle.lx_kernel.specs.Runs.{Run as KernelRun, turn_in, after_turn, mode_in}
use Rattle.lx_kernel.specs.Tracing.{task_in}
use Rattle.lx_abi.specs.declared.ptrace.TraceOptions.{TraceOptions}
use Rattle.pt_model.specs.declared.ptrace.Traced.{Traced}
use Rattle.pt_model.specs.Ptrace.{stop_at, is_dying, is_effective, reports_of, without, inherits}
use Rattle.pt_model.specs.Hosting.{as_proc, untraced, no_script, hosted, hosting_turn, with_newborn}
use Rattle.pt_model.proofs.Hosts.{empty_script_is_none}
use Rattle.pt_kernel.specs.declared.tracees.Tracees.{Tracees}
use Rattle.pt_kernel.specs.Stops.{stop_after, dies_after}
use Rattle.pt_kernel.specs.Tracees.{stopped_at, with_newborn as tracees_with, after_turn as tracees_after}
use Rattle.pt_kernel.specs.Hosts.{Linux_host, hosting_by}
use Rattle.pt_kernel.proofs.Telling.{stop_after_turn, dies_after_turn}

module _ (r : Running Shared UserState) (x : Tracees) (turns : List ℕ) (pending : Option Request) where
  child_is : (s : Running Shared UserState) (y : Tracees) (ts : List ℕ) (child : ℕ) (w : Option TraceOptions) → with_newborn (hosting_by s y ts pending) child w ≡ hosting_by s (tracees_with y child w) ts pending
  child_is s y ts child None = refl
  child_is s y ts child (Some w) = refl

  hosted_at : (p : ℕ) (t : Traced) (o : Out Shared UserState) (w : Option TraceOptions) (e : PtraceEvent UserState) →
      hosted (hosting_by r x turns pending) p (record t { options = w }) (record o { event = e })
      ≡ hosting_by (bore (ran r p (record o { event = e })) e) (tracees_after x p (record t { options = w }) (stop_at w o.task o.item e) (is_dying o.task) (by_pid r.child e)) (turns ++ p ∷ []) pending
  hosted_at p t o None Plain = refl
  hosted_at p t o None Execed = refl
  hosted_at p t o None (Forked b) = refl
  hosted_at p t o (Some w) Plain = refl
  hosted_at p t o (Some w) Execed = refl
  hosted_at p t o (Some w) (Forked b) = child_is (bore (ran r p (record o { event = Forked b })) (Forked b))
      (record { traced = stopped_at x.traced p t.message (Some w) (stop_at (Some w) o.task o.item (Forked b)) (by_pid r.child (Forked b)); queue = cond (is_dying o.task) (without p x.queue) x.queue ++ reports_of p (stop_at (Some w) o.task o.item (Forked b)); pids = x.pids })
      (turns ++ p ∷ []) r.child (inherits (Some w))

  -- a turn that is effective
  turn_is : (k : KernelRun) (p : ℕ) → r ≡ k.running → k.script ≡ [] → turn_in k p ≡ turn_out linux no_script k.follow r p
  turn_is k p e s = ap₂ (λ script v. turn_out linux script k.follow v p) (ap choice_of s ∙ empty_script_is_none) (sym e)

module _ (k : KernelRun) (x : Tracees) (turns : List ℕ) (pending : Option Request) (p : ℕ) (t : Traced) (known : t ≡ at untraced x.traced p) where
  abbrev v : Linux_host
  v = hosting_by k.running x turns pending

  abbrev left : Option Stop → Bool → PtraceEvent ℕ → Tracees
  left stop dying e = tracees_after x p t stop dying e

  pub turn_done : k.script ≡ [] → is_effective linux k.running.shared p (as_proc (task_in k p) t) ≡ true →
      hosting_by (after_turn k p).running (left (stop_after t.options (mode_in (after_turn k p) p) (item_of (turn_in k p)) (by_pid k.running.child (turn_in k p).event)) (dies_after (mode_in (after_turn k p) p) (by_pid k.running.child (turn_in k p).event)) (by_pid k.running.child (turn_in k p).event)) (turns ++ p ∷ []) pending
      ≡ hosting_turn linux k.follow v p
  turn_done empty effective =
      ap₂ (λ stop dying. hosting_by (after_turn k p).running (left stop dying (by_pid k.running.child (turn_in k p).event)) (turns ++ p ∷ []) pending) (stop_after_turn k p t.options) (dies_after_turn k p)
      ∙ sym (hosted_at k.running x turns pending p t (turn_in k p) t.options (turn_in k p).event)
      ∙ ap (λ o. hosted v p t o) (turn_is k.running x turns pending k p refl empty)
      ∙ ap (λ u. hosted v p u (turn_out linux no_script k.follow k.running p)) known
      ∙ ap (λ b. cond b (hosted v p (at untraced x.traced p) (turn_out linux no_script k.follow k.running p)) v) (sym (ap (λ u. is_effective linux k.running.shared p (as_proc (task_in k p) u)) (sym known) ∙ effective))

  pub no_turn : is_effective linux k.running.shared p (as_proc (task_in k p) t) ≡ false → v ≡ hosting_turn linux k.follow v p
  no_turn held = ap (λ b. cond b (hosted v p (at untraced x.traced p) (turn_out linux no_script k.follow k.running p)) v) (sym (ap (λ u. is_effective linux k.running.shared p (as_proc (task_in k p) u)) (sym known) ∙ held))

  -- by the parts of the host that the turn left
  module _ (k' : KernelRun) (x' : Tracees) (turns' : List ℕ) (stop : Option Stop) (dying : Bool) (e : PtraceEvent ℕ) (after : Option Mode) (item : Option Item) where
    pub turn_made : k.script ≡ [] → is_effective linux k.running.shared p (as_proc (task_in k p) t) ≡ true → k' ≡ after_turn k p →
        after ≡ mode_in k' p → item ≡ item_of (turn_in k p) → e ≡ by_pid k.running.child (turn_in k p).event →
        stop ≡ stop_after t.options after item e → dying ≡ dies_after after e →
        x' ≡ left stop dying e → turns' ≡ turns ++ p ∷ [] →
        hosting_by k'.running x' turns' pending ≡ hosting_turn linux k.follow v p
    turn_made empty effective e_k e_after e_item e_e e_stop e_dying e_x e_turns =
        let a : after ≡ mode_in (after_turn k p) p = e_after ∙ ap (λ l. mode_in l p) e_k in
        let s : stop ≡ stop_after t.options (mode_in (after_turn k p) p) (item_of (turn_in k p)) (by_pid k.running.child (turn_in k p).event) =
        e_stop ∙ ap (λ y. stop_after t.options y item e) a ∙ ap (λ i. stop_after t.options (mode_in (after_turn k p) p) i e) e_item ∙ ap (λ y. stop_after t.options (mode_in (after_turn k p) p) (item_of (turn_in k p)) y) e_e in
        let g : dying ≡ dies_after (mode_in (after_turn k p) p) (by_pid k.running.child (turn_in k p).event) =
        e_dying ∙ ap (λ y. dies_after y e) a ∙ ap (dies_after (mode_in (after_turn k p) p)) e_e in
        let b : left stop dying e ≡ left (stop_after t.options (mode_in (after_turn k p) p) (item_of (turn_in k p)) (by_pid k.running.child (turn_in k p).event)) (dies_after (mode_in (after_turn k p) p) (by_pid k.running.child (turn_in k p).event)) (by_pid k.running.child (turn_in k p).event) =
        ap₂ (λ y z. left y z e) s g ∙ ap (λ y. left (stop_after t.options (mode_in (after_turn k p) p) (item_of (turn_in k p)) (by_pid k.running.child (turn_in k p).event)) (dies_after (mode_in (after_turn k p) p) (by_pid k.running.child (turn_in k p).event)) y) e_e in
        ap (λ (l : KernelRun). hosting_by l.running x' turns' pending) e_k
        ∙ ap₂ (λ y ts. hosting_by (after_turn k p).running y ts pending) (e_x ∙ b) e_turns
        ∙ turn_done empty effective
