-- What a turn of the kernel tells is where its process stands.
use Rattle.std.proofs.Common.{◌≡◌, ℕ, Bool, true, false, Option, Some, None, refl, sym, ap, ◌∙◌}
use Rattle.std.specs.FinMap as maps
use Rattle.lx_abi.specs.declared.log.Call.{Call}
use Rattle.lx_abi.specs.declared.log.Cause.{Cause}
use Rattle.lx_abi.specs.declared.log.Item.{Item}
use Rattle.lx_abi.specs.declared.log.Mode.{Mode}
use Rattle.lx_abi.specs.declared.log.Mode.TheVariants as mode
use Rattle.lx_abi.specs.declared.script.Choice.{Choice}
use Rattle.lx_abi.specs.declared.signal.Signal.{Signal}
use Rattle.lx_model.specs.declared.stage.Stage.{Stage}
use Rattle.lx_model.specs.declared.stage.Stage.TheVariants.{Born, Run, Faulting, Entered, Doing, Replaced, Acted, Finished, Taken, Dropped, Stopped, Released, Woken}
use Rattle.lx_model.specs.declared.stage.Task.{Task}
use Rattle.lx_model.specs.declared.stage.Task.TheVariants.{Alive, Dying, Gone}
use Rattle.lx_model.specs.Machine.{Machine, Ran, Goes, Calls, Faults, Takes, Answer, Refused, Returns, Jumps, Execs, Bears, Blocks, Ends, Took, Passes, Stops, Kills}
use Rattle.lx_model.specs.declared.event.PtraceEvent.{PtraceEvent}
use Rattle.lx_model.specs.declared.event.PtraceEvent.TheVariants.{Plain, Execed, Forked}
use Rattle.lx_model.specs.Turn.{Out, stepped, answered, halts, took, wakes, lives, killed_or, turn}
use Rattle.lx_model.specs.Events.{by_pid}
use Rattle.lx_model.specs.Kernel.{choice_at, traces}
use Rattle.lx_model.specs.Finite.{at, item_of, Running, ran, bore, task_mode}
use Rattle.lx_model.proofs.Bridge.{at-placed}
use Rattle.lx_abi.specs.Log.{entries}
use Rattle.lx_abi.specs.Scripts.{choice_of}
use Rattle.lx_proc.specs.declared.state.Shared.{Shared}
use Rattle.lx_proc.specs.declared.state.UserState.{UserState}
use Rattle.lx_proc.specs.declared.state.Entry.{Entry}
use Rattle.lx_proc.specs.declared.state.Life.{Life}
use Rattle.lx_proc.specs.declared.state.Life.TheVariants as life
use Rattle.lx_turn.specs.Linux.{linux}
use Rattle.lx_turn.specs.Turned.{IsBirth}
use Rattle.lx_kernel.specs.Runs.{Run as KernelRun, turn_in, after_turn, mode_in}
use Rattle.lx_turn.specs.Modes.{life_mode, task_mode as kernel_mode}
use Rattle.lx_kernel.specs.Tracing.{task_in}
use Rattle.lx_abi.specs.declared.ptrace.TraceOptions.{TraceOptions}
use Rattle.pt_model.specs.Ptrace.{tracee_stop, stop_at, is_dying}
use Rattle.pt_model.specs.Hosting.{told_stop, ends_dying}
use Rattle.pt_model.proofs.Hosts.{turns_tell}
use Rattle.pt_model.proofs.Maps.{put_here}
use Rattle.pt_kernel.specs.Stops.{turn_stop, stop_after, dies_after}

-- who bears a child stands at its call

module _ {S B : Type 0} (m : Machine S B) where
  abbrev AtItsCall : Out S B → Type 0
  AtItsCall o = IsBirth o.event → task_mode o.task ≡ Some mode.Acted

  stepped_at : (s : S) (p : ℕ) (b : B) (r : Ran S B) → AtItsCall (stepped m s p b r)
  stepped_at s p b (Goes c) e = absurd e
  stepped_at s p b Calls e = absurd e
  stepped_at s p b (Faults signal cause) e = absurd e
  stepped_at s p b (Takes t signal cause) e = absurd e

  answered_at : (s : S) (child p : ℕ) (b : B) (call : Call) (a : Answer S B) → AtItsCall (answered m s child p b call a)
  answered_at s child p b call (Refused n) e = absurd e
  answered_at s child p b call (Returns t c x) e = absurd e
  answered_at s child p b call (Jumps t c) e = absurd e
  answered_at s child p b call (Execs t c) e = absurd e
  answered_at s child p b call (Bears t c born) e = refl
  answered_at s child p b call Blocks e = absurd e
  answered_at s child p b call (Ends w) e = absurd e

  halts_at : (continued : Bool) (s : S) (p : ℕ) (b : B) (signal : Signal) → AtItsCall (halts continued m s p b signal)
  halts_at true s p b signal e = absurd e
  halts_at false s p b signal e = absurd e

  wakes_at : (continued : Bool) (s : S) (p : ℕ) (b : B) (signal : Signal) → AtItsCall (wakes continued m s p b signal)
  wakes_at true s p b signal e = absurd e
  wakes_at false s p b signal e = absurd e

  took_at : (s : S) (p : ℕ) (b : B) (signal : Signal) (cause : Cause) (t : Took S B) → AtItsCall (took m s p b signal cause t)
  took_at s p b signal cause (Passes t c) e = absurd e
  took_at s p b signal cause Stops e = halts_at (m.continued s p) s p b signal e
  took_at s p b signal cause (Kills w) e = absurd e

  lives_at : (c : Choice) (s : S) (child p : ℕ) (b : B) (stage : Stage) → AtItsCall (lives m c s child p b stage)
  lives_at c s child p b Born e = absurd e
  lives_at c s child p b Run e = stepped_at s p b (m.step s p b) e
  lives_at c s child p b (Faulting signal cause) e = absurd e
  lives_at c s child p b (Entered joined) e = absurd e
  lives_at c s child p b (Doing call) e = answered_at s child p b call (m.call s child p call b) e
  lives_at c s child p b (Replaced call x) e = absurd e
  lives_at c s child p b (Acted call x replaced) e = absurd e
  lives_at c s child p b Finished e = absurd e
  lives_at c s child p b (Taken signal cause) e = took_at s p b signal cause (m.take s p signal cause b) e
  lives_at c s child p b Dropped e = absurd e
  lives_at c s child p b (Stopped signal) e = wakes_at (m.continued s p) s p b signal e
  lives_at c s child p b Released e = absurd e
  lives_at c s child p b Woken e = absurd e

  killed_at : (killed : Bool) (c : Choice) (s : S) (child p : ℕ) (b : B) (stage : Stage) → AtItsCall (killed_or killed m c s child p b stage)
  killed_at true c s child p b stage e = absurd e
  killed_at false c s child p b stage e = lives_at c s child p b stage e

  at_its_call : (c : Choice) (s : S) (child p : ℕ) (task : Task B) → AtItsCall (turn m c s child p task)
  at_its_call c s child p (Alive b stage) e = killed_at (m.killed s p) c s child p b stage e
  at_its_call c s child p (Dying w) e = absurd e
  at_its_call c s child p Gone e = absurd e

-- a zombie and who is gone have no stop

buried_stop : (w : TraceOptions) (e : Entry) (l : Life) (i : Option Item) (d : PtraceEvent ℕ) → told_stop w (life_mode (Some (record e { life = l }))) i d ≡ None
buried_stop w e life.Alive i d = refl
buried_stop w e (life.Dying x) i d = refl
buried_stop w e (life.Zombie x) i d = refl

gone_stop : (w : TraceOptions) (x : Option Entry) (i : Option Item) (d : PtraceEvent ℕ) → told_stop w (life_mode x) i d ≡ None
gone_stop w None i d = refl
gone_stop w (Some e) i d = buried_stop w e e.life i d

same_stop : (w : TraceOptions) (x : Option Entry) (task : Task UserState) (i : Option Item) (d : PtraceEvent ℕ) → told_stop w (kernel_mode x task) i d ≡ told_stop w (task_mode task) i d
same_stop w x (Alive b stage) i d = refl
same_stop w x (Dying v) i d = refl
same_stop w x Gone i d = gone_stop w x i d

buried_end : (e : Entry) (l : Life) → ends_dying (life_mode (Some (record e { life = l }))) ≡ false
buried_end e life.Alive = refl
buried_end e (life.Dying x) = refl
buried_end e (life.Zombie x) = refl

same_end : (x : Option Entry) (task : Task UserState) → ends_dying (kernel_mode x task) ≡ ends_dying (task_mode task)
same_end x (Alive b stage) = refl
same_end x (Dying v) = refl
same_end None Gone = refl
same_end (Some e) Gone = buried_end e e.life

-- The mode that a turn leaves

abbrev stands : Running Shared UserState → ℕ → Option Mode
stands r p = kernel_mode (maps.get r.shared.entries p) (at Gone r.tasks p)

pub left_at : (v : Running Shared UserState) (p : ℕ) (o : Out Shared UserState) → at Gone (ran v p o).tasks p ≡ o.task
left_at v p o = ap (λ (f : ℕ → Task UserState). f p) (at-placed v.tasks p o.task) ∙ put_here (at Gone v.tasks) p o.task

module _ (v : Running Shared UserState) (p child : ℕ) (o : Out Shared UserState) where
  stop_of : (w : TraceOptions) (e : PtraceEvent UserState) → told_stop w (task_mode o.task) (item_of o) (by_pid child e) ≡ tracee_stop w o.task o.item e → (IsBirth e → task_mode o.task ≡ Some mode.Acted) →
      turn_stop w (stands (bore (ran v p o) e) p) (item_of o) (by_pid child e) ≡ tracee_stop w o.task o.item e
  stop_of w Plain told bears = ap (λ task. told_stop w (kernel_mode (maps.get o.shared.entries p) task) (item_of o) Plain) (left_at v p o) ∙ same_stop w (maps.get o.shared.entries p) o.task (item_of o) Plain ∙ told
  stop_of w Execed told bears = ap (λ task. told_stop w (kernel_mode (maps.get o.shared.entries p) task) (item_of o) Execed) (left_at v p o) ∙ same_stop w (maps.get o.shared.entries p) o.task (item_of o) Execed ∙ told
  stop_of w (Forked b) told bears = sym (ap (λ x. told_stop w x (item_of o) (Forked child)) (bears tt)) ∙ told

  end_of : (e : PtraceEvent UserState) → ends_dying (task_mode o.task) ≡ is_dying o.task → (IsBirth e → task_mode o.task ≡ Some mode.Acted) → dies_after (stands (bore (ran v p o) e) p) (by_pid child e) ≡ is_dying o.task
  end_of Plain told bears = ap (λ task. ends_dying (kernel_mode (maps.get o.shared.entries p) task)) (left_at v p o) ∙ same_end (maps.get o.shared.entries p) o.task ∙ told
  end_of Execed told bears = ap (λ task. ends_dying (kernel_mode (maps.get o.shared.entries p) task)) (left_at v p o) ∙ same_end (maps.get o.shared.entries p) o.task ∙ told
  end_of (Forked b) told bears = sym (ap ends_dying (bears tt)) ∙ told

module _ (k : KernelRun) (p : ℕ) where
  abbrev chosen_in : Choice
  chosen_in = choice_at linux (choice_of k.script) (traces k.follow p) (λ n. entries p n k.running.log) (task_in k p)

  pub stop_after_turn : (w : Option TraceOptions) → stop_after w (mode_in (after_turn k p) p) (item_of (turn_in k p)) (by_pid k.running.child (turn_in k p).event) ≡ stop_at w (turn_in k p).task (turn_in k p).item (turn_in k p).event
  stop_after_turn None = refl
  stop_after_turn (Some w) = stop_of k.running p k.running.child (turn_in k p) w (turn_in k p).event
      (turns_tell linux chosen_in k.running.shared k.running.child p (task_in k p) w).0
      (at_its_call linux chosen_in k.running.shared k.running.child p (task_in k p))

  pub dies_after_turn : dies_after (mode_in (after_turn k p) p) (by_pid k.running.child (turn_in k p).event) ≡ is_dying (turn_in k p).task
  dies_after_turn = end_of k.running p k.running.child (turn_in k p) (turn_in k p).event
      (turns_tell linux chosen_in k.running.shared k.running.child p (task_in k p) (record { good = false; forks = false; execs = false })).1
      (at_its_call linux chosen_in k.running.shared k.running.child p (task_in k p))
