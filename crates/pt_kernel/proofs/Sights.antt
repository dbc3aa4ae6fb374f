-- Where no request is ready nobody is held, and a schedule sees of the world what it sees of the untraced kernel.
use Rattle.std.proofs.Common.{◌≡◌, ℕ, Bool, true, false, List, [], ◌∷◌, ◌++◌, map, Some, None, refl, sym, ap, ap₂, ◌∙◌}
use Rattle.std.specs.Prelude.{◌&&◌}
use mathlib.Core.Path.{fun_ext}
use Rattle.lx_abi.specs.declared.outcome.Outcome.{Outcome}
use Rattle.lx_abi.specs.Log.{items_of, entries}
use Rattle.lx_abi.specs.Scripts.{choice_of}
use Rattle.lx_model.specs.Machine.{Machine, IsMachine}
use Rattle.lx_model.specs.Finite.{at, task_mode, Is}
use Rattle.lx_model.specs.Kernel.{Script, Kernel, turn_of}
use Rattle.lx_model.specs.declared.stage.Task.{Task}
use Rattle.lx_model.specs.declared.stage.Task.TheVariants.{Gone}
use Rattle.lx_model.specs.Turn.{Out}
use Rattle.lx_proc.specs.declared.state.Shared.{Shared}
use Rattle.lx_proc.specs.declared.state.UserState.{UserState}
use Rattle.lx_turn.specs.Linux.{linux}
use Rattle.lx_kernel.specs.Outcomes.{outcome_in}
use Rattle.lx_kernel.specs.Runs.{Run, turn_in}
use Rattle.pt_model.specs.Attending.{is_ready}
use Rattle.pt_model.specs.Calls.{attends}
use Rattle.pt_model.specs.Headline.{IsTold}
use Rattle.pt_model.specs.Parts.{Options}
use Rattle.pt_model.specs.declared.ptrace.Report.{Report}
use Rattle.pt_model.specs.Ptrace.{Proc, is_there, is_effective, host_turn_of}
use Rattle.pt_model.specs.Requests.{serve_wait}
use Rattle.pt_model.specs.Tracer.{Focus, Booting, Waiting, Serving, Asking_outcome, Over, Turns_over, Faulted, request}
use Rattle.pt_model.specs.View.{Due, report_of, items_in}
use Rattle.pt_model.specs.World.{World}
use Rattle.pt_model.proofs.Local.{Turned}
use Rattle.pt_model.proofs.Phases.{Phase, Enter_due, Enter_asked, Enter_peeking, Enter_setting, Enter_resuming, Enter_free, Has_acted, Exit_due, Exit_asked, Exit_setting, Exit_peeking, Exit_resuming, In_replaced, Sig_due, Sig_asked, Sig_resuming, Halt_due, Halt_asked, Wake_due, Wake_resuming, Dead_due, Boot_held, Born_due, Born_resuming, Event_due, Event_resuming, task_of, proc_of, due_in, hand_in, stage_of, dues_of}
use Rattle.pt_model.proofs.Ties.{Tied, stage_at, no_hand, turn_here}
use Rattle.pt_schedule.specs.Modes.{is_finished, moves}
use Rattle.pt_schedule.specs.Schedules.{Readiness}
use Rattle.pt_schedule.specs.Untraced.{readiness_of}
use Rattle.pt_kernel.specs.Seen.{is_able, sees}

module _ {S B : Type 0} (m : Machine S B) where
  -- a process stands in the world as in the plain kernel
  same_mode : (f : Bool) (ph : Phase B) → task_mode (proc_of m f ph).task ≡ task_mode (task_of m ph)
  same_mode f (Enter_resuming b r n) = refl
  same_mode f (Enter_free b r n) = refl
  same_mode f (In_replaced b v) = refl
  same_mode f (Has_acted b c None) = refl
  same_mode f (Has_acted b c (Some v)) = refl
  same_mode f _ = refl

  -- who is held, the tracer has in hand or is to be told of
  held_is_due : (f : Bool) (q : ℕ) (ph : Phase B) → stage_of m ph ≡ None → due_in m q ph ≡ [] → (proc_of m f ph).held ≡ false
  held_is_due f q (Enter_due b) s d = absurd (cc d)
  held_is_due f q (Enter_asked b) s d = absurd (cc s)
  held_is_due f q (Enter_peeking b x w n) s d = absurd (cc s)
  held_is_due f q (Enter_setting b v n) s d = absurd (cc s)
  held_is_due f q (Enter_resuming b r n) s d = absurd (cc s)
  held_is_due f q (Exit_due b c r) s d = absurd (cc d)
  held_is_due f q (Exit_asked b c r) s d = absurd (cc s)
  held_is_due f q (Exit_setting b v) s d = absurd (cc s)
  held_is_due f q (Exit_peeking b c x r y w n) s d = absurd (cc s)
  held_is_due f q (Exit_resuming b) s d = absurd (cc s)
  held_is_due f q (Sig_due b n cause) s d = absurd (cc d)
  held_is_due f q (Sig_asked b n cause) s d = absurd (cc s)
  held_is_due f q (Sig_resuming b n cause) s d = absurd (cc s)
  held_is_due f q (Halt_due b n) s d = absurd (cc d)
  held_is_due f q (Halt_asked b n) s d = absurd (cc s)
  held_is_due f q (Wake_due b) s d = absurd (cc d)
  held_is_due f q (Wake_resuming b) s d = absurd (cc s)
  held_is_due f q (Dead_due w mode x) s d = absurd (cc d)
  held_is_due f q (Boot_held b) s d = absurd (cc s)
  held_is_due f q (Born_due b) s d = absurd (cc d)
  held_is_due f q (Born_resuming b) s d = absurd (cc s)
  held_is_due f q (Event_due n b c) s d = absurd (cc d)
  held_is_due f q (Event_resuming b c) s d = absurd (cc s)
  held_is_due f q _ s d = refl

  nothing_due : (rest : List Due) → map report_of rest ≡ [] → rest ≡ []
  nothing_due [] e = refl
  nothing_due (i ∷ is) e = absurd (cc e)

module _ {S B : Type 0} (m : Machine S B) (outcome : S → Outcome) (o : Options) (script : Script) (w : World S B) (kernel : Kernel S B) (t : Tied m o script false w kernel) where
  -- Wait alone can be pending, with nobody to tell of
  pub record Idle : Type 0 where
    pub waits : w.tracer.focus ≡ Waiting
    pub empty : w.host.queue ≡ []

  no_report : (queue : List Report) (tracees : List ℕ) → is_there (serve_wait w.host queue tracees).reply ≡ false → queue ≡ []
  no_report [] tracees e = refl
  no_report (r ∷ rs) tracees e = absurd (cc e)

  idle_at : (focus : Focus) → w.tracer.focus ≡ focus → is_there (request o focus) ≡ true → is_ready m outcome (record { host = w.host; pending = request o focus }) ≡ false → Idle
  idle_at Booting f asks e = absurd (cc asks)
  idle_at Waiting f asks e = record { waits = f; empty = no_report w.host.queue w.host.tracees e }
  idle_at (Serving p place) f asks e = absurd (cc e)
  idle_at Asking_outcome f asks e = absurd (cc e)
  idle_at (Over x) f asks e = absurd (cc asks)
  idle_at Turns_over f asks e = absurd (cc asks)
  idle_at Faulted f asks e = absurd (cc asks)

  none_due : Idle → (p : ℕ) → due_in m p (t.phases p) ≡ []
  none_due i p = (t.each p).due ∙ ap (dues_of p) (nothing_due m t.rest (sym t.queue ∙ i.empty))

  none_owed : Idle → (p : ℕ) → hand_in m p (t.phases p) ++ items_in (due_in m p (t.phases p)) ≡ []
  none_owed i p =
      ap₂ (λ h d. h ++ items_in d) (no_hand m o script false w kernel p (t.phases p) ((t.each p).stage ∙ ap (stage_at p) i.waits)) (none_due i p)

  nobody_held : Idle → (p : ℕ) → (w.host.procs p).held ≡ false
  nobody_held i p =
      let due : due_in m p (t.phases p) ≡ [] = (t.each p).due ∙ ap (dues_of p) (nothing_due m t.rest (sym t.queue ∙ i.empty)) in
      ap (λ (x : Proc B). x.held) (t.each p).proc ∙ held_is_due m o.follow p (t.phases p) ((t.each p).stage ∙ ap (stage_at p) i.waits) due

  all_effective : Idle → (p : ℕ) → is_effective m w.host.shared p (w.host.procs p) ≡ true
  all_effective i p = rw (nobody_held i p) refl

  stands : (p : ℕ) → task_mode (w.host.procs p).task ≡ task_mode (kernel.tasks p)
  stands p = ap (λ (x : Proc B). task_mode x.task) (t.each p).proc ∙ same_mode m o.follow (t.phases p) ∙ ap task_mode (sym (t.each p).task)

  comes : IsMachine m → IsTold m → Idle → (p : ℕ) → task_mode (host_turn_of m w.host p).task ≡ task_mode (turn_of m script o.follow kernel p).task
  comes laws words i p =
      let u : Turned m o.follow o script p (t.phases p) (w.tracer.known p) (λ n. entries p n (items_of kernel.log)) (turn_of m script o.follow kernel p) (host_turn_of m w.host p) = turn_here m o script false w kernel laws words t p (all_effective i p) in
      ap (λ (x : Proc B). task_mode x.task) u.proc ∙ same_mode m o.follow u.next ∙ ap task_mode (sym u.task)

-- At Linux

same_out : (k : Run) (kernel : Kernel Shared UserState) → Is k.running kernel → (p : ℕ) → turn_in k p ≡ turn_of linux (choice_of k.script) k.follow kernel p
same_out k kernel e p =
    let task : at Gone k.running.tasks p ≡ kernel.tasks p = ap (λ (f : ℕ → Task UserState). f p) e.tasks in
    rw (e.log, e.shared, task, e.child) refl

abbrev readiness_by : Bool → (ℕ → Bool) → ℕ → (ℕ → Bool) → Readiness
readiness_by ready able last_pid finished = record { ready = ready; able = able; last_pid = last_pid; finished = finished }

module _ (o : Options) (k : Run) (w : World Shared UserState) (kernel : Kernel Shared UserState) (t : Tied linux o (choice_of k.script) false w kernel) (is : Is k.running kernel) (follow : k.follow ≡ o.follow) where
  abbrev pub waits : Type 0
  waits = Idle linux outcome_in o (choice_of k.script) w kernel t

  stands_so : (p : ℕ) → task_mode (w.host.procs p).task ≡ task_mode (at Gone k.running.tasks p)
  stands_so p = stands linux outcome_in o (choice_of k.script) w kernel t p ∙ ap (λ (f : ℕ → Task UserState). task_mode (f p)) (sym is.tasks)

  comes_so : IsMachine linux → IsTold linux → waits → (p : ℕ) → task_mode (host_turn_of linux w.host p).task ≡ task_mode (turn_in k p).task
  comes_so laws words i p =
      comes linux outcome_in o (choice_of k.script) w kernel t laws words i p
      ∙ ap (λ f. task_mode (turn_of linux (choice_of k.script) f kernel p).task) (sym follow)
      ∙ ap (λ (x : Out Shared UserState). task_mode x.task) (sym (same_out k kernel is p))

  able_so : IsMachine linux → IsTold linux → waits → (p : ℕ) → is_able linux w.host p ≡ (readiness_of k).able p
  able_so laws words i p =
      ap (λ b. b && moves (task_mode (w.host.procs p).task) (task_mode (host_turn_of linux w.host p).task)) (all_effective linux outcome_in o (choice_of k.script) w kernel t i p)
      ∙ ap₂ moves (stands_so p) (comes_so laws words i p)

  shared_so : w.host.shared ≡ k.running.shared
  shared_so = t.shared ∙ sym is.shared

  pub idle : is_there (request o w.tracer.focus) ≡ true → (sees (attends o w)).ready ≡ false → waits
  idle asks e = idle_at linux outcome_in o (choice_of k.script) w kernel t w.tracer.focus refl asks e

  pub effective_so : waits → (p : ℕ) → is_effective linux w.host.shared p (w.host.procs p) ≡ true
  effective_so i p = all_effective linux outcome_in o (choice_of k.script) w kernel t i p

  pub owes_nothing : waits → (p : ℕ) → hand_in linux p (t.phases p) ++ items_in (due_in linux p (t.phases p)) ≡ []
  owes_nothing i p = none_owed linux outcome_in o (choice_of k.script) w kernel t i p

  pub sight : IsMachine linux → IsTold linux → waits → (sees (attends o w)).ready ≡ false → sees (attends o w) ≡ readiness_of k
  sight laws words i e =
      ap (λ r. readiness_by r (is_able linux w.host) w.host.shared.limits.last_pid (λ p. is_finished (task_mode (w.host.procs p).task))) e
      ∙ ap₂ (λ a f. readiness_by false a w.host.shared.limits.last_pid f) (fun_ext (able_so laws words i)) (fun_ext (λ p. ap is_finished (stands_so p)))
      ∙ ap (λ (s : Shared). readiness_by false (readiness_of k).able s.limits.last_pid (readiness_of k).finished) shared_so
