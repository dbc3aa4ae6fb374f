-- A turn of the kernel, from what the turn of one process leaves.
use Rattle.std.proofs.Common.{◌≡◌, ℕ, Bool, List, ◌++◌, Option, Some, None, refl, ap, sym, subst, ◌∙◌}
use Rattle.std.specs.Ordering.{nat_cmp}
use Rattle.std.specs.Option.{option_to_list}
use Rattle.std.specs.FinMap.{FinMap}
use Rattle.std.specs.Global.{Box}
use mathlib.Core.Path.{fun_ext}
use Rattle.std.specs.Prelude.{IsSome}
use Rattle.lx_abi.specs.declared.log.Item.{Item}
use Rattle.lx_abi.specs.declared.script.Rule.{Rule}
use Rattle.lx_abi.specs.Scripts.{choice_of}
use Rattle.lx_abi.specs.Log.{entries}
use Rattle.lx_model.specs.Events.{by_pid}
use Rattle.lx_model.specs.declared.event.PtraceEvent.{PtraceEvent}
use Rattle.lx_model.specs.declared.event.PtraceEvent.TheVariants.{Plain, Execed, Forked}
use Rattle.lx_model.specs.Turn.{turn, Out}
use Rattle.lx_model.specs.declared.stage.Task.{Task}
use Rattle.lx_model.specs.declared.stage.Task.TheVariants.{Gone}
use Rattle.lx_model.specs.Kernel.{traces, choice_at}
use Rattle.lx_model.specs.Finite.{at, item_of, Running, bore, turn_out, running_turn}
use Rattle.lx_proc.specs.declared.state.Shared.{Shared}
use Rattle.lx_proc.specs.declared.state.UserState.{UserState}
use Rattle.lx_turn.specs.Linux.{linux}
use Rattle.lx_turn.specs.Turned.{turned, unboxed, IsLeft, IsBirth}
use Rattle.lx_kernel.specs.Turns.{tasks_with, next_child}
use Rattle.lx_kernel.specs.Turns.{Turns}
use Rattle.lx_turn.proofs.Births.{Births, turn_fine, left_by, console_by}
use Rattle.lx_turn.proofs.Consoles.{turn_keeps}

-- a kernel after an event
with_event : (s : Shared) (tasks : FinMap nat_cmp (Task UserState)) (child : ℕ) (log : List Item) (e : PtraceEvent UserState)
    → bore (record { shared = s; tasks = tasks; child = child; log = log }) e ≡ record { shared = s; tasks = tasks_with tasks child e; child = next_child child e; log = log }
with_event s tasks child log Plain = refl
with_event s tasks child log Execed = refl
with_event s tasks child log (Forked newborn) = refl

-- an event told by the pid says nothing of the child's body
pid_unboxed : (child : ℕ) (done : PtraceEvent (Box UserState)) → by_pid child done ≡ by_pid child (unboxed done)
pid_unboxed child Plain = refl
pid_unboxed child Execed = refl
pid_unboxed child (Forked newborn) = refl

module _ (v : Running Shared UserState) (rules : List Rule) (follow : Bool) (p : ℕ) (count : ℕ → ℕ) (agrees : (n : ℕ) → count n ≡ entries p n v.log) (item : Option Item) (done : PtraceEvent (Box UserState)) (s : Shared) (tasks : FinMap nat_cmp (Task UserState))
    (turns : Turns (turned (turn linux (choice_at linux (choice_of rules) (traces follow p) count (at Gone v.tasks p)) v.shared v.child p (at Gone v.tasks p))) v.tasks p item done s tasks) where
  abbrev out : Out Shared UserState
  out = turn_out linux (choice_of rules) follow v p

  turned_out : Turns (turned out) v.tasks p item done s tasks
  turned_out = subst (λ (f : ℕ → ℕ). Turns (turned (turn linux (choice_at linux (choice_of rules) (traces follow p) f (at Gone v.tasks p)) v.shared v.child p (at Gone v.tasks p))) v.tasks p item done s tasks) (fun_ext agrees) turns

  pub kernel_item : item ≡ item_of out
  kernel_item = sym turned_out.item_is

  pub kernel_event : by_pid v.child done ≡ by_pid v.child out.event
  kernel_event = pid_unboxed v.child done ∙ ap (by_pid v.child) (sym turned_out.event_is)

  -- a child is born as it may be
  born : Births v.shared v.child s (unboxed done)
  born =
      subst (λ t. Births v.shared v.child t (unboxed done)) turned_out.shared_is
      (subst (Births v.shared v.child out.shared) turned_out.event_is
      (turn_fine (choice_at linux (choice_of rules) (traces follow p) (λ n. entries p n v.log) (at Gone v.tasks p)) v.shared v.child p (at Gone v.tasks p)))

  pub kernel_left : IsLeft v.shared.limits.last_pid done v.child
  kernel_left = left_by v.shared v.child s done born

  pub kernel_born : IsBirth (unboxed done) → s.console ≡ v.shared.console
  kernel_born = console_by v.shared v.child s (unboxed done) born

  logged_keeps : (o : Option Item) → IsSome o → o ≡ item_of out → out.shared.console ≡ v.shared.console
  logged_keeps None some e = absurd (cc some)
  logged_keeps (Some i) some e = turn_keeps (choice_at linux (choice_of rules) (traces follow p) (λ n. entries p n v.log) (at Gone v.tasks p)) v.shared v.child p (at Gone v.tasks p) i (sym e)

  -- a turn that logged left the console
  pub kernel_console : IsSome item → s.console ≡ v.shared.console
  kernel_console some = ap (λ (x : Shared). x.console) (sym turned_out.shared_is) ∙ logged_keeps item some kernel_item

  pub kernel_turned : record { shared = s; tasks = tasks_with tasks v.child (unboxed done); child = next_child v.child (unboxed done); log = v.log ++ option_to_list item } ≡ running_turn linux (choice_of rules) follow v p
  kernel_turned =
      sym (with_event s tasks v.child (v.log ++ option_to_list item) (unboxed done))
      ∙ λ i. bore (record { shared = sym turned_out.shared_is i; tasks = sym turned_out.tasks_is i; child = v.child; log = v.log ++ option_to_list (kernel_item i) }) (sym turned_out.event_is i)
