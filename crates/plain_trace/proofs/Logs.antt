-- What turns note is the untraced kernel's log.
use Rattle.std.proofs.Common.{◌≡◌, ◌∙◌, ℕ, List, [], ◌∷◌, ◌++◌, refl, sym, ap, append-nil, append_assoc}
use Rattle.std.specs.Option.{option_to_list}
use Rattle.lx_abi.specs.Scripts.{choice_of}
use Rattle.lx_boot.specs.First.{first_shared}
use Rattle.lx_exec.specs.Programs.{booted}
use Rattle.lx_kernel.specs.First.{first_run}
use Rattle.lx_kernel.specs.Laws.{BootsAreFirst}
use Rattle.lx_kernel.specs.Runs.{Run, after_turn, turn_in}
use Rattle.lx_model.specs.Finite.{Is, at}
use Rattle.lx_model.specs.Kernel.{Kernel, first_kernel, kernel_run, kernel_turn, turn_of, with_child}
use Rattle.lx_model.specs.declared.event.PtraceEvent.{PtraceEvent}
use Rattle.lx_model.specs.declared.event.PtraceEvent.TheVariants.{Plain, Execed, Forked}
use Rattle.lx_model.specs.declared.stage.Task.{Task}
use Rattle.lx_model.specs.declared.stage.Task.TheVariants.{Gone}
use Rattle.lx_model.proofs.Bridge.{kernels_begin_alike, turn_is}
use Rattle.lx_proc.specs.declared.state.Shared.{Shared}
use Rattle.lx_proc.specs.declared.state.UserState.{UserState}
use Rattle.lx_turn.specs.Linux.{linux}
use Rattle.plain_run.specs.Notes.{notes_of}
use Rattle.plain_trace.specs.Laws.{NotesAreLogs}

child_log : (k : Kernel Shared UserState) (e : PtraceEvent UserState) → (with_child k e).log ≡ k.log
child_log k Plain = refl
child_log k Execed = refl
child_log k (Forked b) = refl

same_out : (r : Run) (k : Kernel Shared UserState) → Is r.running k → (p : ℕ) → turn_of linux (choice_of r.script) r.follow k p ≡ turn_in r p
same_out r k e p =
    let task : at Gone r.running.tasks p ≡ k.tasks p = ap (λ (f : ℕ → Task UserState). f p) e.tasks in
    rw (e.log, e.shared, task, e.child) refl

logs : (ps : List ℕ) (r : Run) (k : Kernel Shared UserState) → Is r.running k
    → (kernel_run linux (choice_of r.script) r.follow k ps).log ≡ k.log ++ notes_of r ps
unfolding notes_of
logs [] r k e = sym (append-nil k.log)
logs (p ∷ ps) r k e =
    logs ps (after_turn r p) (kernel_turn linux (choice_of r.script) r.follow k p) (turn_is linux (choice_of r.script) r.follow r.running k e p)
    ∙ ap (λ l. l ++ notes_of (after_turn r p) ps)
    (child_log _ (turn_of linux (choice_of r.script) r.follow k p).event ∙ ap (λ o. k.log ++ option_to_list o.item) (same_out r k e p))
    ∙ append_assoc k.log (option_to_list (turn_in r p).item) (notes_of (after_turn r p) ps)

pub notes_logs : BootsAreFirst → NotesAreLogs
unfolding NotesAreLogs
notes_logs first boot script pids =
    let s = first_shared boot.limits boot.files boot.input in
    let b = booted boot.argv boot.env in
    let begun : Is (first_run boot script).running (first_kernel s b) = rw (first boot script) (kernels_begin_alike s b) in
    sym (logs pids (first_run boot script) (first_kernel s b) begun)
