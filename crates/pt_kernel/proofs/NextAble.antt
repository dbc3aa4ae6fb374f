-- Who may be able: a process whose turn of the kernel moves nothing is none of them.
use Rattle.std.proofs.Common.{◌≡◌, ℕ, Bool, true, false, [], Option, Some, None, refl, sym, ap, ap₂, ◌∙◌}
use Rattle.std.specs.Prelude.{◌&&◌}
use Rattle.lx_abi.specs.Scripts.{choice_of}
use Rattle.lx_model.specs.Finite.{at, task_mode, Running, turn_out}
use Rattle.lx_model.specs.declared.stage.Task.TheVariants.{Gone}
use Rattle.lx_proc.specs.declared.state.Shared.{Shared}
use Rattle.lx_proc.specs.declared.state.UserState.{UserState}
use Rattle.lx_kernel.specs.Runs.{Run as KernelRun}
use Rattle.lx_turn.specs.Linux.{linux}
use Rattle.pt_model.proofs.Hosts.{empty_script_is_none}
use Rattle.pt_schedule.specs.Cycle.{IsNextPlace}
use Rattle.pt_schedule.specs.Modes.{moves}
use Rattle.pt_schedule.specs.Untraced.{readiness_of as plain_readiness}
use Rattle.pt_kernel.specs.Hosts.{Linux_host, able_in}

and_false : (b x : Bool) → x ≡ false → (b && x) ≡ false
and_false true x e = e
and_false false x e = refl

module _ (k : KernelRun) (v : Linux_host) (running : v.running ≡ k.running) (empty : k.script ≡ []) where
  unable : (n : ℕ) → (plain_readiness k).able n ≡ false → able_in v k.follow n ≡ false
  unable n e = and_false _ _
      (ap₂ (λ script (r : Running Shared UserState). moves (task_mode (at Gone r.tasks n)) (task_mode (turn_out linux script k.follow r n).task)) (sym (ap choice_of empty ∙ empty_script_is_none)) running ∙ e)

  pub place_in : (p : ℕ) (r : Option ℕ) → IsNextPlace (plain_readiness k).able p r → IsNextPlace (able_in v k.follow) p r
  place_in p None h = λ n l. unable n (h n l)
  place_in p (Some q) h = (h.0, λ n l m. unable n (h.1 n l m))
