use Rattle.std.proofs.Common.{ap, sym, ◌∙◌}
use Rattle.std.specs.FinMap as maps
use Rattle.lx_abi.specs.Log.{entries}
use Rattle.lx_kernel.specs.Logs.{Logged}
use Rattle.lx_kernel.proofs.Watching.{first_watch, first_filing}
use Rattle.lx_kernel.proofs.kernel.Kernel.new.Goals as goal

pub invariant_of-result : goal.invariant_of-result
invariant_of-result c = λ e. (
  λ pid number. c.new-2.ensures pid number ∙ sym (ap (λ (l : Logged). entries pid number l.items) c.new.ensures),
  first_watch c.wake.new.self c.args.shared c.args.tasks (λ known. c.wake.ensures.awake known ∙ ap (λ m. maps.insert m 1 tt) c.new-run_queue.ensures.awake) c.requires,
  first_filing c.wake.new.self c.args.shared c.args.tasks (λ known. c.wake.ensures.awake known ∙ ap (λ m. maps.insert m 1 tt) c.new-run_queue.ensures.awake) c.requires,
)
