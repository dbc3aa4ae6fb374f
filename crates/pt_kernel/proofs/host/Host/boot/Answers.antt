use Rattle.std.proofs.Common.{◌≤◌, sym, ap, subst, ◌∙◌}
use Rattle.std.specs.FinMap as maps
use Rattle.lx_boot.specs.First.{first_shared}
use Rattle.lx_exec.specs.Programs.{booted}
use Rattle.lx_kernel.specs.Runs.{Run as KernelRun}
use Rattle.pt_model.proofs.Hosts.{hosts_begin_alike}
use Rattle.pt_kernel.specs.declared.tracees.Tracees.{Tracees}
use Rattle.pt_kernel.specs.Hosts.{IsSwept}
use Rattle.pt_kernel.proofs.Sweeping.{swept_first}
use Rattle.pt_kernel.proofs.host.Host.boot.Goals as goal

pub invariant_of-result : goal.invariant_of-result
invariant_of-result c = λ e.
    let first = c.in_ok-kernel.ensures.first in
    let s = first_shared c.args.boot.limits c.args.boot.files c.args.boot.input in
    let b = booted c.args.boot.argv c.args.boot.env in
    record {
      empty = ap (λ (k : KernelRun). k.script) first ∙ c.empty.ensures;
      swept = subst (λ (k : KernelRun). IsSwept k.running) (sym first) (swept_first s b);
      fresh = λ q l. ap (λ (x : Tracees). maps.get x.traced q) c.in-Ok.ensures ∙ (hosts_begin_alike s b).1 q (subst (λ (k : KernelRun). k.running.child ≤ q) first l);
    }
