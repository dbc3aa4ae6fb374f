use Rattle.std.proofs.Common.{◌≡◌, ℕ, Some, subst, arith}
use Rattle.lx_abi.specs.declared.log.Mode.TheVariants as modes
use Rattle.lx_abi.specs.declared.schedule.Event.TheVariants.{Turn}
use Rattle.pt_kernel.specs.Advances.{Leads}
use Rattle.pt_kernel.specs.AfterEvents.{after, mode_at}
use Rattle.pt_kernel.specs.Hosts.{HostState}
use Rattle.pt_kernel.proofs.Advancing.{led_none}
use Rattle.pt_kernel.proofs.host.Host.turn.Goals as goal

pub returns-then-not-runs-clause-after : goal.returns-then-not-runs-clause-after
returns-then-not-runs-clause-after c =
    led_none c.in_ok-advance.field-0 c.args.self.now c.advance.new.self c.args.pid c.in_ok-advance.ensures.within c.in_ok-advance.ensures.leads

pub returns-clause-after : goal.returns-clause-after
returns-clause-after c =
    led_none c.in_ok-advance.field-0 c.args.self.now c.advance.new.self c.args.pid c.in_ok-advance.ensures.within c.in_ok-advance.ensures.leads

pub returns-clause-ran : goal.returns-clause-ran
returns-clause-ran c = λ e. record {
  running = c.runs-runs.ensures c.if-not-runs.false;
  stays =
      subst (λ (h : HostState). mode_at h c.args.pid ≡ Some modes.Run)
      (led_none c.in_ok-advance.field-0 c.args.self.now c.advance.new.self c.args.pid c.in_ok-advance.ensures.within c.in_ok-advance.ensures.leads)
      (c.is_in_run.ensures e);
}
