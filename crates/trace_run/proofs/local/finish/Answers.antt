use Rattle.std.proofs.Common.{refl, ap, ◌∙◌}
use Rattle.lx_kernel.specs.Outcomes.{outcome_in}
use Rattle.pt_kernel.specs.Hosts.{HostState}
use Rattle.trace_run.specs.BootedRuns.{IsLeft}
use Rattle.trace_run.proofs.local.finish.Goals as goal

pub returns : goal.returns
unfolding IsLeft
returns c = (
  refl,
  c.into_bytes.ensures,
  c.in-Ok.ensures ∙ ap (λ (h : HostState). outcome_in h.hosting.running.shared) c.into_host-host.ensures,
  c.into_turns.ensures ∙ ap (λ (h : HostState). h.hosting.turns) c.into_host-host.ensures,
)
