use Rattle.std.proofs.Common.{ap, sym, ◌∙◌}
use Rattle.pt_kernel.specs.Hosts.{HostState}
use Rattle.trace_run.specs.BootedRuns.{IsBooted}
use Rattle.trace_run.proofs.local.booted_link.Goals as goal

pub returns-clause-link : goal.returns-clause-link
unfolding IsBooted
returns-clause-link c = (
  ap (λ (h : HostState). h.hosting) (c.link_to-link.ensures.host ∙ c.list_files.ensures ∙ c.in_ok-host.ensures.first),
  ap (λ (h : HostState). h.failed) (c.link_to-link.ensures.host ∙ c.list_files.ensures ∙ c.in_ok-host.ensures.first),
  c.link_to-link.ensures.whole,
  c.link_to-link.ensures.going,
  c.link_to-link.ensures.given,
  c.link_to-link.ensures.schedule,
)

pub returns-clause-refused : goal.returns-clause-refused
returns-clause-refused c = λ e is. absurd (cc (sym c.in_ok-host.ensures.accepted ∙ is))
