-- A host that hasn't failed keeps what its machine rests on.
use Rattle.std.proofs.Common.{◌≡◌, Option, sym, subst, ◌∙◌}
use Rattle.lx_abi.specs.declared.ptrace.Reply.{Reply}
use Rattle.lx_abi.specs.declared.schedule.Event.{Event}
use Rattle.lx_proc.specs.declared.state.Shared.{Shared}
use Rattle.lx_proc.specs.declared.state.UserState.{UserState}
use Rattle.lx_turn.specs.Linux.{linux}
use Rattle.lx_kernel.specs.Outcomes.{outcome_in}
use Rattle.pt_model.specs.Hosting.{Hosted, IsFresh, hosting_event}
use Rattle.pt_model.proofs.Hosts.{hosts_attend_alike}
use Rattle.lx_kernel.specs.Runs.{Run as KernelRun}
use Rattle.pt_kernel.specs.Hosts.{Linux_host, made, IsSwept, IsSound}
use Rattle.pt_kernel.proofs.Sweeping.{swept_event}

pub sound_event : (k k' : KernelRun) (v v' : Linux_host) (e : Event) (r : Option Reply) → IsSound k v → made v' r ≡ hosting_event linux outcome_in k.follow v e → k'.script ≡ k.script → IsSound k' v'
sound_event k k' v v' e r h m s = record {
  empty = s ∙ h.empty;
  swept = subst (λ (x : Hosted Shared UserState). IsSwept x.hosting.running) (sym m) (swept_event outcome_in k.follow v e h.swept);
  fresh = subst (λ (x : Hosted Shared UserState). IsFresh x.hosting) (sym m) (hosts_attend_alike linux outcome_in k.follow v e h.fresh).3;
}
