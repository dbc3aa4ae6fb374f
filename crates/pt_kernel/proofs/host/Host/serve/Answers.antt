use Rattle.std.proofs.Common.{false, ap, ◌∙◌}
use Rattle.lx_abi.specs.declared.schedule.Event.TheVariants.{Serve}
use Rattle.lx_proc.specs.declared.state.Shared.{Shared}
use Rattle.lx_proc.specs.declared.state.UserState.{UserState}
use Rattle.pt_model.specs.Hosting.{Hosted}
use Rattle.pt_kernel.specs.Hosts.{event_of, hosting_by}
use Rattle.pt_kernel.specs.AfterEvents.{after}
use Rattle.pt_kernel.proofs.Keeping.{sound_event}
use Rattle.pt_kernel.proofs.host.Host.serve.Goals as goal

pub returns-clause-after : goal.returns-clause-after
returns-clause-after c =
    let served = c.in_ok-reply.ensures.served c.self.inside.turns in
    (λ i. record { hosting = (served i).hosting; follow = c.in_ok-reply.ensures.script.1 i; failed = false })
    ∙ ap (λ h. after h Serve) c.self.view_is

pub returns-clause-reply : goal.returns-clause-reply
returns-clause-reply c =
    ap (λ (x : Hosted Shared UserState). x.reply) (c.in_ok-reply.ensures.served c.self.inside.turns)
    ∙ ap (λ h. (event_of h Serve).reply) c.self.view_is

pub invariant_of-self-2 : goal.invariant_of-self-2
invariant_of-self-2 c = λ e.
    let s = c.self.inside in
    sound_event s.kernel c.serve.new.kernel (hosting_by s.kernel.running s.tracees s.turns s.pending) (hosting_by c.serve.new.kernel.running c.serve.new.tracees s.turns c.serve.new.pending)
    Serve c.in_ok-reply.reply (c.self.invariant c.if-self.false) (c.in_ok-reply.ensures.served s.turns) c.in_ok-reply.ensures.script.0
