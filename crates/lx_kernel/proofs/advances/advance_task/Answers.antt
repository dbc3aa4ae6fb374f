use Rattle.std.proofs.Common.{ℕ, sym, subst}
use Rattle.lx_kernel.specs.Advances.{PartLeads}
use Rattle.lx_kernel.proofs.Advancing.{none_leads}
use Rattle.lx_kernel.proofs.advances.advance_task.Goals as goal

pub returns-in-Dying-clause-leads : goal.returns-in-Dying-clause-leads
returns-in-Dying-clause-leads c =
    subst (λ (n : ℕ). PartLeads c.args.injection.now c.args.shared.now c.args.child c.args.pid n c.args.task.now c.args.item.now c.args.task.now) (sym c.none.ensures.turns)
    (none_leads c.args.injection.now c.args.shared.now c.args.child c.args.pid c.args.task.now c.args.item.now c.requires)

pub returns-in-Gone-clause-leads : goal.returns-in-Gone-clause-leads
returns-in-Gone-clause-leads c =
    subst (λ (n : ℕ). PartLeads c.args.injection.now c.args.shared.now c.args.child c.args.pid n c.args.task.now c.args.item.now c.args.task.now) (sym c.none-in-Gone.ensures.turns)
    (none_leads c.args.injection.now c.args.shared.now c.args.child c.args.pid c.args.task.now c.args.item.now c.requires)
