use Rattle.std.proofs.Common.{sym, ◌∙◌}
use Rattle.std.specs.FinMap as maps
use Rattle.lx_model.specs.declared.stage.Task.TheVariants.{Alive}
use Rattle.lx_kernel.proofs.Advancing.{none_leads, undisturbed}
use Rattle.lx_kernel.proofs.advances.advance_alive.Goals as goal

pub go_on-requires-clause-alive : goal.go_on-requires-clause-alive
go_on-requires-clause-alive c =
    (undisturbed (maps.get c.args.shared.now.entries c.args.pid) (sym c.is_undisturbed.ensures ∙ c.if-not-is_undisturbed.false)).0

pub go_on-requires-clause-calm : goal.go_on-requires-clause-calm
go_on-requires-clause-calm c =
    (undisturbed (maps.get c.args.shared.now.entries c.args.pid) (sym c.is_undisturbed.ensures ∙ c.if-not-is_undisturbed.false)).1

pub returns-then-not-is_undisturbed-clause-leads : goal.returns-then-not-is_undisturbed-clause-leads
returns-then-not-is_undisturbed-clause-leads c =
    none_leads c.args.injection.now c.args.shared.now c.args.child c.args.pid (Alive c.args.user.now c.args.stage.now) c.args.item.now c.requires
