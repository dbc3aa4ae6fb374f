use Rattle.std.proofs.Common.{not, map, ap, ◌∙◌}
use Rattle.turn_orders.specs.Met.{has, with_order}
use Rattle.turn_orders.proofs.Meeting.{has_text, with_text}
use Rattle.turn_orders.proofs.met.Met.add.Goals as goal

pub returns-clause-new : goal.returns-clause-new
returns-clause-new c =
    c.in_ok-new.ensures.added
    ∙ ap not (has_text (λ o. o.items) c.self.inside.orders.keys c.args.order)
    ∙ ap (λ os. not (has os c.args.order.items)) c.self.view_is

pub returns-clause-after : goal.returns-clause-after
returns-clause-after c =
    ap (λ os. map (λ o. o.items) os) c.in_ok-new.ensures.keys
    ∙ with_text (λ o. o.items) c.self.inside.orders.keys c.args.order
    ∙ ap (λ os. with_order os c.args.order.items) c.self.view_is
