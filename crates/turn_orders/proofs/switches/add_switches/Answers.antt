use Rattle.std.proofs.Common.{◌++◌, [], ◌∷◌, cond, map, ap, sym, ◌∙◌}
use Rattle.std.specs.List.{filter}
use Rattle.turn_orders.specs.Switches.{might, switch_to}
use Rattle.turn_orders.proofs.Lists.{one_tried}
use Rattle.turn_orders.proofs.switches.add_switches.Goals as goal

pub loop-other-preserved : goal.loop-other-preserved
loop-other-preserved c =
    let to = switch_to c.args.steps in
    let can = might c.args.pid c.args.later.now in
    let before = c.loop-other.switches.items in
    let tried = c.in_ok-add_switch.ensures ∙ ap (λ b. before ++ cond b (to c.in-Some.other.now ∷ []) []) c.might.ensures in
    one_tried to can c.in-Some.other.now c.in-Some.rest.now before c.add_switch.new.switches.items tried
    ∙ ap (λ pids. before ++ map to (filter can pids)) (sym c.in-Some.ensures.cases.0)
    ∙ c.loop-other.invariant
