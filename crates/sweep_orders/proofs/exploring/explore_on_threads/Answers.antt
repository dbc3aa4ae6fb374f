use Rattle.std.proofs.Common.{rules, ◌≡◌, length, refl, ap, ◌∙◌}
use Rattle.turn_orders.specs.Plans.{switched_of}
use Rattle.sweep_orders.specs.Orders.{told_of}
use Rattle.sweep_orders.proofs.exploring.explore_on_threads.Goals as goal

pub returns : goal.returns
returns g c =
    let switches : c.len-switches.result ≡ length c.in_ok-source.source.switches.items = search rules in
    record {
      source = c.in_ok-source.source;
      is_source = c.in_ok-source.ensures;
      told = told_of c.in_ok-results.results;
      explores = c.in_ok-results.ensures;
      found = refl;
      different = c.len-different.ensures;
      switched = c.switched_of.ensures ∙ ap (switched_of c.args.orders) switches;
      switches = switches;
    }
