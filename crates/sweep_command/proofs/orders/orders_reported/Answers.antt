use Rattle.std.proofs.Common.{length, ap, ap₂, ◌∙◌}
use Rattle.std.specs.Prelude.{cond}
use Rattle.sweep_command.specs.Reports.{orders_status}
use Rattle.sweep_command.proofs.orders.orders_reported.Goals as goal

pub returns : goal.returns
returns g c =
    let found = c.as_slice-found.ensures.value in
    record {
      explored = c.in_ok-explored.explored;
      tried = c.in_ok-explored.ensures;
      broken = c.in_ok-broken.broken.items;
      each = c.in_ok-broken.ensures ∙ ap (λ fs. cond c.args.words.is_checked (length fs) 0) found;
      status_is = c.status_of.ensures
          ∙ ap₂ (λ fs bs. orders_status c.args.orders.one fs bs) found c.as_slice-broken.ensures.value;
    }
