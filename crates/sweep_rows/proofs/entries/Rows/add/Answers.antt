use Rattle.std.proofs.Common.{[], ◌∷◌, ◌++◌, refl, sym, ap, subst, ◌∙◌}
use Rattle.sweep_rows.specs.Counts.{IsAdded}
use Rattle.sweep_rows.specs.Known.{occurrence_in}
use Rattle.sweep_rows.specs.declared.entries.Rows.{Rows}
use Rattle.sweep_rows.specs.declared.known.Occurrence.{Occurrence}
use Rattle.sweep_rows.proofs.Counting.{entry_of_meant}
use Rattle.sweep_rows.proofs.entries.Rows.add.Goals as goal

pub returns-in_ok-push : goal.returns-in_ok-push
returns-in_ok-push c = λ past known counted.
    let before : Rows = c.args.self.now in
    let after : Rows = record { found = c.push.new.self; entered = c.count.new.self } in
    subst (λ item. IsAdded c.args.set.now c.args.follow past item before after) (sym c.in-Enter.is)
    (entry_of_meant c.args.set.now c.args.follow past c.in-Enter.pid c.in-Enter.call before (record { found = before.found; entered = c.count.new.self }) counted
    c.in_ok-count.ensures after c.args.known.now (sym c.is_meant.ensures ∙ c.if-is_meant.true) known refl
    (c.in_ok-push.ensures.items
    ∙ ap (λ (o : Occurrence). before.found.items ++ o ∷ []) (c.occurrence.ensures ∙ ap (occurrence_in c.args.known.now c.in-Enter.pid c.in-Enter.call) c.latest-n.ensures)))
