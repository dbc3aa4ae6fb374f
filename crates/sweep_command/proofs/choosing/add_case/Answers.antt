use Rattle.std.proofs.Common.{◌++◌, sym, ap, ◌∙◌, append-nil}
use Rattle.std.specs.Option.{option_to_list}
use Rattle.std.proofs.lemmas.Option.{slice_get_past}
use Rattle.sweep_command.proofs.choosing.add_case.Goals as goal

pub returns-in_default : goal.returns-in_default
returns-in_default c =
    let before = c.args.placed.now.items in
    sym (ap (λ o. before ++ option_to_list o) (slice_get_past c.args.cases.now c.args.place c.in_default.ensures.lookup.3)
    ∙ append-nil before)
