use Rattle.std.proofs.Common.{List, subst}
use Rattle.sweep_rows.specs.declared.wanted.Case.{Case}
use Rattle.sweep_command.specs.Choosing.{AreChosen}
use Rattle.sweep_command.proofs.rows.wanted_cases.Goals as goal

pub returns : goal.returns
returns c = (
  c.in_ok-all.all.items,
  c.in_ok-all.ensures,
  subst (λ (all : List Case). AreChosen c.args.words.most all c.in_ok-cases.cases.items) c.as_slice-all.ensures.value c.in_ok-cases.ensures,
)
