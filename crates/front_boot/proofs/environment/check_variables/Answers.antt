use Rattle.std.proofs.Common.{rules, ◌≡◌}
use Rattle.front_boot.proofs.Variables.{malformed}
use Rattle.front_boot.proofs.environment.check_variables.Goals as goal

pub returns-in_default-clause-one : goal.returns-in_default-clause-one
returns-in_default-clause-one c =
    (c.about.ensures.begins, malformed c.args.words.now c.loop-word.word-index _ c.loop-word-test.true c.in_default.ensures)
