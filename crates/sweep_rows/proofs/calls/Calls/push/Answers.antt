use Rattle.std.proofs.Common.{[], ◌∷◌, ◌++◌, ap, ◌∙◌}
use Rattle.std.specs.FinMap as maps
use Rattle.sweep_rows.proofs.Numbers.{pushed}
use Rattle.sweep_rows.proofs.calls.Calls.push.Goals as goal

pub returns : goal.returns
returns c =
    pushed c.args.self.now (record { alloc = c.take-numbers.new.self.alloc; made = c.insert.new.self }) c.args.pid c.args.number c.push.new.self
    (c.in_ok-push.ensures.ok ∙ ap (λ numbers. numbers ++ c.args.number ∷ []) c.take-numbers.ensures.numbers)
    (c.in_ok-insert.ensures.ok ∙ ap (λ m. maps.insert m c.args.pid c.push.new.self) c.take-numbers.ensures.rest)
