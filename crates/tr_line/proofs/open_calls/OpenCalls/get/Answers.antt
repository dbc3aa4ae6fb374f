use Rattle.std.proofs.Common.{ap, sym, ◌∙◌}
use Rattle.std.specs.FinMap as maps
use Rattle.tr_line.specs.OpenCalls.{with_latest}
use Rattle.tr_line.proofs.OpenCalls.{own_call, other_call}
use Rattle.tr_line.proofs.open_calls.OpenCalls.get.Goals as goal
use Rattle.tr_line.proofs.open_calls.OpenCalls.get.Goals.{in_default-via-in-Some+else-open-pid, in_default-via-in_default}

pub returns-in-Some : goal.returns-in-Some
returns-in-Some c =
    sym (own_call c.self.inside.others c.in-Some.open c.args.pid c.if-open-pid.true)
    ∙ ap (λ l. maps.get (with_latest c.self.inside.others l) c.args.pid) (sym c.in-Some.is)
    ∙ ap (λ m. maps.get m c.args.pid) c.self.view_is

pub returns-in_default : goal.returns-in_default
returns-in_default c =
    c.copied.ensures ∙ c.get.ensures ∙ elim c.in_default.branch [
      | in_default-via-in-Some+else-open-pid w ↦
          sym (other_call c.self.inside.others w.in-Some.open c.args.pid w.if-open-pid.false)
          ∙ ap (λ l. maps.get (with_latest c.self.inside.others l) c.args.pid) (sym w.in-Some.is)
      | in_default-via-in_default w ↦
          ap (λ l. maps.get (with_latest c.self.inside.others l) c.args.pid) (sym w.in_default.is)
    ]
    ∙ ap (λ m. maps.get m c.args.pid) c.self.view_is
