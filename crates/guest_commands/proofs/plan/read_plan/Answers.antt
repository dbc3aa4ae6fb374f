use Rattle.std.proofs.Common.{inl, inr}
use Rattle.std.proofs.lemmas.Result.{err_from_is_err_and}
use Rattle.guest_commands.proofs.Refused.{refused_behind}
use Rattle.guest_commands.proofs.plan.read_plan.Goals as goal

pub returns-in_err-check_outputs-clause-refused : goal.returns-in_err-check_outputs-clause-refused
returns-in_err-check_outputs-clause-refused g c =
    let p = err_from_is_err_and c.from_residual-in_err-check_outputs.result
    c.from_residual-in_err-check_outputs.ensures.1 in
    rw (p.1, p.2) (refused_behind g.R.File.Read.remaining c.args.matches.now (g.I.Read.remaining c.args.input.now)
    c.in_ok-limit.limit c.in_ok-script.field-0 c.in_ok-schedule.ensures.words.0 c.in_err-check_outputs.field-0.0
    c.in_ok-limit.ensures.limit c.in_ok-script.ensures.asked c.in_ok-schedule.ensures.words.1.0
    (inl c.in_err-check_outputs.ensures))

pub returns-in_err-boot-clause-refused : goal.returns-in_err-boot-clause-refused
returns-in_err-boot-clause-refused g c =
    let p = err_from_is_err_and c.from_residual-in_err-boot.result c.from_residual-in_err-boot.ensures.1 in
    rw (p.1, p.2) (refused_behind g.R.File.Read.remaining c.args.matches.now (g.I.Read.remaining c.args.input.now)
    c.in_ok-limit.limit c.in_ok-script.field-0 c.in_ok-schedule.ensures.words.0 c.in_err-boot.field-0.0
    c.in_ok-limit.ensures.limit c.in_ok-script.ensures.asked c.in_ok-schedule.ensures.words.1.0
    (inr c.in_err-boot.ensures.refused))
