use Rattle.std.proofs.lemmas.Result.{err_from_is_err_and}
use Rattle.trace_words.proofs.Refused.{refused_boot, refused_outputs}
use Rattle.trace_words.proofs.plan.read_plan.Goals as goal

pub returns-in_err-check_outputs-clause-refused : goal.returns-in_err-check_outputs-clause-refused
returns-in_err-check_outputs-clause-refused g c =
    let p = err_from_is_err_and c.from_residual-in_err-check_outputs.result
    c.from_residual-in_err-check_outputs.ensures.1 in
    rw (p.1, p.2) (refused_outputs g.R.File.Read.remaining c.args.matches.now c.args.options
    (g.I.Read.remaining c.args.input.now) c.in_ok-expressions.expressions _ c.in_ok-turns.turns.items
    c.in_err-check_outputs.field-0.0 c.in_ok-expressions.ensures.asked c.get_str.ensures c.in_ok-turns.ensures.words
    c.in_err-check_outputs.ensures)

pub returns-in_err-boot-clause-refused : goal.returns-in_err-boot-clause-refused
returns-in_err-boot-clause-refused g c =
    let p = err_from_is_err_and c.from_residual-in_err-boot.result c.from_residual-in_err-boot.ensures.1 in
    rw (p.1, p.2) (refused_boot g.R.File.Read.remaining c.args.matches.now c.args.options
    (g.I.Read.remaining c.args.input.now) c.in_ok-expressions.expressions _ c.in_ok-turns.turns.items
    c.in_err-boot.field-0.0 c.in_ok-expressions.ensures.asked c.get_str.ensures c.in_ok-turns.ensures.words
    c.in_err-boot.ensures.refused)
