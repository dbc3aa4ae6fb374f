use Rattle.std.proofs.Common.{◌≡◌, [], true, false, cond, ap, sym, ◌∙◌}
use Rattle.sweep_rows.specs.Summary.{checked}
use Rattle.sweep_rows.specs.Verdicts.{facts_of, verdict_of}
use Rattle.sweep_command.specs.Checks.{is_asked, with_verdict}
use Rattle.sweep_command.proofs.judging.judge_row.Goals as goal

pub returns : goal.returns
returns g c =
    let made = c.args.row in
    let reference = c.args.reference.now in
    let told = checked true (verdict_of (facts_of reference reference [] made.case.tells)) in
    let unasked : is_asked made ≡ false = sym c.is_asked.ensures ∙ c.if-is_asked.false in
    record {
      fine = true;
      run = reference;
      reached = λ e. absurd (cc (sym unasked ∙ e));
      row_is = ap (with_verdict made) (sym (ap (λ b. cond b told made.verdict) unasked));
    }
