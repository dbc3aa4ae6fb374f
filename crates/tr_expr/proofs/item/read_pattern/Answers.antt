use Rattle.std.proofs.Common.{refl, sym}
use Rattle.regex.specs.Strings.{regex_pattern}
use Rattle.tr_expr.specs.Items.{FoundCalls, Refused}
use Rattle.tr_expr.specs.declared.fault.ExprFault.TheVariants.{BadPattern}
use Rattle.tr_expr.proofs.item.read_pattern.Goals as goal

pub returns-in_ok-calls_found-in-Ok : goal.returns-in_ok-calls_found-in-Ok
returns-in_ok-calls_found-in-Ok c =
    let new = c.in-Ok.ensures in (
      FoundCalls (regex_pattern c.in-Ok.pattern),
      (
        (c.in-Ok.pattern, (new.source, (new.config, (new.read, refl)))),
        record { picks = c.in_ok-calls_found-in-Ok.ensures; causes = refl },
      ),
    )

pub returns-in-Err-2 : goal.returns-in-Err-2
returns-in-Err-2 c =
    let new = c.in-Err.ensures in (
      Refused BadPattern,
      (
        (refl, (c.in-Err.error, (sym c.if-is_out_of_memory.ensures, (new.by_grammar, new.kind)))),
        record { picks = λ n. refl; causes = refl },
      ),
    )
