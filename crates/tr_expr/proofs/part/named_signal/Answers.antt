use Rattle.std.proofs.Common.{◌∙◌, ap}
use Rattle.std.specs.Option.{ok_or, option_and_then}
use Rattle.lx_abi.specs.Signals.{signal_numbered}
use Rattle.tr_expr.specs.declared.fault.ExprFault.TheVariants.{UnknownSignal}
use Rattle.tr_expr.proofs.Named.{read_back}
use Rattle.tr_expr.proofs.part.named_signal.Goals as goal

pub returns : goal.returns
returns c =
    c.ok_or.ensures.value
    ∙ ap (λ o. ok_or o UnknownSignal) (read_back c.from_name.result ∙ ap (λ n. option_and_then signal_numbered n) c.from_name.ensures)
