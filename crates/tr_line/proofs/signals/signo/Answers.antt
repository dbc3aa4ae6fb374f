use Rattle.std.proofs.Common.{codes}
use Rattle.tr_line.specs.Signals.{signo_text, signal_shown}
use Rattle.tr_line.proofs.Chains.{two}
use Rattle.tr_line.proofs.signals.signo.Goals as goal

pub returns : goal.returns
unfolding signo_text
returns c = two c.signal.result c.args.out.now c.put.new.self c.signal.new.out (codes " {si_signo=") (signal_shown c.args.n) c.in_ok-put.ensures c.signal.ensures
