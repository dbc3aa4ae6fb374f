use Rattle.std.proofs.Common.{codes}
use Rattle.tr_line.specs.Signals.{stop_line, signal_shown}
use Rattle.tr_line.proofs.Chains.{three}
use Rattle.tr_line.proofs.signals.stop_line.Goals as goal

pub returns : goal.returns
unfolding stop_line
returns c =
    three c.put-2.result c.args.out.now c.put.new.self c.signal.new.out c.put-2.new.self
    (codes "--- stopped by ") (signal_shown c.args.n) (codes " ---\n")
    c.in_ok-put.ensures c.in_ok-signal.ensures c.put-2.ensures
