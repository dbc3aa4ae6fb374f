use Rattle.plain_log.proofs.Printed.{is_logged}
use Rattle.plain_log.proofs.log.run.Goals as goal

pub returns-clause-printed : goal.returns-clause-printed
returns-clause-printed g c =
    is_logged c.whole.result c.end-written.result (g.W.Write.contents c.args.out) _ _ _ _ _ _ _ c.whole.ensures.written
    c.new-log.ensures.begun c.new-log.ensures.told c.run-ran.ensures.told c.run-ran.ensures.begun c.end-written.ensures.written
