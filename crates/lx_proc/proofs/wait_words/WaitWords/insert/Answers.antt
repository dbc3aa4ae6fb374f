use Rattle.std.proofs.Common.{ap, ◌∙◌}
use Rattle.std.specs.FinMap as maps
use Rattle.containers.proofs.Maps.{made_by_insert}
use Rattle.lx_proc.proofs.wait_words.WaitWords.insert.Goals as goal

pub returns-clause-ok : goal.returns-clause-ok
returns-clause-ok c = made_by_insert _ _ c.args.pid c.args.word c.in_ok-insert.ensures.updates.0 ∙ ap (λ m. maps.insert m c.args.pid c.args.word) c.self.view_is
