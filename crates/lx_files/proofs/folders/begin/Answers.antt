use Rattle.std.proofs.Common.{ap, ◌∙◌}
use Rattle.std.specs.FinMap as maps
use Rattle.lx_files.proofs.Adding.{begun}
use Rattle.lx_files.proofs.folders.begin.Goals as goal

pub returns-in_ok-insert-in-None : goal.returns-in_ok-insert-in-None
returns-in_ok-insert-in-None c = begun c.args.children.now c.args.folder c.insert.new.self c.in-None.ensures (c.in_ok-insert-in-None.ensures.ok ∙ ap (maps.insert c.args.children.now c.args.folder) c.new.ensures)
