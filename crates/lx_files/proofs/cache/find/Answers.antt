use Rattle.std.proofs.Common.{◌∙◌}
use Rattle.lx_files.proofs.Ways.{way_leads}
use Rattle.lx_files.proofs.cache.find.Goals as goal

pub returns : goal.returns
returns c =
    c.walk.ensures
    ∙ way_leads c.args.folders.now.children c.args.folders.now.standings c.way_to-way.result.folder c.way_to-way.result.rest.now c.args.path.now c.way_to-way.ensures
