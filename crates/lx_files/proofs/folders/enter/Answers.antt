use Rattle.std.proofs.Common.{sym}
use Rattle.lx_files.proofs.Adding.{leads_there}
use Rattle.lx_files.proofs.folders.enter.Goals as goal

pub returns-in-Some-clause-there : goal.returns-in-Some-clause-there
returns-in-Some-clause-there c = leads_there c.args.folders.now.children c.args.folders.now.standings c.args.folders.now.full_below c.requires.tree c.args.folder c.in-Some.number c.args.name.now (sym c.in-Some.ensures)
