use Rattle.lx_files.proofs.Walking.{childless_there, childless_any}
use Rattle.lx_files.proofs.flat.any_child.Goals as goal

pub returns-in-None : goal.returns-in-None
returns-in-None c = childless_there c.args.folders.now.children c.args.folder c.in-None.ensures

pub returns-in-Some : goal.returns-in-Some
returns-in-Some c = childless_any c.args.folders.now.children c.args.folder c.in-Some.names.now c.any.result c.in-Some.ensures c.any.ensures
