use Rattle.lx_files.proofs.Adding.{ended}
use Rattle.lx_files.proofs.pruning.end.Goals as goal

pub returns : goal.returns
returns c = ended c.args.children.now c.args.folder c.remove.new.self c.requires c.remove.ensures.rest
