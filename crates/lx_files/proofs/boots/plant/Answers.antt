use Rattle.std.proofs.Common.{take}
use Rattle.lx_files.proofs.Planting.{planted}
use Rattle.lx_files.proofs.boots.plant.Goals as goal

pub add_file-requires : goal.add_file-requires
add_file-requires c = planted c.loop-file.tree (take c.loop-file.file-index c.args.files.now) c.loop-file.invariant
