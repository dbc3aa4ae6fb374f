use Rattle.std.proofs.Common.{◌+◌, ◌*◌, length, subst, sym}
use Rattle.rv_mem.specs.Memory.{Memory}
use Rattle.lx_exec.specs.Rooms.{IsMapped}
use Rattle.lx_exec.proofs.Roomy.{mapped_within}
use Rattle.lx_exec.proofs.programs.map_and_load.Goals as goal

pub load-requires : goal.load-requires
load-requires c =
    subst (λ (m : Memory). IsMapped m c.args.address (c.args.address + length c.args.bytes.now)) (sym c.in-Ok.ensures.mapped)
    (mapped_within c.args.space.now (4096 * c.args.page) (4096 * c.args.pages) c.args.address (length c.args.bytes.now) c.args.rights c.requires.start c.requires.end)
