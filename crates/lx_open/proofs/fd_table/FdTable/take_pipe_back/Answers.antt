use Rattle.std.proofs.Common.{[], ap, ◌∙◌}
use Rattle.lx_files.proofs.Full.{taken_back}
use Rattle.lx_open.specs.Opens.{FdTable}
use Rattle.lx_open.proofs.fd_table.FdTable.take_pipe_back.Goals as goal

pub returns : goal.returns
returns c = λ was vacant_is added.
    ap (λ (t : FdTable). record t { pipes = c.remove.new.self }) added
    ∙ ap (λ m. record was { pipes = m }) (taken_back was.pipes c.args.self.now.pipes c.remove.new.self c.args.pipe [] vacant_is (ap (λ (t : FdTable). t.pipes) added) c.remove.ensures.rest)
