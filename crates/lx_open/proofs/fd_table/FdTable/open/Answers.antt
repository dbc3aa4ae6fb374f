use Rattle.std.proofs.Common.{ap, ◌∙◌}
use Rattle.lx_files.proofs.Full.{taken_back}
use Rattle.lx_open.proofs.fd_table.FdTable.open.Goals as goal

pub returns-in-Err-clause-err : goal.returns-in-Err-clause-err
returns-in-Err-clause-err c =
    let s = c.args.self.now in
    ap (λ m. record s { slots = m; descriptions = c.remove.new.self }) c.in-Err.ensures.err
    ∙ ap (λ m. record s { descriptions = m }) (taken_back s.descriptions c.insert.new.self c.remove.new.self c.in_ok-number.number c.args.description c.in_ok-number.ensures c.in_ok-insert.ensures.ok c.remove.ensures.rest)
