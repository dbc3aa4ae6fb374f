use Rattle.std.proofs.Common.{ap, ◌∙◌}
use Rattle.lx_files.proofs.Full.{taken_back}
use Rattle.lx_files.proofs.tree.Tree.create.Goals as goal

pub returns-in-Err-clause-err : goal.returns-in-Err-clause-err
returns-in-Err-clause-err c =
    let s = c.args.self.now in
    ap (λ n. record { names = n; nodes = c.remove.new.self }) c.in-Err.ensures.err
    ∙ ap (λ n. record s { nodes = n }) (taken_back s.nodes c.insert.new.self c.remove.new.self c.in_ok-number.number c.args.node c.in_ok-number.ensures c.in_ok-insert.ensures.ok c.remove.ensures)
