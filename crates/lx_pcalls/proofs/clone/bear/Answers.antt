use Rattle.std.proofs.Common.{ap, ◌∙◌}
use Rattle.std.specs.Cmp.{nat_cmp_total}
use Rattle.std.specs.FinMap as maps
use Rattle.lx_files.proofs.Totals.{remove-insert}
use Rattle.lx_open.specs.declared.fd_table.FdTable.{FdTable}
use Rattle.lx_proc.specs.State.{Entries}
use Rattle.lx_pcalls.proofs.clone.bear.Goals as goal

pub returns-in-Err-clause-same : goal.returns-in-Err-clause-same
returns-in-Err-clause-same c = λ none.
    let s = c.args.shared.now in
    ap (λ (f : FdTable). record s { fds = f; entries = c.remove.new.self }) c.in-Err.ensures.err
    ∙ ap (λ (m : Entries). record s { entries = m })
    (c.remove.ensures ∙ ap (λ (m : Entries). maps.remove m c.args.child) c.in_ok-insert.ensures.ok
    ∙ remove-insert nat_cmp_total maps.nat_cmp-IsAntisymmetric (λ x. 0) s.entries c.args.child c.args.entry none)
