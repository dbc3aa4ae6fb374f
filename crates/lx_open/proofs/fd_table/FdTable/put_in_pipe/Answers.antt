use Rattle.std.proofs.Common.{◌≡◌, ◌++◌, ap, sym, subst, ◌∙◌}
use Rattle.std.proofs.lemmas.Result.{err_from_is_err_and}
use Rattle.std.specs.Cmp.{nat_cmp_total}
use Rattle.std.specs.Prelude.{OnSome}
use Rattle.std.specs.FinMap as maps
use Rattle.lx_files.proofs.Totals.{insert-same}
use Rattle.lx_open.specs.Opens.{pipe_changed}
use Rattle.lx_open.proofs.fd_table.FdTable.put_in_pipe.Goals as goal

pub returns-clause-ok : goal.returns-clause-ok
returns-clause-ok c =
    let s = c.args.self.now in
    let q = c.in-Some.queue.now in
    let w = c.extend.new.self in
    let h = subst (λ r. OnSome r (c.get_mut.follows.lender w ≡ maps.insert s.pipes c.args.pipe w)) c.in-Some.is (c.get_mut.follows.holds w) in
    ap (λ m. record s { pipes = m }) (h ∙ ap (maps.insert s.pipes c.args.pipe) c.in_ok-extend.ensures.ok)
    ∙ ap (pipe_changed s c.args.pipe ((λ q. q ++ c.args.bytes.now))) c.in-Some.ensures.value

pub returns-in_err-extend-clause-err : goal.returns-in_err-extend-clause-err
returns-in_err-extend-clause-err c =
    let s = c.args.self.now in
    let w = c.extend.new.self in
    let h = subst (λ r. OnSome r (c.get_mut.follows.lender w ≡ maps.insert s.pipes c.args.pipe w)) c.in-Some.is (c.get_mut.follows.holds w) in
    let p = err_from_is_err_and c.from_residual.result c.from_residual.ensures.1 in
    rw p.1 (ap (λ m. record s { pipes = m })
    (h ∙ ap (maps.insert s.pipes c.args.pipe) c.in_err-extend.ensures.err
    ∙ insert-same nat_cmp_total maps.nat_cmp-IsAntisymmetric (λ x. 0) s.pipes c.args.pipe c.in-Some.queue.now (sym c.in-Some.ensures.value)))
