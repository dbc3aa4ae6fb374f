use Rattle.std.proofs.Common.{◌≡◌, ap, sym, ◌∙◌, rules}
use Rattle.std.specs.Cmp.{nat_cmp_total}
use Rattle.std.specs.FinMap as maps
use Rattle.lx_files.proofs.Totals.{insert-remove, insert-back}
use Rattle.lx_proc.proofs.Tables.{changed_by}
use Rattle.lx_pcalls.specs.Kill.{sent_to}
use Rattle.lx_pcalls.proofs.kill.send_from.Goals as goal

pub returns-in-Dying : goal.returns-in-Dying
returns-in-Dying c =
    let m = c.args.entries.now in
    let k = c.args.target in
    let e = c.in-Some.entry.now in
    sym (changed_by m k (λ e. sent_to e e.life c.args.pid c.args.signal) e c.in-Some.ensures
    ∙ ap (maps.insert m k) (let unsent : sent_to e e.life c.args.pid c.args.signal ≡ e = search rules in unsent)
    ∙ sym (insert-remove nat_cmp_total maps.nat_cmp-IsAntisymmetric (λ x. 0) m k e)
    ∙ insert-back nat_cmp_total maps.nat_cmp-IsAntisymmetric (λ x. 0) m k e (sym c.in-Some.ensures))
