use Rattle.std.proofs.Common.{◌≡◌, ◌-◌, suc, length, arith, sym}
use Rattle.std.proofs.lemmas.Bool.Decides.{nat_tests}
use Rattle.std.proofs.lemmas.Grind.{common_steps}
use Rattle.pt_kernel.proofs.Noting.{all_added}
use Rattle.pt_kernel.proofs.events.lengthen.Goals as goal

pub returns : goal.returns
returns c =
    let l : length c.args.rows.now.items ≡ suc (c.len-at.result - 1) = grind (arith, nat_tests, common_steps) in
    all_added c.args.rows.now.items (c.len-at.result - 1) c.index_mut.result.now c.index_mut.result.now c.add.new.row c.args.times c.args.event c.add.result l (sym c.index_mut.ensures.value) c.add.ensures
