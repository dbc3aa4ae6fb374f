use Rattle.std.proofs.Common.{◌≡◌, ◌-◌, suc, length, arith, sym}
use Rattle.std.proofs.lemmas.Bool.Decides.{nat_tests}
use Rattle.std.proofs.lemmas.Grind.{common_steps}
use Rattle.turn_rows.proofs.Rows.{all_lengthen}
use Rattle.turn_rows.proofs.turns.lengthen_last.Goals as goal

pub returns : goal.returns
returns c =
    let l : length c.args.rows.now.items ≡ suc (c.len-at.result - 1) = grind (arith, nat_tests, common_steps) in
    all_lengthen c.args.rows.now.items (c.len-at.result - 1) c.index_mut.result.now c.index_mut.result.now c.lengthen.new.row c.args.pid c.lengthen.result l (sym c.index_mut.ensures.value) c.lengthen.ensures
