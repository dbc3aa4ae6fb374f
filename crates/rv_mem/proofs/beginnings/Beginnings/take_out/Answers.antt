use Rattle.std.proofs.Common.{◌<◌, length, sym, ◌∙◌, arith}
use Rattle.rv_mem.proofs.Gaps.{in_kept}
use Rattle.rv_mem.proofs.Tables.{at_other}
use Rattle.rv_mem.proofs.beginnings.Beginnings.take_out.Goals as goal

pub returns-then-class-len-clause-kept : goal.returns-then-class-len-clause-kept
returns-then-class-len-clause-kept c = λ k n other there.
    let within : c.args.class < length c.args.self.now.gaps.items = omega (arith, c.if-class-len.true, c.len.ensures, c.args.self.now.gaps.ok.0) in
    in_kept c.args.self.now.gaps.items c.args.class k n c.index_mut.result.now c.remove.new.self within c.index_mut.ensures.value
    (λ was. c.remove.ensures.updates.2 n (at_other c.args.number n (λ e. other (sym e))) ∙ was) there
