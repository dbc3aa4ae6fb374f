use Rattle.std.proofs.Common.{sym, ◌∙◌, ap}
use Rattle.std.proofs.lemmas.List.{take_all}
use Rattle.rv_mem.proofs.Gaps.{key_lists, in_same}
use Rattle.rv_mem.proofs.beginnings.copy_sets.Goals as goal

pub returns : goal.returns
returns c = λ k n there. sym (in_same c.args.sets.now c.loop-set.copy.items k n (c.loop-set.invariant ∙ ap key_lists (take_all c.loop-set.set-index c.args.sets.now c.loop-set-test.false))) ∙ there
