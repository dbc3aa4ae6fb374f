use Rattle.std.proofs.Common.{sym, subst, ◌∙◌}
use Rattle.std.specs.Cmp.{nat_cmp_total}
use Rattle.std.specs.FinMap as maps
use Rattle.lx_files.specs.Folders.{HasLess, IsTree}
use Rattle.lx_files.proofs.Totals.{remove-none}
use Rattle.lx_files.proofs.Adding.{gone_tree, gone_keeps, gone_stays, keeps_itself}
use Rattle.lx_files.proofs.pruning.take_away.Goals as goal

pub returns-in-None-clause-tree : goal.returns-in-None-clause-tree
returns-in-None-clause-tree c = subst (λ z. IsTree c.args.folders.now.children z c.args.folders.now.full_below) (sym (c.remove.ensures.rest ∙ remove-none nat_cmp_total maps.nat_cmp-IsAntisymmetric (λ x. 0) c.args.folders.now.standings c.args.folder (sym c.in-None.ensures.value))) c.requires.tree

pub returns-in-None-clause-keeps : goal.returns-in-None-clause-keeps
returns-in-None-clause-keeps c = λ numbers there none. keeps_itself c.args.folders.now.standings c.remove.new.self (c.remove.ensures.rest ∙ remove-none nat_cmp_total maps.nat_cmp-IsAntisymmetric (λ x. 0) c.args.folders.now.standings c.args.folder (sym c.in-None.ensures.value)) numbers there

pub returns-in-Some-clause-tree : goal.returns-in-Some-clause-tree
returns-in-Some-clause-tree c = gone_tree c.args.folders.now.children c.end.new.children c.take_name.new.children c.args.folders.now.standings c.remove.new.self c.args.folders.now.full_below c.min-folders.result c.args.folder c.in-Some.standing c.requires.tree c.in-Some.ensures.value c.requires.empty c.end.ensures (subst (λ n. HasLess c.end.new.children c.take_name.new.children c.in-Some.standing.above n) c.as_slice.ensures c.take_name.ensures) c.remove.ensures.rest c.min-folders.ensures

pub returns-in-Some-clause-keeps : goal.returns-in-Some-clause-keeps
returns-in-Some-clause-keeps c = gone_keeps c.args.folders.now.children c.end.new.children c.take_name.new.children c.args.folders.now.standings c.remove.new.self c.args.folders.now.full_below c.min-folders.result c.args.folder c.in-Some.standing c.requires.tree c.in-Some.ensures.value c.requires.empty c.end.ensures (subst (λ n. HasLess c.end.new.children c.take_name.new.children c.in-Some.standing.above n) c.as_slice.ensures c.take_name.ensures) c.remove.ensures.rest c.min-folders.ensures

pub returns-in-Some-clause-stays : goal.returns-in-Some-clause-stays
returns-in-Some-clause-stays c = gone_stays c.args.folders.now.children c.end.new.children c.take_name.new.children c.args.folders.now.standings c.remove.new.self c.args.folders.now.full_below c.min-folders.result c.args.folder c.in-Some.standing c.requires.tree c.in-Some.ensures.value c.requires.empty c.end.ensures (subst (λ n. HasLess c.end.new.children c.take_name.new.children c.in-Some.standing.above n) c.as_slice.ensures c.take_name.ensures) c.remove.ensures.rest c.min-folders.ensures

pub returns-in-None-clause-stays : goal.returns-in-None-clause-stays
returns-in-None-clause-stays c = λ names i h other. h
