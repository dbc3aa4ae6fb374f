use Rattle.std.proofs.Common.{◌≡◌, ℕ, ◌<◌, sym, subst, arith}
use Rattle.std.proofs.lemmas.Bool.Decides.{nat_tests}
use Rattle.std.specs.Prelude.{◌==◌, false}
use Rattle.lx_files.specs.Folders.{top, IsTree}
use Rattle.lx_files.proofs.Full.{taken_back}
use Rattle.lx_files.proofs.Adding.{added, added_keeps, added_stays, added_leads, added_there, alike_tree, alike_stays, keeps_itself}
use Rattle.lx_files.proofs.folders.add.Goals as goal

fresh : (n : ℕ) → n < top → (n == top) ≡ false
fresh n lt = grind (arith, nat_tests, lt)

pub overflow_add-folders : goal.overflow_add-folders
overflow_add-folders c = omega (arith, c.in_ok-number.ensures.small)

pub returns-in-Ok-clause-tree : goal.returns-in-Ok-clause-tree
returns-in-Ok-clause-tree c = added c.args.folders.now.children c.put_child.new.children c.args.folders.now.standings c.insert.new.self c.args.folders.now.full_below c.args.folder c.in_ok-number.number c.args.name.now c.in_ok-standing.standing c.requires.tree c.in_ok-number.ensures.number (fresh c.in_ok-number.number c.in_ok-number.ensures.small) c.requires.there c.requires.new c.requires.bare c.in-Ok.ensures.ok c.in_ok-standing.ensures c.in_ok-insert.ensures.ok

pub returns-in-Ok-clause-keeps : goal.returns-in-Ok-clause-keeps
returns-in-Ok-clause-keeps c = added_keeps c.args.folders.now.children c.put_child.new.children c.args.folders.now.standings c.insert.new.self c.args.folders.now.full_below c.args.folder c.in_ok-number.number c.args.name.now c.in_ok-standing.standing c.requires.tree c.in_ok-number.ensures.number (fresh c.in_ok-number.number c.in_ok-number.ensures.small) c.requires.there c.requires.new c.requires.bare c.in-Ok.ensures.ok c.in_ok-standing.ensures c.in_ok-insert.ensures.ok

pub returns-in-Ok-clause-stays : goal.returns-in-Ok-clause-stays
returns-in-Ok-clause-stays c = added_stays c.args.folders.now.children c.put_child.new.children c.args.folders.now.standings c.insert.new.self c.args.folders.now.full_below c.args.folder c.in_ok-number.number c.args.name.now c.in_ok-standing.standing c.requires.tree c.in_ok-number.ensures.number (fresh c.in_ok-number.number c.in_ok-number.ensures.small) c.requires.there c.requires.new c.requires.bare c.in-Ok.ensures.ok c.in_ok-standing.ensures c.in_ok-insert.ensures.ok

pub returns-in-Ok-clause-leads : goal.returns-in-Ok-clause-leads
returns-in-Ok-clause-leads c = added_leads c.args.folders.now.children c.put_child.new.children c.args.folders.now.standings c.insert.new.self c.args.folders.now.full_below c.args.folder c.in_ok-number.number c.args.name.now c.in_ok-standing.standing c.requires.tree c.in_ok-number.ensures.number (fresh c.in_ok-number.number c.in_ok-number.ensures.small) c.requires.there c.requires.new c.requires.bare c.in-Ok.ensures.ok c.in_ok-standing.ensures c.in_ok-insert.ensures.ok

pub returns-in-Ok-clause-there : goal.returns-in-Ok-clause-there
returns-in-Ok-clause-there c = added_there c.args.folders.now.children c.put_child.new.children c.args.folders.now.standings c.insert.new.self c.args.folders.now.full_below c.args.folder c.in_ok-number.number c.args.name.now c.in_ok-standing.standing c.requires.tree c.in_ok-number.ensures.number (fresh c.in_ok-number.number c.in_ok-number.ensures.small) c.requires.there c.requires.new c.requires.bare c.in-Ok.ensures.ok c.in_ok-standing.ensures c.in_ok-insert.ensures.ok

pub returns-in-Err-clause-tree : goal.returns-in-Err-clause-tree
returns-in-Err-clause-tree c = subst (λ z. IsTree c.put_child.new.children z c.args.folders.now.full_below) (sym (taken_back c.args.folders.now.standings c.insert.new.self c.remove.new.self c.in_ok-number.number c.in_ok-standing.standing c.in_ok-number.ensures.number c.in_ok-insert.ensures.ok c.remove.ensures.rest)) (alike_tree c.args.folders.now.children c.put_child.new.children c.in-Err.ensures.err c.args.folders.now.standings c.args.folders.now.full_below c.requires.tree)

pub returns-in-Err-clause-keeps : goal.returns-in-Err-clause-keeps
returns-in-Err-clause-keeps c = keeps_itself c.args.folders.now.standings c.remove.new.self (taken_back c.args.folders.now.standings c.insert.new.self c.remove.new.self c.in_ok-number.number c.in_ok-standing.standing c.in_ok-number.ensures.number c.in_ok-insert.ensures.ok c.remove.ensures.rest)

pub returns-in-Err-clause-stays : goal.returns-in-Err-clause-stays
returns-in-Err-clause-stays c = alike_stays c.args.folders.now.children c.put_child.new.children c.in-Err.ensures.err
