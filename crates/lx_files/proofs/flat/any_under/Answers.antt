use Rattle.std.proofs.Common.{ℕ, Option, refl, sym, subst}
use Rattle.std.specs.Prelude.{IsSome}
use Rattle.lx_files.proofs.Under.{nowhere, childless, has_child}
use Rattle.lx_files.proofs.flat.any_under.Goals as goal

pub returns-in-None : goal.returns-in-None
returns-in-None c = sym (nowhere c.args.folders.now.children c.args.folders.now.standings c.args.folders.now.full_below c.requires.tree c.args.numbers.now c.requires.there c.args.path.now (sym c.in-None.ensures))

pub returns-in-None-any_child : goal.returns-in-None-any_child
returns-in-None-any_child c = sym (childless c.args.folders.now.children c.args.folders.now.standings c.args.folders.now.full_below c.requires.tree c.args.numbers.now c.requires.there c.args.path.now c.in-Some.folder (sym c.in-Some.ensures) c.in-None-any_child.ensures)

pub returns-in-Some-get : goal.returns-in-Some-get
returns-in-Some-get c = sym (has_child c.args.folders.now.children c.args.folders.now.standings c.args.folders.now.full_below c.requires.tree c.args.numbers.now c.requires.there c.args.path.now c.in-Some.folder c.in-Some-any_child.child c.in-Some-any_child.ensures.0 (sym c.in-Some.ensures) c.in-Some-any_child.ensures.1 (subst (λ (o : Option ℕ). IsSome o) c.in-Some-get.ensures refl))
