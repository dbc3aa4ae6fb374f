use Rattle.std.proofs.Common.{◌≡◌, Some, None, ap, sym, subst, ◌∙◌}
use Rattle.std.specs.FinMap as maps
use Rattle.std.specs.Cmp.{nat_cmp_total}
use Rattle.lx_files.specs.Folders.{AreThere, named}
use Rattle.lx_files.proofs.Totals.{get-removed}
use Rattle.lx_files.proofs.Numbering.{got, none_removed, taken_there, taken_named}
use Rattle.lx_files.proofs.name_tree.NameTree.remove.Goals as goal

pub invariant_of-self : goal.invariant_of-self
invariant_of-self c = (c.prune.ensures.tree, (c.prune.ensures.keeps c.remove-number.new.self (subst (λ n. AreThere c.self.inside.folders.standings n) (sym c.remove-number.ensures.rest) (taken_there c.self.inside.folders.children c.self.inside.folders.standings c.self.inside.folders.full_below c.self.invariant.0 c.args.path.now c.self.inside.numbers c.self.invariant.1 c.in-Some.folder (sym c.in-Some.ensures))) (ap (λ n. maps.get n c.in-Some.folder) c.remove-number.ensures.rest ∙ get-removed nat_cmp_total maps.nat_cmp-IsAntisymmetric (λ x. 0) c.self.inside.numbers c.in-Some.folder)).0, c.forget.ensures c.self.inside.folders.children c.prune.new.folders.children c.prune.ensures.stays c.self.invariant.2)

pub returns-in-None-clause-value : goal.returns-in-None-clause-value
returns-in-None-clause-value c = sym (got c.self.inside.folders.children c.self.inside.folders.standings c.self.inside.folders.full_below c.self.invariant.0 c.args.path.now c.self.inside.numbers c.self.invariant.1 None (sym c.in-None.ensures)) ∙ ap (λ m. maps.get m c.args.path.now) c.self.view_is

pub returns-in-None-clause-rest : goal.returns-in-None-clause-rest
returns-in-None-clause-rest c = subst (λ m. m ≡ maps.remove m c.args.path.now) c.self.view_is (none_removed c.self.inside.folders.children c.self.inside.folders.standings c.self.inside.folders.full_below c.self.invariant.0 c.args.path.now c.self.inside.numbers c.self.invariant.1 (got c.self.inside.folders.children c.self.inside.folders.standings c.self.inside.folders.full_below c.self.invariant.0 c.args.path.now c.self.inside.numbers c.self.invariant.1 None (sym c.in-None.ensures)))

pub returns-in-Some-clause-value : goal.returns-in-Some-clause-value
returns-in-Some-clause-value c = c.remove-number.ensures.value ∙ sym (got c.self.inside.folders.children c.self.inside.folders.standings c.self.inside.folders.full_below c.self.invariant.0 c.args.path.now c.self.inside.numbers c.self.invariant.1 (Some c.in-Some.folder) (sym c.in-Some.ensures)) ∙ ap (λ m. maps.get m c.args.path.now) c.self.view_is

pub returns-in-Some-clause-rest : goal.returns-in-Some-clause-rest
returns-in-Some-clause-rest c =
    (c.prune.ensures.keeps c.remove-number.new.self (subst (λ n. AreThere c.self.inside.folders.standings n) (sym c.remove-number.ensures.rest) (taken_there c.self.inside.folders.children c.self.inside.folders.standings c.self.inside.folders.full_below c.self.invariant.0 c.args.path.now c.self.inside.numbers c.self.invariant.1 c.in-Some.folder (sym c.in-Some.ensures))) (ap (λ n. maps.get n c.in-Some.folder) c.remove-number.ensures.rest ∙ get-removed nat_cmp_total maps.nat_cmp-IsAntisymmetric (λ x. 0) c.self.inside.numbers c.in-Some.folder)).1
    ∙ ap (named c.self.inside.folders.standings) c.remove-number.ensures.rest
    ∙ taken_named c.self.inside.folders.children c.self.inside.folders.standings c.self.inside.folders.full_below c.self.invariant.0 c.args.path.now c.self.inside.numbers c.self.invariant.1 c.in-Some.folder (sym c.in-Some.ensures)
    ∙ ap (λ m. maps.remove m c.args.path.now) c.self.view_is
