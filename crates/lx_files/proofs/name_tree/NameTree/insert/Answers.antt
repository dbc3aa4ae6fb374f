use Rattle.std.proofs.Common.{Some, ap, sym, subst, ◌∙◌}
use Rattle.std.specs.FinMap as maps
use Rattle.lx_files.specs.Folders.{AreThere, named}
use Rattle.lx_files.proofs.Numbering.{got, put_there, put_named}
use Rattle.lx_files.proofs.Ways.{cached_stay}
use Rattle.lx_files.proofs.name_tree.NameTree.insert.Goals as goal

pub invariant_of-self-2 : goal.invariant_of-self-2
invariant_of-self-2 c = (c.enter_path.ensures.tree, subst (λ n. AreThere c.enter_path.new.folders.standings n) (sym c.in_ok-insert.ensures.ok) (put_there c.enter_path.new.folders.children c.enter_path.new.folders.standings c.enter_path.new.folders.full_below c.enter_path.ensures.tree c.args.path.now c.self.inside.numbers (c.enter_path.ensures.keeps c.self.inside.numbers c.self.invariant.1).0 c.in_ok-folder.folder (c.in_ok-folder.ensures.leads c.args.path.now c.way_to-way.ensures.0) c.args.number), c.make.ensures)

pub invariant_of-self : goal.invariant_of-self
invariant_of-self c = (
  c.enter_path.ensures.tree,
  (c.enter_path.ensures.keeps c.self.inside.numbers c.self.invariant.1).0,
  cached_stay c.self.inside.folders.children c.enter_path.new.folders.children c.enter_path.ensures.stays c.self.inside.cache c.self.invariant.2,
)

pub invariant_of-self-in_err-insert : goal.invariant_of-self-in_err-insert
invariant_of-self-in_err-insert c = (
  c.enter_path.ensures.tree,
  subst (AreThere c.enter_path.new.folders.standings) (sym c.in_err-insert.ensures.err) (c.enter_path.ensures.keeps c.self.inside.numbers c.self.invariant.1).0,
  cached_stay c.self.inside.folders.children c.enter_path.new.folders.children c.enter_path.ensures.stays c.self.inside.cache c.self.invariant.2,
)

pub enter_path-requires-clause-there : goal.enter_path-requires-clause-there
enter_path-requires-clause-there c = c.way_to-way.ensures.1

pub returns-clause-ok : goal.returns-clause-ok
returns-clause-ok c =
    ap (named c.enter_path.new.folders.standings) c.in_ok-insert.ensures.ok
    ∙ put_named c.enter_path.new.folders.children c.enter_path.new.folders.standings c.enter_path.new.folders.full_below c.enter_path.ensures.tree c.args.path.now c.self.inside.numbers (c.enter_path.ensures.keeps c.self.inside.numbers c.self.invariant.1).0 c.in_ok-folder.folder (c.in_ok-folder.ensures.leads c.args.path.now c.way_to-way.ensures.0) c.args.number
    ∙ ap (λ m. maps.insert m c.args.path.now c.args.number) ((c.enter_path.ensures.keeps c.self.inside.numbers c.self.invariant.1).1 ∙ c.self.view_is)

pub returns-clause-was : goal.returns-clause-was
returns-clause-was c =
    c.copied-was.ensures ∙ c.get.ensures
    ∙ sym (got c.enter_path.new.folders.children c.enter_path.new.folders.standings c.enter_path.new.folders.full_below c.enter_path.ensures.tree c.args.path.now c.self.inside.numbers (c.enter_path.ensures.keeps c.self.inside.numbers c.self.invariant.1).0 (Some c.in_ok-folder.folder) (c.in_ok-folder.ensures.leads c.args.path.now c.way_to-way.ensures.0))
    ∙ ap (λ m. maps.get m c.args.path.now) ((c.enter_path.ensures.keeps c.self.inside.numbers c.self.invariant.1).1 ∙ c.self.view_is)

pub make-requires-clause-leads : goal.make-requires-clause-leads
make-requires-clause-leads c = c.in_ok-folder.ensures.leads c.args.path.now c.way_to-way.ensures.0

pub make-requires-clause-cached : goal.make-requires-clause-cached
make-requires-clause-cached c = cached_stay c.self.inside.folders.children c.enter_path.new.folders.children c.enter_path.ensures.stays c.self.inside.cache c.self.invariant.2
