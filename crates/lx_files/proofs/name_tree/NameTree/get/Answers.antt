use Rattle.std.proofs.Common.{Some, None, ap, sym, ◌∙◌}
use Rattle.std.specs.FinMap as maps
use Rattle.lx_files.proofs.Numbering.{got}
use Rattle.lx_files.proofs.name_tree.NameTree.get.Goals as goal

pub returns-in-None : goal.returns-in-None
returns-in-None c = sym (got c.self.inside.folders.children c.self.inside.folders.standings c.self.inside.folders.full_below c.self.invariant.0 c.args.path.now c.self.inside.numbers c.self.invariant.1 None (sym c.in-None.ensures)) ∙ ap (λ m. maps.get m c.args.path.now) c.self.view_is

pub returns-in-Some : goal.returns-in-Some
returns-in-Some c = c.copied.ensures ∙ c.get.ensures ∙ sym (got c.self.inside.folders.children c.self.inside.folders.standings c.self.inside.folders.full_below c.self.invariant.0 c.args.path.now c.self.inside.numbers c.self.invariant.1 (Some c.in-Some.folder) (sym c.in-Some.ensures)) ∙ ap (λ m. maps.get m c.args.path.now) c.self.view_is
