use Rattle.std.proofs.Common.{ℕ, List, take, refl, ap, sym, ◌∙◌}
use Rattle.std.specs.Prelude.{is_some}
use Rattle.std.specs.FinMap as maps
use Rattle.lx_files.specs.Folders.{at, names_of}
use Rattle.lx_files.proofs.Numbering.{got}
use Rattle.lx_files.proofs.name_tree.NameTree.known_part.Goals as goal

pub returns-clause-there : goal.returns-clause-there
returns-clause-there c = λ lt.
    let part : List ℕ = take c.known_part.result c.args.path.now in
    ap is_some
    (sym (ap (λ m. maps.get m part) c.self.view_is)
    ∙ got c.self.inside.folders.children c.self.inside.folders.standings c.self.inside.folders.full_below c.self.invariant.0 part c.self.inside.numbers c.self.invariant.1 (at c.self.inside.folders.children (names_of part)) refl)
    ∙ c.known_part.ensures.there lt
