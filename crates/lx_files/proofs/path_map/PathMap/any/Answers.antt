use Rattle.std.proofs.Common.{ap, sym, ◌∙◌, rules}
use Rattle.std.specs.FinMap as maps
use Rattle.lx_files.proofs.Texts.{first_found, none_found}
use Rattle.lx_files.proofs.path_map.PathMap.any.Goals as goal

pub returns-in-None : goal.returns-in-None
returns-in-None c = λ path. ap (λ m. maps.get m path) (sym c.self.view_is) ∙ none_found (λ k. k.items) c.self.inside.tree.entries path (search rules)

pub returns-in-Some : goal.returns-in-Some
returns-in-Some c = (c.in-Some._path.now.items, ap (λ m. maps.get m c.in-Some._path.now.items) (sym c.self.view_is) ∙ first_found (λ k. k.items) c.self.inside.tree.entries c.in-Some._path.now c.in-Some.number.now c.in-Some.ensures.first)
