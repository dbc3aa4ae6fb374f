use Rattle.std.proofs.Common.{ap, sym, ◌∙◌}
use Rattle.std.specs.FinMap as maps
use Rattle.lx_files.proofs.Texts.{get-texts}
use Rattle.lx_files.proofs.path_map.PathMap.get.Goals as goal

pub returns-in-Some : goal.returns-in-Some
returns-in-Some c = c.in-Some.ensures.value ∙ sym (get-texts (λ k. k.items) c.args.path.now _) ∙ ap (λ m. maps.get m c.args.path.now) c.self.view_is

pub returns-in-None : goal.returns-in-None
returns-in-None c = c.in-None.ensures.value ∙ sym (get-texts (λ k. k.items) c.args.path.now _) ∙ ap (λ m. maps.get m c.args.path.now) c.self.view_is
