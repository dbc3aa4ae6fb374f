use Rattle.std.proofs.Common.{◌≡◌, ap, sym, ◌∙◌, rules}
use Rattle.std.specs.Prelude.{nat_eq}
use Rattle.std.specs.List.{list_any, starts_with}
use Rattle.std.specs.FinMap as maps
use Rattle.lx_files.proofs.Starting.{none_starts, first_starts}
use Rattle.lx_files.proofs.Texts.{any_key}
use Rattle.lx_files.proofs.path_map.PathMap.any_starts.Goals as goal

pub returns-in-None : goal.returns-in-None
returns-in-None c =
    sym (none_starts (λ k. k.items) c.self.inside.tree c.args.start c.range.result (c.range.ensures.in_range (search rules)) c.in-None.ensures.steps.0)
    ∙ any_key (λ k. k.items) (λ path. starts_with nat_eq path c.args.start.items) _ c.range.ensures.ordered
    ∙ ap (λ m. list_any (λ path. starts_with nat_eq path c.args.start.items) (maps.keys m)) c.self.view_is

pub returns : goal.returns
returns c =
    let begins : c.starts_with.result ≡ starts_with nat_eq c.in-Some.path.now.items c.args.start.items = search rules in
    begins
    ∙ sym (first_starts (λ k. k.items) c.self.inside.tree c.args.start c.range.result (c.range.ensures.in_range (search rules)) c.in-Some.path.now c.in-Some._number.now c.next.new.self c.in-Some.ensures.steps)
    ∙ any_key (λ k. k.items) (λ path. starts_with nat_eq path c.args.start.items) _ c.range.ensures.ordered
    ∙ ap (λ m. list_any (λ path. starts_with nat_eq path c.args.start.items) (maps.keys m)) c.self.view_is
