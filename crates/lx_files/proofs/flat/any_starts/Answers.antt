use Rattle.std.proofs.Common.{◌≡◌, ap, ◌∙◌, rules}
use Rattle.std.proofs.Common.{[], ◌∷◌, ◌++◌}
use Rattle.std.specs.Prelude.{nat_eq}
use Rattle.std.specs.List.{list_any, starts_with}
use Rattle.std.specs.FinMap as maps
use Rattle.lx_files.specs.Paths.{is_under}
use Rattle.lx_files.proofs.flat.any_starts.Goals as goal

pub returns : goal.returns
returns c =
    let same : c.in_ok-start.start.items ≡ c.args.path.now = search rules in
    let items : c.push.new.self.items ≡ c.args.path.now ++ 47 ∷ [] = c.in_ok-push.ensures.items ∙ ap (λ l. l ++ 47 ∷ []) same in
    c.any_starts.ensures
    ∙ ap (λ s. list_any (λ path. starts_with nat_eq path s) (maps.keys c.in_ok-flat.flat)) items
    ∙ ap (λ m. list_any (is_under c.args.path.now) (maps.keys m)) c.in_ok-flat.ensures
