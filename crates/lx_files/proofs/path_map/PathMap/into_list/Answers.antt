use Rattle.std.proofs.Common.{◌≡◌, IfOk, map, subst, sym, ap, ◌∙◌}
use Rattle.std.specs.List.{filter}
use Rattle.std.specs.FinMap as maps
use Rattle.lx_files.specs.Listing.{is_named, file_of}
use Rattle.lx_files.proofs.Texts.{entries-texts}
use Rattle.lx_files.proofs.path_map.PathMap.into_list.Goals as goal

pub returns : goal.returns
returns c = subst (λ es. IfOk c.list_files.result (λ l. l ≡ map (file_of c.args.nodes.now) (filter is_named es)))
    (sym (entries-texts (λ k. k.items) _ c.len.ensures.ordered) ∙ ap maps.entries c.self.view_is) c.list_files.ensures
