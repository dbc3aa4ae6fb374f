use Rattle.std.proofs.Common.{ap, ◌∙◌}
use Rattle.std.specs.Option.{option_copied}
use Rattle.std.specs.Str.{bytes_eq}
use Rattle.std.proofs.lemmas.Map.Text.{btree_map_updates_str}
use Rattle.sweep_rows.proofs.Indexing.{copied-cond}
use Rattle.sweep_rows.proofs.index.put.Goals as goal

pub returns : goal.returns
returns c = λ p.
    let updates = c.in_ok-insert.ensures.updates in
    ap option_copied (btree_map_updates_str c.args.path.now c.args.contents.now c.insert.new.self _ updates p)
    ∙ copied-cond (bytes_eq c.args.path.now p) c.args.content _
