use Rattle.std.proofs.Common.{rules, tests}
use Rattle.std.proofs.lemmas.Iterator.{YieldsList-from_slice}
use Rattle.std.proofs.lemmas.Iterator.Search.{position_from_yields_List}
use Rattle.lx_boot.specs.Paths.{is_under}
use Rattle.lx_boot.proofs.culprits.file_above.Goals as goal

pub returns : goal.returns
returns c =
    position_from_yields_List (λ f. is_under c.args.path.now f.path) _ _ c.position.result c.position.ensures.ran
    (YieldsList-from_slice c.args.files.now (cc)) (λ x b q k. search (rules, tests))
