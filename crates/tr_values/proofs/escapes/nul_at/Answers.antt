use Rattle.std.proofs.Common.{rules, tests, ◌==◌, length, refl}
use Rattle.std.proofs.lemmas.Iterator.{YieldsList-from_slice}
use Rattle.std.proofs.lemmas.Iterator.Search.{position_from_yields_List}
use Rattle.tr_values.proofs.Places.{place_or_end}
use Rattle.tr_values.proofs.escapes.nul_at.Goals as goal

pub returns-clause-place : goal.returns-clause-place
returns-clause-place c =
    let found = position_from_yields_List (λ b. b == 0) _ _ c.position.result c.position.ensures.ran (YieldsList-from_slice c.args.bytes.now (cc)) (λ x b q k. search (rules, tests)) in
    place_or_end (λ b. b == 0) c.args.bytes.now c.position.result c.unwrap_or.result (length c.args.bytes.now) found c.unwrap_or.ensures refl
