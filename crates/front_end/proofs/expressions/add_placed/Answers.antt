use Rattle.std.proofs.Common.{◌≡◌, ◌++◌, refl, ap, ◌∙◌, map}
use Rattle.std.specs.List.{zip}
use Rattle.front_end.specs.Expressions.{placed_text, spelled}
use Rattle.front_end.specs.Values.{all_of, values_of}
use Rattle.front_end.proofs.Given.{all_given}
use Rattle.front_end.proofs.expressions.add_placed.Goals as goal

pub returns : goal.returns
returns c =
    let before = map placed_text c.args.placed.now.items in
    let f = spelled c.args.start.now in
    let values = ap (λ s. map (λ v. v.now) s.now) c.unwrap_or-values.ensures
    ∙ all_given (λ s. map (λ v. v.now) s.now) c.get_strs.result _ refl ∙ ap all_of c.get_strs.ensures in
    let places = ap (λ s. s.now) c.unwrap_or-places.ensures
    ∙ all_given (λ s. s.now) c.indices_of.result _ refl ∙ ap all_of c.indices_of.ensures in
    c.in_ok-add_all.ensures
    ∙ ap (λ l. before ++ map f (zip l c.unwrap_or-places.result.now)) values
    ∙ ap (λ l. before ++ map f (zip (values_of c.args.matches.now c.args.option.now) l)) places
