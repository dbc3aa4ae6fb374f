use Rattle.std.proofs.Common.{List, sym, ap, ◌∙◌, arith}
use Rattle.rv_asm.specs.Codes.{Location, place_of, place_named}
use Rattle.rv_asm.proofs.LabelIndex.{number_within, place_at}
use Rattle.rv_asm.proofs.labels.Labels.find.Goals as goal

pub index-requires : goal.index-requires
index-requires c =
    let within = number_within place_of c.self.inside.symbols.items _ (c.self.invariant.within c.args.name.now c.in-Some.number.now (sym c.in-Some.ensures.value)) in
    omega (arith, within, c.self.inside.symbols.ok.0)

pub returns-in-Some : goal.returns-in-Some
returns-in-Some c =
    let within = number_within place_of c.self.inside.symbols.items _ (c.self.invariant.within c.args.name.now c.in-Some.number.now (sym c.in-Some.ensures.value)) in
    place_at place_of (λ k. k.items) c.self.inside.first c.self.inside.symbols.items c.in-Some.number.now c.index.result.now c.args.name.now c.self.invariant (sym c.in-Some.ensures.value) within c.index.ensures
    ∙ ap (λ (ps : List Location). place_named ps c.args.name.now) c.self.view_is
