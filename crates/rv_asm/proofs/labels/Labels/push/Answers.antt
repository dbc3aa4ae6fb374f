use Rattle.std.proofs.Common.{◌≡◌, ℕ, List, [], ◌∷◌, ◌++◌, length, map, sym, ap, subst, ◌∙◌, arith}
use Rattle.std.specs.Prelude.{Some, None, if◌then◌else◌}
use Rattle.std.specs.Option.{option_or}
use Rattle.std.proofs.lemmas.List.{map-append, length-map}
use Rattle.rv_asm.specs.Codes.{Location, place_of}
use Rattle.rv_asm.specs.Labels.{number_of, IsIndex}
use Rattle.rv_syntax.specs.Text.{is_text}
use Rattle.rv_asm.proofs.LabelIndex.{IsIndex-push}
use Rattle.rv_asm.proofs.labels.Labels.push.Goals as goal

pub invariant_of-self-2 : goal.invariant_of-self-2
invariant_of-self-2 c =
    let items = c.self.inside.symbols.items in
    let before = c.self.inside.first in
    let after = c.number.new.first in
    let long : c.len.result ≡ length (map place_of items) = omega (arith, c.len.ensures, c.try_reserve.ensures.len, c.self.inside.symbols.ok.0, length-map items place_of) in
    let added = subst (λ (n : ℕ). (w : List ℕ) → number_of (λ k. k.items) after w ≡ option_or (number_of (λ k. k.items) before w) (if is_text c.args.symbol.name.now w then Some n else None)) long c.in_ok-number.ensures.ok in
    let grown : map place_of c.push_reserved.new.self.items ≡ map place_of items ++ place_of c.args.symbol ∷ [] =
    ap (map place_of) (c.push_reserved.ensures.items ∙ ap (λ xs. xs ++ c.args.symbol ∷ []) c.try_reserve.ensures.items) ∙ map-append place_of items (c.args.symbol ∷ []) in
    subst (λ (ps : List Location). IsIndex (λ k. k.items) after ps) (sym grown) (IsIndex-push (λ k. k.items) before after (map place_of items) (place_of c.args.symbol) c.self.invariant added)
