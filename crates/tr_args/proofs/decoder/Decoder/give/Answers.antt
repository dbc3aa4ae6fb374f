use Rattle.std.proofs.Common.{◌≡◌, ◌∙◌, [], ◌∷◌, ◌++◌, sym, ap, rules, string_bytes, arith}
use Rattle.std.specs.Prelude.{IsSome}
use Rattle.tr_args.proofs.Making.{kept_whole, kept_anew, popped}
use Rattle.tr_args.proofs.decoder.Decoder.give.Goals as goal

pub invariant_of-self-in-None : goal.invariant_of-self-in-None
invariant_of-self-in-None c =
    let e : c.push.new.self.items ≡ c.self.inside.read.items ++ c.args.bytes ∷ [] = search rules in
    kept_whole c.self.inside.context c.self.inside.read.items c.push.new.self.items c.args.bytes c.self.inside.wish c.self.inside.made e c.in-None.is c.self.invariant

pub invariant_of-self-in-Err : goal.invariant_of-self-in-Err
invariant_of-self-in-Err c =
    let made = c.replace-made.new.dest in
    let pushed : c.push.new.self.items ≡ c.self.inside.read.items ++ c.args.bytes ∷ [] = search rules in
    let some : IsSome c.pop.result = grind (arith, c.in_ok-push.ensures.len, c.pop.ensures.variant) in
    let e = popped c.pop.result c.self.inside.read.items c.pop.new.self.items c.args.bytes (sym pushed ∙ c.pop.ensures.items) some in
    let is : made ≡ c.new.result = c.replace-made.ensures.after in
    kept_anew c.self.inside.context c.self.inside.read.items c.pop.new.self.items c.in-Some.field-0 c.self.inside.wish c.self.inside.made made e c.in-Some.is
    (ap (λ m. string_bytes m.text) is ∙ c.new.ensures.text) (ap (λ m. m.used) is ∙ c.new.ensures.used) (ap (λ m. m.stage) is ∙ c.new.ensures.stage) c.self.invariant
