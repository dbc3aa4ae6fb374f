use Rattle.std.proofs.Common.{not, refl, ap, ◌∙◌, arith}
use Rattle.elf_image.proofs.Pages.{own_ends, bit, byte_is_bit}
use Rattle.elf_image.proofs.layout.pages_alone.Goals as goal

pub returns-clause-value : goal.returns-clause-value
returns-clause-value c =
    let e = own_ends c.args.extent c.args.others.now _ _ refl refl (omega arith) c.requires.apart in
    let first = c.from-at_first.ensures ∙ byte_is_bit _ ∙ ap (λ b. bit (not b)) c.touch.ensures in
    let last = c.from-at_last.ensures ∙ byte_is_bit _ ∙ ap (λ b. bit (not b)) c.touch-2.ensures in
    rw (first, last) e
