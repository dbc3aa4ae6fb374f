use Rattle.std.proofs.Common.{ap, sym, ◌∙◌, inl, inr}
use Rattle.lx_proc.specs.declared.texts.Text.TheVariants as answer
use Rattle.lx_proc.specs.Read.{text_of}
use Rattle.lx_proc.proofs.Looking.{reads_within}
use Rattle.lx_proc.proofs.texts.text_within.Goals as goal

pub returns-in-Whole-clause-text : goal.returns-in-Whole-clause-text
returns-in-Whole-clause-text c =
    reads_within (answer.Whole c.in-Whole.text) c.args.memory.now c.args.room c.args.address c.requires (ap text_of (sym c.in-Whole.is) ∙ c.in_ok-text.ensures.text)

pub returns-in-TooLong-clause-text : goal.returns-in-TooLong-clause-text
returns-in-TooLong-clause-text c =
    elim c.in-TooLong.is [
      | inl e ↦ reads_within answer.TooLong c.args.memory.now c.args.room c.args.address c.requires (ap text_of (sym e) ∙ c.in_ok-text.ensures.text)
      | inr e ↦ reads_within answer.Unreadable c.args.memory.now c.args.room c.args.address c.requires (ap text_of (sym e) ∙ c.in_ok-text.ensures.text)
    ]
