use Rattle.rv_asm.proofs.Sizes.{words_spell}
use Rattle.rv_asm.proofs.code.words_spell_instructions.Goals as goal

pub returns : goal.returns
returns c = words_spell
