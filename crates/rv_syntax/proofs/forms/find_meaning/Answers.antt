use Rattle.rv_syntax.specs.Forms.{meaning_of, mnemonics}
use Rattle.rv_syntax.proofs.forms.find_meaning.Goals as goal

pub returns : goal.returns
unfolding meaning_of mnemonics
returns c = c.meaning_in.ensures
