use Rattle.tr_core.proofs.Tellings.{whole_texts}
use Rattle.tr_core.proofs.laws.texts_are_whole.Goals as goal

pub returns : goal.returns
returns c = whole_texts c.texts_are_whole.ensures
