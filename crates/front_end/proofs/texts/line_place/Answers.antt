use Rattle.front_end.proofs.Refusing.{kept_so}
use Rattle.front_end.proofs.texts.line_place.Goals as goal

pub returns : goal.returns
returns g c = kept_so _ _ c.numbered.result (λ text is. (c.as_str.result.now, is)) c.numbered.ensures
