use Rattle.std.proofs.Common.{◌∙◌, ap}
use Rattle.host_link.specs.Kinds.{is_answer}
use Rattle.host_link.proofs.Agreement.{kinds_agree}
use Rattle.host_link.proofs.fits.answers.Goals as goal

pub returns : goal.returns
returns c = c.is_answer.ensures ∙ ap (is_answer c.args.request.now) c.kind_of.ensures ∙ kinds_agree c.args.request.now c.args.reply.now
