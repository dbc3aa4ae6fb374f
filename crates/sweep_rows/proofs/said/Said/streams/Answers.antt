use Rattle.std.proofs.Common.{◌∙◌}
use Rattle.sweep_rows.proofs.Saying.{says_streams}
use Rattle.sweep_rows.proofs.said.Said.streams.Goals as goal

pub returns : goal.returns
returns c = λ log says. c.in_ok-streams.ensures ∙ says_streams c.args.self.now.pieces.items log c.args.console.now says
