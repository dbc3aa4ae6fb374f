use Rattle.std.proofs.Common.{◌∙◌, ◌==◌, ap, option_map, find}
use Rattle.lx_abi.specs.Errors.{errors, errno_text}
use Rattle.lx_abi.proofs.errno.Errno.text.Goals as goal

pub returns : goal.returns
unfolding errno_text
returns c = c.text_in.ensures ∙ ap (λ rows. option_map (λ row. row.2) (find (λ row. row.0 == c.args.self.number) rows)) c.rows.ensures
