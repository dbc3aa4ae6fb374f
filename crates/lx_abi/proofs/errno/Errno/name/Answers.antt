use Rattle.std.proofs.Common.{◌∙◌, ◌==◌, ap, option_map, find}
use Rattle.lx_abi.specs.Errors.{errors, errno_name}
use Rattle.lx_abi.proofs.errno.Errno.name.Goals as goal

pub returns : goal.returns
unfolding errno_name
returns c = c.name_in.ensures ∙ ap (λ rows. option_map (λ row. row.1) (find (λ row. row.0 == c.args.self.number) rows)) c.rows.ensures
