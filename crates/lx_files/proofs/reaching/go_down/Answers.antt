use Rattle.std.proofs.Common.{ap, sym, ◌∙◌}
use Rattle.lx_files.specs.Folders.{led, split}
use Rattle.lx_files.proofs.Naming.{led-none}
use Rattle.lx_files.proofs.reaching.go_down.Goals as goal

pub returns-in-None : goal.returns-in-None
returns-in-None c = sym (led-none c.args.folders.now.children (split c.args.text.now)) ∙ ap (λ o. led c.args.folders.now.children o (split c.args.text.now)) (sym c.in-None.is)
