use Rattle.std.proofs.Common.{◌∙◌}
use Rattle.lx_files.proofs.Naming.{led-top}
use Rattle.lx_files.proofs.Walking.{led_over}
use Rattle.lx_files.proofs.reaching.go_up.Goals as goal

pub returns-then-over : goal.returns-then-over
returns-then-over c = λ path led up. c.walk.ensures ∙ led-top c.args.folders.now.children c.args.above.now

pub returns : goal.returns
returns c = λ path led up. led_over c.args.folders.now.children c.args.folders.now.standings c.args.folders.now.full_below c.requires c.args.folder path c.args.above.now c.above_of-over.result led c.above_of-over.ensures c.if-over.false up
