use Rattle.std.proofs.Common.{◌≡◌, ◌-◌, length}
use Rattle.rv_asm.specs.Lines.{peeled}
use Rattle.rv_syntax.specs.Text.{texts}
use Rattle.rv_asm.proofs.LabelSteps.{behind}
use Rattle.rv_asm.proofs.line.split_labels.Given as goal

abbrev pub invariant-loop : goal.invariant-loop
invariant-loop l = behind (texts l.labels.items) (peeled (length l.line - l.counter) l.body) ≡ peeled (length l.line) l.line
