use Rattle.std.proofs.Common.{ℕ, List, ◌∙◌, ap, length, set, sym}
use Rattle.lx_proc.proofs.Padding.{first_set}
use Rattle.lx_proc.proofs.registers.registers_of.Goals as goal

pub returns : goal.returns
returns c =
    let copied = c.in_ok-registers.ensures in
    let pc = c.args.user.now.hart.pc in
    c.set.ensures.set
    ∙ ap (λ (r : List ℕ). set r 0 pc) copied
    ∙ first_set 31 c.args.user.now.hart.registers pc (ap length (sym copied) ∙ c.set.ensures.length)
