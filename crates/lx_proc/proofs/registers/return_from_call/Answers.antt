use Rattle.std.proofs.Common.{◌%◌, ◌+◌, ◌∙◌}
use Rattle.lx_proc.proofs.Padding.{set_in_rest}
use Rattle.lx_proc.proofs.registers.return_from_call.Goals as goal

pub returns : goal.returns
returns c =
    let b = c.args.user.now in
    let is = c.set_a0.ensures.a0 ∙ set_in_rest 31 b.hart.registers 9 c.args.value c.set_a0.ensures.length in
    λ i. record { hart = record { pc = (b.hart.pc + 4) % 18446744073709551616; registers = is i }; memory = b.memory; heap = b.heap; interrupted = b.interrupted }
