-- Linux is a machine.
use Rattle.std.proofs.Common.{◌≡◌, ℕ, [], ◌∷◌, length, drop, refl}
use Rattle.lx_abi.specs.declared.log.Call.{Call}
use Rattle.lx_abi.specs.Errnos.{enosys}
use Rattle.lx_model.specs.Machine.{Regs, IsMachine, Refused, no_call}
use Rattle.lx_proc.specs.declared.state.Shared.{Shared}
use Rattle.lx_proc.specs.declared.state.UserState.{UserState}
use Rattle.lx_fcalls.specs.Calls.{file_call}
use Rattle.lx_pcalls.specs.Calls.{process_call}
use Rattle.lx_proc.specs.Registers.{regs, with_regs}
use Rattle.lx_turn.specs.Linux.{linux}
use Rattle.lx_turn.specs.Calls.{does}
use Rattle.lx_proc.proofs.Padding.{length-padded, padded_same}

reads_back : (b : UserState) (r : Regs) → length r ≡ 32 → regs (with_regs b r) ≡ r
reads_back b [] h = absurd (cc h)
reads_back b (x ∷ r) h = padded_same 32 (x ∷ r) h

no_such : (s : Shared) (child p : ℕ) (c : Call) (b : UserState) → c.number ≡ no_call → does s child p c b ≡ Refused enosys
unfolding does file_call process_call
no_such s child p c b h = rw h refl

pub linux_laws : IsMachine linux
linux_laws = record {
  size = λ b. length-padded 32 (b.hart.pc ∷ drop 1 b.hart.registers);
  reads_back = reads_back;
  overwrites = λ b r t h k. refl;
  no_such = no_such;
}
