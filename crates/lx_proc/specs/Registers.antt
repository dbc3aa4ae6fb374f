-- Registers of a process at its calls.
use Rattle.std.specs.Prelude.{ℕ, zero, suc, List, [], ◌∷◌, drop, get_or, set, None}
use Rattle.lx_model.specs.Machine.{Regs, returned}
use Rattle.lx_proc.specs.State.{UserState, Interrupted}

-- exactly n numbers, zeros for those that are missing: what makes registers of a list of any length
abbrev pub padded : ℕ → List ℕ → List ℕ
padded zero r = []
padded (suc n) [] = 0 ∷ padded n []
padded (suc n) (x ∷ r) = x ∷ padded n r

abbrev pub regs : UserState → Regs
regs b = padded 32 (b.hart.pc ∷ drop 1 b.hart.registers)

-- the place of x0 has no meaning
abbrev pub with_regs : UserState → Regs → UserState
with_regs b r = record b { hart = record { pc = get_or r 0 0; registers = get_or b.hart.registers 0 0 ∷ drop 1 r } }

-- the pc passes the ecall, and the result stands in a0
abbrev pub with_returned : UserState → ℕ → UserState
with_returned b x = with_regs b (returned (regs b) x)

-- the interrupted call is made again: pc and a0 are as at its ecall (signal(7), "Interruption of system calls")
abbrev pub made_again : UserState → Interrupted → UserState
made_again b at =
    record b { hart = record { pc = at.pc; registers = set b.hart.registers 10 at.a0 }; interrupted = None }
