-- Calls that block, and signals (signal(7), "Interruption of system calls").
use Rattle.std.specs.Prelude.{ℕ, ◌-◌, ◌^◌, Bool, false, get_or, Option, Some, None, if◌then◌else◌}
use Rattle.std.specs.FinMap as maps
use Rattle.lx_model.specs.Machine.{Refused, Returns, Jumps, Execs, Bears, Blocks, Ends}
use Rattle.lx_sig.specs.Pending.{may_interrupt}
use Rattle.lx_proc.specs.declared.state.Shared.{Shared}
use Rattle.lx_proc.specs.declared.state.Entry.{Entry}
use Rattle.lx_proc.specs.declared.state.UserState.{UserState}
use Rattle.lx_proc.specs.Answers.{Answers}

-- -512, ERESTARTSYS: a result that no guest sees
abbrev pub interrupted_word : ℕ
interrupted_word = 2 ^ 64 - 512

-- where the call was made, so that it can be made again
abbrev pub with_interrupted : UserState → UserState
with_interrupted b = record b { interrupted = Some (record { pc = b.hart.pc; a0 = get_or b.hart.registers 10 0 }) }

-- some signal is pending that is neither blocked nor ignored
abbrev pub is_interrupted : Option Entry → Bool
is_interrupted None = false
is_interrupted (Some e) = may_interrupt e.signals

abbrev pub blocks_or_returns : Shared → UserState → Bool → Answers
blocks_or_returns s b interrupted = if interrupted then Returns s (with_interrupted b) interrupted_word else Blocks

-- a call that would block is interrupted by such a signal; each other answer stays
abbrev pub interruptible : Shared → ℕ → UserState → Answers → Answers
interruptible s p b (Refused error) = Refused error
interruptible s p b (Returns t c x) = Returns t c x
interruptible s p b (Jumps t c) = Jumps t c
interruptible s p b (Execs t c) = Execs t c
interruptible s p b (Bears t c child) = Bears t c child
interruptible s p b Blocks = blocks_or_returns s b (is_interrupted (maps.get s.entries p))
interruptible s p b (Ends w) = Ends w
