-- The frames of handlers: what a handler's process goes on with, and what it has while it runs.
-- signal(7), "Execution of signal handlers" and "Interruption of system calls"; sigaction(2), "sa_flags"; sigreturn(2).
-- The layout of a frame is this kernel's own.
use Rattle.std.specs.Prelude.{ℕ, ◌+◌, ◌-◌, ◌*◌, ◌/◌, ◌%◌, ◌^◌, ◌==◌, Bool, List, [], ◌∷◌, ◌++◌, drop, map, get_or, set, bit_or, Option, Some, None, if◌then◌else◌}
use Rattle.std.specs.List.{range_with_len}
use Rattle.rv_mem.specs.Memory.{Memory, first_fault, bytes_at, written}
use Rattle.rv_mem.specs.declared.rights.Access.TheVariants as access
use Rattle.rv_mem.specs.declared.fault.MemFault.{MemFault}
use Rattle.rv_hart.specs.declared.hart.Hart.{Hart}
use Rattle.lx_abi.specs.declared.signal.Signal.{Signal}
use Rattle.lx_abi.specs.Errnos.{eintr}
use Rattle.lx_abi.specs.Errors.{error_word}
use Rattle.lx_sig.specs.Doublewords.{doublewords, word_of}
use Rattle.lx_sig.specs.Sets.{cleaned, with_bit}
use Rattle.lx_sig.specs.Pending.{Action, Signals}
pub use Rattle.lx_sig.specs.declared.state.Interrupted.{Interrupted}

-- Flags of an action.

-- the bit of 2 to the power k
abbrev pub has_bit : ℕ → ℕ → Bool
has_bit flags k = (flags / 2 ^ k) % 2 == 1

-- SA_RESTART, 0x10000000
abbrev pub restarts : Action → Bool
restarts a = has_bit a.flags 28

-- SA_NODEFER, 0x40000000
abbrev pub defers_nothing : Action → Bool
defers_nothing a = has_bit a.flags 30

-- The frame.

-- the bytes of a frame: 34 doublewords
abbrev pub frame_size : ℕ
frame_size = 272

-- a frame lies below sp, at a multiple of 16; the address wraps at 64 bits
abbrev pub frame_address : ℕ → ℕ
frame_address sp = (sp + (2 ^ 64 - frame_size)) % 2 ^ 64 / 16 * 16

-- pc, x1 to x31, the mask, the signal
abbrev pub frame_words : Hart → ℕ → ℕ → List ℕ
frame_words h mask n = h.pc ∷ drop 1 h.registers ++ mask ∷ n ∷ []

abbrev pub frame : Hart → ℕ → ℕ → List ℕ
frame h mask n = doublewords (frame_words h mask n)

-- Pushed.

abbrev pub with_pc_and_a0 : Hart → ℕ → ℕ → Hart
with_pc_and_a0 h pc a0 = record { pc = pc; registers = set h.registers 10 a0 }

-- what the process goes on with: an interrupted call is made again, or has failed (signal(7), "Interruption of
-- system calls")
abbrev pub resumed : Hart → Option Interrupted → Action → Hart
resumed h None a = h
resumed h (Some at) a = if restarts a then with_pc_and_a0 h at.pc at.a0 else with_pc_and_a0 h h.pc (error_word eintr)

-- the page that calls rt_sigreturn
abbrev pub return_page : ℕ
return_page = 0x3FFFFFF000

-- ra, sp, a0, a1 and a2 of a handler
abbrev pub handler_registers : List ℕ → ℕ → ℕ → List ℕ
handler_registers r address n = set (set (set (set (set r 1 return_page) 2 address) 10 n) 11 0) 12 0

abbrev pub sp_of : Hart → ℕ
sp_of h = get_or h.registers 2 0

abbrev pub handling : Hart → Signal → Action → Hart
handling h s a = record { pc = a.handler; registers = handler_registers h.registers (frame_address (sp_of h)) s.number }

-- while a handler runs its action's mask is blocked too, and the signal itself without SA_NODEFER
abbrev pub handler_mask : ℕ → Signal → Action → ℕ
handler_mask mask s a = if defers_nothing a then bit_or mask a.mask else with_bit (bit_or mask a.mask) s.number

abbrev pub blocking : Signals → Signal → Action → Signals
blocking signals s a = record signals { mask = handler_mask signals.mask s a }

abbrev pub with_frame : Memory → Hart → Option Interrupted → Signals → Signal → Action → Memory
with_frame m h i signals s a = written m (frame_address (sp_of h)) (frame (resumed h i a) signals.mask s.number)

-- why a frame can't be written, if it can't
abbrev pub frame_fault : Memory → Hart → Option MemFault
frame_fault m h = first_fault access.Write m (frame_address (sp_of h)) frame_size

-- Popped.

-- the registers of a frame; the place of x0 has no meaning
abbrev pub popped_registers : List ℕ → List ℕ
popped_registers bytes = 0 ∷ map (word_of bytes) (range_with_len 1 31)

abbrev pub popped_hart : List ℕ → Hart
popped_hart bytes = record { pc = word_of bytes 0; registers = popped_registers bytes }

-- why a frame can't be read, if it can't
abbrev pub return_fault : Memory → Hart → Option MemFault
return_fault m h = first_fault access.Read m (sp_of h) frame_size

abbrev pub frame_at : Memory → Hart → List ℕ
frame_at m h = bytes_at m (sp_of h) frame_size

-- SIGKILL and what is no signal can't be blocked by a frame either
abbrev pub popped_mask : Signals → List ℕ → Signals
popped_mask signals bytes = record signals { mask = cleaned (word_of bytes 32) }
