-- A step that runs no instruction changes nothing.
use Rattle.std.proofs.Common.{◌≡◌, ℕ, Bool, true, false, cond, Option, Some, None, refl, subst}
use Rattle.std.specs.Prelude.{◌==◌, ◌%◌, ◌/◌, ◌*◌}
use Rattle.rv_isa.specs.Decoding.{instruction}
use Rattle.rv_isa.specs.declared.register.Register.{Register}
use Rattle.rv_isa.specs.declared.operations.LoadKind.{LoadKind}
use Rattle.rv_isa.specs.declared.operations.StoreKind.{StoreKind}
use Rattle.rv_mem.specs.declared.rights.Access.TheVariants as access
use Rattle.rv_hart.specs.Registers.{value, with_pc}
use Rattle.rv_hart.specs.Arithmetic.{sum64, taken}
use Rattle.rv_hart.specs.Transfers.{load_size, store_size}
use Rattle.rv_hart.specs.declared.outcome.FaultKind.TheVariants.{Misaligned}
use Rattle.rv_isa.specs.declared.inst.Inst.{Inst}
use Rattle.rv_isa.specs.declared.inst.Inst.TheVariants as inst
use Rattle.rv_mem.specs.Memory.{Memory, first_fault}
use Rattle.rv_mem.specs.declared.fault.MemFault.{MemFault}
use Rattle.rv_mem.specs.declared.fault.MemFault.TheVariants as refusal
use Rattle.rv_hart.specs.declared.hart.Hart.{Hart}
use Rattle.rv_hart.specs.declared.outcome.Step.{Step}
use Rattle.rv_hart.specs.declared.outcome.Step.TheVariants.{Ran, Call, Fault}
use Rattle.rv_hart.specs.Steps.{Outcome, stepped, outcome, executed, decoded, fetched, refused, jumps, loads, stores, runs, faults, linked, extended, word_at}

-- an outcome of a step from this hart and memory
abbrev pub Keeps : Hart → Memory → Step → Hart → Memory → Type 0
Keeps h m Ran h' m' = Unit {0}
Keeps h m Call h' m' = (h' ≡ h) × (m' ≡ m)
Keeps h m (Fault kind a) h' m' = (h' ≡ h) × (m' ≡ m)

abbrev Kept : Hart → Memory → Outcome → Type 0
Kept h m o = Keeps h m o.step o.hart o.memory

either : (h : Hart) (m : Memory) (b : Bool) (x y : Outcome) → Kept h m x → Kept h m y → Kept h m (cond b x y)
either h m true x y p q = p
either h m false x y p q = q

kept_refused : (h : Hart) (m : Memory) (f : MemFault) → Kept h m (refused h m f)
kept_refused h m (refusal.Unmapped a) = (refl, refl)
kept_refused h m (refusal.Forbidden a) = (refl, refl)
kept_refused h m refusal.TooLarge = tt
kept_refused h m refusal.Memory = tt

kept_jump : (h linked : Hart) (m : Memory) (to : ℕ) → Kept h m (jumps h linked m to)
kept_jump h linked m to = either h m (to % 4 == 0) (outcome Ran (with_pc linked to) m) (faults h m Misaligned to) tt (refl, refl)

kept_load : (h : Hart) (m : Memory) (k : LoadKind) (rd : Register) (a : ℕ) (o : Option MemFault) → Kept h m (loads h m k rd a o)
kept_load h m k rd a None = tt
kept_load h m k rd a (Some f) = kept_refused h m f

kept_store : (h : Hart) (m : Memory) (k : StoreKind) (a n : ℕ) (o : Option MemFault) → Kept h m (stores h m k a n o)
kept_store h m k a n None = tt
kept_store h m k a n (Some f) = kept_refused h m f

kept_executed : (i : Inst) (h : Hart) (m : Memory) → Kept h m (executed i h m)
kept_executed (inst.Lui rd upper) h m = tt
kept_executed (inst.Auipc rd upper) h m = tt
kept_executed (inst.Jal rd offset) h m = kept_jump h (linked h rd) m (sum64 h.pc (extended offset))
kept_executed (inst.Jalr rd rs1 offset) h m = kept_jump h (linked h rd) m (sum64 (value h rs1) (extended offset) / 2 * 2)
kept_executed (inst.Branch c rs1 rs2 offset) h m =
    let to = sum64 h.pc (extended offset) in
    either h m (taken c (value h rs1) (value h rs2)) (jumps h h m to) (runs h m) (kept_jump h h m to) tt
kept_executed (inst.Load k rd rs1 offset) h m =
    let a = sum64 (value h rs1) (extended offset) in
    kept_load h m k rd a (first_fault access.Read m a (load_size k))
kept_executed (inst.Store k rs1 rs2 offset) h m =
    let a = sum64 (value h rs1) (extended offset) in
    kept_store h m k a (value h rs2) (first_fault access.Write m a (store_size k))
kept_executed (inst.Immediate o rd rs1 i) h m = tt
kept_executed (inst.ShiftImmediate s rd rs1 amount) h m = tt
kept_executed (inst.AddImmediateWord rd rs1 i) h m = tt
kept_executed (inst.ShiftImmediateWord s rd rs1 amount) h m = tt
kept_executed (inst.Operation o rd rs1 rs2) h m = tt
kept_executed (inst.WordOperation o rd rs1 rs2) h m = tt
kept_executed (inst.Fence rd rs1 ordering) h m = tt
kept_executed inst.EnvironmentCall h m = (refl, refl)
kept_executed inst.EnvironmentBreak h m = (refl, refl)

kept_decoded : (h : Hart) (m : Memory) (o : Option Inst) → Kept h m (decoded h m o)
kept_decoded h m None = (refl, refl)
kept_decoded h m (Some i) = kept_executed i h m

kept_fetched : (h : Hart) (m : Memory) (o : Option MemFault) → Kept h m (fetched h m o)
kept_fetched h m None = kept_decoded h m (instruction (word_at h m))
kept_fetched h m (Some f) = kept_refused h m f

kept : (h : Hart) (m : Memory) → Kept h m (stepped h m)
unfolding stepped
kept h m = either h m (h.pc % 4 == 0) (fetched h m (first_fault access.Execute m h.pc 4)) (faults h m Misaligned h.pc) (kept_fetched h m (first_fault access.Execute m h.pc 4)) (refl, refl)

-- a step that ended in no instruction left hart and memory
pub kept_by : (h : Hart) (m : Memory) (t : Step) (h' : Hart) (m' : Memory) → stepped h m ≡ outcome t h' m' → Keeps h m t h' m'
kept_by h m t h' m' is = subst (Kept h m) is (kept h m)
