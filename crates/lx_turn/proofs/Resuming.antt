-- What one instruction of a process comes to.
use Rattle.std.proofs.Common.{◌≡◌, ℕ, true, Some, None, refl}
use mathlib.Core.HLevel.{Σ_prop_path}
use Rattle.std.proofs.Math.Bool.{Bool-set}
use Rattle.rv_mem.specs.Memory.{Memory}
use Rattle.rv_hart.specs.declared.hart.Hart.{Hart}
use Rattle.rv_hart.specs.declared.outcome.FaultKind.{FaultKind}
use Rattle.rv_hart.specs.declared.outcome.Step.TheVariants as step
use Rattle.rv_hart.specs.Faults.{signal_number, signal_code}
use Rattle.rv_hart.specs.Steps.{outcome}
use Rattle.rv_hart.specs.Steps as hart
use Rattle.lx_abi.specs.declared.log.Call.{Call}
use Rattle.lx_abi.specs.declared.log.Cause.TheVariants.{Fault}
use Rattle.lx_abi.specs.declared.log.Item.TheVariants as item
use Rattle.lx_abi.specs.declared.signal.Signal.{Signal}
use Rattle.lx_abi.specs.Signals.{is_signal}
use Rattle.lx_model.specs.Machine.{call_of}
use Rattle.lx_model.specs.Turn.{stepped}
use Rattle.lx_model.specs.declared.stage.Stage.TheVariants.{Entered, Faulting}
use Rattle.lx_proc.specs.declared.state.Shared.{Shared}
use Rattle.lx_proc.specs.declared.state.UserState.{UserState}
use Rattle.lx_proc.specs.Registers.{regs}
use Rattle.lx_turn.specs.Linux.{linux}
use Rattle.lx_turn.specs.Reactions.{stepped_by, fault_signal}
use Rattle.lx_turn.specs.Turned.{turned, goes_on}
use Rattle.lx_turn.proofs.Steps.{kept_by}

pub same_signal : (a b : Signal) → a.number ≡ b.number → a ≡ b
same_signal a b e =
    let pairs : ◌≡◌ {A = (n : ℕ) × (is_signal n ≡ true)} (a.number, a.in_range) (b.number, b.in_range) = Σ_prop_path (λ n. Bool-set (is_signal n) true) e in
    λ i. record { number = (pairs i).0; in_range = (pairs i).1 }

module _ (s : Shared) (p : ℕ) (b : UserState) (h : Hart) (m : Memory) where
  abbrev after : UserState
  after = record b { hart = h; memory = m }

  pub stepped_call : (call : Call) → hart.stepped b.hart b.memory ≡ outcome step.Call h m → call ≡ call_of (regs after)
      → turned (stepped linux s p b (stepped_by b)) ≡ goes_on s after (Entered None) (Some (item.Enter p call))
  stepped_call call is called =
      let k : (h ≡ b.hart) × (m ≡ b.memory) = kept_by b.hart b.memory step.Call h m is in
      rw (called, k.0, k.1) (rw is refl)

  pub stepped_fault : (kind : FaultKind) (address code : ℕ) (signal : Signal) → hart.stepped b.hart b.memory ≡ outcome (step.Fault kind address) h m → signal.number ≡ signal_number kind → code ≡ signal_code kind
      → turned (stepped linux s p b (stepped_by b)) ≡ goes_on s after (Faulting signal (Fault code address)) None
  stepped_fault kind address code signal is same coded =
      let k : (h ≡ b.hart) × (m ≡ b.memory) = kept_by b.hart b.memory (step.Fault kind address) h m is in
      rw (coded, same_signal signal (fault_signal kind) same, k.0, k.1) (rw is refl)
