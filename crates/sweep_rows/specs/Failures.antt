-- What a script does by which one occurrence of a call fails (strace(1), Tampering: error and when).
use Rattle.std.specs.Prelude.{◌≡◌, ℕ, pos, neg_ℤ, ◌==◌, ◌&&◌, cond, List, [], ◌∷◌, Some, None}
use Rattle.lx_abi.specs.declared.script.Choice.{Choice}
use Rattle.lx_abi.specs.declared.script.Rule.{Rule}
use Rattle.lx_abi.specs.declared.script.Set.TheVariants.{Only}
use Rattle.lx_abi.specs.Scripts.{no_choice, choice_of}
use Rattle.sweep_rows.specs.declared.failures.Failure.{Failure}

-- the call's result is the error's negative
abbrev pub failed_by : Failure → Choice
failed_by f = record { result = Some (neg_ℤ (pos f.error.number)); signal = None }

-- the script's choice is this result for the nth occurrence of the call, and nothing for any other of any call
abbrev pub FailsAlone : Failure → List Rule → Type 0
FailsAlone f rules =
    (call n : ℕ) → choice_of rules call n ≡ cond ((call == f.call) && (n == f.n)) (failed_by f) no_choice

-- the parts of its rule
pub record IsFor (f : Failure) (rule : Rule) : Type 0 where
  pub calls : rule.calls ≡ Only (f.call ∷ [])
  pub choice : rule.choice ≡ failed_by f
  pub first : rule.when.first ≡ f.n
  pub last : rule.when.last ≡ Some f.n
  pub step : rule.when.step ≡ 1
