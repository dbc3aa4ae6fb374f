-- Tampering expressions (strace(1), Tampering): a set and parts, joined by colons.
use Rattle.std.specs.Prelude.{◌≡◌, ◌⊎◌, ℕ, ℤ, pos, neg_ℤ, List, [], ◌++◌, Option, Some, None, ◌&&◌, if◌then◌else◌}
use Rattle.std.specs.Prelude.{map, is_some, is_none, unwrap_or}
use Rattle.std.specs.Option.{option_or}
use Rattle.std.specs.List.{flat_map}
use Rattle.lx_abi.specs.Scripts.{includes}
use Rattle.lx_abi.specs.declared.script.Rule.{Rule}
use Rattle.lx_abi.specs.declared.signal.Signal.{Signal}
use Rattle.tr_expr.specs.Texts.{has_mark, before_mark, after_mark}
use Rattle.tr_expr.specs.Sets as sets
use Rattle.tr_expr.specs.Sets.{AreRead, items, names, pieces}
use Rattle.tr_expr.specs.Items.{Reading}
use Rattle.tr_expr.specs.Parts.{Part, part_of, part_causes, error_in, retval_in, signal_in, when_in, last_said}
use Rattle.tr_expr.specs.Whens.{Occurrences, every, view}
use Rattle.tr_expr.specs.Faults.{where_true, IsFirst}
use Rattle.tr_expr.specs.declared.rule.InjectParts.{InjectParts}
use Rattle.tr_expr.specs.declared.rule.InjectParts.TheVariants.{Inject, Fault}
use Rattle.tr_expr.specs.declared.fault.ExprFault.{ExprFault}
use Rattle.tr_expr.specs.declared.fault.ExprFault.TheVariants.{BothResults, NothingToDo, Memory}

-- what stands before the first colon, and the parts after it
abbrev pub set_text : List ℕ → List ℕ
set_text text = if has_mark 58 text then before_mark 58 text else text

abbrev pub parts : InjectParts → List ℕ → List Part
parts form text = if has_mark 58 text then map (part_of form) (pieces 58 (after_mark 58 text)) else []

-- the result where no part says one: fault= fails with ENOSYS, 38
abbrev pub usual_result : InjectParts → Option ℤ
usual_result Inject = None
usual_result Fault = Some (neg_ℤ (pos 38))

-- the result of an error, of a value, or the usual one
abbrev pub result_by : InjectParts → Option ℤ → Option ℤ → Option ℤ
result_by form error retval = option_or (option_or error retval) (usual_result form)

-- the kinds of refusal that the parts together are a cause of: an error beside a value, or nothing to do
abbrev pub whole_causes : InjectParts → Option ℤ → Option ℤ → Option Signal → List ExprFault
whole_causes form error retval signal =
    where_true (is_some error && is_some retval) BothResults
    ++ where_true (is_none (result_by form error retval) && is_none signal) NothingToDo

abbrev pub all_causes : InjectParts → List Reading → List Part → List ExprFault
all_causes form rs ps =
    sets.causes rs
    ++ (flat_map part_causes ps
    ++ whole_causes form (last_said error_in ps) (last_said retval_in ps) (last_said signal_in ps))

-- the kinds of refusal that the expression is a cause of, where the items of its set are read so
unfoldable pub causes : InjectParts → List ℕ → List Reading → List ExprFault
causes form text rs = all_causes form rs (parts form text)

-- what replaces the call's result
abbrev pub result_of : InjectParts → List ℕ → Option ℤ
result_of form text =
    result_by form (last_said error_in (parts form text)) (last_said retval_in (parts form text))

abbrev pub signal_of : InjectParts → List ℕ → Option Signal
signal_of form text = last_said signal_in (parts form text)

-- every occurrence, where no part says which
abbrev pub occurrences : InjectParts → List ℕ → Occurrences
occurrences form text = unwrap_or (last_said when_in (parts form text)) every

-- the text has no cause of refusal, and the rule is what it says
pub record SaysRule (form : InjectParts) (text : List ℕ) (rule : Rule) : Type 0 where
  pub readings : List Reading
  pub are_read : AreRead (items (set_text text)) readings
  pub sound : causes form text readings ≡ []
  pub calls : (n : ℕ) → includes rule.calls n ≡ names (set_text text) readings n
  pub result : rule.choice.result ≡ result_of form text
  pub signal : rule.choice.signal ≡ signal_of form text
  pub when : view rule.when ≡ occurrences form text

-- want of memory, or the cause in the text that is found first
unfoldable pub RefusesRule : InjectParts → List ℕ → ExprFault → Type 0
RefusesRule form text e =
    (e ≡ Memory)
    ⊎ ((rs : List Reading) × (AreRead (items (set_text text)) rs × IsFirst (causes form text rs) e))
