-- The parts of a tampering expression (strace(1), Tampering).
use Rattle.std.specs.Prelude.{ℕ, ℤ, pos, neg_ℤ, List, [], ◌∷◌, Option, Some, None, Result, Err, Bool, false}
use Rattle.std.specs.Prelude.{if◌then◌else◌, nat_eq, drop, option_map, codes}
use Rattle.std.specs.Option.{ok_or, option_or, option_and_then}
use Rattle.std.specs.Result.{result_ok}
use Rattle.std.specs.Str.{bytes_eq}
use Rattle.std.specs.List.{starts_with}
use Rattle.lx_abi.specs.Errors.{errno_number}
use Rattle.lx_abi.specs.Signals.{signal_numbered, signal_number}
use Rattle.lx_abi.specs.declared.signal.Signal.{Signal as Posix}
use Rattle.tr_expr.specs.Numbers.{number, within}
use Rattle.tr_expr.specs.Texts.{has_mark, before_mark, after_mark}
use Rattle.tr_expr.specs.Whens.{Occurrences, when_value}
use Rattle.tr_expr.specs.Faults.{refusal_of}
use Rattle.tr_expr.specs.declared.rule.InjectParts.{InjectParts}
use Rattle.tr_expr.specs.declared.rule.InjectParts.TheVariants.{Inject, Fault}
use Rattle.tr_expr.specs.declared.fault.ExprFault.{ExprFault}
use Rattle.tr_expr.specs.declared.fault.ExprFault.TheVariants.{UnknownErrno, UnknownSignal, BadNumber, BadWhen}
use Rattle.tr_expr.specs.declared.fault.ExprFault.TheVariants.{UnknownPart}

-- error=, retval=, signal= or when= and a value
pub data Part : Type 0 where
  Error : List ℕ → Part
  Retval : List ℕ → Part
  Signal : List ℕ → Part
  When : List ℕ → Part
  Unknown : Part

-- fault= knows error and when alone
abbrev pub taken : InjectParts → Part → Part
taken Inject part = part
taken Fault (Error value) = Error value
taken Fault (Retval value) = Unknown
taken Fault (Signal value) = Unknown
taken Fault (When value) = When value
taken Fault Unknown = Unknown

abbrev pub keyed : List ℕ → List ℕ → Part
keyed key value =
    if bytes_eq key (codes "error") then Error value
    else (if bytes_eq key (codes "retval") then Retval value
    else (if bytes_eq key (codes "signal") then Signal value
    else (if bytes_eq key (codes "when") then When value else Unknown)))

-- a part is cut at its first =
abbrev pub part_of : InjectParts → List ℕ → Part
part_of form text =
    taken form (if has_mark 61 text then keyed (before_mark 61 text) (after_mark 61 text) else Unknown)

abbrev pub begins_with_digit : List ℕ → Bool
begins_with_digit [] = false
begins_with_digit (b ∷ bs) = within 48 57 b

-- a number from 1 to 4095, or a name
unfoldable pub errno_value : List ℕ → Result ℕ ExprFault
errno_value text =
    if begins_with_digit text then ok_or (number 10 1 4095 text) BadNumber
    else ok_or (errno_number text) UnknownErrno

-- 0 to 2^63 - 1, decimal or behind 0x
unfoldable pub retval_value : List ℕ → Result ℕ ExprFault
retval_value text =
    ok_or
    (if starts_with nat_eq text (codes "0x") then number 16 0 0x7fffffffffffffff (drop 2 text)
    else number 10 0 0x7fffffffffffffff text)
    BadNumber

abbrev pub numbered_signal : Option ℕ → Result Posix ExprFault
numbered_signal None = Err BadNumber
numbered_signal (Some n) = ok_or (signal_numbered n) UnknownSignal

-- with or without SIG
abbrev pub named_signal : List ℕ → Result Posix ExprFault
named_signal text = ok_or (option_and_then signal_numbered (signal_number text)) UnknownSignal

-- a number from 1 to 31, or a name
unfoldable pub signal_value : List ℕ → Result Posix ExprFault
signal_value text =
    if begins_with_digit text then numbered_signal (number 10 1 31 text)
    else named_signal text

abbrev pub occurrences_value : List ℕ → Result Occurrences ExprFault
occurrences_value text = ok_or (when_value text) BadWhen

-- what a part says of the result: an error as its negative, or a value
abbrev pub error_in : Part → Option ℤ
error_in (Error value) = option_map (λ e. neg_ℤ (pos e)) (result_ok (errno_value value))
error_in (Retval value) = None
error_in (Signal value) = None
error_in (When value) = None
error_in Unknown = None

abbrev pub retval_in : Part → Option ℤ
retval_in (Error value) = None
retval_in (Retval value) = option_map (λ v. pos v) (result_ok (retval_value value))
retval_in (Signal value) = None
retval_in (When value) = None
retval_in Unknown = None

abbrev pub signal_in : Part → Option Posix
signal_in (Error value) = None
signal_in (Retval value) = None
signal_in (Signal value) = result_ok (signal_value value)
signal_in (When value) = None
signal_in Unknown = None

abbrev pub when_in : Part → Option Occurrences
when_in (Error value) = None
when_in (Retval value) = None
when_in (Signal value) = None
when_in (When value) = result_ok (occurrences_value value)
when_in Unknown = None

-- the kinds of refusal that a part is a cause of
abbrev pub part_causes : Part → List ExprFault
part_causes (Error value) = refusal_of (errno_value value)
part_causes (Retval value) = refusal_of (retval_value value)
part_causes (Signal value) = refusal_of (signal_value value)
part_causes (When value) = refusal_of (occurrences_value value)
part_causes Unknown = UnknownPart ∷ []

-- what the last part that says so says
abbrev pub last_said : {X : Type 0} → (Part → Option X) → List Part → Option X
last_said says [] = None
last_said says (part ∷ parts) = option_or (last_said says parts) (says part)
