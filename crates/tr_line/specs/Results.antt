-- The result of a call, as strace(1) shows it.
use Rattle.std.specs.Prelude.{ℕ, ◌-◌, ◌%◌, ◌^◌, ◌==◌, ◌&&◌, not, Bool, Option, Some, None}
use Rattle.std.specs.Prelude.{List, [], ◌++◌, codes, decimal, if◌then◌else◌}
use Rattle.lx_abi.specs.declared.errno.Errno.{Errno}
use Rattle.lx_abi.specs.Calls.{has_effects}
use Rattle.lx_abi.specs.Effects.{hex}
use Rattle.lx_abi.specs.Errors.{errno_name, errno_text, errno_numbered}
use Rattle.tr_values.specs.Numbers.{hex_text, signed_text}

-- an error by name and text, or by number
abbrev pub error_text : ℕ → Option (List ℕ) → Option (List ℕ) → List ℕ
error_text e (Some name) (Some text) = codes "-1 " ++ (name ++ (codes " (" ++ (text ++ codes ")")))
error_text e _ _ = codes "-1 (errno " ++ (decimal e ++ codes ")")

unfoldable pub errno_shown : ℕ → List ℕ
errno_shown e = error_text e (errno_name e) (errno_text e)

abbrev pub value_text : ℕ → ℕ → List ℕ
value_text number x = if has_effects number hex then hex_text x else signed_text 64 x

-- an interrupted call has the result -512
abbrev pub is_restart : ℕ → Bool → Bool
is_restart x replaced = (x == 2 ^ 64 - 512) && not replaced

abbrev pub error_or_value : ℕ → ℕ → Option Errno → List ℕ
error_or_value number x (Some errno) = errno_shown errno.number
error_or_value number x None = value_text number x

unfoldable pub plain_result : ℕ → ℕ → Bool → List ℕ
plain_result number x replaced =
    if is_restart x replaced then codes "? ERESTARTSYS (To be restarted if SA_RESTART is set)"
    else error_or_value number x (errno_numbered ((2 ^ 64 - x) % 2 ^ 64))

unfoldable pub result_text : ℕ → ℕ → Bool → List ℕ
result_text number x replaced = plain_result number x replaced ++ (if replaced then codes " (INJECTED)" else [])
