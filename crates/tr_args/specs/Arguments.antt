-- The arguments of a half of a call as strace(1) shows them: of its entry, and of what follows once it has a result.
use Rattle.std.specs.Prelude.{ℕ, ◌+◌, ◌-◌, ◌&&◌, Bool, true, false, Option, Some, None, List, [], ◌∷◌, ◌++◌}
use Rattle.std.specs.Prelude.{length, get_or, codes, if◌then◌else◌}
use Rattle.lx_abi.specs.declared.calls.Argument.{Argument}
use Rattle.lx_abi.specs.declared.calls.Argument.TheVariants as kind
use Rattle.lx_abi.specs.Calls.{call_format}
use Rattle.tr_values.specs.Sheets.{Sheet, Shown, Has, Wants, put, ◌>>=◌}
use Rattle.tr_values.specs.Calls.{name_text}
use Rattle.tr_args.specs.Kinds.{next_argument}
use Rattle.tr_args.specs.declared.context.ArgumentPlace.{ArgumentPlace}
use Rattle.tr_args.specs.declared.context.Context.{Context}

-- the place of an argument by its number
abbrev pub place : Context → ℕ → ArgumentPlace
place c i = record {
  before = get_or c.arguments (i - 1) 0;
  value = get_or c.arguments i 0;
  next = get_or c.arguments (i + 1) 0;
  most = c.most;
  sp = c.sp;
  result = c.result;
}

-- arguments from this number on
unfoldable pub arguments : Context → Bool → ℕ → List Argument → Sheet → Shown
arguments c some i [] s = put [] s
arguments c some i (a ∷ more) s = next_argument some a (place c i) s >>= arguments c true (i + 1) more

abbrev pub six_words : List Argument × List Argument
six_words = (kind.Hex ∷ kind.Hex ∷ kind.Hex ∷ kind.Hex ∷ kind.Hex ∷ kind.Hex ∷ [], [])

-- the arguments of the entry text, and of the rest
abbrev pub format_by : Option (List Argument × List Argument) → List Argument × List Argument
format_by None = six_words
format_by (Some format) = format

abbrev pub format_of : ℕ → List Argument × List Argument
format_of number = format_by (call_format number)

abbrev pub is_some_list : List Argument → Bool
is_some_list [] = false
is_some_list (a ∷ more) = true

-- behind the entry's arguments, where more follow
abbrev pub joint : List Argument × List Argument → List ℕ
joint f = if is_some_list f.0 && is_some_list f.1 then codes ", " else []

unfoldable pub entry : Context → Sheet → Shown
entry c s = do
  s ← put (name_text c.number) s
  s ← put (codes "(") s
  s ← arguments c false 0 (format_of c.number).0 s
  put (joint (format_of c.number)) s

unfoldable pub rest : Context → Sheet → Shown
rest c s = arguments c false (length (format_of c.number).0) (format_of c.number).1 s

-- the text of a call's entry, or once it has a result of what follows
abbrev pub half_by : Option ℕ → Context → Sheet → Shown
half_by None c s = entry c s
half_by (Some result) c s = rest c s

unfoldable pub half : Context → List (List ℕ) → Shown
half c got = half_by c.result c (record { out = []; left = got })

abbrev pub wish_of : Shown → Option (ℕ × ℕ)
wish_of (Has s) = None
wish_of (Wants address length) = Some (address, length)

abbrev pub text_of : Shown → List ℕ
text_of (Has s) = s.out
text_of (Wants address length) = []
