-- Strings in double quotes. \n \t \r \0 \\ \" stand for one byte, and so does \x with two hexadecimal digits.
use Rattle.std.specs.Prelude.{ℕ, ◌*◌, List, [], ◌∷◌, Option, Some, None, option_map, option_and_then, nat_lt, bit_or, ◌==◌, if◌then◌else◌}
use Rattle.rv_syntax.specs.Numbers.{digit}
use Rattle.rv_syntax.specs.Text.{after_mark}
use Rattle.rv_syntax.specs.declared.strings.StringReader.{StringReader}
use Rattle.rv_syntax.specs.declared.strings.StringReader.TheVariants.{Plain, Escaped, High, Low}
use Rattle.rv_syntax.specs.declared.strings.Step.{Step}
use Rattle.rv_syntax.specs.declared.strings.Step.TheVariants.{Close, Refuse, Go, Put}

-- the byte of an escape
abbrev pub escape : ℕ → Option ℕ
escape b =
    if b == 110 then Some 10 else (if b == 116 then Some 9 else (if b == 114 then Some 13 else
    (if b == 48 then Some 0 else (if b == 92 then Some 92 else (if b == 34 then Some 34 else None)))))

abbrev pub put_or_refuse : Option ℕ → Step
put_or_refuse (Some b) = Put b
put_or_refuse None = Refuse

-- what the next byte of a string does
abbrev pub step_of : StringReader → ℕ → Step
step_of Plain b = if b == 34 then Close else (if b == 92 then Go Escaped else Put b)
step_of Escaped b = if b == 120 then Go High else put_or_refuse (escape b)
step_of High b = if nat_lt (digit b) 16 then Go (Low (16 * digit b)) else Refuse
step_of (Low high) b = if nat_lt (digit b) 16 then Put (bit_or high (digit b)) else Refuse

-- a string's content and what follows it, behind some bytes of content
abbrev pub behind : List ℕ → Option (List ℕ × List ℕ) → Option (List ℕ × List ℕ)
behind [] s = s
behind (b ∷ bs) s = option_map (λ x. (b ∷ x.0, x.1)) (behind bs s)

abbrev pub after_step : Step → List ℕ → (StringReader → Option (List ℕ × List ℕ)) → Option (List ℕ × List ℕ)
after_step Close rest more = Some ([], rest)
after_step Refuse rest more = None
after_step (Go next) rest more = more next
after_step (Put b) rest more = behind (b ∷ []) (more Plain)

-- the content of a string up to its closing quote, and what follows it
abbrev pub string_from : StringReader → List ℕ → Option (List ℕ × List ℕ)
string_from r [] = None
string_from r (b ∷ bs) = after_step (step_of r b) bs (λ next. string_from next bs)

-- the string that a text begins with, and what follows it
unfoldable pub string_at : List ℕ → Option (List ℕ × List ℕ)
string_at t = option_and_then (string_from Plain) (after_mark 34 t)
