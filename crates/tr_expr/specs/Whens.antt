-- Which occurrences are meant (strace(1), Tampering, `when`).
use Rattle.std.specs.Prelude.{ℕ, List, Option, Some, None, if◌then◌else◌, ◌==◌, nat_le, length}
use Rattle.std.specs.Prelude.{option_and_then, option_map}
use Rattle.lx_abi.specs.declared.when.When.{When}
use Rattle.tr_expr.specs.Numbers.{number}
use Rattle.tr_expr.specs.Texts.{has_mark, before_mark, after_mark, after}

-- the first, the last, the step
abbrev pub Occurrences : Type 0
Occurrences = ℕ × Option ℕ × ℕ

abbrev pub view : When → Occurrences
view when = (when.first, when.last, when.step)

abbrev pub every : Occurrences
every = (1, None, 1)

-- a first or a step: 1 to 65535
abbrev pub count : List ℕ → Option ℕ
count text = number 10 1 65535 text

-- the last of a range: 1 to 65534
abbrev pub bound : List ℕ → Option ℕ
bound text = number 10 1 65534 text

-- a first, and all that come after it
abbrev pub onward : ℕ → Occurrences
onward first = (first, None, 1)

-- no range ends before it begins
abbrev pub between : ℕ → ℕ → Option Occurrences
between first last = if nat_le first last then Some (first, Some last, 1) else None

-- .last, behind the first point of a range
unfoldable pub last_of : List ℕ → Option ℕ
last_of text = option_and_then bound (after 46 text)

-- first..last
unfoldable pub range : List ℕ → List ℕ → Option Occurrences
range front rest = option_and_then (λ first. option_and_then (between first) (last_of rest)) (count front)

-- first, or a range
unfoldable pub span : List ℕ → Option Occurrences
span text = if has_mark 46 text
    then range (before_mark 46 text) (after_mark 46 text)
    else option_map onward (count text)

-- what a span without + names: the first alone, or all of the range
abbrev pub alone : Occurrences → Occurrences
alone (first, None, step) = (first, Some first, step)
alone (first, Some last, step) = (first, Some last, step)

-- an empty step is 1
abbrev pub step : List ℕ → Option ℕ
step text = if length text == 0 then Some 1 else count text

-- a span, span+ or span+step
unfoldable pub when_value : List ℕ → Option Occurrences
when_value text = if has_mark 43 text
    then option_and_then
    (λ span. option_map (λ by. (span.0, span.1, by)) (step (after_mark 43 text)))
    (span (before_mark 43 text))
    else option_map alone (span text)
