-- Why an expression is refused, and which of several causes is reported.
use Rattle.std.specs.Prelude.{ℕ, ◌≤◌, ◌≡◌, List, [], ◌∷◌, Option, Some, None, Result, Ok, Err, Bool, if◌then◌else◌}
use Rattle.std.specs.Prelude.{nat_lt, ◌⊎◌}
use Rattle.std.specs.List.{AllByRecursion}
use Rattle.tr_expr.specs.declared.fault.ExprFault.{ExprFault}
use Rattle.tr_expr.specs.declared.fault.ExprFault.TheVariants.{UnknownCall, UnknownClass, UnknownErrno}
use Rattle.tr_expr.specs.declared.fault.ExprFault.TheVariants.{UnknownSignal, BadNumber, BadWhen, BothResults}
use Rattle.tr_expr.specs.declared.fault.ExprFault.TheVariants.{NothingToDo, BadPattern, Memory, UnknownPart}

-- the number of a kind
abbrev pub number_of : ExprFault → ℕ
number_of UnknownCall = 1
number_of UnknownClass = 2
number_of UnknownErrno = 3
number_of UnknownSignal = 4
number_of BadNumber = 5
number_of BadWhen = 6
number_of BothResults = 7
number_of NothingToDo = 8
number_of BadPattern = 9
number_of Memory = 10
number_of UnknownPart = 11

-- the place of a kind in the order in which kinds are found: by number, but NothingToDo last
abbrev pub rank : ExprFault → ℕ
rank UnknownCall = 1
rank UnknownClass = 2
rank UnknownErrno = 3
rank UnknownSignal = 4
rank BadNumber = 5
rank BadWhen = 6
rank BothResults = 7
rank NothingToDo = 12
rank BadPattern = 9
rank Memory = 10
rank UnknownPart = 11

-- the kind stands in the list
abbrev pub IsAmong : List ExprFault → ExprFault → Type 0
IsAmong [] e = ⊥
IsAmong (cause ∷ causes) e = (cause ≡ e) ⊎ IsAmong causes e

-- the kind is one of the causes, and none of them is found before it
abbrev pub IsFirst : List ExprFault → ExprFault → Type 0
IsFirst causes e = IsAmong causes e × AllByRecursion (λ cause. rank e ≤ rank cause) causes

-- a kind where a test holds
abbrev pub where_true : Bool → ExprFault → List ExprFault
where_true b kind = if b then kind ∷ [] else []

-- the kind that a value is refused with
abbrev pub refusal_of : {X : Type 0} → Result X ExprFault → List ExprFault
refusal_of (Ok x) = []
refusal_of (Err kind) = kind ∷ []

-- the one of two that is found first
abbrev pub first : ExprFault → ExprFault → ExprFault
first a b = if nat_lt (rank b) (rank a) then b else a

-- the kind that is found first, after what was found before
abbrev pub sooner : Option ExprFault → ExprFault → ExprFault
sooner None b = b
sooner (Some a) b = first a b

-- the kind that is found first among more causes, after what was found before
abbrev pub found : Option ExprFault → List ExprFault → Option ExprFault
found before [] = before
found before (cause ∷ causes) = found (Some (sooner before cause)) causes
