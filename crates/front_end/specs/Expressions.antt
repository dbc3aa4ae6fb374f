-- What the words that name calls ask for.
use Rattle.std.specs.Prelude.{◌≡◌, ◌≢◌, ⊤, ℕ, List, [], ◌∷◌, ◌++◌, map, codes, drop, nat_eq, if◌then◌else◌, string_bytes}
use Rattle.std.specs.List.{AllZip, starts_with, zip}
use Rattle.std.specs.List.Sorted.{IsPermutation, IsSortedByKey, IsStableByKey}
use Rattle.std.specs.Ordering.{nat_cmp}
use Rattle.clap.specs.declared.parser.matches.ArgMatches.{ArgMatches}
use Rattle.lx_abi.specs.declared.script.Rule.{Rule}
use Rattle.lx_abi.specs.declared.script.Set.{Set}
use Rattle.lx_abi.specs.declared.script.Set.TheVariants.{AllBut}
use Rattle.tr_expr.specs.Exprs.{Refuses, Says, word_of}
use Rattle.tr_expr.specs.declared.expr.Expr.{Expr}
use Rattle.tr_expr.specs.declared.expr.Expr.TheVariants.{Trace, Inject}
use Rattle.tr_expr.specs.declared.fault.ExprFault.{ExprFault}
use Rattle.tr_expr.specs.declared.fault.ExprFault.TheVariants.{Memory}
use Rattle.front_end.specs.Values.{places_of, values_of}
use Rattle.front_end.specs.declared.expressions.Expressions.{Expressions}
use Rattle.front_end.specs.declared.expressions.Placed.{Placed}
use Rattle.front_end.specs.declared.fault.Fault.{Fault}
use Rattle.front_end.specs.declared.fault.Fault.TheVariants as the

-- ---- the expressions in the order of the words

-- an expression as it is read, from what an option stands for and its value: `-e t=` is short for `-e trace=`
abbrev pub text_of : List ℕ → List ℕ → List ℕ
text_of [] value =
    if starts_with nat_eq value (codes "t=") then codes "trace=" ++ drop 2 value else value
text_of (c ∷ start) value = (c ∷ start) ++ value

-- of a value and its place
abbrev pub spelled : List ℕ → List ℕ × ℕ → ℕ × List ℕ
spelled start one = (one.1, text_of start one.0)

-- an option's expressions with their places
abbrev pub placed_by : ArgMatches → List ℕ → List ℕ → List (ℕ × List ℕ)
placed_by words option start = map (spelled start) (zip (values_of words option) (places_of words option))

abbrev pub placed_in : ArgMatches → List (ℕ × List ℕ)
placed_in words =
    placed_by words (codes "expression") []
    ++ placed_by words (codes "trace") (codes "trace=")
    ++ placed_by words (codes "inject") (codes "inject=")
    ++ placed_by words (codes "fault") (codes "fault=")

abbrev pub placed_text : Placed → ℕ × List ℕ
placed_text one = (one.place, string_bytes one.text)

-- the same in another order: by their places, and those of one place as they stood
abbrev pub IsSortOf : List Placed → List Placed → Type 0
IsSortOf found sorted =
    IsPermutation found sorted
    × (IsSortedByKey (λ one. one.place) nat_cmp sorted × IsStableByKey (λ one. one.place) nat_cmp found sorted)

-- these are the expressions of the words, in their order
abbrev pub AreExpressions : ArgMatches → List (List ℕ) → Type 0
AreExpressions words texts =
    (found : List Placed)
    × ((map placed_text found ≡ placed_in words)
    × ((sorted : List Placed) × (IsSortOf found sorted × (texts ≡ map (λ one. string_bytes one.text) sorted))))

-- ---- what they say

abbrev pub SaysText : List ℕ → Expr → Type 0
SaysText text expression = Says (word_of text) expression

abbrev pub shown_after : Set → Expr → Set
shown_after shown (Trace set) = set
shown_after shown (Inject rule) = shown

-- the set of the last that names calls to be shown
abbrev pub shown_by : Set → List Expr → Set
shown_by shown [] = shown
shown_by shown (expression ∷ rest) = shown_by (shown_after shown expression) rest

abbrev pub rule_of : Expr → List Rule
rule_of (Trace set) = []
rule_of (Inject rule) = rule ∷ []

abbrev pub rules_by : List Expr → List Rule
rules_by [] = []
rules_by (expression ∷ rest) = rule_of expression ++ rules_by rest

-- each says what it does, and together they say this
abbrev pub SayTogether : List (List ℕ) → Set → List Rule → Type 0
SayTogether texts shown rules =
    (read : List Expr)
    × (AllZip SaysText texts read × ((shown ≡ shown_by (AllBut []) read) × (rules ≡ rules_by read)))

abbrev pub AskFor : ArgMatches → Expressions → Type 0
AskFor words asked =
    (texts : List (List ℕ)) × (AreExpressions words texts × SayTogether texts asked.shown asked.script)

-- ---- which of them is refused

-- the first that says nothing, and why
abbrev pub IsRefusedFirst : List (List ℕ) → List ℕ → ExprFault → Type 0
IsRefusedFirst texts text fault =
    (before : List (List ℕ))
    × ((read : List Expr)
    × ((rest : List (List ℕ))
    × ((texts ≡ before ++ text ∷ rest) × (AllZip SaysText before read × Refuses (word_of text) fault))))

-- the fault of an expression that is refused so, or want of memory
abbrev pub IsRefusal : ExprFault → Fault → Type 0
IsRefusal fault (the.Usage text) = ⊥
IsRefusal fault (the.Expression f reason) = (f ≡ fault) × (f ≢ Memory)
IsRefusal fault (the.Listing line kind) = ⊥
IsRefusal fault (the.Host number reason) = ⊥
IsRefusal fault (the.OutOfTurns text) = ⊥
IsRefusal fault (the.Output text) = ⊥
IsRefusal fault the.Memory = ⊤

-- the fault of an expression for a reason that these refusals give, or want of memory
abbrev pub Refused : (ExprFault → Type 0) → Fault → Type 0
Refused refuses (the.Usage text) = ⊥
Refused refuses (the.Expression f reason) = refuses f
Refused refuses (the.Listing line kind) = ⊥
Refused refuses (the.Host number reason) = ⊥
Refused refuses (the.OutOfTurns text) = ⊥
Refused refuses (the.Output text) = ⊥
Refused refuses the.Memory = ⊤

abbrev pub RefusesText : List ℕ → Fault → Type 0
RefusesText text fault = Refused (Refuses (word_of text)) fault

abbrev pub RefusesExpressions : ArgMatches → Fault → Type 0
RefusesExpressions words fault = Refused
    (λ f. (texts : List (List ℕ))
    × (AreExpressions words texts × ((text : List ℕ) × IsRefusedFirst texts text f)))
    fault
