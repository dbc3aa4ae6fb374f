-- The word of -e (strace(1)): trace=SET or a bare SET, inject=SET:PARTS, fault=SET[:PARTS].
use Rattle.std.specs.Prelude.{ℕ, List, nat_eq, if◌then◌else◌, drop, codes}
use Rattle.std.specs.List.{starts_with}
use Rattle.tr_expr.specs.Sets.{SaysSet, RefusesSet}
use Rattle.tr_expr.specs.Rules.{SaysRule, RefusesRule}
use Rattle.tr_expr.specs.declared.expr.Expr.{Expr}
use Rattle.tr_expr.specs.declared.expr.Expr.TheVariants.{Trace, Inject as Tamper}
use Rattle.tr_expr.specs.declared.rule.InjectParts.{InjectParts}
use Rattle.tr_expr.specs.declared.rule.InjectParts.TheVariants.{Inject, Fault}
use Rattle.tr_expr.specs.declared.fault.ExprFault.{ExprFault}

-- a set, or a tampering expression
pub data Word : Type 0 where
  Traced : List ℕ → Word
  Tampered : InjectParts → List ℕ → Word

abbrev pub word_of : List ℕ → Word
word_of text =
    if starts_with nat_eq text (codes "trace=") then Traced (drop 6 text)
    else (if starts_with nat_eq text (codes "inject=") then Tampered Inject (drop 7 text)
    else (if starts_with nat_eq text (codes "fault=") then Tampered Fault (drop 6 text)
    else Traced text))

-- what the word is refused with
abbrev pub Refuses : Word → ExprFault → Type 0
Refuses (Traced text) e = RefusesSet text e
Refuses (Tampered form text) e = RefusesRule form text e

-- the expression is what the word says
abbrev pub Says : Word → Expr → Type 0
Says (Traced text) (Trace set) = SaysSet text set
Says (Traced text) (Tamper rule) = ⊥
Says (Tampered form text) (Trace set) = ⊥
Says (Tampered form text) (Tamper rule) = SaysRule form text rule
