-- Lines: the labels that a line begins with, and the statement behind them.
use Rattle.std.specs.Prelude.{ℕ, zero, suc, ◌+◌, List, [], ◌∷◌, length, Option, Some, None, Result, Ok, Err, if◌then◌else◌}
use Rattle.rv_asm.specs.declared.fault.AsmKind.{AsmKind}
use Rattle.rv_asm.specs.declared.fault.AsmKind.TheVariants.{Mnemonic, Operand}
use Rattle.rv_syntax.specs.declared.forms.Meaning.{Meaning}
use Rattle.rv_syntax.specs.declared.forms.Meaning.TheVariants.{Instruction, Directive}
use Rattle.rv_syntax.specs.Text.{word_at, after_mark, is_done}
use Rattle.rv_syntax.specs.Forms.{meaning_of}
use Rattle.rv_syntax.specs.Operands.{◌>>=◌, name_at}
use Rattle.rv_syntax.specs.Statements.{Said, instruction_of, directive_of}
use Rattle.rv_asm.specs.Codes.{placed_size}

-- a name and a colon, and what follows them
unfoldable pub label_at : List ℕ → Option (List ℕ × List ℕ)
label_at t = do
  n ← name_at t
  rest ← after_mark 58 n.1
  Some (n.0, rest)

abbrev pub after_label : List ℕ → Option (List ℕ × List ℕ) → (List ℕ → List (List ℕ) × List ℕ) → List (List ℕ) × List ℕ
after_label t None more = ([], t)
after_label t (Some x) more = (x.0 ∷ (more x.1).0, (more x.1).1)

-- at most n labels, and what follows them
abbrev pub peeled : ℕ → List ℕ → List (List ℕ) × List ℕ
peeled zero t = ([], t)
peeled (suc n) t = after_label t (label_at t) (λ rest. peeled n rest)

-- the labels of a line, each of which takes a byte or more, and its body
unfoldable pub line_of : List ℕ → List (List ℕ) × List ℕ
line_of t = peeled (length t) t

abbrev pub labels_of : List ℕ → List (List ℕ)
labels_of t = (line_of t).0

abbrev pub body_of : List ℕ → List ℕ
body_of t = (line_of t).1

unfoldable pub said_of : Meaning → List ℕ → Option Said
said_of (Instruction form) t = instruction_of form t
said_of (Directive kind) t = directive_of kind t

abbrev pub by_operands : Option Said → Result (Option Said) AsmKind
by_operands None = Err Operand
by_operands (Some s) = Ok (Some s)

abbrev pub by_mnemonic : Option Meaning → List ℕ → Result (Option Said) AsmKind
by_mnemonic None t = Err Mnemonic
by_mnemonic (Some m) t = by_operands (said_of m t)

-- what a body says, if anything
unfoldable pub statement_of : List ℕ → Result (Option Said) AsmKind
statement_of t = if is_done t then Ok None else by_mnemonic (meaning_of (word_at t).0) (word_at t).1

-- a faulty statement has no bytes
abbrev pub said_size : ℕ → Result (Option Said) AsmKind → ℕ
said_size at (Ok (Some s)) = placed_size at s
said_size at (Ok None) = 0
said_size at (Err e) = 0

-- where the line behind a body begins
unfoldable pub next_at : ℕ → List ℕ → ℕ
next_at at t = at + said_size at (statement_of t)
