-- The names of registers: x0 to x31, and the names of the calling convention.
-- RISC-V ELF psABI, "Integer Register Convention".
use Rattle.std.specs.Prelude.{ℕ, List, [], ◌∷◌, codes, Option, Some, None, option_map, if◌then◌else◌}
use Rattle.std.proofs.Common.{Bor}
use Rattle.rv_isa.specs.declared.register.Register.{Register}
use Rattle.rv_syntax.specs.Numbered.{numbered}
use Rattle.rv_syntax.specs.Text.{is_text}

pub record Named : Type 0 where
  pub name : List ℕ
  pub number : ℕ

abbrev pub named : List ℕ → ℕ → Named
named s n = record { name = s; number = n }

-- a row of the code's table
abbrev pub row : Bor (List ℕ) × ℕ → Named
row n = record { name = n.0.now; number = n.1 }

unfoldable pub register_names : List Named
register_names =
    named (codes "x0") 0 ∷ named (codes "x1") 1 ∷ named (codes "x2") 2 ∷ named (codes "x3") 3 ∷
    named (codes "x4") 4 ∷ named (codes "x5") 5 ∷ named (codes "x6") 6 ∷ named (codes "x7") 7 ∷
    named (codes "x8") 8 ∷ named (codes "x9") 9 ∷ named (codes "x10") 10 ∷ named (codes "x11") 11 ∷
    named (codes "x12") 12 ∷ named (codes "x13") 13 ∷ named (codes "x14") 14 ∷
    named (codes "x15") 15 ∷ named (codes "x16") 16 ∷ named (codes "x17") 17 ∷
    named (codes "x18") 18 ∷ named (codes "x19") 19 ∷ named (codes "x20") 20 ∷
    named (codes "x21") 21 ∷ named (codes "x22") 22 ∷ named (codes "x23") 23 ∷
    named (codes "x24") 24 ∷ named (codes "x25") 25 ∷ named (codes "x26") 26 ∷
    named (codes "x27") 27 ∷ named (codes "x28") 28 ∷ named (codes "x29") 29 ∷
    named (codes "x30") 30 ∷ named (codes "x31") 31 ∷ named (codes "zero") 0 ∷
    named (codes "ra") 1 ∷ named (codes "sp") 2 ∷ named (codes "gp") 3 ∷ named (codes "tp") 4 ∷
    named (codes "t0") 5 ∷ named (codes "t1") 6 ∷ named (codes "t2") 7 ∷ named (codes "s0") 8 ∷
    named (codes "fp") 8 ∷ named (codes "s1") 9 ∷ named (codes "a0") 10 ∷ named (codes "a1") 11 ∷
    named (codes "a2") 12 ∷ named (codes "a3") 13 ∷ named (codes "a4") 14 ∷ named (codes "a5") 15 ∷
    named (codes "a6") 16 ∷ named (codes "a7") 17 ∷ named (codes "s2") 18 ∷ named (codes "s3") 19 ∷
    named (codes "s4") 20 ∷ named (codes "s5") 21 ∷ named (codes "s6") 22 ∷ named (codes "s7") 23 ∷
    named (codes "s8") 24 ∷ named (codes "s9") 25 ∷ named (codes "s10") 26 ∷
    named (codes "s11") 27 ∷ named (codes "t3") 28 ∷ named (codes "t4") 29 ∷
    named (codes "t5") 30 ∷ named (codes "t6") 31 ∷
    []

abbrev pub number_in : List Named → List ℕ → Option ℕ
number_in [] w = None
number_in (r ∷ rs) w = if is_text r.name w then Some r.number else number_in rs w

unfoldable pub number_of : List ℕ → Option ℕ
number_of w = number_in register_names w

-- the register of a name
unfoldable pub register_of : List ℕ → Option Register
register_of w = option_map numbered (number_of w)
