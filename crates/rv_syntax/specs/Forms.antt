-- The mnemonics, each with its operands and what it stands for.
-- Unprivileged ISA 20191213, chapter 24 for the instructions, chapter 25 for the pseudoinstructions.
use Rattle.std.specs.Prelude.{ℕ, List, [], ◌∷◌, codes, Option, Some, None, if◌then◌else◌}
use Rattle.std.proofs.Common.{Bor}
use Rattle.rv_syntax.specs.Text.{is_text}
use Rattle.rv_syntax.specs.declared.forms.Meaning.{Meaning}
use Rattle.rv_syntax.specs.declared.forms.Meaning.TheVariants as meaning
use Rattle.rv_syntax.specs.declared.forms.Form.{Form}
use Rattle.rv_syntax.specs.declared.forms.Form.TheVariants as form
use Rattle.rv_syntax.specs.declared.forms.ThreeRegisters.{ThreeRegisters}
use Rattle.rv_syntax.specs.declared.forms.ThreeRegisters.TheVariants as three_registers
use Rattle.rv_syntax.specs.declared.forms.TwoAndNumber.{TwoAndNumber}
use Rattle.rv_syntax.specs.declared.forms.TwoAndNumber.TheVariants as two_and_number
use Rattle.rv_syntax.specs.declared.forms.RegisterAndNumber.{RegisterAndNumber}
use Rattle.rv_syntax.specs.declared.forms.RegisterAndNumber.TheVariants as register_and_number
use Rattle.rv_syntax.specs.declared.forms.Memory.{Memory}
use Rattle.rv_syntax.specs.declared.forms.Memory.TheVariants as memory_operands
use Rattle.rv_syntax.specs.declared.forms.RegisterAndLabel.{RegisterAndLabel}
use Rattle.rv_syntax.specs.declared.forms.RegisterAndLabel.TheVariants as register_and_label
use Rattle.rv_syntax.specs.declared.forms.Alone.{Alone}
use Rattle.rv_syntax.specs.declared.forms.Alone.TheVariants as alone_kinds
use Rattle.rv_syntax.specs.declared.forms.Directive.{Directive}
use Rattle.rv_syntax.specs.declared.forms.Directive.TheVariants as directives
use Rattle.rv_syntax.specs.declared.forms.Width.TheVariants as width
use Rattle.rv_isa.specs.declared.operations.Condition.TheVariants as condition
use Rattle.rv_isa.specs.declared.operations.ImmediateOperation.TheVariants as immediate
use Rattle.rv_isa.specs.declared.operations.LoadKind.TheVariants as load
use Rattle.rv_isa.specs.declared.operations.Operation.TheVariants as operation
use Rattle.rv_isa.specs.declared.operations.Shift.TheVariants as shift
use Rattle.rv_isa.specs.declared.operations.StoreKind.TheVariants as store
use Rattle.rv_isa.specs.declared.operations.WordOperation.TheVariants as word_operation

pub record Mnemonic : Type 0 where
  pub name : List ℕ
  pub meaning : Meaning

abbrev pub is : List ℕ → Meaning → Mnemonic
is n m = record { name = n; meaning = m }

-- a row of the code's table
abbrev pub row : Bor (List ℕ) × Meaning → Mnemonic
row e = record { name = e.0.now; meaning = e.1 }

abbrev pub instruction : Form → Meaning
instruction f = meaning.Instruction f

abbrev pub three : ThreeRegisters → Meaning
three k = instruction (form.ThreeRegisters k)

abbrev pub number : TwoAndNumber → Meaning
number k = instruction (form.TwoAndNumber k)

abbrev pub one : RegisterAndNumber → Meaning
one k = instruction (form.RegisterAndNumber k)

abbrev pub memory : Memory → Meaning
memory k = instruction (form.Memory k)

abbrev pub label : RegisterAndLabel → Meaning
label k = instruction (form.RegisterAndLabel k)

abbrev pub alone : Alone → Meaning
alone k = instruction (form.Alone k)

abbrev pub directive : Directive → Meaning
directive d = meaning.Directive d

unfoldable pub mnemonics : List Mnemonic
mnemonics =
    is (codes "add") (three (three_registers.Operation operation.Add))
    ∷ is (codes "sub") (three (three_registers.Operation operation.Sub))
    ∷ is (codes "sll") (three (three_registers.Operation operation.ShiftLeft))
    ∷ is (codes "slt") (three (three_registers.Operation operation.SetLess))
    ∷ is (codes "sltu") (three (three_registers.Operation operation.SetLessUnsigned))
    ∷ is (codes "xor") (three (three_registers.Operation operation.Xor))
    ∷ is (codes "srl") (three (three_registers.Operation operation.ShiftRightLogical))
    ∷ is (codes "sra") (three (three_registers.Operation operation.ShiftRightArithmetic))
    ∷ is (codes "or") (three (three_registers.Operation operation.Or))
    ∷ is (codes "and") (three (three_registers.Operation operation.And))
    ∷ is (codes "addw") (three (three_registers.WordOperation word_operation.Add))
    ∷ is (codes "subw") (three (three_registers.WordOperation word_operation.Sub))
    ∷ is (codes "sllw") (three (three_registers.WordOperation word_operation.ShiftLeft))
    ∷ is (codes "srlw") (three (three_registers.WordOperation word_operation.ShiftRightLogical))
    ∷ is (codes "sraw") (three (three_registers.WordOperation word_operation.ShiftRightArithmetic))
    ∷ is (codes "addi") (number (two_and_number.Immediate immediate.Add))
    ∷ is (codes "slti") (number (two_and_number.Immediate immediate.SetLess))
    ∷ is (codes "sltiu") (number (two_and_number.Immediate immediate.SetLessUnsigned))
    ∷ is (codes "xori") (number (two_and_number.Immediate immediate.Xor))
    ∷ is (codes "ori") (number (two_and_number.Immediate immediate.Or))
    ∷ is (codes "andi") (number (two_and_number.Immediate immediate.And))
    ∷ is (codes "slli") (number (two_and_number.Shift shift.Left))
    ∷ is (codes "srli") (number (two_and_number.Shift shift.RightLogical))
    ∷ is (codes "srai") (number (two_and_number.Shift shift.RightArithmetic))
    ∷ is (codes "addiw") (number two_and_number.AddWord)
    ∷ is (codes "slliw") (number (two_and_number.ShiftWord shift.Left))
    ∷ is (codes "srliw") (number (two_and_number.ShiftWord shift.RightLogical))
    ∷ is (codes "sraiw") (number (two_and_number.ShiftWord shift.RightArithmetic))
    ∷ is (codes "lui") (one register_and_number.Lui)
    ∷ is (codes "auipc") (one register_and_number.Auipc)
    ∷ is (codes "li") (one register_and_number.SetNumber)
    ∷ is (codes "lb") (memory (memory_operands.Load load.Byte))
    ∷ is (codes "lh") (memory (memory_operands.Load load.Half))
    ∷ is (codes "lw") (memory (memory_operands.Load load.Word))
    ∷ is (codes "ld") (memory (memory_operands.Load load.Double))
    ∷ is (codes "lbu") (memory (memory_operands.Load load.ByteUnsigned))
    ∷ is (codes "lhu") (memory (memory_operands.Load load.HalfUnsigned))
    ∷ is (codes "lwu") (memory (memory_operands.Load load.WordUnsigned))
    ∷ is (codes "sb") (memory (memory_operands.Store store.Byte))
    ∷ is (codes "sh") (memory (memory_operands.Store store.Half))
    ∷ is (codes "sw") (memory (memory_operands.Store store.Word))
    ∷ is (codes "sd") (memory (memory_operands.Store store.Double))
    ∷ is (codes "jalr") (memory memory_operands.JumpToRegister)
    ∷ is (codes "beq") (instruction (form.TwoAndLabel condition.Equal))
    ∷ is (codes "bne") (instruction (form.TwoAndLabel condition.NotEqual))
    ∷ is (codes "blt") (instruction (form.TwoAndLabel condition.Less))
    ∷ is (codes "bge") (instruction (form.TwoAndLabel condition.GreaterEqual))
    ∷ is (codes "bltu") (instruction (form.TwoAndLabel condition.LessUnsigned))
    ∷ is (codes "bgeu") (instruction (form.TwoAndLabel condition.GreaterEqualUnsigned))
    ∷ is (codes "beqz") (label (register_and_label.BranchZero condition.Equal))
    ∷ is (codes "bnez") (label (register_and_label.BranchZero condition.NotEqual))
    ∷ is (codes "jal") (label register_and_label.JumpAndLink)
    ∷ is (codes "la") (label register_and_label.SetAddress)
    ∷ is (codes "j") (instruction form.Label)
    ∷ is (codes "mv") (instruction form.TwoRegisters)
    ∷ is (codes "ret") (alone alone_kinds.Return)
    ∷ is (codes "nop") (alone alone_kinds.Nothing)
    ∷ is (codes "fence") (alone alone_kinds.Fence)
    ∷ is (codes "ecall") (alone alone_kinds.EnvironmentCall)
    ∷ is (codes "ebreak") (alone alone_kinds.EnvironmentBreak)
    ∷ is (codes ".byte") (directive (directives.Numbers width.Byte))
    ∷ is (codes ".word") (directive (directives.Numbers width.Word))
    ∷ is (codes ".dword") (directive (directives.Numbers width.Double))
    ∷ is (codes ".ascii") (directive directives.Ascii)
    ∷ is (codes ".asciz") (directive directives.Asciz)
    ∷ is (codes ".space") (directive directives.Space)
    ∷ is (codes ".align") (directive directives.Align)
    ∷ []

abbrev pub meaning_in : List Mnemonic → List ℕ → Option Meaning
meaning_in [] w = None
meaning_in (m ∷ ms) w = if is_text m.name w then Some m.meaning else meaning_in ms w

-- the meaning of a mnemonic
unfoldable pub meaning_of : List ℕ → Option Meaning
meaning_of w = meaning_in mnemonics w
