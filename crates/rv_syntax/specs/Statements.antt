-- Statements: a mnemonic and its operands.
use Rattle.std.specs.Prelude.{ℕ, ◌++◌, List, [], ◌∷◌, Option, Some, option_map, ◌==◌, pos}
use Rattle.std.specs.List.{slice_split}
use Rattle.rv_isa.specs.declared.inst.Inst.{Inst}
use Rattle.rv_isa.specs.declared.inst.Inst.TheVariants as inst
use Rattle.rv_isa.specs.declared.register.Register.{Register}
use Rattle.rv_isa.specs.declared.operations.Condition.{Condition}
use Rattle.rv_isa.specs.declared.operations.ImmediateOperation.TheVariants as immediate
use Rattle.rv_syntax.specs.declared.forms.ThreeRegisters.{ThreeRegisters}
use Rattle.rv_syntax.specs.declared.forms.ThreeRegisters.TheVariants as three_kinds
use Rattle.rv_syntax.specs.declared.forms.TwoAndNumber.{TwoAndNumber}
use Rattle.rv_syntax.specs.declared.forms.TwoAndNumber.TheVariants as number_kinds
use Rattle.rv_syntax.specs.declared.forms.RegisterAndNumber.{RegisterAndNumber}
use Rattle.rv_syntax.specs.declared.forms.RegisterAndNumber.TheVariants as upper_kinds
use Rattle.rv_syntax.specs.declared.forms.Memory.{Memory}
use Rattle.rv_syntax.specs.declared.forms.Memory.TheVariants as memory_kinds
use Rattle.rv_syntax.specs.declared.forms.RegisterAndLabel.{RegisterAndLabel}
use Rattle.rv_syntax.specs.declared.forms.RegisterAndLabel.TheVariants as label_kinds
use Rattle.rv_syntax.specs.declared.forms.Alone.{Alone}
use Rattle.rv_syntax.specs.declared.forms.Alone.TheVariants as alone_kinds
use Rattle.rv_syntax.specs.declared.forms.Form.{Form}
use Rattle.rv_syntax.specs.declared.forms.Form.TheVariants as form
use Rattle.rv_syntax.specs.declared.forms.Directive.{Directive}
use Rattle.rv_syntax.specs.declared.forms.Directive.TheVariants as directive
use Rattle.rv_syntax.specs.declared.forms.Width.{Width}
use Rattle.rv_syntax.specs.declared.numbers.Number.{Number}
use Rattle.rv_syntax.specs.declared.statement.Statement.{Statement}
use Rattle.rv_syntax.specs.declared.statement.Statement.TheVariants as statement
use Rattle.rv_syntax.specs.Text.{uncommented}
use Rattle.rv_syntax.specs.Numbered.{numbered}
use Rattle.rv_syntax.specs.Numbers.{narrow, narrow_unsigned}
use Rattle.rv_syntax.specs.Operands.{◌>>=◌, ended, three_registers, two_registers, two_and_number, register_and_number, memory_operands, two_and_label, register_and_label, lone_label, lone_number, numbers_of}
use Rattle.rv_syntax.specs.Strings.{string_at}

pub data Said : Type 0 where
  -- an instruction that the text determines
  Does : Inst → Said
  -- a register gets a number
  Sets : Register → Number → Said
  -- a branch, a jump and an address, to a label
  Branches : Condition → Register → Register → List ℕ → Said
  Jumps : Register → List ℕ → Said
  Points : Register → List ℕ → Said
  -- bytes
  Numbers : Width → List Number → Said
  Text : List ℕ → Said
  Space : Number → Said
  Align : Number → Said

-- what a statement of the code says
abbrev pub said : Statement → Said
said (statement.Does i) = Does i
said (statement.Sets rd n) = Sets rd n
said (statement.Branches condition rs1 rs2 label) = Branches condition rs1 rs2 label.now
said (statement.Jumps rd label) = Jumps rd label.now
said (statement.Points rd label) = Points rd label.now
said (statement.Numbers width numbers) = Numbers width numbers.items
said (statement.Text bytes) = Text bytes.items
said (statement.Space n) = Space n
said (statement.Align n) = Align n

-- ---- instructions

abbrev pub on_registers : ThreeRegisters → Register → Register → Register → Inst
on_registers (three_kinds.Operation op) rd rs1 rs2 = inst.Operation op rd rs1 rs2
on_registers (three_kinds.WordOperation op) rd rs1 rs2 = inst.WordOperation op rd rs1 rs2

abbrev pub on_number : TwoAndNumber → Register → Register → Number → Inst
on_number (number_kinds.Immediate op) rd rs1 n = inst.Immediate op rd rs1 (narrow n)
on_number (number_kinds.Shift shift) rd rs1 n = inst.ShiftImmediate shift rd rs1 (narrow_unsigned n)
on_number number_kinds.AddWord rd rs1 n = inst.AddImmediateWord rd rs1 (narrow n)
on_number (number_kinds.ShiftWord shift) rd rs1 n = inst.ShiftImmediateWord shift rd rs1 (narrow_unsigned n)

abbrev pub with_number : RegisterAndNumber → Register → Number → Said
with_number upper_kinds.Lui rd n = Does (inst.Lui rd (narrow_unsigned n))
with_number upper_kinds.Auipc rd n = Does (inst.Auipc rd (narrow_unsigned n))
with_number upper_kinds.SetNumber rd n = Sets rd n

-- the first register is what a store stores
abbrev pub on_memory : Memory → Register → Number → Register → Inst
on_memory (memory_kinds.Load kind) r n base = inst.Load kind r base (narrow n)
on_memory (memory_kinds.Store kind) r n base = inst.Store kind base r (narrow n)
on_memory memory_kinds.JumpToRegister r n base = inst.Jalr r base (narrow n)

abbrev pub with_label : RegisterAndLabel → Register → List ℕ → Said
with_label (label_kinds.BranchZero condition) r label = Branches condition r (numbered 0) label
with_label label_kinds.JumpAndLink r label = Jumps r label
with_label label_kinds.SetAddress r label = Points r label

abbrev pub move : Register → Register → Inst
move rd rs1 = inst.Immediate immediate.Add rd rs1 (pos 0)

abbrev pub without_operands : Alone → Inst
without_operands alone_kinds.Return = inst.Jalr (numbered 0) (numbered 1) (pos 0)
without_operands alone_kinds.Nothing = move (numbered 0) (numbered 0)
without_operands alone_kinds.Fence = inst.Fence (numbered 0) (numbered 0) 0
without_operands alone_kinds.EnvironmentCall = inst.EnvironmentCall
without_operands alone_kinds.EnvironmentBreak = inst.EnvironmentBreak

-- what the operands of an instruction say
unfoldable pub instruction_of : Form → List ℕ → Option Said
instruction_of (form.ThreeRegisters kind) t = do
  x ← three_registers t
  Some (Does (on_registers kind x.0 x.1 x.2))
instruction_of (form.TwoAndNumber kind) t = do
  x ← two_and_number t
  Some (Does (on_number kind x.0 x.1 x.2))
instruction_of form.TwoRegisters t = do
  x ← two_registers t
  Some (Does (move x.0 x.1))
instruction_of (form.RegisterAndNumber kind) t = do
  x ← register_and_number t
  Some (with_number kind x.0 x.1)
instruction_of (form.Memory kind) t = do
  x ← memory_operands t
  Some (Does (on_memory kind x.0 x.1 x.2))
instruction_of (form.TwoAndLabel condition) t = do
  x ← two_and_label t
  Some (Branches condition x.0 x.1 x.2)
instruction_of (form.RegisterAndLabel kind) t = do
  x ← register_and_label t
  Some (with_label kind x.0 x.1)
instruction_of form.Label t = do
  x ← lone_label t
  Some (Jumps (numbered 0) x)
instruction_of (form.Alone kind) t = ended t (Does (without_operands kind))

-- ---- directives

abbrev pub pieces : List ℕ → List (List ℕ)
pieces t = slice_split (λ b. b == 44) (uncommented t)

unfoldable pub lone_string : List ℕ → Option (List ℕ)
lone_string t = do
  a ← string_at t
  ended a.1 a.0

-- what the operands of a directive say
unfoldable pub directive_of : Directive → List ℕ → Option Said
directive_of (directive.Numbers width) t = option_map (Numbers width) (numbers_of (pieces t))
directive_of directive.Ascii t = option_map (λ bytes. Text bytes) (lone_string t)
directive_of directive.Asciz t = option_map (λ bytes. Text (bytes ++ 0 ∷ [])) (lone_string t)
directive_of directive.Space t = option_map Space (lone_number t)
directive_of directive.Align t = option_map Align (lone_number t)
