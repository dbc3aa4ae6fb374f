-- What descriptions are of.
use Rattle.std.specs.Prelude.{ℕ, ◌==◌, Bool, false}
use Rattle.std.specs.Ordering.{nat_cmp}
use Rattle.std.specs.FinMap as maps
use Rattle.std.specs.FinMap.{FinMap}
use Rattle.std.specs.declared.option.Option.{Option}
use Rattle.std.specs.declared.option.Option.TheVariants.{None, Some}
pub use Rattle.lx_open.specs.declared.description.Object.{Object}
pub use Rattle.lx_open.specs.declared.description.Object.TheVariants.{Input, Console, ReadEnd, WriteEnd, Opened}
pub use Rattle.lx_open.specs.declared.description.Description.{Description}
pub use Rattle.lx_open.specs.declared.description.Slot.{Slot}

abbrev pub SlotMap : Type 0
SlotMap = FinMap nat_cmp Slot

abbrev pub DescriptionMap : Type 0
DescriptionMap = FinMap nat_cmp Description

abbrev pub names_description : ℕ → Slot → Bool
names_description n s = s.description == n

abbrev pub is_reading : ℕ → Object → Bool
is_reading n Input = false
is_reading n Console = false
is_reading n (ReadEnd pipe) = pipe == n
is_reading n (WriteEnd pipe) = false
is_reading n (Opened node) = false

abbrev pub is_writing : ℕ → Object → Bool
is_writing n Input = false
is_writing n Console = false
is_writing n (ReadEnd pipe) = false
is_writing n (WriteEnd pipe) = pipe == n
is_writing n (Opened node) = false

abbrev pub is_open : ℕ → Object → Bool
is_open n Input = false
is_open n Console = false
is_open n (ReadEnd pipe) = false
is_open n (WriteEnd pipe) = false
is_open n (Opened node) = node == n

abbrev pub reads_pipe : ℕ → Description → Bool
reads_pipe n d = is_reading n d.object

abbrev pub writes_pipe : ℕ → Description → Bool
writes_pipe n d = is_writing n d.object

abbrev pub has_node : ℕ → Description → Bool
has_node n d = is_open n d.object

-- a description that is there is at another offset
abbrev pub moved : DescriptionMap → ℕ → ℕ → Option Description → DescriptionMap
moved m n offset None = m
moved m n offset (Some d) = maps.insert m n (record d { offset = offset })
