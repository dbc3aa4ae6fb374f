use Rattle.std.proofs.Common.{◌≡◌, ◌++◌, drop}
use Rattle.elf_image.specs.Fields.{fields_bytes}
use Rattle.elf_image.proofs.fields.put_fields.Given as goal

abbrev pub invariant-loop-field : goal.invariant-loop-field
invariant-loop-field l = l.out.items ++ fields_bytes (drop l.field-index l.fields) ≡ l.fn.out.items ++ fields_bytes l.fn.fields
