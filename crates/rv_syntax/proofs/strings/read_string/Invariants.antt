use Rattle.std.proofs.Common.{◌≡◌, drop}
use Rattle.rv_syntax.specs.Strings.{behind, string_from}
use Rattle.rv_syntax.specs.declared.strings.StringReader.TheVariants.{Plain}
use Rattle.rv_syntax.proofs.strings.read_string.Given as goal

abbrev pub invariant-loop-i : goal.invariant-loop-i
invariant-loop-i l = behind l.bytes.items (string_from l.reading (drop l.i l.text)) ≡ string_from Plain l.text
