use Rattle.std.proofs.Common.{◌≡◌, map, drop}
use Rattle.rv_syntax.specs.Forms.{row, meaning_in}
use Rattle.rv_syntax.proofs.forms.meaning_in.Given as goal

abbrev pub invariant-loop-mnemonic : goal.invariant-loop-mnemonic
invariant-loop-mnemonic l = meaning_in (map row (drop l.mnemonic-index l.entries)) l.name ≡ meaning_in (map row l.entries) l.name
