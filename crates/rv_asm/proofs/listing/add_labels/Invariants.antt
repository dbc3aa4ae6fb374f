use Rattle.std.proofs.Common.{◌≡◌, ◌++◌, drop}
use Rattle.rv_asm.specs.Listing.{places_at}
use Rattle.rv_syntax.specs.Text.{texts}
use Rattle.rv_asm.proofs.listing.add_labels.Given as goal

abbrev pub invariant-loop-name : goal.invariant-loop-name
invariant-loop-name l = l.labels ++ places_at l.at l.line (texts (drop l.name-index l.names)) ≡ l.fn.labels ++ places_at l.fn.at l.fn.line (texts l.names)
