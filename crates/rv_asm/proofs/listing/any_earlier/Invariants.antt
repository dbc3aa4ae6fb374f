use Rattle.std.proofs.Common.{◌≡◌, drop}
use Rattle.std.specs.List.{list_any}
use Rattle.rv_asm.specs.Codes.{place_named}
use Rattle.rv_asm.specs.Listing.{is_earlier}
use Rattle.rv_syntax.specs.Text.{texts}
use Rattle.rv_asm.proofs.listing.any_earlier.Given as goal

abbrev pub invariant-loop-name : goal.invariant-loop-name
invariant-loop-name l =
    list_any (λ w. is_earlier (place_named l.labels w) l.line) (texts (drop l.name-index l.names)) ≡ list_any (λ w. is_earlier (place_named l.labels w) l.line) (texts l.names)
