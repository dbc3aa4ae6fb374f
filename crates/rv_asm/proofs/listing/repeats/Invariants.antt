use Rattle.std.proofs.Common.{◌≡◌, ◌≤◌, ℕ, List, false, length, drop}
use Rattle.std.specs.Prelude.{is_some}
use Rattle.std.specs.List.{list_any}
use Rattle.rv_asm.specs.Codes.{place_named}
use Rattle.rv_asm.specs.Listing.{repeats}
use Rattle.rv_syntax.specs.Text.{is_text, texts}
use Rattle.rv_asm.proofs.listing.repeats.Given as goal

abbrev pub invariant-loop-at : goal.invariant-loop-at
invariant-loop-at l = record {
  within : l.at ≤ length l.names;
  seen : (w : List ℕ) → is_some (place_named l.seen w) ≡ list_any (is_text w) (texts (drop l.at l.names));
  once : repeats (texts (drop l.at l.names)) ≡ false;
}

abbrev pub decreases-loop-at : goal.decreases-loop-at
decreases-loop-at l = l.at
