-- What was said of a console, piece by piece.
use Rattle.std.specs.Prelude.{◌≡◌, ◌+◌, ℕ, suc, List, [], ◌∷◌, take, drop}
use Rattle.lx_abi.specs.declared.log.Item.{Item}
use Rattle.sweep_rows.specs.Descriptors.{at_boot, after_item}
use Rattle.sweep_rows.specs.Streams.{piece_of, said_in, silent, with_piece}
use Rattle.sweep_rows.specs.declared.descriptors.Use.{Use}
use Rattle.sweep_rows.specs.declared.streams.Piece.{Piece}
use Rattle.sweep_rows.specs.declared.streams.Streams.{Streams}

-- a text that is parted: what was said of it so far, and what is left
pub record Parting : Type 0 where
  pub streams : Streams
  pub text : List ℕ

-- a piece is said
abbrev pub with_said : Piece → Parting → Parting
with_said piece p = record {
  streams = with_piece piece.error (take (said_in piece p.text) p.text) p.streams;
  text = drop (said_in piece p.text) p.text;
}

abbrev pub by_pieces : List Piece → Parting → Parting
by_pieces [] p = p
by_pieces (piece ∷ pieces) p = by_pieces pieces (with_said piece p)

-- by items of a log, the first of which has this place
abbrev pub by_items : ℕ → (ℕ → ℕ → Use) → List Item → Parting → Parting
by_items at uses [] p = p
by_items at uses (i ∷ is) p = by_items (suc at) (after_item at i uses) is (with_said (piece_of uses i) p)

-- the pieces part each text as the log does
abbrev pub Says : List Piece → List Item → Type 0
Says pieces log = (p : Parting) → by_pieces pieces p ≡ by_items 0 at_boot log p

abbrev pub unsaid : List ℕ → Parting
unsaid text = record { streams = silent; text = text }

-- two pieces in a row, said alike, are one
pub record IsBoth (a b both : Piece) : Type 0 where
  pub alike : a.error ≡ b.error
  pub error : both.error ≡ a.error
  pub length : both.length ≡ a.length + b.length
