-- The piece of an expression that is refused by itself.
use Rattle.std.specs.Prelude.{◌≡◌, ◌⊎◌, ℕ, List, [], ◌∷◌, Bool, true, false, ◌==◌, find, if◌then◌else◌, Option, Some, None, option_map}
use Rattle.tr_expr.specs.Texts.{has_mark, after_mark}
use Rattle.tr_expr.specs.Items.{Reading, IsReadAs, item_of, reading_causes}
use Rattle.tr_expr.specs.Sets.{items, pieces}
use Rattle.tr_expr.specs.Parts.{part_of, part_causes}
use Rattle.tr_expr.specs.Rules.{set_text}
use Rattle.tr_expr.specs.Exprs.{Word, Traced, Tampered}
use Rattle.tr_expr.specs.Faults.{number_of, found}
use Rattle.tr_expr.specs.declared.rule.InjectParts.{InjectParts}
use Rattle.tr_expr.specs.declared.rule.InjectParts.TheVariants.{Inject}
use Rattle.tr_expr.specs.declared.fault.ExprFault.{ExprFault}
use Rattle.tr_expr.specs.declared.piece.Cut.{Cut}
use Rattle.tr_expr.specs.declared.piece.RefusedPiece.{RefusedPiece}
use Rattle.tr_expr.specs.declared.piece.RefusedPiece.TheVariants.{Item as TheItem, Part as ThePart}

-- what is found is this kind
abbrev pub is_kind : ExprFault → Option ExprFault → Bool
is_kind kind None = false
is_kind kind (Some fault) = number_of fault == number_of kind

-- a text with these causes of refusal is refused with this kind
abbrev pub is_refused : ExprFault → List ExprFault → Bool
is_refused kind causes = is_kind kind (found None causes)

-- the first of the texts that is refused with the kind as an item, each read on the way; none, where none is
unfoldable pub IsRefusedItem : ExprFault → List (List ℕ) → Option (List ℕ) → Type 0
IsRefusedItem kind [] item = item ≡ None
IsRefusedItem kind (text ∷ texts) item =
    (r : Reading)
    × (IsReadAs (item_of text) r
    × (((is_refused kind (reading_causes r) ≡ true) × (item ≡ Some text))
    ⊎ ((is_refused kind (reading_causes r) ≡ false) × IsRefusedItem kind texts item)))

-- the first part that is refused with the kind
abbrev pub refused_part : ExprFault → InjectParts → Option (List ℕ) → Option (List ℕ)
refused_part kind form None = None
refused_part kind form (Some parts) = find (λ part. is_refused kind (part_causes (part_of form part))) (pieces 58 parts)

-- an expression that is cut at its first colon: which parts it takes, its set, and its parts, if it has any
pub record Pieces : Type 0 where
  pub form : InjectParts
  pub set : List ℕ
  pub parts : Option (List ℕ)

abbrev pub parts_text : List ℕ → Option (List ℕ)
parts_text text = if has_mark 58 text then Some (after_mark 58 text) else None

abbrev pub pieces_of : Word → Pieces
pieces_of (Traced text) = record { form = Inject; set = text; parts = None }
pieces_of (Tampered form text) = record { form = form; set = set_text text; parts = parts_text text }

abbrev pub shown : Cut → Pieces
shown cut = record { form = cut.form; set = cut.set.now; parts = option_map (λ parts. parts.now) cut.parts }

-- an item, or a part of an expression that takes these
pub data Piece : Type 0 where
  Item : List ℕ → Piece
  Part : InjectParts → List ℕ → Piece

abbrev pub piece_shown : RefusedPiece → Piece
piece_shown (TheItem item) = Item item.now
piece_shown (ThePart form part) = Part form part.now

-- an item comes before a part
abbrev pub first_piece : InjectParts → Option (List ℕ) → Option (List ℕ) → Option Piece
first_piece form (Some item) part = Some (Item item)
first_piece form None None = None
first_piece form None (Some part) = Some (Part form part)

-- the first piece that is refused with the kind by itself, if one is
abbrev pub IsRefusedPiece : ExprFault → Pieces → Option Piece → Type 0
IsRefusedPiece kind cut piece =
    (item : Option (List ℕ))
    × (IsRefusedItem kind (items cut.set) item
    × (piece ≡ first_piece cut.form item (refused_part kind cut.form cut.parts)))
