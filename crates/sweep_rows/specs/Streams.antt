-- What a run has written to the console, parted by where it was said.
use Rattle.std.specs.Prelude.{ℕ, suc, ◌==◌, ◌||◌, min, Bool, true, false, not, cond, List, [], ◌∷◌, ◌++◌, length}
use Rattle.std.specs.Prelude.{take, drop}
use Rattle.lx_abi.specs.Sys.{sys_write}
use Rattle.lx_abi.specs.declared.log.Call.{Call}
use Rattle.lx_abi.specs.declared.log.Item.{Item}
use Rattle.lx_abi.specs.declared.log.Item.TheVariants.{Enter, Done, Taken, Stopped, Exit}
use Rattle.sweep_rows.specs.Descriptors.{descriptor, is_failure, at_boot, after_item}
use Rattle.sweep_rows.specs.declared.descriptors.Target.{Target}
use Rattle.sweep_rows.specs.declared.descriptors.Target.TheVariants.{Input, Output, Error, File, Other}
use Rattle.sweep_rows.specs.declared.descriptors.Use.{Use}
use Rattle.sweep_rows.specs.declared.streams.Piece.{Piece}
use Rattle.sweep_rows.specs.declared.streams.Streams.{Streams}

abbrev pub no_piece : Piece
no_piece = record { length = 0; error = false }

-- errors are what was written by descriptor 2, or by a copy of it
abbrev pub piece_to : Target → ℕ → ℕ → Piece
piece_to Input number n = no_piece
piece_to Output number n = record { length = n; error = number == 2 }
piece_to Error number n = record { length = n; error = true }
piece_to (File at) number n = no_piece
piece_to Other number n = no_piece

abbrev pub piece_by : (ℕ → ℕ → Use) → ℕ → Call → ℕ → Piece
piece_by uses pid call n = piece_to (uses pid (descriptor call)).target (descriptor call) n

-- what an item has written to the console, where descriptors stand for this
unfoldable pub piece_of : (ℕ → ℕ → Use) → Item → Piece
piece_of uses (Enter pid call) = no_piece
piece_of uses (Done pid call n replaced) =
    cond (replaced || (is_failure n || not (call.number == sys_write))) no_piece (piece_by uses pid call n)
piece_of uses (Taken pid signal cause) = no_piece
piece_of uses (Stopped pid signal) = no_piece
piece_of uses (Exit pid word left) = no_piece

abbrev pub with_piece : Bool → List ℕ → Streams → Streams
with_piece true text s = record s { err = s.err ++ text }
with_piece false text s = record s { out = s.out ++ text }

abbrev pub said_in : Piece → List ℕ → ℕ
said_in piece text = min piece.length (length text)

-- the text that is left, parted by the items that are left, the first of which has this place, behind what was parted
-- so far
abbrev pub parted : ℕ → (ℕ → ℕ → Use) → Streams → List ℕ → List Item → Streams
parted at uses s text [] = s
parted at uses s text (i ∷ is) =
    let piece = piece_of uses i in
    parted (suc at) (after_item at i uses)
    (with_piece piece.error (take (said_in piece text) text) s) (drop (said_in piece text) text) is

abbrev pub silent : Streams
silent = record { out = []; err = [] }

unfoldable pub streams_of : List Item → List ℕ → Streams
streams_of log console = parted 0 at_boot silent console log
