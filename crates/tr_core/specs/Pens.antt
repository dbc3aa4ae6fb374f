-- The bytes of the parts of a trace, one after another: tr_line's printer.
use Rattle.std.specs.Prelude.{ℕ, List, [], ◌∷◌, ◌++◌}
use Rattle.std.specs.FinMap as maps
use Rattle.pt_model.specs.Parts.{Part}
use Rattle.tr_line.specs.Printing.{Printing, writes, after_part}

-- what the printer knows between two parts
abbrev pub Pen : Type 0
Pen = Printing

abbrev pub bytes_of_part : Pen → Part → List ℕ
bytes_of_part pen part = writes pen.layout pen.line (maps.get pen.calls) part

abbrev pub pen_after_part : Pen → Part → Pen
pen_after_part pen part = after_part pen part

-- the bytes of parts in a row
unfoldable pub wrote : Pen → List Part → List ℕ
wrote pen [] = []
wrote pen (part ∷ parts) = bytes_of_part pen part ++ wrote (pen_after_part pen part) parts

-- the printer after them
unfoldable pub pen_after : Pen → List Part → Pen
pen_after pen [] = pen
pen_after pen (part ∷ parts) = pen_after (pen_after_part pen part) parts
