-- A tracer's states, by the definitions.
use Rattle.std.specs.Prelude.{◌≡◌, ◌≤◌, ℕ, List}
use Rattle.lx_abi.specs.declared.ptrace.Reply.{Reply}
use Rattle.lx_model.specs.Kernel.{Script}
use Rattle.pt_model.specs.Parts.{Options}
use Rattle.pt_model.specs.Headline.{IsTexts}
use Rattle.pt_model.specs.Replies.{told_by}
use Rattle.tr_args.specs.Reads.{texts_of}
use Rattle.tr_line.specs.Lines.{rendering}
use Rattle.tr_line.specs.Printing.{new_printing}
use Rattle.tr_line.specs.declared.layout.Layout.{Layout}
use Rattle.tr_core.specs.Pens.{Pen, wrote}
use Rattle.tr_core.specs.States.{new_state, told, text}

-- after these replies it is the definition's tracer, and its bytes are those of the parts that this one shows
abbrev pub StatesAreTracers : Type 0
StatesAreTracers = (o : Options) (script : Script) (pen : Pen) (rs : List Reply) →
    ((told (new_state o script pen) rs).tracer ≡ (told_by o script rs).tracer)
    × (text (new_state o script pen) rs ≡ wrote pen (told_by o script rs).printed)

-- its texts are a tracer's
abbrev pub TextsAreWhole : Type 0
TextsAreWhole = (limit : ℕ) → limit ≤ 4096 → IsTexts (texts_of limit)

-- and its bytes, from a new printer, are the rendering of the parts
abbrev pub TracersWriteRenderings : Type 0
TracersWriteRenderings = (o : Options) (script : Script) (l : Layout) (rs : List Reply)
    → text (new_state o script (new_printing l)) rs ≡ rendering l (told_by o script rs).printed
