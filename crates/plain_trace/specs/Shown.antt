-- The trace of a log: the rendering of all that it says of tracees.
use Rattle.std.specs.Prelude.{ℕ, Bool, cond, List, [], ◌∷◌}
use Rattle.lx_abi.specs.declared.log.Call.{Call}
use Rattle.lx_abi.specs.declared.log.Item.{Item}
use Rattle.lx_abi.specs.declared.log.Item.TheVariants.{Enter, Done, Taken, Stopped, Exit}
use Rattle.lx_abi.specs.Log.{Note, Noted, pid_of}
use Rattle.lx_abi.specs.Scripts.{includes}
use Rattle.lx_model.specs.Kernel.{traces}
use Rattle.pt_model.specs.Parts.{At_entry, At_exit, Part, Part_enter, Part_done, Part_signal, Part_stopped, Part_exit}
use Rattle.pt_model.specs.Requests.{info_of}
use Rattle.pt_model.specs.View.{parts, traced}
use Rattle.tr_args.specs.Decoders.{Decoding, text}
use Rattle.tr_core.specs.Settings.{layout_by, options_by}
use Rattle.tr_core.specs.declared.settings.Options.{Options}
use Rattle.tr_line.specs.Lines.{rendering}
use Rattle.tr_line.specs.Printing.{Printing, after_part}
use Rattle.plain_trace.specs.Reading.{decoded}

-- the parts that are shown
abbrev pub shown : Options → List Noted → List Part
shown o log = parts (options_by o) (traced o.follow log)

unfoldable pub text_of : Options → List Noted → List ℕ
text_of o log = rendering (layout_by o) (shown o log)

-- a printer behind these parts
unfoldable pub after_parts : Printing → List Part → Printing
after_parts s [] = s
after_parts s (x ∷ more) = after_parts (after_part s x) more

-- Of one item, by the decoder of its call's text

unfoldable pub entry_parts : Options → ℕ → Call → Decoding → List Part
entry_parts o pid call d = cond (includes o.shown call.number) (Part_enter pid call (text d) ∷ []) []

unfoldable pub result_parts : Options → ℕ → Call → ℕ → Bool → Decoding → List Part
result_parts o pid call x replaced d =
    cond (includes o.shown call.number) (Part_done pid call x replaced (text d) ∷ []) []

unfoldable pub parts_of : Options → Note → Item → List Part
parts_of o note (Enter pid call) = entry_parts o pid call (decoded o.string_limit note (At_entry call note.sp))
parts_of o note (Done pid call x replaced) =
    result_parts o pid call x replaced (decoded o.string_limit note (At_exit call x))
parts_of o note (Taken pid signal cause) = Part_signal pid (info_of signal cause) ∷ []
parts_of o note (Stopped pid signal) = Part_stopped pid signal ∷ []
parts_of o note (Exit pid word left) = Part_exit pid word ∷ []

-- where it is a tracee's
abbrev pub shown_item : Options → Noted → List Part
shown_item o n = cond (traces o.follow (pid_of n.item)) (parts_of o n.note n.item) []
