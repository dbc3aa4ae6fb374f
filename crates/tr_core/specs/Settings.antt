-- What a tracer is made with, as the definitions have it.
use Rattle.lx_abi.specs.Scripts.{includes, choice_of}
use Rattle.lx_model.specs.Kernel.{Script}
use Rattle.pt_model.specs.Parts as parts
use Rattle.tr_core.specs.declared.settings.Settings.{Settings}
use Rattle.tr_core.specs.declared.settings.Options.{Options}
use Rattle.tr_args.specs.Reads.{texts_of}
use Rattle.tr_core.specs.Pens.{Pen}
use Rattle.tr_line.specs.Printing.{new_printing}
use Rattle.tr_line.specs.declared.layout.Layout.{Layout}

abbrev pub options_by : Options → parts.Options
options_by o = record { follow = o.follow; shows = includes o.shown; texts = texts_of o.string_limit }

abbrev pub layout_by : Options → Layout
layout_by o = record { follow = o.follow; width = o.width }

-- the printer at the beginning
abbrev pub first_pen : Options → Pen
first_pen o = new_printing (layout_by o)

abbrev pub options_of : Settings → parts.Options
options_of settings = options_by settings.options

abbrev pub script_of : Settings → Script
script_of settings = choice_of settings.script
