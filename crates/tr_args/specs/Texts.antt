-- The texts of calls as a tracer has them: functions of a call's half and of what was read for it.
use Rattle.std.specs.Prelude.{ℕ, ◌≤◌}
use Rattle.pt_model.specs.Parts.{Half, At_entry, At_exit, Texts}
use Rattle.pt_model.specs.Headline.{IsTexts}
use Rattle.tr_args.specs.declared.context.Context.{Context}
use Rattle.tr_args.specs.Arguments.{half, wish_of, text_of}
use Rattle.tr_args.specs.Decoders.{entering, leaving}

abbrev pub context_of : ℕ → Half → Context
context_of most (At_entry call sp) = entering call.number call.arguments sp most
context_of most (At_exit call result) = leaving call.number call.arguments result most

abbrev pub texts : ℕ → Texts
texts most = record {
  wants = λ h got. wish_of (half (context_of most h) got);
  text = λ h got. text_of (half (context_of most h) got);
}

-- each read is one that is answered, and a text is whole after so many
abbrev pub TextsAreTexts : Type 0
TextsAreTexts = (most : ℕ) → most ≤ 4096 → IsTexts (texts most)
