-- What is read for the texts of a call's arguments, and the texts, by halves of calls.
use Rattle.std.specs.Prelude.{ℕ, List, Option}
use Rattle.pt_model.specs.Parts.{Half, At_entry, At_exit, Texts}
use Rattle.tr_args.specs.Arguments.{wish_of, text_of as shown_text, half as shown_half}
use Rattle.tr_args.specs.Texts.{context_of}
use Rattle.tr_args.specs.declared.halves.Half.{Half as CodeHalf}
use Rattle.tr_args.specs.declared.halves.Half.TheVariants.{Entry, Exit}

abbrev pub half_of : CodeHalf → Half
half_of (Entry call stack) = At_entry call stack
half_of (Exit call x) = At_exit call x

unfoldable pub wants_of : ℕ → Half → List (List ℕ) → Option (ℕ × ℕ)
wants_of limit half got = wish_of (shown_half (context_of limit half) got)

unfoldable pub text_of : ℕ → Half → List (List ℕ) → List ℕ
text_of limit half got = shown_text (shown_half (context_of limit half) got)

abbrev pub texts_of : ℕ → Texts
texts_of limit = record { wants = wants_of limit; text = text_of limit }
