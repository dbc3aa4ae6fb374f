-- The decoder of a half of a call: what it is of, and what was read for it so far.
use Rattle.std.specs.Prelude.{ℕ, Option, Some, None, List, [], ◌∷◌, ◌++◌}
use Rattle.tr_args.specs.Arguments.{half, wish_of, text_of}
use Rattle.tr_args.specs.declared.context.Context.{Context}

pub record Decoding : Type 0 where
  pub context : Context
  -- in the order of the reads
  pub got : List (List ℕ)

abbrev pub started : Context → Decoding
started context = record { context = context; got = [] }

abbrev pub entering : ℕ → List ℕ → ℕ → ℕ → Context
entering number arguments sp most = record {
  number = number;
  arguments = arguments;
  sp = sp;
  result = None;
  most = most;
}

abbrev pub leaving : ℕ → List ℕ → ℕ → ℕ → Context
leaving number arguments value most = record {
  number = number;
  arguments = arguments;
  sp = 0;
  result = Some value;
  most = most;
}

abbrev pub given : Decoding → List ℕ → Decoding
given d bytes = record { context = d.context; got = d.got ++ bytes ∷ [] }

-- the address and the length that are read next; none once the text is whole
abbrev pub wants : Decoding → Option (ℕ × ℕ)
wants d = wish_of (half d.context d.got)

-- the text, empty until all was read
abbrev pub text : Decoding → List ℕ
text d = text_of (half d.context d.got)
