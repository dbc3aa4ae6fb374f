-- The values that a command's words give its options.
use Rattle.std.specs.Prelude.{ℕ, List, [], Option, Some, None, option_map}
use Rattle.clap.specs.Words.{first_value, found_of, matched_of, raw_values}
use Rattle.clap.specs.declared.parser.matches.ArgMatches.{ArgMatches}

-- the first value, where the option has one
abbrev pub value_of : ArgMatches → List ℕ → Option (List ℕ)
value_of words option = first_value (found_of words) option

abbrev pub all_of : {A : Type 0} → Option (List A) → List A
all_of None = []
all_of (Some xs) = xs

-- all its values
abbrev pub values_of : ArgMatches → List ℕ → List (List ℕ)
values_of words option = all_of (option_map raw_values (matched_of (found_of words) option))

-- and their places among the words
abbrev pub places_of : ArgMatches → List ℕ → List ℕ
places_of words option = all_of (option_map (λ a. a.indices.items) (matched_of (found_of words) option))
