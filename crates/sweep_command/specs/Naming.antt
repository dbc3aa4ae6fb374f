-- The runs that a file names, a line each.
use Rattle.std.specs.Prelude.{cond, Bool, List, [], ◌∷◌, ◌++◌}
use Rattle.std.specs.List.{list_any}
use Rattle.sweep_rows.specs.declared.wanted.Case.{Case}
use Rattle.sweep_deep.specs.Naming.{names}
use Rattle.sweep_words.specs.declared.named.NamedLine.{NamedLine}

-- a line names the run of this case
abbrev pub is_named : List NamedLine → Case → Bool
is_named lines c = list_any (λ l. names l.run c) lines

abbrev pub kept_if : Bool → Case → List Case
kept_if is_kept c = cond is_kept (c ∷ []) []

-- those alone that a line names
abbrev pub only_named : List NamedLine → List Case → List Case
only_named lines [] = []
only_named lines (c ∷ cs) = kept_if (is_named lines c) c ++ only_named lines cs

-- .. where a file names the runs
abbrev pub listed : Bool → List NamedLine → List Case → List Case
listed is_listed lines cases = cond is_listed (only_named lines cases) cases
