-- What a path is refused with.
use Rattle.std.proofs.Common.{ℕ, Bool, true, false, cond, List, [], ◌∷◌, length, Option, Some, None}
use Rattle.std.specs.Prelude.{◌==◌}
use Rattle.std.specs.List.{list_any}
use Rattle.std.specs.declared.result.Result.{Result}
use Rattle.std.specs.declared.result.Result.TheVariants.{Ok, Err}
use Rattle.lx_abi.specs.Errnos.{enoent, enotdir, enametoolong}
use Rattle.lx_abi.specs.declared.outcome.Node.{Node}
use Rattle.lx_abi.specs.declared.outcome.Node.TheVariants.{File, Directory}
use Rattle.lx_files.specs.Paths.{Path}
use Rattle.lx_files.specs.Places.{and_then, bar, beyond, entered, is_long, is_slashed, parts as parts_of, pieces, place, reached, start_of, unless_barred}
use Rattle.lx_files.specs.Trees.{node_at}
use Rattle.lx_files.specs.declared.places.Place.{Place}
use Rattle.lx_files.specs.declared.tree.Tree.{Tree}
use Rattle.lx_proc.proofs.Checks.{OfError}

module _ (E : ℕ → Type 0) where
  pub either_error : {A : Type 0} (test : Bool) (x y : Result A ℕ) → OfError E x → OfError E y → OfError E (cond test x y)
  either_error true x y h g = h
  either_error false x y h g = g

  pub then_error : {A B : Type 0} (f : A → Result B ℕ) (r : Result A ℕ) → OfError E r → ((x : A) → OfError E (f x)) → OfError E (and_then f r)
  then_error f (Ok x) h g = g x
  then_error f (Err e) h g = h

  module _ (absent : E enoent) (barred : E enotdir) where
    entered_error : (o : Option Node) (path : Path) → OfError E (unless_barred (bar o) path)
    entered_error None path = absent
    entered_error (Some (File bytes)) path = barred
    entered_error (Some Directory) path = tt

    reached_error : (tree : Tree) (slashed : Bool) (at : Path) (last : List ℕ) (parts : List (List ℕ)) → OfError E (reached tree slashed at last parts)
    unfolding reached
    reached_error tree slashed at last [] = tt
    reached_error tree slashed at last (part ∷ parts) =
        then_error (λ next. reached tree slashed next part parts) (entered tree (beyond at last)) (entered_error (node_at tree (beyond at last)) (beyond at last)) (λ next. reached_error tree slashed next part parts)

    -- nothing is there, a part is no directory, or one is too long
    pub place_error : E enametoolong → (tree : Tree) (directory : Path) (text : List ℕ) → OfError E (place tree directory text)
    unfolding place
    place_error long tree directory text =
        either_error (length text == 0) (Err enoent) _ absent
        (either_error (list_any is_long (pieces text)) (Err enametoolong) _ long
        (reached_error tree (is_slashed text) (start_of directory text) [] (parts_of (pieces text))))
