-- An argument that is a list is the list, and a list that is open is begun.
use Rattle.std.proofs.Common.{ℕ, ◌≡◌, Bool, true, Option, None, Result, Err, refl, subst}
use Rattle.lx_abi.specs.declared.calls.Argument.{Argument}
use Rattle.lx_abi.specs.declared.calls.Argument.TheVariants as kind
use Rattle.tr_args.specs.declared.context.ArgumentPlace.{ArgumentPlace}
use Rattle.tr_args.specs.declared.lists.Listing.{Listing}
use Rattle.tr_values.specs.declared.sheet.Needed.{Needed}
use Rattle.tr_values.specs.declared.sheet.Needed.TheVariants.{Wants as Stops, Memory}
use Rattle.tr_values.specs.Sheets.{Sheet, Shown, Has}
use Rattle.tr_args.specs.Kinds.{shown, argument, next_argument}
use Rattle.tr_args.specs.Progress.{is_list, list_shown, list_left, Moves, Takes, Begins}

list_is : (some : Bool) (p : ArgumentPlace) → list_shown p.most some p.value ≡ next_argument some kind.Strings p
unfolding argument shown
list_is some p = refl

pub begins_list : (r : Result (Option Listing) Needed) (some : Bool) (a : Argument) (p : ArgumentPlace) (s t : Sheet) → is_list a ≡ true → Begins r p.most (list_shown p.most some p.value) s t → Begins r p.most (next_argument some a p) s t
begins_list r some kind.Strings p s t e h = subst (λ f. Begins r p.most f s t) (list_is some p) h
begins_list r some _ p s t e h = cc

pub begins_other : (most : ℕ) (f : Sheet → Shown) (s t : Sheet) → Moves f s (λ x. Has x) t → Moves f s (list_left most None) t
unfolding list_left
begins_other most f s t m = m

pub begins_not : (e : Needed) (most : ℕ) (f : Sheet → Shown) (s t : Sheet) → Takes (Err e) f s t → Begins (Err e) most f s t
begins_not (Stops a n) most f s t h = h
begins_not Memory most f s t h = tt
