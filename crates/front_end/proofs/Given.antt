-- Values of options, or none.
use Rattle.std.proofs.Common.{◌≡◌, List, [], map, Option, Some, None, refl, sym, ap, ◌∙◌, unwrap_or}
use Rattle.std.specs.Prelude.{option_map}
use Rattle.std.specs.Borrow.{Bor}
use Rattle.front_end.specs.Values.{all_of}

pub all_given : {A B : Type 0} (f : A → List B) (o : Option A) (none : A) → f none ≡ []
    → f (unwrap_or o none) ≡ all_of (option_map f o)
all_given f None none is = is
all_given f (Some x) none is = refl
