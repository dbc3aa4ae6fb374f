-- How a run's calls go beside those of a reference.
use Rattle.std.specs.Prelude.{◌≡◌, ℕ, suc, ◌==◌, Bool, false, cond, List, [], ◌∷◌, length, Option, Some, None}
use Rattle.std.specs.List.{list_all, slice_get}
use Rattle.lx_abi.specs.declared.log.Item.{Item}
use Rattle.lx_abi.specs.declared.outcome.Ended.{Ended}
use Rattle.sweep_rows.specs.Calls.{calls_by, calls_in}
use Rattle.sweep_rows.specs.declared.calls.Calls.{Calls}
use Rattle.sweep_rows.specs.declared.likeness.Likeness.{Likeness}
use Rattle.sweep_rows.specs.declared.likeness.Likeness.TheVariants.{Same, Other}

abbrev pub is_call : Option ℕ → ℕ → Bool
is_call None call = false
is_call (Some number) call = number == call

-- after a call more, where the reference's are these
abbrev pub next_likeness : List ℕ → Likeness → ℕ → Likeness
next_likeness expected (Same n) call = cond (is_call (slice_get expected n) call) (Same (suc n)) Other
next_likeness expected Other call = Other

-- after these calls
abbrev pub likeness_by : List ℕ → Likeness → List ℕ → Likeness
likeness_by expected likeness [] = likeness
likeness_by expected likeness (call ∷ calls) = likeness_by expected (next_likeness expected likeness call) calls

-- they are the reference's, all of them
abbrev pub is_whole : List ℕ → Likeness → Bool
is_whole expected (Same n) = n == length expected
is_whole expected Other = false

-- those of this log's calls are these, by process
abbrev pub GoBeside : Calls → (ℕ → Likeness) → List Item → Type 0
GoBeside calls likeness log = (pid : ℕ) → likeness pid ≡ likeness_by (calls_in calls pid) (Same 0) (calls_by pid log)

-- each of these processes has made all calls of the reference's, and no other
unfoldable pub are_whole : Calls → (ℕ → Likeness) → List Ended → Bool
are_whole calls likeness ended = list_all (λ e. is_whole (calls_in calls e.pid) (likeness e.pid)) ended
