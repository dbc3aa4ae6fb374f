-- How far the text of a half of a call is made: what is left of it, and that later reads change nothing of what is
-- made.
use Rattle.std.specs.Prelude.{◌≡◌, ◌≤◌, ◌<◌, ℕ, ◌+◌, ◌^◌, Bool, true, false, List, [], ◌∷◌, ◌++◌, length, take}
use Rattle.std.specs.Prelude.{drop, codes, map, min, ◌||◌, nat_lt, nat_le}
use Rattle.std.specs.Prelude.{Option, Some, None, Result, Ok, Err, ⊤, string_bytes, if◌then◌else◌}
use Rattle.std.specs.Borrow.{Bor}
use Rattle.lx_abi.specs.declared.calls.Argument.{Argument}
use Rattle.lx_abi.specs.declared.calls.Argument.TheVariants as kind
use Rattle.tr_args.specs.declared.context.Context.{Context}
use Rattle.tr_args.specs.declared.lists.Listing.{Listing}
use Rattle.tr_args.specs.declared.progress.Row.{Row}
use Rattle.tr_args.specs.declared.progress.Stage.{Stage}
use Rattle.tr_args.specs.declared.progress.Stage.TheVariants.{Unbegun, Under, Whole}
use Rattle.tr_args.specs.declared.progress.Made.{Made}
use Rattle.tr_values.specs.declared.sheet.Needed.{Needed}
use Rattle.tr_values.specs.declared.sheet.Needed.TheVariants.{Wants as Stops, Memory}
use Rattle.tr_values.specs.Sheets.{Sheet, Shown, Has, Wants, put, ◌>>=◌}
use Rattle.tr_args.specs.Lists.{comma, item, list, word, words, null_at, most_items}
use Rattle.tr_values.specs.Numbers.{pointer_text}
use Rattle.tr_args.specs.Arguments.{arguments, half, half_by, wish_of}

abbrev pub sheet : List ℕ → List (List ℕ) → Sheet
sheet out left = record { out = out; left = left }

-- an item, and a list, behind a comma where one stands before it
abbrev pub item_shown : ℕ → Bool → ℕ → Sheet → Shown
item_shown most some address s = put (comma some) s >>= item most address

abbrev pub list_shown : ℕ → Bool → ℕ → Sheet → Shown
list_shown most some address s = put (comma some) s >>= list most address

-- the items at these addresses
unfoldable pub items_at : ℕ → Bool → List ℕ → Sheet → Shown
items_at most some [] s = Has s
items_at most some (a ∷ more) s = item_shown most some a s >>= items_at most true more

-- what is left of a list, and its end
abbrev pub items_left : ℕ → Listing → Sheet → Shown
items_left most l s = items_at most l.some (drop l.next l.addresses.items) s

abbrev pub end_text : Bool → List ℕ
end_text cut = if cut then codes ", ...]" else codes "]"

unfoldable pub list_left : ℕ → Option Listing → Sheet → Shown
list_left most None s = Has s
list_left most (Some l) s = items_left most l s >>= put (end_text l.cut)

-- what is left of a row: of the list under way, and the arguments behind it
unfoldable pub row_left : Context → Row → Sheet → Shown
row_left c r s = list_left c.most r.list s >>= arguments c r.some r.number r.kinds.now

-- behind the arguments of a half
abbrev pub behind : Bool → List ℕ
behind comma = if comma then codes ", " else []

unfoldable pub stage_left : Context → Stage → Sheet → Shown
stage_left c Unbegun s = half_by c.result c s
stage_left c (Under r) s = row_left c r s >>= put (behind r.comma)
stage_left c Whole s = Has s

-- some of the reads were taken, and what was one function is another, whatever is read later
pub record Moves (f : Sheet → Shown) (s : Sheet) (g : Sheet → Shown) (t : Sheet) : Type 0 where
  pub front : List (List ℕ)
  pub rest : s.left ≡ front ++ t.left
  pub goes : (more : List (List ℕ)) → f (sheet s.out (front ++ more)) ≡ g (sheet t.out more)

-- all of it is shown, or nothing
abbrev pub Takes : Result (Unit {0}) Needed → (Sheet → Shown) → Sheet → Sheet → Type 0
Takes (Ok u) f s t = Moves f s (λ x. Has x) t
Takes (Err (Stops address length)) f s t = (f s ≡ Wants address length) × (t ≡ s)
Takes (Err Memory) f s t = ⊤

-- all of it is shown, or a part
abbrev pub Goes : Result (Unit {0}) Needed → (Sheet → Shown) → Sheet → (Sheet → Shown) → Sheet → Type 0
Goes (Ok u) f s g t = Moves f s (λ x. Has x) t
Goes (Err (Stops address length)) f s g t = Moves f s g t × (g t ≡ Wants address length)
Goes (Err Memory) f s g t = ⊤

-- all of it is shown but a list, or nothing
abbrev pub Begins : Result (Option Listing) Needed → ℕ → (Sheet → Shown) → Sheet → Sheet → Type 0
Begins (Ok list) most f s t = Moves f s (list_left most list) t
Begins (Err (Stops address length)) most f s t = (f s ≡ Wants address length) × (t ≡ s)
Begins (Err Memory) most f s t = ⊤

-- an argument that is a list of strings
abbrev pub is_list : Argument → Bool
is_list kind.Strings = true
is_list _ = false

-- of the bytes of a list's pointers: what stands before its items, their addresses, and whether there are more than
-- are shown; or its address alone
abbrev pub opened_by : Bool → ℕ → List (List ℕ) → List ℕ × Option (List ℕ × Bool)
opened_by true address ws =
    (codes "[", Some (map word (take (min (null_at ws) most_items) ws), nat_lt most_items (null_at ws)))
opened_by false address ws = (pointer_text address, None)

abbrev pub opened : ℕ → List ℕ → List ℕ × Option (List ℕ × Bool)
opened address bs =
    opened_by (nat_lt (null_at (words bs)) (length (words bs)) || nat_le 264 (length bs)) address (words bs)

abbrev pub listing_of : Option Listing → Option (List ℕ × Bool)
listing_of None = None
listing_of (Some l) = Some (drop l.next l.addresses.items, l.cut)

abbrev pub none_shown : Option Listing → Type 0
none_shown None = Unit {0}
none_shown (Some l) = l.some ≡ false

abbrev pub Finds : Result (Option Listing) Needed → List ℕ × Option (List ℕ × Bool) → Sheet → Sheet → Type 0
Finds (Ok list) o s t = (listing_of list ≡ o.1) × none_shown list × (t ≡ sheet (s.out ++ o.0) s.left)
Finds (Err (Stops address length)) o s t = ⊥
Finds (Err Memory) o s t = ⊤

abbrev pub kinds_of : Option (Argument × Bor (List Argument)) → List Argument
kinds_of None = []
kinds_of (Some k) = k.0 ∷ k.1.now

-- what stands before the arguments of a half is shown
abbrev pub Starts : Result Row Needed → Context → Sheet → Sheet → Type 0
Starts (Ok row) c s t = Moves (half_by c.result c) s (stage_left c (Under row)) t
Starts (Err (Stops address length)) c s t = ⊥
Starts (Err Memory) c s t = ⊤

-- an argument has a number
abbrev pub numbered : Stage → ℕ
numbered Unbegun = 0
numbered (Under row) = row.number + length row.kinds.now
numbered Whole = 0

-- some of it isn't made
abbrev pub is_left : Stage → Bool
is_left Unbegun = true
is_left (Under row) = true
is_left Whole = false

abbrev pub is_wanted : Option (ℕ × ℕ) → Bool
is_wanted None = false
is_wanted (Some w) = true

-- of a half's reads so many were taken, and the rest is left
pub record IsMade (c : Context) (got : List (List ℕ)) (m : Made) : Type 0 where
  pub within : m.used ≤ length got
  pub few : numbered m.stage < 2 ^ 32
  pub goes : (more : List (List ℕ))
      → half c (take m.used got ++ more) ≡ stage_left c m.stage (sheet (string_bytes m.text) more)

-- what is made of a sheet, and what is read next
pub record Makes (c : Context) (f : Sheet → Shown) (s : Sheet) (count : ℕ) (m : Made) (wish : Option (ℕ × ℕ))
    : Type 0 where
  pub left : List (List ℕ)
  pub moves : Moves f s (stage_left c m.stage) (sheet (string_bytes m.text) left)
  pub used : m.used + length left ≡ count
  pub few : numbered m.stage < 2 ^ 32
  pub next : wish ≡ wish_of (stage_left c m.stage (sheet (string_bytes m.text) left))
  pub whole : is_wanted wish ≡ is_left m.stage
