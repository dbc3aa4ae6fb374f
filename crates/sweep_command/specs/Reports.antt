-- The report on a sweep.
use Rattle.std.specs.Prelude.{◌≡◌, ◌⊎◌, ⊤, ℕ, suc, ◌-◌, ◌<◌, ◌==◌, ◌&&◌, ◌||◌, nat_lt, take, cond}
use Rattle.std.specs.Prelude.{Bool, true, false, List, [], ◌∷◌, ◌++◌, length, Option, Some, None, Result, IfOk, map, String}
use Rattle.std.specs.List.{list_any, slice_get}
use Rattle.front_end.specs.Statuses.{IsStatusOf}
use Rattle.front_end.specs.declared.fault.Fault.{Fault}
use Rattle.sweep_command.specs.Checks.{AreTold}
use Rattle.sweep_command.specs.Choosing.{AreChosen}
use Rattle.sweep_command.specs.Deep.{IsOfDeep, IsOfDeepRun}
use Rattle.sweep_command.specs.Naming.{listed}
use Rattle.sweep_deep.specs.Naming.{names}
use Rattle.sweep_command.specs.Started.{Ran}
use Rattle.sweep_command.specs.Trials.{IsOfTrial, IsOfTrials}
use Rattle.sweep_orders.specs.Orders.{AreOrders}
use Rattle.sweep_orders.specs.declared.exploring.Explored.{Explored}
use Rattle.sweep_orders.specs.declared.found.Found.{Found}
use Rattle.sweep_report.specs.Findings.{counts, status_of}
use Rattle.sweep_report.specs.Keys.{IsKey, IsOlder}
use Rattle.sweep_report.specs.Tallies.{unmarked}
use Rattle.sweep_rows.specs.declared.verdicts.Reached.{Reached}
use Rattle.sweep_runs.specs.Cases.{cases_of}
use Rattle.sweep_runs.specs.Rows.{fault_of, IsRow}
use Rattle.sweep_runs.specs.Runs.{Reaches}
use Rattle.sweep_rows.specs.declared.wanted.Case.{Case}
use Rattle.sweep_rows.specs.declared.wanted.Wanted.{Wanted}
use Rattle.sweep_rows.specs.declared.setup.Setup.{Setup}
use Rattle.sweep_rows.specs.declared.row.Row.{Row}
use Rattle.sweep_words.specs.Known.{IsKnown}
use Rattle.sweep_words.specs.declared.cases.NamedCase.{NamedCase}
use Rattle.sweep_words.specs.declared.plan.Plan.{Plan}
use Rattle.sweep_words.specs.declared.show.NamedRow.{NamedRow}
use Rattle.sweep_words.specs.declared.show.NamedRow.TheVariants.{Failure, Deep, Trial}
use Rattle.sweep_words.specs.declared.show.NamedRun.{NamedRun}
use Rattle.sweep_words.specs.declared.trials.Tried.{Tried}
use Rattle.sweep_words.specs.declared.words.Orders.{Orders}
use Rattle.sweep_words.specs.declared.words.Shard.{Shard}
use Rattle.sweep_words.specs.declared.words.Words.{Words}

-- a case is taken where none is waited for, and then so many are left out
abbrev pub taken : ℕ → Case → List Case
taken wait c = cond (wait == 0) (c ∷ []) []

abbrev pub waits : ℕ → ℕ → ℕ
waits between wait = cond (wait == 0) between (wait - 1)

-- so many are left out before the first of these cases, and so many between two
abbrev pub every : ℕ → ℕ → List Case → List Case
every between wait [] = []
every between wait (c ∷ cs) = taken wait c ++ every between (waits between wait) cs

abbrev pub part_of : Option Shard → List Case → List Case
part_of None cases = cases
part_of (Some s) cases = every s.between s.before cases

-- the failures are those that the words ask for, in the run without a failure
abbrev pub AreAll : Plan → Option Shard → Reached → List Case → Type 0
AreAll plan shard reference cases =
    map fault_of cases
    ≡ map fault_of (part_of shard (listed plan.is_listed plan.named.items
    (cases_of plan.wanted.items plan.setup.boot.follow reference.log.items)))

-- .. or the first of them, those that are likely to show something new
abbrev pub AreWanted : Plan → Words → Reached → List Case → Type 0
AreWanted plan words reference cases =
    (all : List Case) × AreAll plan words.shard reference all × AreChosen words.most all cases

-- the last of these rows is a finding
abbrev pub ends_found : Bool → Bool → List Row → Bool
ends_found strict found [] = found
ends_found strict found (r ∷ rs) = ends_found strict (counts strict r.verdict) rs

-- so many of these rows, if there is such a number, end with a finding
abbrev pub IsFound : Bool → List Row → Option ℕ → Type 0
IsFound strict rows None = ⊤
IsFound strict rows (Some n) =
    (i : ℕ) × (r : Row) × (n ≡ suc i) × (slice_get rows i ≡ Some r) × (counts strict r.verdict ≡ true)

-- what is told of a batch of rows: all of them, or the first ones, with which the sweep ends
pub record IsCut (strict fail_fast : Bool) (batch rows : List Row) (ended : Bool) : Type 0 where
  pub first : rows ≡ take (length rows) batch
  pub some : 0 < length batch → 0 < length rows
  pub found : ended ≡ true → (fail_fast && ends_found strict false rows) ≡ true

abbrev pub is_given : Option ℕ → Bool
is_given None = false
is_given (Some n) = true

-- the sweep ends with these rows: the last is a finding, and one is to end it, or its time is over, or no case is left
abbrev pub IsEnd : Bool → Words → List Row → List Case → Type 0
IsEnd strict words rows rest =
    ((words.fail_fast && ends_found strict false rows) ≡ true) ⊎ ((is_given words.seconds ≡ true) ⊎ (rest ≡ []))

-- rows of the first of these cases, up to the end of the sweep
pub record AreBegun (strict : Bool) (setup : Setup) (reference : Reached) (words : Words) (cases : List Case)
    (rows : List Row) : Type 0 where
  pub done : List Case
  pub rest : List Case
  pub all : done ++ rest ≡ cases
  pub made : AreTold words.is_checked setup reference done rows
  pub ended : IsEnd strict words rows rest

-- the row is a finding whose line, as it is or as older versions wrote it, is like one of those that are known; or it
-- isn't such a row
pub record IsMark {Z : Type 0} (strict : Bool) (known : List (String Z)) (row : Row) (mark : Bool) : Type 0 where
  pub key : List ℕ
  pub older : List ℕ
  pub is_key : IsKey row.verdict key
  pub is_older : IsOlder row.verdict older
  pub finding : mark ≡ true → counts strict row.verdict ≡ true
  pub like : mark ≡ true → IsKnown known key ⊎ IsKnown known older
  pub unlike : mark ≡ false → counts strict row.verdict ≡ true → ¬ (IsKnown known key) × ¬ (IsKnown known older)

-- such rows are marked, and no others; where none is known there are no marks
abbrev pub AreMarks : {Z : Type 0} → Bool → List (String Z) → List Row → List Bool → Type 0
AreMarks strict known [] [] = ⊤
AreMarks strict known (r ∷ rs) [] = known ≡ []
AreMarks strict known [] (m ∷ ms) = ⊥
AreMarks strict known (r ∷ rs) (m ∷ ms) = IsMark strict known r m × AreMarks strict known rs ms

-- the status is that of these rows, but for those that are known
pub record IsCounted (plan : Plan) (rows : List Row) (s : ℕ) : Type 0 where
  pub marks : List Bool
  pub are_marks : AreMarks plan.strict plan.known.items rows marks
  pub none_known : plan.known.items ≡ [] → marks ≡ []
  pub status_is : s ≡ status_of plan.strict (unmarked marks rows)

-- .. which are a row for each failure; 5 where no failure is asked for
pub record IsOfRows (plan : Plan) (words : Words) (reference : Reached) (s : ℕ) : Type 0 where
  pub cases : List Case
  pub rows : List Row
  pub wanted : AreWanted plan words reference cases
  pub made : AreBegun plan.strict plan.setup reference words cases rows
  pub status : ℕ
  pub counted : IsCounted plan rows status
  pub status_is : s ≡ cond (nat_lt 0 (length (listed plan.is_listed plan.named.items
      (cases_of plan.wanted.items plan.setup.boot.follow reference.log.items)))) status 5

-- The report on orders of turns.

-- a run did not end
abbrev pub hangs : List Found → Bool
hangs found = list_any (λ f. f.ending.alive) found

-- .. or there is more than one result and there is to be one
abbrev pub fails : Bool → List Found → Bool
fails one found = hangs found || (one && nat_lt 1 (length found))

-- .. or the command of a check fails on what a run left
abbrev pub orders_status : Bool → List Found → List Bool → ℕ
orders_status one found broken = cond (fails one found || list_any (λ b. b) broken) 1 0

-- the status is that of the results of so many orders; with a check each of them is broken or isn't
pub record IsOfOrders (plan : Plan) (words : Words) (orders : Orders) (reference : Reached) (s : ℕ) : Type 0 where
  pub explored : Explored
  pub tried : AreOrders plan.setup reference.log.items orders.count orders.seed explored
  pub broken : List Bool
  pub each : length broken ≡ cond words.is_checked (length explored.found.items) 0
  pub status_is : s ≡ orders_status orders.one explored.found.items broken

-- The report that the words ask for.

-- the status is that of a run which they name
pub record IsOfRun (plan : Plan) (reference : Reached) (run : NamedRun) (s : ℕ) : Type 0 where
  pub row : Row
  pub named : names run row.case ≡ true
  pub made : IsRow plan.setup reference row
  pub status_is : s ≡ status_of plan.strict (row.verdict ∷ [])

-- with a failure, or with two, or in which something else happens
abbrev pub IsOfShown : Plan → Reached → NamedRow → ℕ → Type 0
IsOfShown plan reference (Failure run) s = IsOfRun plan reference run s
IsOfShown plan reference (Deep named) s = IsOfDeepRun plan reference named s
IsOfShown plan reference (Trial named) s = IsOfTrial plan reference named s

-- .. or of the runs with a failure, or those with another behind it
abbrev pub IsOfFailures : Plan → Words → Reached → Option Wanted → ℕ → Type 0
IsOfFailures plan words reference None s = IsOfRows plan words reference s
IsOfFailures plan words reference (Some wanted) s = IsOfDeep plan reference wanted s

-- .. or of those in which something else happens at calls
abbrev pub IsOfEnds : Plan → Words → Reached → Option Tried → ℕ → Type 0
IsOfEnds plan words reference None s = IsOfFailures plan words reference plan.deep s
IsOfEnds plan words reference (Some tried) s = IsOfTrials plan reference tried s

-- .. or of those by orders of turns
abbrev pub IsOfAll : Plan → Words → Reached → Option Orders → ℕ → Type 0
IsOfAll plan words reference None s = IsOfEnds plan words reference plan.tried s
IsOfAll plan words reference (Some orders) s = IsOfOrders plan words orders reference s

abbrev pub IsOfReport : Plan → Words → Reached → ℕ → Type 0
IsOfReport plan words reference s =
    ((row : NamedRow) × IsOfShown plan reference row s) ⊎ IsOfAll plan words reference words.orders s

-- the status of a sweep is that of its report, beside the run without a failure, whose program began and ended by itself
pub record IsOfSweep (s : ℕ) : Type 0 where
  pub plan : Plan
  pub words : Words
  pub reference : Reached
  pub runs : Reaches plan.setup [] reference
  pub ran : Ran reference
  pub of_report : IsOfReport plan words reference s

-- The report on the cases that a file names, each of which is a sweep.

-- for each case the status of a sweep
abbrev pub AreOfSweeps : List NamedCase → List ℕ → Type 0
AreOfSweeps [] [] = ⊤
AreOfSweeps (c ∷ cs) [] = ⊥
AreOfSweeps [] (s ∷ ss) = ⊥
AreOfSweeps (c ∷ cs) (s ∷ ss) = IsOfSweep s × AreOfSweeps cs ss

-- 1 where that of some case is; and else 0 where that of some case is, or 5, where nothing was tried in any
abbrev pub cases_status : List ℕ → ℕ
cases_status each = cond (list_any (λ one. one == 1) each) 1 (cond (list_any (λ one. one == 0) each) 0 5)

-- the status is that of the cases
pub record IsOfCases (s : ℕ) : Type 0 where
  pub cases : List NamedCase
  pub each : List ℕ
  pub are : AreOfSweeps cases each
  pub status_is : s ≡ cases_status each

-- .. of the cases, likewise
abbrev pub AreSwept : ℕ → Type 0
AreSwept s = (ended : Result ℕ Fault) × (IfOk ended IsOfCases × IsStatusOf ended s)

-- the program's status, where the parser takes its words, is that of the sweep, or of the fault in which it ended
abbrev pub IsSwept : ℕ → Type 0
IsSwept s = (ended : Result ℕ Fault) × (IfOk ended IsOfSweep × IsStatusOf ended s)
