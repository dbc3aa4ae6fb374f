-- Which failures a sweep tries: each occurrence of each call that is wanted, with each error that is wanted of it.
use Rattle.std.specs.Prelude.{Bool, cond, List, [], map}
use Rattle.std.specs.List.{flat_map}
use Rattle.lx_abi.specs.declared.errno.Errno.{Errno}
use Rattle.lx_abi.specs.declared.log.Item.{Item}
use Rattle.lx_abi.specs.declared.script.Set.{Set}
use Rattle.lx_abi.specs.declared.script.Set.TheVariants.{AllBut}
use Rattle.lx_abi.specs.Scripts.{includes}
use Rattle.sweep_rows.specs.Entries.{rows_of}
use Rattle.sweep_rows.specs.Possible.{possible_errors, tells_of_loss}
use Rattle.sweep_rows.specs.declared.known.Occurrence.{Occurrence}
use Rattle.sweep_rows.specs.declared.wanted.Case.{Case}
use Rattle.sweep_rows.specs.declared.wanted.Errors.{Errors}
use Rattle.sweep_rows.specs.declared.wanted.Errors.TheVariants.{Possible, These}
use Rattle.sweep_rows.specs.declared.wanted.Wanted.{Wanted}

abbrev pub case_of : Occurrence → Errno → Case
case_of o error = record { occurrence = o; error = error; tells = tells_of_loss o error }

abbrev pub cases_at : Occurrence → List Errno → List Case
cases_at o errors = map (case_of o) errors

abbrev pub errors_at : Occurrence → Errors → List Errno
errors_at o Possible = possible_errors o
errors_at o (These errors) = errors.items

abbrev pub wanted_at : Occurrence → Wanted → List Case
wanted_at o w = cond (includes w.calls o.call.number) (cases_at o (errors_at o w.errors)) []

abbrev pub all_at : List Wanted → Occurrence → List Case
all_at wanted o = flat_map (wanted_at o) wanted

abbrev pub every_call : Set
every_call = AllBut []

-- in the order in which a log has the occurrences first, and of one in the order in which they are wanted
unfoldable pub cases_of : List Wanted → Bool → List Item → List Case
cases_of wanted follow log = flat_map (all_at wanted) (rows_of every_call follow log)
