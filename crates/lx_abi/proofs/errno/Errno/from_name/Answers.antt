use Rattle.std.proofs.Common.{◌≡◌, ◌∙◌, option_map, find, ap, true, sym, Some, None, refl}
use Rattle.std.specs.Option.{option_copied}
use Rattle.std.specs.Str.{bytes_eq}
use Rattle.lx_abi.specs.Errors.{errors, errno_number, errno_numbered, is_errno}
use Rattle.lx_abi.specs.Tables.{error_row}
use Rattle.lx_abi.proofs.Finds.{find_keeps}
use Rattle.lx_abi.proofs.ErrnoNumbers.{number_of}
use Rattle.lx_abi.proofs.errno.Errno.from_name.Goals as goal

pub returns-in_err-row : goal.returns-in_err-row
unfolding errno_number
returns-in_err-row c =
    let row : option_map error_row (option_copied c.row_named.result) ≡ find (λ row. bytes_eq row.1 c.args.name.now) errors = c.row_named.ensures ∙ ap (λ rows. find (λ row. bytes_eq row.1 c.args.name.now) rows) c.rows.ensures in
    let none : find (λ row. bytes_eq row.1 c.args.name.now) errors ≡ None = sym row ∙ ap (λ o. option_map error_row (option_copied o)) (c.in_err-row.was) in
    ap (λ o. option_map (λ x. x.number) o) c.from_residual.ensures ∙ ap (λ o. option_map (λ r. r.0) o) (sym none)

pub returns : goal.returns
unfolding errno_number errors
returns c =
    let row : option_map error_row (option_copied c.row_named.result) ≡ find (λ row. bytes_eq row.1 c.args.name.now) errors = c.row_named.ensures ∙ ap (λ rows. find (λ row. bytes_eq row.1 c.args.name.now) rows) c.rows.ensures in
    let found : find (λ row. bytes_eq row.1 c.args.name.now) errors ≡ Some (error_row c.in_ok-row.row.now) = sym row ∙ ap (λ o. option_map error_row (option_copied o)) (c.in_ok-row.was) in
    let small : is_errno c.in_ok-row.row.now.0 ≡ true = find_keeps (λ row. bytes_eq row.1 c.args.name.now) (λ row. is_errno row.0) (error_row c.in_ok-row.row.now) errors found refl in
    ap (λ o. option_map (λ x. x.number) o) (c.from_number.ensures ∙ ap errno_numbered c.from.ensures)
    ∙ (number_of c.in_ok-row.row.now.0 small ∙ ap (λ o. option_map (λ r. r.0) o) (sym found))
