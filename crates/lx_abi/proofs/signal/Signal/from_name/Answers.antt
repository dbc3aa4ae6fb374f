use Rattle.std.proofs.Common.{◌≡◌, ◌∙◌, option_map, find, ap, true, sym, Some, None, refl}
use Rattle.std.specs.Option.{option_copied}
use Rattle.std.specs.Str.{bytes_eq}
use Rattle.lx_abi.specs.Signals.{signals, signal_number, signal_numbered, is_signal, without_sig}
use Rattle.lx_abi.specs.Tables.{signal_row}
use Rattle.lx_abi.proofs.Finds.{find_keeps}
use Rattle.lx_abi.proofs.SignalNumbers.{number_of}
use Rattle.lx_abi.proofs.signal.Signal.from_name.Goals as goal

pub returns-in_err-row : goal.returns-in_err-row
unfolding signal_number signals
returns-in_err-row c =
    let row : option_map signal_row (option_copied c.row_named.result) ≡ find (λ row. bytes_eq row.1 (without_sig c.args.name.now)) signals = rw c.bare_name.ensures at c.row_named.ensures in
    let none : find (λ row. bytes_eq row.1 (without_sig c.args.name.now)) signals ≡ None = sym row ∙ ap (λ o. option_map signal_row (option_copied o)) (c.in_err-row.was) in
    ap (λ o. option_map (λ x. x.number) o) c.from_residual.ensures ∙ ap (λ o. option_map (λ r. r.0) o) (sym none)

pub returns : goal.returns
unfolding signal_number signals
returns c =
    let row : option_map signal_row (option_copied c.row_named.result) ≡ find (λ row. bytes_eq row.1 (without_sig c.args.name.now)) signals = rw c.bare_name.ensures at c.row_named.ensures in
    let found : find (λ row. bytes_eq row.1 (without_sig c.args.name.now)) signals ≡ Some (signal_row c.in_ok-row.row.now) = sym row ∙ ap (λ o. option_map signal_row (option_copied o)) (c.in_ok-row.was) in
    let small : is_signal c.in_ok-row.row.now.0 ≡ true = find_keeps (λ row. bytes_eq row.1 (without_sig c.args.name.now)) (λ row. is_signal row.0) (signal_row c.in_ok-row.row.now) signals found refl in
    ap (λ o. option_map (λ x. x.number) o) (c.from_number.ensures ∙ ap signal_numbered c.from.ensures)
    ∙ (number_of c.in_ok-row.row.now.0 small ∙ ap (λ o. option_map (λ r. r.0) o) (sym found))
