use Rattle.std.proofs.Common.{◌≡◌, ◌∙◌, Some, option_map, sym, ap}
use Rattle.lx_abi.specs.Calls.{call_format}
use Rattle.tr_args.proofs.Formats.{few}
use Rattle.tr_args.proofs.arguments.format_of.Goals as goal

pub returns-in-Some-clause-few : goal.returns-in-Some-clause-few
returns-in-Some-clause-few c =
    let e : call_format c.args.number ≡ Some (c.in-Some.format.entry.now, c.in-Some.format.rest.now) = sym c.call_format.ensures ∙ ap (λ o. option_map (λ f. (f.entry.now, f.rest.now)) o) c.in-Some.is in
    few c.args.number (c.in-Some.format.entry.now, c.in-Some.format.rest.now) e
