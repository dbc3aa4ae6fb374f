use Rattle.std.proofs.Common.{◌≡◌, false, nat_eq, codes, sym, refl}
use Rattle.std.specs.List.{starts_with}
use Rattle.std.proofs.lemmas.Str.Pattern.{starts_text}
use Rattle.front_end.proofs.streams.digits_of.Goals as goal

pub returns : goal.returns
returns c =
    let one : false ≡ starts_with nat_eq c.args.path.now (codes "/dev/fd/") =
    starts_text false (codes "/dev/fd/") c.args.path.now c.in_default.ensures.cases in
    let other : false ≡ starts_with nat_eq c.args.path.now (codes "/proc/self/fd/") =
    starts_text false (codes "/proc/self/fd/") c.args.path.now c.in_default-strip_prefix.ensures.cases in
    rw (sym one, sym other) refl
