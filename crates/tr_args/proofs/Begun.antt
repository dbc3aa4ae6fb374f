-- What stands before the arguments of a half.
use Rattle.std.proofs.Common.{Bool, ℕ, ◌≡◌, ◌∙◌, false, List, [], ◌++◌, length, Some, None, codes, refl, sym, ap, subst, append-nil, Bor}
use Rattle.lx_abi.specs.declared.calls.Argument.{Argument}
use Rattle.tr_args.specs.declared.context.Context.{Context}
use Rattle.tr_args.specs.declared.progress.Stage.TheVariants.{Under}
use Rattle.tr_values.specs.Sheets.{Sheet, Shown, Has, Wants, put, ◌>>=◌}
use Rattle.tr_args.specs.Arguments.{arguments, format_of, joint, entry, rest, half_by}
use Rattle.tr_values.specs.Calls.{name_text}
use Rattle.tr_args.specs.Progress.{sheet, list_left, row_left, behind, stage_left, Moves}

pub begun_entry : (c : Context) (k : Bor (List Argument)) (b : Bool) (s t : Sheet) → c.result ≡ None → k.now ≡ (format_of c.number).0 → behind b ≡ joint (format_of c.number) → t ≡ sheet ((s.out ++ name_text c.number) ++ codes "(") s.left → Moves (half_by c.result c) s (stage_left c (Under (record { some = false; number = 0; kinds = k; list = None; comma = b }))) t
unfolding entry list_left row_left stage_left
begun_entry c k b s t e f j u = subst (λ o. Moves (half_by o c) s (stage_left c (Under (record { some = false; number = 0; kinds = k; list = None; comma = b }))) t) (sym e)
    (subst (λ t. Moves (half_by None c) s (stage_left c (Under (record { some = false; number = 0; kinds = k; list = None; comma = b }))) t) (sym u) (record {
      front = [];
      rest = refl;
      goes = λ more. ap (λ ks. arguments c false 0 ks (sheet ((s.out ++ name_text c.number) ++ codes "(") more) >>= put (joint (format_of c.number))) (sym f)
          ∙ ap (λ x. arguments c false 0 k.now (sheet ((s.out ++ name_text c.number) ++ codes "(") more) >>= put x) (sym j);
    }))

put_nothing : (shown : Shown) → shown ≡ (shown >>= put [])
put_nothing (Has s) = ap (λ o. Has (sheet o s.left)) (sym (append-nil s.out))
put_nothing (Wants a n) = refl

pub begun_rest : (c : Context) (result n : ℕ) (k : Bor (List Argument)) (s : Sheet) → c.result ≡ Some result → n ≡ length (format_of c.number).0 → k.now ≡ (format_of c.number).1 → Moves (half_by c.result c) s (stage_left c (Under (record { some = false; number = n; kinds = k; list = None; comma = false }))) s
unfolding rest list_left row_left stage_left
begun_rest c result n k s e m f = subst (λ o. Moves (half_by o c) s (stage_left c (Under (record { some = false; number = n; kinds = k; list = None; comma = false }))) s) (sym e) (record {
  front = [];
  rest = refl;
  goes = λ more. ap (λ i. arguments c false i (format_of c.number).1 (sheet s.out more)) (sym m) ∙ ap (λ ks. arguments c false n ks (sheet s.out more)) (sym f) ∙ put_nothing (arguments c false n k.now (sheet s.out more));
})
