use Rattle.std.proofs.Common.{◌≡◌, ◌∙◌, drop, ap, sym, string_bytes}
use Rattle.std.proofs.lemmas.Result.{IfOk-weaker}
use Rattle.tr_args.specs.Progress.{sheet}
use Rattle.tr_args.specs.declared.progress.Stage.TheVariants.{Under}
use Rattle.tr_args.proofs.Making.{under, stays_whole}
use Rattle.tr_args.proofs.progress.go_on.Goals as goal

pub returns-in-Whole-clause-wish : goal.returns-in-Whole-clause-wish
returns-in-Whole-clause-wish c = stays_whole c.args.context.now c.args.read.now c.args.made c.in-Whole.is c.requires.made

pub returns-in-Under-clause-made : goal.returns-in-Under-clause-made
returns-in-Under-clause-made c =
    let read = c.args.read.now in
    let s : c.with-sheet.result ≡ sheet (string_bytes c.args.made.text) (drop c.args.made.used read) = c.with-sheet.ensures ∙ ap (λ l. sheet (string_bytes c.args.made.text) l) c.split_at.ensures.back in
    let is : c.args.made.stage ≡ Under c.into_inner.result = c.in-Under.is ∙ ap Under (sym c.into_inner.ensures) in
    IfOk-weaker c.made_with.result _ _ (λ r h. (under c.args.context.now read c.args.made c.into_inner.result c.with-sheet.result r.0 r.1 is s c.requires.made h).made) c.made_with.ensures

pub returns-in-Under-clause-wish : goal.returns-in-Under-clause-wish
returns-in-Under-clause-wish c =
    let read = c.args.read.now in
    let s : c.with-sheet.result ≡ sheet (string_bytes c.args.made.text) (drop c.args.made.used read) = c.with-sheet.ensures ∙ ap (λ l. sheet (string_bytes c.args.made.text) l) c.split_at.ensures.back in
    let is : c.args.made.stage ≡ Under c.into_inner.result = c.in-Under.is ∙ ap Under (sym c.into_inner.ensures) in
    IfOk-weaker c.made_with.result _ _ (λ r h. (under c.args.context.now read c.args.made c.into_inner.result c.with-sheet.result r.0 r.1 is s c.requires.made h).next) c.made_with.ensures

pub returns-in-Under-clause-whole : goal.returns-in-Under-clause-whole
returns-in-Under-clause-whole c = IfOk-weaker c.made_with.result _ _ (λ r h. h.whole) c.made_with.ensures
