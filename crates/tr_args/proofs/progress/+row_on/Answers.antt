use Rattle.std.proofs.Common.{◌≡◌, ◌∙◌, [], ◌∷◌, sym, ap, subst, None, Err}
use Rattle.tr_args.specs.Kinds.{next_argument}
use Rattle.tr_args.specs.Arguments.{arguments}
use Rattle.tr_values.specs.Sheets.{◌>>=◌}
use Rattle.tr_args.specs.Progress.{kinds_of, list_left, row_left, Goes, Begins, Moves}
use Rattle.tr_args.proofs.Going.{row_ended, row_more, row_stopped_at}
use Rattle.tr_args.proofs.progress.+row_on.Goals as goal

pub returns-in-None-clause-goes : goal.returns-in-None-clause-goes
unfolding row_left
returns-in-None-clause-goes k c =
    let row = c.args.row.now in
    let none : row.kinds.now ≡ [] = sym c.next_kind.ensures ∙ ap kinds_of c.in-None.is in
    row_ended c.args.context.now row.some row.number row.kinds.now row.list c.args.sheet.now c.list_on.new.sheet none c.in_default.ensures.goes

pub returns-in-Ok-clause-goes : goal.returns-in-Ok-clause-goes
unfolding row_left
returns-in-Ok-clause-goes k c =
    let row = c.args.row.now in
    let context = c.args.context.now in
    let kinds : row.kinds.now ≡ c.in-Some.kind ∷ c.in-Some.more.now = sym c.next_kind.ensures ∙ ap kinds_of c.in-Some.is in
    let begun = subst (λ p. Moves (next_argument row.some c.in-Some.kind p) c.list_on.new.sheet (list_left p.most c.in-Ok.list) c.begin.new.sheet) c.place.ensures c.in-Ok.ensures in
    subst (λ ks. Goes c.row_on.result (λ x. list_left context.most row.list x >>= arguments context row.some row.number ks) c.args.sheet.now (row_left context c.row_on.new.row) c.row_on.new.sheet) (sym kinds)
    (row_more c.row_on.result context row.some row.number c.in-Some.kind c.in-Some.more.now row.list c.in-Ok.list (row_left context c.row_on.new.row) c.args.sheet.now c.list_on.new.sheet c.begin.new.sheet c.row_on.new.sheet c.in_default.ensures.goes begun c.row_on.ensures.goes)

pub returns-in-Err-begin-clause-goes : goal.returns-in-Err-begin-clause-goes
unfolding row_left
returns-in-Err-begin-clause-goes k c =
    let row = c.args.row.now in
    let context = c.args.context.now in
    let stop = c.in-Err-begin.stop in
    let kinds : c.in-Some.kind ∷ c.in-Some.more.now ≡ row.kinds.now = sym (sym c.next_kind.ensures ∙ ap kinds_of c.in-Some.is) in
    let begun = subst (λ p. Begins (Err stop) p.most (next_argument row.some c.in-Some.kind p) c.list_on.new.sheet c.begin.new.sheet) c.place.ensures c.in-Err-begin.ensures in
    let goes = row_stopped_at stop context row.some row.number c.in-Some.kind c.in-Some.more.now row.list c.args.sheet.now c.list_on.new.sheet c.begin.new.sheet c.in_default.ensures.goes begun in
    subst (λ l. Goes (Err stop) (λ x. list_left context.most row.list x >>= arguments context row.some row.number row.kinds.now) c.args.sheet.now (λ x. list_left context.most l x >>= arguments context row.some row.number row.kinds.now) c.begin.new.sheet) (sym c.in_default.ensures.whole)
    (subst (λ ks. Goes (Err stop) (λ x. list_left context.most row.list x >>= arguments context row.some row.number ks) c.args.sheet.now (λ x. list_left context.most None x >>= arguments context row.some row.number ks) c.begin.new.sheet) kinds goes)
