use Rattle.std.proofs.Common.{sym, ◌∙◌, ap, arith}
use Rattle.rv_mem.specs.Memory.{Memory, or_memory}
use Rattle.rv_mem.specs.Pages.{contents, with_pages}
use Rattle.rv_mem.proofs.Tables.{of_ok}
use Rattle.rv_mem.proofs.Counts.{fits-mapped, too_large-mapped}
use Rattle.rv_mem.proofs.Changes.{mapped_again, all_there}
use Rattle.rv_mem.proofs.mapping.map_pages.Goals as goal

pub returns-then-kept-missing-gt-MOST_PAGES-clause-fault :
    goal.returns-then-kept-missing-gt-MOST_PAGES-clause-fault
returns-then-kept-missing-gt-MOST_PAGES-clause-fault c =
    sym (ap or_memory (too_large-mapped c.args.table.now.pages.items c.args.first c.args.end c.args.rights c.requires.whole c.requires.rising
    (omega (arith, c.if-kept-missing-gt-MOST_PAGES.true, c.len-kept.ensures, c.args.table.now.pages.ok.0, c.count_missing-missing.ensures.at_most))))

pub returns-then-is_err-clause-fault : goal.returns-then-is_err-clause-fault
returns-then-is_err-clause-fault c =
    let exact = c.count_missing-missing.ensures.exact (omega (arith, c.if-kept-missing-gt-MOST_PAGES.false)) in
    sym (ap or_memory (fits-mapped c.args.table.now.pages.items c.args.first c.args.end c.args.rights c.requires.whole c.requires.rising
    (omega (arith, c.if-kept-missing-gt-MOST_PAGES.false, c.len-kept.ensures, c.args.table.now.pages.ok.0, exact))))

pub returns-clause-ok : goal.returns-clause-ok
returns-clause-ok c =
    let exact = c.count_missing-missing.ensures.exact (omega (arith, c.if-kept-missing-gt-MOST_PAGES.false)) in
    fits-mapped c.args.table.now.pages.items c.args.first c.args.end c.args.rights c.requires.whole c.requires.rising
    (omega (arith, c.if-kept-missing-gt-MOST_PAGES.false, c.len-kept.ensures, c.args.table.now.pages.ok.0, exact))

pub widen-requires-clause-there : goal.widen-requires-clause-there
widen-requires-clause-there c =
    let added = of_ok c.add_missing.result (sym c.is_err.ensures.value ∙ c.if-is_err.false) c.add_missing.ensures.mapped in
    all_there (contents c.args.table.now) c.add_missing.new.table.pages.items c.args.first c.args.end _ added

pub returns-clause-mapped : goal.returns-clause-mapped
returns-clause-mapped c =
    let added = of_ok c.add_missing.result (sym c.is_err.ensures.value ∙ c.if-is_err.false) c.add_missing.ensures.mapped in
    c.widen.ensures.mapped
    ∙ ap (λ (m : Memory). with_pages m c.args.first c.args.end c.args.rights) added
    ∙ mapped_again (contents c.args.table.now) _ _ c.args.rights

pub add_missing-requires-clause-counted : goal.add_missing-requires-clause-counted
add_missing-requires-clause-counted c = c.count_missing-missing.ensures.exact (omega (arith, c.if-kept-missing-gt-MOST_PAGES.false))
