use Rattle.std.proofs.Common.{ℕ, ◌<◌, ◌≤◌, ◌⊎◌, inl, inr, sym, subst, arith}
use Rattle.rv_mem.specs.Beginnings.{IsAboveGap, Marks}
use Rattle.rv_mem.specs.Pages.{contents}
use Rattle.rv_mem.proofs.Marked.{Standing, before, first, between, last, after, standing, IsNext, next_of, page_above_gap}
use Rattle.rv_mem.proofs.beginnings.Beginnings.renew.Goals as goal

pub returns : goal.returns
returns c = λ n pages g. by_place n pages g (standing c.args.first end n)
  where
    end : ℕ
    end = c.unwrap_or-last.result

    next : IsNext c.args.table.now.pages.items c.args.end end
    next = next_of c.args.table.now.pages.items c.args.end end c.number_from.result c.unwrap_or-last.ensures c.number_from.ensures.from c.number_from.ensures.there c.number_from.ensures.least c.number_from.ensures.absent

    outside : (n pages : ℕ) → (n < c.args.first) ⊎ (end < n) → Marks c.args.self.now n pages → Marks c.note-2.new.self n pages
    outside n pages out marks = c.note-2.ensures.kept n pages (c.note.ensures.kept n pages (c.clear.ensures n pages out marks))

    inside : (n pages : ℕ) → c.args.first < n → n < end → (n < c.args.end) ⊎ (c.args.end ≤ n) → IsAboveGap (contents c.args.table.now) n pages → ⊥
    inside n pages l g (inl u) gap = c.requires.inside n pages l u gap
    inside n pages l g (inr u) gap = page_above_gap c.args.table.now.pages.items n pages (next.free n u g) gap

    side : (a b : ℕ) → (a < b) ⊎ (b ≤ a)
    side a b = grind arith

    by_place : (n pages : ℕ) → IsAboveGap (contents c.args.table.now) n pages → Standing c.args.first end n → Marks c.note-2.new.self n pages
    by_place n pages g (before l) = outside n pages (inl l) (c.requires.below n pages l g)
    by_place n pages g (first e) = subst (λ (i : ℕ). Marks c.note-2.new.self i pages) e (c.note-2.ensures.kept c.args.first pages (c.note.ensures.marked pages (subst (λ (i : ℕ). IsAboveGap (contents c.args.table.now) i pages) (sym e) g)))
    by_place n pages g (between l u) = absurd (inside n pages l u (side n c.args.end) g)
    by_place n pages g (last e) = subst (λ (i : ℕ). Marks c.note-2.new.self i pages) e (c.note-2.ensures.marked pages (subst (λ (i : ℕ). IsAboveGap (contents c.args.table.now) i pages) (sym e) g))
    by_place n pages g (after l) = elim (next.none n l) [
      | inl there ↦ outside n pages (inr l) (c.requires.above n pages end next.from l there g)
      | inr none ↦ absurd (page_above_gap c.args.table.now.pages.items n pages none g)
    ]
