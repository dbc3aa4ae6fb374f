use Rattle.std.proofs.Common.{◌≡◌, ap, sym, subst, refl, ◌∙◌}
use Rattle.std.specs.Prelude.{OnSome}
use Rattle.std.specs.Option.{option_copied_mut}
use Rattle.std.specs.FinMap as maps
use Rattle.shelves.proofs.Lacked.{known_again, some_of}
use Rattle.shelves.proofs.numbered.Numbered.get_mut.Goals as goal

pub invariant_of-self-lent : goal.invariant_of-self-lent
invariant_of-self-lent g c = λ w known.
    let m = c.self.inside.shelf in
    let there = some_of (maps.get m c.args.key) c.in-Some.value.now (sym c.get_mut.ensures.value ∙ ap option_copied_mut c.in-Some.is) in
    let written = subst (λ r. OnSome r (c.get_mut.follows.lender w ≡ maps.insert m c.args.key w)) c.in-Some.is (c.get_mut.follows.holds w) in
    known_again m (c.get_mut.follows.lender w) c.self.inside.vacancies c.args.key w c.self.invariant there written known

pub returns-in-Some : goal.returns-in-Some
returns-in-Some g c = (
  (
    refl,
    λ w.
        subst (λ r. OnSome r (c.get_mut.follows.lender w ≡ maps.insert c.self.inside.shelf c.args.key w)) c.in-Some.is (c.get_mut.follows.holds w)
        ∙ ap (λ m. maps.insert m c.args.key w) c.self.view_is,
    refl,
  ),
  record {
    writes_back = tt;
    value = sym (ap option_copied_mut c.in-Some.is) ∙ c.get_mut.ensures.value ∙ ap (λ m. maps.get m c.args.key) c.self.view_is;
  },
)
