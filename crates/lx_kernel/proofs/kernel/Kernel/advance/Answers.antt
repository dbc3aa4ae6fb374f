use Rattle.std.proofs.Common.{◌≡◌, ℕ, ap, sym, subst, ◌∙◌, arith}
use Rattle.lx_model.specs.declared.event.PtraceEvent.TheVariants.{Plain}
use Rattle.lx_kernel.specs.Advances.{Leads}
use Rattle.lx_kernel.specs.Runs.{mode_in}
use Rattle.lx_kernel.proofs.kernel.Kernel.advance.Goals as goal

pub turn_whole-requires : goal.turn_whole-requires
turn_whole-requires c =
    let none = c.if-advanced-gt0.false in
    let zero : c.in_ok-advanced.advanced.turns ≡ 0 = omega (arith, none) in
    (subst (λ (n : ℕ). Leads c.args.self.now c.args.pid n c.advance_in_place.new.item Plain c.advance_in_place.new.self) zero c.in_ok-advanced.ensures.leads).0

pub returns-clause-leads : goal.returns-clause-leads
returns-clause-leads c =
    let none = c.if-advanced-gt0.false in
    let zero : c.in_ok-advanced.advanced.turns ≡ 0 = omega (arith, none) in
    let same = subst (λ (n : ℕ). Leads c.args.self.now c.args.pid n c.advance_in_place.new.item Plain c.advance_in_place.new.self) zero c.in_ok-advanced.ensures.leads in
    subst (λ (n : ℕ). Leads c.args.self.now c.args.pid n c.turn_whole.new.item c.in_ok-turned.turned.event c.turn_whole.new.self) (sym c.in_ok-turned.ensures.one) (
      c.advance_in_place.new.self,
      same.2,
      record {
        item_is = c.in_ok-turned.ensures.item;
        event_is = c.in_ok-turned.ensures.event;
        turned = c.in_ok-turned.ensures.turned;
      },
    )

pub returns-clause-before : goal.returns-clause-before
returns-clause-before c =
    let none = c.if-advanced-gt0.false in
    let zero : c.in_ok-advanced.advanced.turns ≡ 0 = omega (arith, none) in
    let same = subst (λ (n : ℕ). Leads c.args.self.now c.args.pid n c.advance_in_place.new.item Plain c.advance_in_place.new.self) zero c.in_ok-advanced.ensures.leads in
    c.in_ok-turned.ensures.before ∙ ap (λ k. mode_in k c.args.pid) same.2
