use Rattle.std.proofs.Common.{Bool, false, refl, sym, subst, ◌∙◌}
use Rattle.lx_model.specs.declared.event.PtraceEvent.TheVariants.{Plain}
use Rattle.lx_proc.specs.declared.state.Shared.{Shared}
use Rattle.lx_kernel.specs.Advances.{Leads}
use Rattle.lx_kernel.specs.Runs.{Run}
use Rattle.lx_kernel.specs.Sleeping.{Watch, Filing}
use Rattle.lx_kernel.proofs.Filing.{filing_kept}
use Rattle.lx_kernel.proofs.Watching.{watch_kept}
use Rattle.lx_kernel.proofs.kernel.Kernel.advance_in_place.Goals as goal

pub returns-clause-leads : goal.returns-clause-leads
returns-clause-leads c =
    let k = c.self.inside in
    let p = c.args.pid in
    let n = c.in_ok-advanced.advanced.turns in
    let item = c.advance_at.new.item in
    let run : Bool → Run = λ failed. record { running = record { shared = k.shared; tasks = k.tasks; child = k.child; log = k.log.items }; script = k.script; follow = k.follow; failed = failed; keeps_log = k.log.keeps } in
    let left : Run = record {
      running = record { shared = c.advance_at.new.shared; tasks = c.advance_at.new.tasks; child = k.child; log = c.log_item.new.log.items };
      script = k.script;
      follow = k.follow;
      failed = false;
      keeps_log = c.log_item.new.log.keeps;
    } in
    subst (λ r. Leads r p n item Plain left) ((λ i. run (sym c.if-self.false i)) ∙ c.self.view_is)
    (subst (Leads (run false) p n item Plain) (λ i. record {
      running = record { shared = sym c.in_ok-advanced.ensures.same i; tasks = c.advance_at.new.tasks; child = k.child; log = (sym c.in_ok-log_item.ensures.log i).items };
      script = k.script;
      follow = k.follow;
      failed = false;
      keeps_log = (sym c.in_ok-log_item.ensures.log i).keeps;
    })
    (c.in_ok-advanced.ensures.leads (run false)
    (record { shared_is = refl; child_is = refl; script_is = refl; follow_is = refl; agrees = λ n. (c.self.invariant c.if-self.false).0 p n })
    refl))

pub invariant_of-self-2 : goal.invariant_of-self-2
invariant_of-self-2 c = λ e.
    let k = c.self.inside in
    let h = c.self.invariant c.if-self.false in (
      c.in_ok-log_item.ensures.counted h.0,
      subst (λ (s : Shared). Watch k.run_queue s c.advance_at.new.tasks) (sym c.in_ok-advanced.ensures.same)
          (watch_kept k.run_queue k.shared k.tasks c.advance_at.new.tasks c.in_ok-advanced.ensures.kept h.1),
      subst (λ (s : Shared). Filing k.run_queue s c.advance_at.new.tasks) (sym c.in_ok-advanced.ensures.same)
          (λ known. filing_kept k.run_queue k.shared k.tasks c.advance_at.new.tasks (h.1 known) c.in_ok-advanced.ensures.kept (h.2 known)),
    )
