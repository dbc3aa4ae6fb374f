use Rattle.std.proofs.Common.{refl, sym, subst, arith}
use Rattle.lx_model.specs.declared.stage.Stage.{Stage}
use Rattle.lx_model.specs.declared.stage.Stage.TheVariants as stages
use Rattle.lx_model.specs.declared.stage.Task.TheVariants.{Alive}
use Rattle.lx_kernel.specs.Advances.{PartLeads}
use Rattle.lx_kernel.specs.Sleeping.{IsKept}
use Rattle.lx_kernel.proofs.Advancing.{none_leads, run_leads, start_leads, end_leads, kept_same, awake_run, awake_start, awake_entered, awake_acted}
use Rattle.lx_kernel.proofs.advances.go_on.Goals as goal

pub returns-in_ok-ran-in-Run-clause-leads : goal.returns-in_ok-ran-in-Run-clause-leads
returns-in_ok-ran-in-Run-clause-leads c =
    let t = c.args.injection.now in
    let s = c.args.shared.now in
    let p = c.args.pid in
    let b = c.args.user.now in
    subst (λ (stage : Stage). PartLeads t s c.args.child p c.in_ok-ran-in-Run.ran (Alive b stage) c.run_to_call.new.item (Alive c.run_to_call.new.user c.run_to_call.new.stage)) (sym c.in-Run.is)
    (run_leads t s c.args.child p c.requires.alive c.requires.calm c.in_ok-ran-in-Run.ran b c.run_to_call.new.item (Alive c.run_to_call.new.user c.run_to_call.new.stage) c.in_ok-ran-in-Run.ensures.leads)

pub returns-in_ok-ran-in-Run-clause-kept : goal.returns-in_ok-ran-in-Run-clause-kept
returns-in_ok-ran-in-Run-clause-kept c =
    subst (λ (stage : Stage). IsKept c.args.shared.now c.args.pid (Alive c.args.user.now stage) (Alive c.run_to_call.new.user c.run_to_call.new.stage)) (sym c.in-Run.is)
    (awake_run c.args.shared.now c.args.pid c.args.user.now (Alive c.run_to_call.new.user c.run_to_call.new.stage))

pub returns-in_ok-ran-in-Born-clause-leads : goal.returns-in_ok-ran-in-Born-clause-leads
returns-in_ok-ran-in-Born-clause-leads c =
    let r = c.in_ok-ran-in-Born.ensures.leads in
    start_leads c.args.injection.now c.args.shared.now c.args.child c.args.pid c.requires.alive c.requires.calm c.in_ok-ran-in-Born.ran r.0 c.args.user.now c.args.stage.now c.go_to_call.new.item
    (Alive c.go_to_call.new.user c.go_to_call.new.stage) c.in-Born.is r.1 r.2

pub returns-in_ok-ran-in-Born-clause-kept : goal.returns-in_ok-ran-in-Born-clause-kept
returns-in_ok-ran-in-Born-clause-kept c =
    awake_start c.args.stage.now c.in-Born.is c.args.shared.now c.args.pid c.args.user.now (Alive c.go_to_call.new.user c.go_to_call.new.stage)

pub returns-in_ok-ran-in-Entered-None-clause-kept : goal.returns-in_ok-ran-in-Entered-None-clause-kept
returns-in_ok-ran-in-Entered-None-clause-kept c =
    subst (λ (stage : Stage). IsKept c.args.shared.now c.args.pid (Alive c.args.user.now stage) (Alive c.go_into_call.new.user c.go_into_call.new.stage)) (sym c.in-Entered-None.is)
    (awake_entered c.in-Entered-None.joined c.args.shared.now c.args.pid c.args.user.now (Alive c.go_into_call.new.user c.go_into_call.new.stage))

pub returns-in_default-clause-leads : goal.returns-in_default-clause-leads
returns-in_default-clause-leads c =
    none_leads c.args.injection.now c.args.shared.now c.args.child c.args.pid (Alive c.args.user.now c.args.stage.now) c.args.item.now c.requires.nothing

pub returns-in_default-2-clause-leads : goal.returns-in_default-2-clause-leads
returns-in_default-2-clause-leads c =
    none_leads c.args.injection.now c.args.shared.now c.args.child c.args.pid (Alive c.args.user.now c.args.stage.now) c.args.item.now c.requires.nothing

pub returns-in_default-3-clause-leads : goal.returns-in_default-3-clause-leads
returns-in_default-3-clause-leads c =
    none_leads c.args.injection.now c.args.shared.now c.args.child c.args.pid (Alive c.args.user.now c.args.stage.now) c.args.item.now c.requires.nothing

pub returns-in_default-4 : goal.returns-in_default-4
returns-in_default-4 c = record {
  leads = none_leads c.args.injection.now c.args.shared.now c.args.child c.args.pid (Alive c.args.user.now c.args.stage.now) c.args.item.now c.requires.nothing;
  within = omega arith;
  same = refl;
  kept = kept_same c.args.shared.now c.args.pid (Alive c.args.user.now c.args.stage.now);
  console = tt;
}

pub returns-in-Acted-clause-leads : goal.returns-in-Acted-clause-leads
returns-in-Acted-clause-leads c =
    end_leads c.args.injection.now c.args.shared.now c.args.child c.args.pid c.requires.alive c.args.user.now c.args.stage.now c.in-Acted.call c.in-Acted.result c.in-Acted.replaced c.in-Acted.is

pub returns-in-Acted-clause-kept : goal.returns-in-Acted-clause-kept
returns-in-Acted-clause-kept c =
    subst (λ (stage : Stage). IsKept c.args.shared.now c.args.pid (Alive c.args.user.now stage) (Alive c.args.user.now stages.Finished)) (sym c.in-Acted.is)
    (awake_acted c.in-Acted.call c.in-Acted.result c.in-Acted.replaced c.args.shared.now c.args.pid c.args.user.now (Alive c.args.user.now stages.Finished))

pub returns-in_default-5 : goal.returns-in_default-5
returns-in_default-5 c = record {
  leads = none_leads c.args.injection.now c.args.shared.now c.args.child c.args.pid (Alive c.args.user.now c.args.stage.now) c.args.item.now c.requires.nothing;
  within = omega arith;
  same = refl;
  kept = kept_same c.args.shared.now c.args.pid (Alive c.args.user.now c.args.stage.now);
  console = tt;
}
