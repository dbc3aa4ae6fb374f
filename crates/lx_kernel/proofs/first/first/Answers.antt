use Rattle.std.proofs.Common.{◌≡◌, ◌∙◌, ap, false, []}
use Rattle.lx_boot.specs.First.{first_shared, first_tasks}
use Rattle.lx_model.specs.Finite.{at}
use Rattle.lx_model.specs.declared.stage.Task.TheVariants.{Gone}
use Rattle.lx_kernel.specs.Scheduling.{Tasks}
use Rattle.lx_kernel.proofs.Watching.{alone}
use Rattle.lx_kernel.proofs.first.first.Goals as goal

pub returns : goal.returns
returns c =
    let shared : c.in_ok-shared.shared ≡ first_shared c.args.boot.limits c.args.boot.files c.args.boot.input =
    c.in_ok-shared.ensures ∙ ap (λ files. first_shared c.args.boot.limits files c.args.boot.input) c.as_slice-3.ensures in
    let tasks : c.in_ok-tasks.tasks ≡ first_tasks c.args.boot.argv c.args.boot.env =
    c.in_ok-tasks.ensures
    ∙ (ap (λ argv. first_tasks argv c.as_slice-2.result.now) c.as_slice.ensures
    ∙ ap (λ env. first_tasks c.args.boot.argv env) c.as_slice-2.ensures) in
    c.new.ensures
    ∙ λ i. record {
      running = record { shared = shared i; tasks = tasks i; child = 2; log = [] };
      script = c.args.script;
      follow = c.args.boot.follow;
      failed = false;
      keeps_log = c.args.keeps_log;
    }

pub new-requires : goal.new-requires
new-requires c = λ q ne.
    ap (λ (o : Tasks). at Gone o q) c.in_ok-tasks.ensures ∙ alone _ q ne
