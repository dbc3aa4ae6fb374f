use Rattle.std.proofs.Common.{rules, ◌≡◌, ℕ, List, ap, subst, ◌∙◌}
use Rattle.std.specs.Prelude.{min}
use Rattle.plain_run.proofs.Turning.{runs_keep_logs}
use Rattle.pt_schedule.specs.Schedules.{worded, most_events}
use Rattle.turn_orders.specs.Plans.{words_of}
use Rattle.sweep_orders.specs.Draws.{IsDrawn}
use Rattle.sweep_orders.proofs.Wording.{drawn_runs}
use Rattle.sweep_orders.proofs.trials.draw_on.Goals as goal

pub look-requires : goal.look-requires
look-requires c =
    let pids = c.in_ok-pids.pids.items in
    let before = c.args.kernel.now in
    let after = c.draw.new.kernel in
    let turns : c.min.result ≡ min c.args.limit most_events = search rules in
    runs_keep_logs before (worded (words_of pids) c.args.limit) after
    (drawn_runs pids c.args.limit before after c.args.chance.now
    (subst (λ n. IsDrawn pids n before c.args.chance.now after) turns c.in_ok-pids.ensures))
    ∙ c.requires

pub returns : goal.returns
returns c =
    let pids = c.in_ok-pids.pids.items in
    let turns : c.min.result ≡ min c.args.limit most_events = search rules in
    record {
      kernel = c.draw.new.kernel;
      pids = pids;
      words = c.in_ok-trial.ensures.words ∙ c.in_ok-words.ensures ∙ ap (λ (ps : List ℕ). words_of ps) c.as_slice.ensures.value;
      drawn = subst (λ n. IsDrawn pids n c.args.kernel.now c.args.chance.now c.draw.new.kernel) turns c.in_ok-pids.ensures;
      left = c.in_ok-trial.ensures.left;
    }
