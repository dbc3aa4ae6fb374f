use Rattle.std.proofs.Common.{◌≡◌, false, ap, sym, subst, ◌∙◌}
use Rattle.lx_model.specs.Finite.{at}
use Rattle.lx_model.specs.declared.stage.Task.TheVariants.{Gone}
use Rattle.lx_model.specs.Events.{by_pid}
use Rattle.lx_model.specs.Finite.{item_of, Running}
use Rattle.lx_proc.specs.declared.state.Shared.{Shared}
use Rattle.lx_proc.specs.declared.state.UserState.{UserState}
use Rattle.lx_abi.specs.Occurrences.{count_of}
use Rattle.lx_kernel.specs.Runs.{Run, turn_in, after_turn, mode_in}
use Rattle.lx_turn.proofs.Consoles.{on_err}
use Rattle.lx_kernel.proofs.Turning.{kernel_item, kernel_event, kernel_left, kernel_born, kernel_console, kernel_turned}
use Rattle.lx_kernel.specs.Sleeping.{AreOthersListed, IsWatched, IsFiled, welcomed}
use Rattle.lx_kernel.specs.Pipes.{IsApart}
use Rattle.lx_kernel.specs.Scheduling.{Tasks}
use Rattle.lx_turn.specs.Turned.{unboxed}
use Rattle.lx_kernel.specs.declared.run_queue.RunQueue.{RunQueue}
use Rattle.lx_kernel.proofs.Watching.{turn_listed, turn_watched, turn_filed, told_watched, told_filed}
use Rattle.lx_kernel.proofs.kernel.Kernel.turn_whole.Goals as goal

pub place_child-requires : goal.place_child-requires
place_child-requires c =
    let k = c.self.inside in
    let v : Running Shared UserState = record { shared = k.shared; tasks = k.tasks; child = k.child; log = k.log.items } in
    kernel_left v k.script k.follow c.args.pid (λ n. count_of k.occurrences c.args.pid n) (λ n. (c.self.invariant c.if-self.false).0 c.args.pid n) c.turn_at.new.item c.in_ok-transition.transition.done c.turn_at.new.shared c.turn_at.new.tasks c.in_ok-transition.ensures.turns

pub returns-clause-before : goal.returns-clause-before
returns-clause-before c = c.in_ok-transition.ensures.before ∙ ap (λ k. mode_in k c.args.pid) c.self.view_is

pub returns-clause-item : goal.returns-clause-item
returns-clause-item c =
    let k = c.self.inside in
    let v : Running Shared UserState = record { shared = k.shared; tasks = k.tasks; child = k.child; log = k.log.items } in
    kernel_item v k.script k.follow c.args.pid (λ n. count_of k.occurrences c.args.pid n) (λ n. (c.self.invariant c.if-self.false).0 c.args.pid n) c.turn_at.new.item c.in_ok-transition.transition.done c.turn_at.new.shared c.turn_at.new.tasks c.in_ok-transition.ensures.turns
    ∙ ap (λ k. item_of (turn_in k c.args.pid)) c.self.view_is

pub returns-clause-event : goal.returns-clause-event
returns-clause-event c =
    let k = c.self.inside in
    let v : Running Shared UserState = record { shared = k.shared; tasks = k.tasks; child = k.child; log = k.log.items } in
    c.by_pid-event.ensures
    ∙ kernel_event v k.script k.follow c.args.pid (λ n. count_of k.occurrences c.args.pid n) (λ n. (c.self.invariant c.if-self.false).0 c.args.pid n) c.turn_at.new.item c.in_ok-transition.transition.done c.turn_at.new.shared c.turn_at.new.tasks c.in_ok-transition.ensures.turns
    ∙ ap (λ k. by_pid k.running.child (turn_in k c.args.pid).event) c.self.view_is

pub returns-clause-turned : goal.returns-clause-turned
returns-clause-turned c =
    let k = c.self.inside in
    let v : Running Shared UserState = record { shared = k.shared; tasks = k.tasks; child = k.child; log = k.log.items } in
    let run : Running Shared UserState → Run = λ r. record { running = r; script = k.script; follow = k.follow; failed = false; keeps_log = k.log.keeps } in
    (λ i. record {
      running = record { shared = c.turn_at.new.shared; tasks = c.in_ok-place_child.ensures.tasks i; child = c.in_ok-place_child.ensures.child i; log = (c.in_ok-log_item.ensures.log i).items };
      script = k.script;
      follow = k.follow;
      failed = false;
      keeps_log = (c.in_ok-log_item.ensures.log i).keeps;
    })
    ∙ ap run (kernel_turned v k.script k.follow c.args.pid (λ n. count_of k.occurrences c.args.pid n) (λ n. (c.self.invariant c.if-self.false).0 c.args.pid n) c.turn_at.new.item c.in_ok-transition.transition.done c.turn_at.new.shared c.turn_at.new.tasks c.in_ok-transition.ensures.turns)
    ∙ ap (λ b. after_turn (record { running = v; script = k.script; follow = k.follow; failed = b; keeps_log = k.log.keeps }) c.args.pid) (sym c.if-self.false)
    ∙ ap (λ k. after_turn k c.args.pid) c.self.view_is

pub returns-in_err-place_child-clause-console : goal.returns-in_err-place_child-clause-console
returns-in_err-place_child-clause-console c =
    let k = c.self.inside in
    let v : Running Shared UserState = record { shared = k.shared; tasks = k.tasks; child = k.child; log = k.log.items } in
    on_err (c.turn_at.new.shared.console ≡ c.args.self.now.running.shared.console) c.from_residual-in_err-place_child.result
    (kernel_born v k.script k.follow c.args.pid (λ n. count_of k.occurrences c.args.pid n) (λ n. (c.self.invariant c.if-self.false).0 c.args.pid n) c.turn_at.new.item c.in_ok-transition.transition.done c.turn_at.new.shared c.turn_at.new.tasks c.in_ok-transition.ensures.turns c.in_err-place_child.ensures.born
    ∙ ap (λ (r : Run). r.running.shared.console) c.self.view_is)

pub returns-in_err-log_item-clause-console : goal.returns-in_err-log_item-clause-console
returns-in_err-log_item-clause-console c =
    let k = c.self.inside in
    let v : Running Shared UserState = record { shared = k.shared; tasks = k.tasks; child = k.child; log = k.log.items } in
    on_err (c.turn_at.new.shared.console ≡ c.args.self.now.running.shared.console) c.from_residual-in_err-log_item.result
    (kernel_console v k.script k.follow c.args.pid (λ n. count_of k.occurrences c.args.pid n) (λ n. (c.self.invariant c.if-self.false).0 c.args.pid n) c.turn_at.new.item c.in_ok-transition.transition.done c.turn_at.new.shared c.turn_at.new.tasks c.in_ok-transition.ensures.turns c.in_err-log_item.ensures.some
    ∙ ap (λ (r : Run). r.running.shared.console) c.self.view_is)

pub wake_told-requires : goal.wake_told-requires
wake_told-requires c = λ known.
    let k = c.self.inside in
    let v : Running Shared UserState = record { shared = k.shared; tasks = k.tasks; child = k.child; log = k.log.items } in
    let watch = (c.self.invariant c.if-self.false).1 (c.welcome.ensures.known known) in
    let event = unboxed c.in_ok-transition.transition.done in
    let told = c.in_ok-transition.wakes.told in
    subst (λ (sets : RunQueue). AreOthersListed sets c.turn_at.new.shared c.place_child.new.tasks c.args.pid told) (sym (c.welcome.ensures.sets known))
    (subst (λ (tasks : Tasks). AreOthersListed (welcomed k.run_queue k.child event) c.turn_at.new.shared tasks c.args.pid told) (sym c.in_ok-place_child.ensures.tasks)
    (turn_listed v k.script k.follow c.args.pid (λ n. count_of k.occurrences c.args.pid n) c.turn_at.new.item c.in_ok-transition.transition.done c.turn_at.new.shared c.turn_at.new.tasks c.in_ok-transition.ensures.turns k.run_queue watch
    told c.in_ok-transition.ensures.stopped))

pub pass-requires-clause-watched : goal.pass-requires-clause-watched
pass-requires-clause-watched c = λ few known q up ne apart.
    let k = c.self.inside in
    let v : Running Shared UserState = record { shared = k.shared; tasks = k.tasks; child = k.child; log = k.log.items } in
    let same = c.wake_told.ensures.others known in
    let watch = (c.self.invariant c.if-self.false).1 (c.welcome.ensures.known same.0) in
    let event = unboxed c.in_ok-transition.transition.done in
    let told = c.in_ok-transition.wakes.told in
    let changed = c.in_ok-transition.wakes.changed in
    let s' = c.turn_at.new.shared in
    told_watched c.welcome.new.self c.wake_told.new.self s' c.place_child.new.tasks c.args.pid told same changed (c.wake_told.ensures.itself known)
    (λ q up ne still.
    subst (λ (sets : RunQueue). IsApart changed s' q (at Gone c.place_child.new.tasks q) → IsWatched sets s' q (at Gone c.place_child.new.tasks q)) (sym (c.welcome.ensures.sets same.0))
    (subst (λ (tasks : Tasks). IsApart changed s' q (at Gone tasks q) → IsWatched (welcomed k.run_queue k.child event) s' q (at Gone tasks q)) (sym c.in_ok-place_child.ensures.tasks)
    (turn_watched v k.script k.follow c.args.pid (λ n. count_of k.occurrences c.args.pid n) c.turn_at.new.item c.in_ok-transition.transition.done s' c.turn_at.new.tasks c.in_ok-transition.ensures.turns k.run_queue watch
    told changed (c.in_ok-transition.ensures.few few) q up ne still)))
    q up ne apart

pub pass-requires-clause-filed : goal.pass-requires-clause-filed
pass-requires-clause-filed c = λ few known q up ne.
    let k = c.self.inside in
    let v : Running Shared UserState = record { shared = k.shared; tasks = k.tasks; child = k.child; log = k.log.items } in
    let same = c.wake_told.ensures.others known in
    let kept = c.welcome.ensures.known same.0 in
    let watch = (c.self.invariant c.if-self.false).1 kept in
    let filed = (c.self.invariant c.if-self.false).2 kept in
    let event = unboxed c.in_ok-transition.transition.done in
    let told = c.in_ok-transition.wakes.told in
    let changed = c.in_ok-transition.wakes.changed in
    let s' = c.turn_at.new.shared in
    told_filed c.welcome.new.self c.wake_told.new.self s' c.place_child.new.tasks c.args.pid told same (c.wake_told.ensures.filed known)
    (λ q up ne.
    subst (λ (sets : RunQueue). IsFiled sets s' q (at Gone c.place_child.new.tasks q)) (sym (c.welcome.ensures.sets same.0))
    (subst (λ (tasks : Tasks). IsFiled (welcomed k.run_queue k.child event) s' q (at Gone tasks q)) (sym c.in_ok-place_child.ensures.tasks)
    (turn_filed v k.script k.follow c.args.pid (λ n. count_of k.occurrences c.args.pid n) c.turn_at.new.item c.in_ok-transition.transition.done s' c.turn_at.new.tasks c.in_ok-transition.ensures.turns k.run_queue watch
    told changed (c.in_ok-transition.ensures.few few) filed q up ne)))
    q up ne
