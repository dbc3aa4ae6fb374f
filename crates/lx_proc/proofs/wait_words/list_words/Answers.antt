use Rattle.std.proofs.Common.{◌++◌, ap, ◌∙◌, map}
use Rattle.lx_proc.specs.WaitWords.{ended_of}
use Rattle.lx_proc.proofs.Ended.{list_start, list_step, listed_words}
use Rattle.lx_proc.proofs.wait_words.list_words.Goals as goal

pub loop-pid-init : goal.loop-pid-init
loop-pid-init c = list_start ended_of c.new-list.result _ _ c.new-list.ensures (c.into_iter-pid-iterator.ensures.into_iter_gives ∙ c.iter-pid-items.ensures.rest)

pub loop-pid-preserved : goal.loop-pid-preserved
loop-pid-preserved c =
    ap (λ l. l ++ map ended_of c.next.new.self) c.in_ok-push.ensures.ok
    ∙ list_step ended_of c.loop-pid.list _ c.next.new.self c.args.words.now.entries (c.in-Some.pid.now, c.in-Some.word.now) c.in-Some.ensures.steps c.loop-pid.invariant

pub returns : goal.returns
returns c = listed_words c.loop-pid.list _ c.args.words.now.entries c.in-None.ensures.steps.0 c.loop-pid.invariant c.iter-pid-items.ensures.ordered
