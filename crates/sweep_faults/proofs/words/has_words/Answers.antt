use Rattle.std.proofs.Common.{sym, ◌∙◌}
use Rattle.sweep_faults.proofs.Fewer.{followed_words}
use Rattle.sweep_faults.proofs.words.has_words.Goals as goal

pub returns : goal.returns
returns c = λ log h.
    followed_words c.are_fewer.result c.args.follow c.args.fault log (sym c.is_undone.ensures ∙ c.if-not-is_undone.false)
    c.if-not-follow.false (c.are_fewer.ensures log h)
