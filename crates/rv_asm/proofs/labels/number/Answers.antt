use Rattle.std.proofs.Common.{◌≡◌, sym, rules}
use Rattle.rv_asm.proofs.LabelIndex.{numbered_now}
use Rattle.rv_asm.proofs.labels.number.Goals as goal

pub returns-clause-ok : goal.returns-clause-ok
returns-clause-ok c =
    numbered_now (λ k. k.items) c.args.first.now c.insert.new.self c.in_ok-key.key c.args.name.now c.args.number (sym c.if-contains_key.ensures)
    (let same : c.in_ok-key.key.items ≡ c.args.name.now = search rules in same) c.in_ok-insert.ensures.entries
