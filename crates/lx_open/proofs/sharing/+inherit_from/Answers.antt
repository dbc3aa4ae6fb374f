use Rattle.std.proofs.Common.{Some, None, ap, sym, subst, ◌∙◌, rules, arith}
use Rattle.std.specs.Prelude.{IsSome}
use Rattle.std.specs.FinMap as maps
use Rattle.lx_open.specs.Kinds.{SlotMap}
use Rattle.lx_open.specs.Nexts.{IsNextOpen}
use Rattle.lx_open.proofs.Rows.{inherited_end}
use Rattle.lx_open.proofs.Inheriting.{there, stands_again, counts_all, counts_follow, inherits}
use Rattle.lx_open.proofs.sharing.+inherit_from.Goals as goal

pub returns-in_default-clause-ok : goal.returns-in_default-clause-ok
returns-in_default-clause-ok t c =
    let none : IsNextOpen c.args.map.now c.args.parent c.args.from None = search rules in
    inherited_end c.args.map.now c.args.parent c.args.child c.args.from c.requires.small none

pub inherit_from-requires : goal.inherit_from-requires
inherit_from-requires t c =
    let next : IsNextOpen c.args.map.now c.args.parent c.args.from (Some c.in-Some.fd) = search rules in
    let low = next.0 in let small = next.1 in let fall = c.decreases in (
      omega (arith, low, small, fall),
      (
        omega (arith, small),
        counts_all c.args.counts.now c.share.new.counts c.args.map.now c.share.new.map c.pair-key.result c.in-Some-get.slot c.requires.counted c.in_ok-was.ensures.counted c.in_ok-was.ensures.put,
      ),
    )

pub unshare-requires : goal.unshare-requires
unshare-requires t c =
    subst (λ (m : SlotMap). IsSome (maps.get m c.pair-key.result)) (sym c.in-Err.ensures.same)
    (there c.args.map.now c.share.new.map c.pair-key.result c.in-Some-get.slot c.in_ok-was.ensures.put)

pub returns-in-Ok-clause-ok : goal.returns-in-Ok-clause-ok
returns-in-Ok-clause-ok t c =
    let next : IsNextOpen c.args.map.now c.args.parent c.args.from (Some c.in-Some.fd) = search rules in
    inherits c.args.map.now c.share.new.map c.inherit_from.new.map c.args.parent c.args.child c.args.from c.in-Some.fd c.pair-key.result c.in-Some-get.slot next
    (c.in-Some-get.ensures ∙ ap (maps.get c.args.map.now) c.pair.ensures) c.pair-key.ensures c.in_ok-was.ensures.put c.in-Ok.ensures.ok

pub returns-in-Ok-clause-counts : goal.returns-in-Ok-clause-counts
returns-in-Ok-clause-counts t c =
    counts_follow c.args.counts.now c.share.new.counts c.inherit_from.new.counts c.forget.new.counts c.args.map.now c.share.new.map c.inherit_from.new.map c.pair-key.result c.in-Some-get.slot c.in_ok-was.was'
    c.requires.counted c.in_ok-was.ensures.counted c.in_ok-was.ensures.put c.in_ok-was.ensures.was c.in-Ok.ensures.counts c.forget.ensures

pub returns-in-Err-clause-same : goal.returns-in-Err-clause-same
returns-in-Err-clause-same t c =
    c.unshare.ensures.map
    ∙ stands_again c.args.map.now c.inherit_from.new.map c.pair-key.result c.in-Some-get.slot c.in_ok-was.was' c.in_ok-was.ensures.was (c.in-Err.ensures.same ∙ c.in_ok-was.ensures.put)
