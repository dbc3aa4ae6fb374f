use Rattle.std.proofs.Common.{map, Bor, ap}
use Rattle.lx_abi.specs.declared.boot.GuestFile.{GuestFile}
use Rattle.lx_boot.proofs.Nearest.{none_told}
use Rattle.lx_boot.proofs.Ordered.{told_of, in_order_where}
use Rattle.lx_boot.proofs.neighbours.told_by.Goals as goal

pub few_where-requires : goal.few_where-requires
few_where-requires c h =
    let now = λ (f : Bor GuestFile). f.now in
    in_order_where (map now c.args.files.now) c.in-Some.first.now.now (map now c.in-Some.rest.now) c.under_next-under.result (ap (map now) c.in-Some.ensures.cases.0) c.under_next-under.ensures h

pub returns-in-Some : goal.returns-in-Some
returns-in-Some c =
    let now = λ (f : Bor GuestFile). f.now in
    told_of (map now c.args.files.now) c.in-Some.first.now.now (map now c.in-Some.rest.now) c.under_next-under.result c.twice_next.result c.few_where.result (ap (map now) c.in-Some.ensures.cases.0) c.under_next-under.ensures c.twice_next.ensures c.few_where.ensures

pub returns-in-None : goal.returns-in-None
returns-in-None c = none_told c.args.files.now c.in-None.ensures.cases
