use Rattle.std.proofs.Common.{map, List, Bor, subst}
use Rattle.lx_abi.specs.declared.boot.GuestFile.{GuestFile}
use Rattle.lx_boot.specs.Neighbours.{IsTold}
use Rattle.lx_boot.proofs.Ordered.{told_again}
use Rattle.lx_boot.proofs.neighbours.tell.Goals as goal

pub returns-in-Ok : goal.returns-in-Ok
returns-in-Ok c =
    let now = λ (f : Bor GuestFile). f.now in
    let all : IsTold (map now c.in-Ok.order.items) c.told_by.result = subst (λ (x : List (Bor GuestFile)). IsTold (map now x) c.told_by.result) c.as_slice.ensures.value c.told_by.ensures in
    told_again c.args.files.now (map now c.in-Ok.order.items) c.told_by.result c.in-Ok.ensures all
