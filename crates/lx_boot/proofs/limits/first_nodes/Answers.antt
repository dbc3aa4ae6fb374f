use Rattle.std.proofs.Common.{map, take, length, ap, ◌∙◌, Bor}
use Rattle.lx_abi.specs.declared.boot.GuestFile.{GuestFile}
use Rattle.lx_boot.specs.Limits.{new_directories}
use Rattle.lx_boot.proofs.Nearest.{no_first, one_first}
use Rattle.lx_boot.proofs.limits.first_nodes.Goals as goal

pub returns-in-None : goal.returns-in-None
returns-in-None c = no_first c.args.files.now c.in-None.ensures.cases

pub returns-in-Some : goal.returns-in-Some
returns-in-Some c =
    let now = λ (f : Bor GuestFile). f.now in
    one_first (map now c.args.files.now) (map now c.in-Some.rest.now) c.in-Some.file.now.now c.new_beside.result (ap (map now) c.in-Some.ensures.cases.0)
    (c.new_beside.ensures.counted ∙ ap (λ p. new_directories (take 1 (map now c.in-Some.rest.now)) p (length p)) c.as_slice.ensures)
