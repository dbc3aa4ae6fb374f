use Rattle.std.proofs.Common.{Some, ap, ◌∙◌}
use Rattle.lx_files.specs.Folders.{led, split}
use Rattle.lx_files.proofs.Cutting.{cut_rest}
use Rattle.lx_files.proofs.Walking.{walked_out, walked_on, walked_in}
use Rattle.lx_files.proofs.folders.walk.Goals as goal

pub returns-in-None : goal.returns-in-None
returns-in-None c = c.child.ensures ∙ walked_in c.args.children.now c.names.folder c.names.rest.now c.in-None.ensures ∙ c.names.invariant

pub returns-in-None-child : goal.returns-in-None-child
returns-in-None-child c = walked_out c.args.children.now c.names.folder c.names.rest.now c.in-Some.end c.in-Some.ensures c.in-None-child.ensures ∙ c.names.invariant

pub names-preserved : goal.names-preserved
names-preserved c =
    ap (λ r. led c.args.children.now (Some c.in-Some-child.next) (split r)) (c.after_first-rest.ensures ∙ cut_rest c.names.rest.now c.in-Some.end)
    ∙ walked_on c.args.children.now c.names.folder c.names.rest.now c.in-Some.end c.in-Some-child.next c.in-Some.ensures c.in-Some-child.ensures ∙ c.names.invariant
