use Rattle.std.proofs.Common.{◌≤◌, subst, sym, ap, ◌∙◌}
use Rattle.rv_mem.specs.Memory.{Memory, written}
use Rattle.rv_mem.specs.Mapping.{mapped, page_count}
use Rattle.lx_exec.specs.Programs.{stack_top, page, read_write, read_execute}
use Rattle.lx_exec.proofs.Roomy.{stack_few, bare_few}
use Rattle.lx_exec.proofs.programs.bare.Goals as goal

pub map_and_load-requires-clause-few : goal.map_and_load-requires-clause-few
map_and_load-requires-clause-few c = subst (λ (m : Memory). page_count (mapped m 274877640704 262144 read_write) ≤ 16384) (sym c.new-space.ensures) stack_few

pub map_and_load-requires-2-clause-few : goal.map_and_load-requires-2-clause-few
map_and_load-requires-2-clause-few c =
    subst (λ (m : Memory). page_count (mapped m stack_top page read_execute) ≤ 16384)
    (sym (c.in_ok-map_and_load.ensures ∙ ap (λ (m : Memory). written (mapped m 274877640704 262144 read_write) stack_top _) c.new-space.ensures)) bare_few
