use Rattle.std.proofs.Common.{rules}
use Rattle.std.proofs.lemmas.List.Sorted.{IsNonDecreasingBy-from_sort_by_key}
use Rattle.elf_lines.specs.Index.{start_of}
use Rattle.elf_lines.proofs.index.sort.Goals as goal

pub returns : goal.returns
returns c = (
  c.in_ok-sort_by_key.ensures.permutation,
  IsNonDecreasingBy-from_sort_by_key start_of _ c.in_ok-sort_by_key.ensures.sorted (λ a r q k. search rules),
)
