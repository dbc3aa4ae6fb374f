use Rattle.std.proofs.Common.{rules, nat_le, arith}
use Rattle.std.proofs.lemmas.List.Sorted.{IsPartitionPoint-from_clause, IsPartitionedBy-leb}
use Rattle.elf_symbols.proofs.Ranges.{none_by, some_by}
use Rattle.elf_lines.specs.Index.{start_of}
use Rattle.elf_lines.proofs.index.last_by.Goals as goal

pub returns-then-count-eq0 : goal.returns-then-count-eq0
returns-then-count-eq0 c =
    let point = IsPartitionPoint-from_clause (λ f. nat_le (start_of f) c.args.address) c.args.rows.now c.partition_point-count.result c.partition_point-count.ensures.partitioned (IsPartitionedBy-leb start_of c.args.rows.now c.args.address c.requires) (λ a r q k. search rules) in
    none_by start_of c.args.address c.args.rows.now c.partition_point-count.result point c.if-count-eq0.true

pub returns : goal.returns
returns c =
    let point = IsPartitionPoint-from_clause (λ f. nat_le (start_of f) c.args.address) c.args.rows.now c.partition_point-count.result c.partition_point-count.ensures.partitioned (IsPartitionedBy-leb start_of c.args.rows.now c.args.address c.requires) (λ a r q k. search rules) in
    some_by start_of c.args.address c.args.rows.now c.partition_point-count.result _ point c.partition_point-count.ensures.bound (omega arith)
