use Rattle.std.proofs.Common.{ap, ◌∙◌, length, arith}
use Rattle.lx_fcalls.proofs.Lengths.{length_bytes_at}
use Rattle.lx_fcalls.proofs.write.write.Goals as goal

pub write_object-requires : goal.write_object-requires
write_object-requires c =
    let n = ap length (c.as_slice.ensures.value ∙ c.in-Ok.ensures.value) ∙ length_bytes_at _ _ _ in
    let most = c.min-count.ensures in
    omega (arith, n, most)
