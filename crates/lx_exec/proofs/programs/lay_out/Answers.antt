use Rattle.std.proofs.Common.{ℕ, ◌-◌, ◌*◌, ◌/◌, length, ap, ap₂, sym, ◌∙◌, arith}
use Rattle.lx_exec.specs.Programs.{vector_from}
use Rattle.lx_exec.proofs.Starts.{strings-append}
use Rattle.lx_exec.proofs.programs.lay_out.Goals as goal

pub overflow_sub-address : goal.overflow_sub-address
overflow_sub-address c =
    let is = ap length (c.as_slice.ensures.value ∙ c.in_ok-strings.ensures ∙ sym (strings-append c.args.argv.now c.args.env.now)) in
    omega (arith, c.requires, is)

pub overflow_sub-sp : goal.overflow_sub-sp
overflow_sub-sp c =
    let is = ap length (c.as_slice.ensures.value ∙ c.in_ok-strings.ensures ∙ sym (strings-append c.args.argv.now c.args.env.now)) in
    let vector_is = ap length (c.as_slice-2.ensures.value ∙ c.in_ok-vector.ensures ∙ ap (λ n. vector_from (274877902848 - n) c.args.argv.now c.args.env.now) is) in
    omega (arith, c.requires, is, vector_is)

pub returns : goal.returns
returns c =
    let text_is = c.in_ok-strings.ensures ∙ sym (strings-append c.args.argv.now c.args.env.now) in
    let is = ap length (c.as_slice.ensures.value ∙ text_is) in
    let vector_is = c.in_ok-vector.ensures ∙ ap (λ n. vector_from (274877902848 - n) c.args.argv.now c.args.env.now) is in
    let size_is = ap length (c.as_slice-2.ensures.value ∙ vector_is) in
    record {
      strings_are = text_is;
      address_is = ap (λ n. 274877902848 - n) is;
      vector_is = vector_is;
      sp_is = ap₂ (λ (n m : ℕ). (274877902848 - n - 8 * m) / 16 * 16) is size_is;
    }
