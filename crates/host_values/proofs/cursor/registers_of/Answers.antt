use Rattle.std.proofs.Common.{◌≡◌, take, sym, ap, ◌∙◌, arith, refl}
use Rattle.std.proofs.lemmas.Bool.{le-ltb}
use Rattle.host_values.specs.Reading.{registers_at, doubles}
use Rattle.host_values.proofs.Registers.{read_doubles, doubles_take}
use Rattle.host_values.proofs.cursor.registers_of.Goals as goal

pub returns : goal.returns
unfolding registers_at
returns c =
    let read = read_doubles 32 c.split_at.result.0.now c.read_u64_into.new.dst (omega arith) c.read_u64_into.ensures in
    let front : c.split_at.result.0.now ≡ take 256 c.args.bytes.now = c.split_at.ensures.front in
    let all : doubles 32 c.args.bytes.now ≡ c.read_u64_into.new.dst = sym (doubles_take 32 0 c.args.bytes.now) ∙ ap (doubles 32) (sym front) ∙ read in
    rw (le-ltb _ _ c.if-bytes-lt256.false, all, c.split_at.ensures.back, c.in_ok-new.ensures) refl
