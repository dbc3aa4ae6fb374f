use Rattle.std.proofs.Common.{ℕ, suc, ◌≡◌, ◌<◌, ◌+◌, ◌-◌, ◌∙◌, List, Some, ap, sym, arith}
use Rattle.std.proofs.lemmas.Bool.Decides.{nat_tests}
use Rattle.tr_args.specs.Decoders.{Decoding, given, wants}
use Rattle.plain_trace.specs.Reading.{note_in, read_from}
use Rattle.plain_trace.proofs.Feeding.{read_more}
use Rattle.plain_trace.proofs.reading.read.Goals as goal

pub loop-preserved : goal.loop-preserved
loop-preserved c =
    let note = note_in c.args.kernel.now c.args.pid in
    let some : c.loop.counter < 96 = grind (arith, nat_tests, c.loop-test.true) in
    let count : 96 - c.loop.counter ≡ suc (96 - (c.loop.counter + 1)) = omega (arith, some) in
    let wish : Some (c.in-Some.address, c.in-Some.length) ≡ wants c.loop.decoder = c.in-Some.ensures in
    ap (λ (d : Decoding). read_from note (96 - (c.loop.counter + 1)) d)
    (c.in_ok-give.ensures.ok ∙ ap (λ (b : List ℕ). given c.loop.decoder b) c.in_ok-bytes.ensures)
    ∙ sym (read_more note (96 - (c.loop.counter + 1)) (96 - c.loop.counter) c.loop.decoder (c.in-Some.address, c.in-Some.length) wish count)
    ∙ c.loop.invariant
