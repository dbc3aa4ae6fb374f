use Rattle.std.proofs.Common.{arith}
use Rattle.rv_syntax.proofs.StringSteps.{string_closed, string_refused, string_goes, string_put, string_open}
use Rattle.rv_syntax.proofs.strings.read_string.Goals as goal
use Rattle.rv_syntax.proofs.strings.read_string.Goals.{in-Go, in-Put+in_ok-push-in-Put}

pub returns-in-Close : goal.returns-in-Close
returns-in-Close c = string_closed c.loop-i.reading c.args.text.now c.loop-i.i _ c.loop-i.bytes.items _ c.loop-i-test.true (omega arith) c.in-Close.ensures c.loop-i.invariant

pub returns-in-Refuse : goal.returns-in-Refuse
returns-in-Refuse c = string_refused c.loop-i.reading c.args.text.now c.loop-i.i c.loop-i.bytes.items _ c.loop-i-test.true c.in-Refuse.ensures c.loop-i.invariant

pub loop-i-preserved : goal.loop-i-preserved
loop-i-preserved c =
    elim c.match-advance.branch [
      | in-Go w ↦ rw (w.bytes-is, w.reading-is) (string_goes c.loop-i.reading w.in-Go.next c.args.text.now c.loop-i.i c.loop-i.bytes.items _ c.loop-i-test.true w.in-Go.ensures c.loop-i.invariant)
      | in-Put+in_ok-push-in-Put w ↦
          rw (w.bytes-is, w.reading-is, w.in_ok-push-in-Put.ensures.items) (string_put c.loop-i.reading w.in-Put.value c.args.text.now c.loop-i.i c.loop-i.bytes.items _ c.loop-i-test.true w.in-Put.ensures c.loop-i.invariant)
    ]

pub returns : goal.returns
returns c = string_open c.loop-i.reading c.args.text.now c.loop-i.i c.loop-i.bytes.items _ (omega arith) c.loop-i.invariant
