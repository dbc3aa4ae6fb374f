use Rattle.std.proofs.Common.{List, ℕ, true, Option, IfOk, sym, subst}
use Rattle.pt_model.specs.Tracer.{Heard}
use Rattle.tr_args.specs.Decoders.{Decoding}
use Rattle.tr_core.specs.Crossings.{half_at, peeked_at, reads_at}
use Rattle.tr_core.specs.Hearings.{Comes, known_at}
use Rattle.tr_core.specs.Held.{IsOf}
use Rattle.tr_core.specs.Settings.{options_of, script_of}
use Rattle.tr_core.proofs.Crossed.{bytes_came, none_came}
use Rattle.tr_core.proofs.crossing.hear_bytes.Goals as goal

pub returns-in-None : goal.returns-in-None
returns-in-None c =
    let s = c.args.session.now in
    let t = c.args.tracee.now in
    let pid = c.args.pid in
    rw (c.in-None.is, none_came (options_of s.settings) (script_of s.settings) pid c.args.crossing c.args.decoder.value.got (known_at s pid t)) (c.nothing.ensures s pid t)

pub read-requires : goal.read-requires
read-requires c =
    let o = c.args.session.now.settings.options in
    subst (λ (d : Decoding). IsOf o (half_at c.args.tracee.now.called c.args.crossing) d) (sym c.in_ok-fed-in-Some.ensures)
    (record { context = c.requires.context; shown = c.requires.shown })

pub returns-in_ok-fed-in-Some : goal.returns-in_ok-fed-in-Some
returns-in_ok-fed-in-Some c =
    let s = c.args.session.now in
    let t = c.args.tracee.now in
    let pid = c.args.pid in
    let o = options_of s.settings in
    let script = script_of s.settings in
    let k = known_at s pid t in
    let got = c.args.decoder.value.got in
    subst (λ (x : Option (List ℕ)). IfOk c.read.result (λ h. Comes (peeked_at o script pid c.args.crossing got k x) h s c.read.new.session pid t c.read.new.tracee))
    (sym c.in-Some.is)
    (subst (λ (m : Heard). IfOk c.read.result (λ h. Comes m h s c.read.new.session pid t c.read.new.tracee))
    (sym (bytes_came o script pid c.args.crossing got k c.in-Some.bytes))
    (subst (λ (d : Decoding). IfOk c.read.result (λ h. Comes (reads_at o script pid c.args.crossing d.got k true) h s c.read.new.session pid t c.read.new.tracee))
    c.in_ok-fed-in-Some.ensures c.read.ensures))
