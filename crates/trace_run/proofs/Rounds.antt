-- One round, from what each call did.
use Rattle.std.proofs.Common.{◌≡◌, ℕ, Bool, false, List, Option, Some, None, Ok, Err, refl, sym, subst, ◌∙◌}
use Rattle.lx_abi.specs.declared.ptrace.Reply.{Reply}
use Rattle.lx_abi.specs.declared.ptrace.Request.{Request}
use Rattle.host_link.specs.declared.fault.LinkFault.{LinkFault}
use Rattle.tr_core.specs.declared.tracing.Act.{Act}
use Rattle.tr_core.specs.declared.tracing.Act.TheVariants.{Ask, Finished}
use Rattle.tr_core.specs.declared.tracing.TraceFault.{TraceFault}
use Rattle.tr_core.specs.declared.tracing.TraceFault.TheVariants.{Inadmissible, Memory}
use Rattle.tr_core.specs.States.{State, Hears, heard, said, request_of, is_faulted, act_of, may_rest}
use Rattle.trace_run.specs.declared.running.RunFault.{RunFault}
use Rattle.trace_run.specs.declared.running.RunFault.TheVariants.{Link, Trace, Output}
use Rattle.trace_run.specs.Runs.{Answers, Ends, Round}
use Rattle.trace_run.specs.Writers.{PutsWhole, PutsPart}

-- the tracer goes on
pub record Asks (s : State) (r : Reply) (text : List ℕ) (q : Request) (t : State) : Type 0 where
  pub state : t ≡ heard s r
  pub bytes : text ≡ said s r
  pub request : request_of t ≡ Some q
  pub admitted : is_faulted t ≡ false

pub record Ends_here (s : State) (r : Reply) (text : List ℕ) (t : State) : Type 0 where
  pub state : t ≡ heard s r
  pub bytes : text ≡ said s r
  pub request : request_of t ≡ None
  pub admitted : is_faulted t ≡ false

pub asks : (s : State) (r : Reply) (act : Act) (bytes : List ℕ) (q : Request) (rests : Bool) (t : State)
    → Hears s r (Ok act) t → act ≡ Ask bytes q rests → Asks s r bytes q t
unfolding Hears
asks s r act bytes q rests t h e = go (request_of t) refl (sym e ∙ h.4)
  where
    go : (o : Option Request) → request_of t ≡ o → Ask bytes q rests ≡ act_of o (may_rest t) (said s r) → Asks s r bytes q t
    go None p k = absurd (cc k)
    go (Some q') p k = record { state = h.1; bytes = cc k; request = p ∙ cc k; admitted = h.3 }

pub ends : (s : State) (r : Reply) (act : Act) (bytes : List ℕ) (t : State) → Hears s r (Ok act) t → act ≡ Finished bytes → Ends_here s r bytes t
unfolding Hears
ends s r act bytes t h e = go (request_of t) refl (sym e ∙ h.4)
  where
    go : (o : Option Request) → request_of t ≡ o → Finished bytes ≡ act_of o (may_rest t) (said s r) → Ends_here s r bytes t
    go None p k = record { state = h.1; bytes = cc k; request = p; admitted = h.3 }
    go (Some q') p k = absurd (cc k)

module _ {L : Type 0} (answers : Answers L) (a b : Ends L) (r : Reply) (act : Act) where
  pub goes_on : (bytes : List ℕ) (q : Request) (rests : Bool) (next : Reply) → Hears a.state r (Ok act) b.state → act ≡ Ask bytes q rests → PutsWhole a.writer b.writer bytes → answers a.link q (Ok next) b.link → Round answers a r (Ok (Some next)) b
  unfolding Round
  goes_on bytes q rests next h e w l =
      let s = asks a.state r act bytes q rests b.state h e in
      (s.state, subst (PutsWhole a.writer b.writer) s.bytes w, (q, (s.request, l)))

  pub link_fails : (bytes : List ℕ) (q : Request) (rests : Bool) (f : LinkFault) → Hears a.state r (Ok act) b.state → act ≡ Ask bytes q rests → PutsWhole a.writer b.writer bytes → answers a.link q (Err f) b.link → Round answers a r (Err (Link f)) b
  unfolding Round
  link_fails bytes q rests f h e w l =
      let s = asks a.state r act bytes q rests b.state h e in
      (s.state, subst (PutsWhole a.writer b.writer) s.bytes w, (q, (s.request, l)))

  pub is_whole : (bytes : List ℕ) → Hears a.state r (Ok act) b.state → act ≡ Finished bytes → PutsWhole a.writer b.writer bytes → b.link ≡ a.link → Round answers a r (Ok None) b
  unfolding Round
  is_whole bytes h e w l =
      let s = ends a.state r act bytes b.state h e in
      (s.state, subst (PutsWhole a.writer b.writer) s.bytes w, s.admitted, s.request, l)

  pub writer_fails_asking : (bytes : List ℕ) (q : Request) (rests : Bool) (fault : RunFault) → fault ≡ Output → Hears a.state r (Ok act) b.state → act ≡ Ask bytes q rests → PutsPart a.writer b.writer bytes → b.link ≡ a.link → Round answers a r (Err fault) b
  unfolding Round
  writer_fails_asking bytes q rests fault i h e w l =
      let s = asks a.state r act bytes q rests b.state h e in
      subst (λ x. Round answers a r (Err x) b) (sym i) (s.state, subst (PutsPart a.writer b.writer) s.bytes w, s.admitted, l)

  pub writer_fails_ending : (bytes : List ℕ) (fault : RunFault) → fault ≡ Output → Hears a.state r (Ok act) b.state → act ≡ Finished bytes → PutsPart a.writer b.writer bytes → b.link ≡ a.link → Round answers a r (Err fault) b
  unfolding Round
  writer_fails_ending bytes fault i h e w l =
      let s = ends a.state r act bytes b.state h e in
      subst (λ x. Round answers a r (Err x) b) (sym i) (s.state, subst (PutsPart a.writer b.writer) s.bytes w, s.admitted, l)

module _ {L : Type 0} (answers : Answers L) (a b : Ends L) (r : Reply) where
  pub tracer_fails : (f : TraceFault) → Hears a.state r (Err f) b.state → b.writer ≡ a.writer → b.link ≡ a.link → Round answers a r (Err (Trace f)) b
  unfolding Round Hears
  tracer_fails Inadmissible h w l = (h.1, h.2, w, l)
  tracer_fails Memory h w l = (h.0, w, l)
