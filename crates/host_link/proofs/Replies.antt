-- The reply in the one frame that came.
use Rattle.std.proofs.Common.{◌≡◌, ℕ, ◌<◌, ◌≤◌, ◌^◌, Bool, true, false, cond, eqb, List, [], ◌∷◌, length, Option, Some, None, Result, Ok, Err, refl, sym, ap, subst, ◌∙◌, arith, inl, inr}
use Rattle.std.specs.Prelude.{IsSome, OnOk}
use Rattle.std.specs.List.{All}
use Rattle.lx_abi.specs.declared.ptrace.Reply.{Reply}
use Rattle.lx_abi.specs.declared.ptrace.Request.{Request}
use Rattle.pt_model.specs.Admissible.{answers}
use Rattle.host_frame.specs.declared.frame.Payload.{Payload}
use Rattle.host_frame.specs.declared.frame.Payload.TheVariants.{Request as Of_request, Reply as Of_reply}
use Rattle.host_frame.specs.declared.frame.Frame.{Frame}
use Rattle.host_frame.specs.declared.fault.WireFault.TheVariants.{Length, Kind, Payload as Body_fault, Memory as No_memory}
use Rattle.host_wire.specs.Ends.{Input}
use Rattle.host_wire.specs.Receiving.{Received, Receiving}
use Rattle.host_wire.specs.declared.receiving.ReceiveFault.{ReceiveFault}
use Rattle.host_wire.specs.declared.receiving.ReceiveFault.TheVariants as receiving
use Rattle.host_wire.specs.Streams.{Stream, Going, Feeding, as_stream, nothing_fed, stream_of}
use Rattle.host_wire.proofs.Gathered.{few_times}
use Rattle.host_link.specs.declared.fault.LinkFault.{LinkFault}
use Rattle.host_link.specs.declared.fault.LinkFault.TheVariants.{Ended, Read, Write, Malformed, Sequence, Inadmissible, Memory, TooMany}
use Rattle.host_link.specs.Pipes.{Came, CameAs, Exchanged, SentAs, fault_of, request_frame, reply_in, reply_of}

at_answer : (P : Result Reply LinkFault → Type 0) → ((r : Reply) → P (Ok r)) → P (Err Inadmissible) → (b : Bool) (r : Reply) → P (cond b (Ok r) (Err Inadmissible))
at_answer P ok other true r = ok r
at_answer P ok other false r = other

at_number : (P : Result Reply LinkFault → Type 0) → ((r : Reply) → P (Ok r)) → P (Err Sequence) → P (Err Inadmissible) → (b : Bool) (x y : Payload) → P (cond b (reply_of x y) (Err Sequence))
at_number P ok late other false x y = late
at_number P ok late other true (Of_request q) (Of_reply r) = at_answer P ok other (answers q r) r
at_number P ok late other true (Of_request q) (Of_request p) = other
at_number P ok late other true (Of_reply s) y = other

came_whole : (most : ℕ) (a b : Input) (came : List ℕ) (sent f : Frame) → Receiving most a b came → stream_of came ≡ Going (f ∷ []) [] → Came most a (reply_in sent f) sent b
came_whole most a b came sent f received whole = record {
  came = came;
  received = received;
  so = at_number (λ result. reply_in sent f ≡ result → CameAs most result sent received.reads (stream_of came) b) (λ r e. (f, (whole, e))) (λ e. (f, (whole, e))) (λ e. (f, (whole, e))) (eqb f.number sent.number) sent.body f.body refl;
}

-- nothing is left of what was fed behind the one frame
pub nothing_left : {old new : Feeding} {o : Option Frame} {f : Frame} → old ≡ nothing_fed → o ≡ Some f
    → (old.ready ≡ [] → IsSome o → new ≡ nothing_fed) → new ≡ nothing_fed
nothing_left fresh is alone = alone (ap (λ (x : Feeding). x.ready) fresh) (subst IsSome (sym is) refl)

pub where_ok : {P : Type 0} (result : Result Reply LinkFault) → P → OnOk result P
where_ok (Ok r) p = p
where_ok (Err fault) p = search

pub reply_received : {most : ℕ} {a b : Input} {old new : Feeding} {o : Option Frame} (f sent : Frame) → old ≡ nothing_fed → o ≡ Some f → Received most a old (Ok o) b new → (old.ready ≡ [] → IsSome o → new ≡ nothing_fed)
    → Came most a (reply_in sent f) sent b
reply_received {most} {a} {b} {old} {new} {o} f sent fresh is received alone =
    let some : Received most a old (Ok (Some f)) b new = subst (λ (x : Option Frame). Received most a old (Ok x) b new) is received in
    let first : Received most a nothing_fed (Ok (Some f)) b new = subst (λ (x : Feeding). Received most a x (Ok (Some f)) b new) fresh some in
    let none : new ≡ nothing_fed = nothing_left fresh is alone in
    came_whole most a b first.came sent f first.received (first.so ∙ ap (λ (n : Feeding). Going (f ∷ n.ready) n.under_way) none)

going : {s : Stream} (new : Feeding) → s ≡ as_stream new → new.ready ≡ [] → s ≡ Going [] new.under_way
going new is none = is ∙ ap (λ (fs : List Frame). Going fs new.under_way) none

-- the end of input
pub reply_ended : {most : ℕ} {a b : Input} {old new : Feeding} {o : Option Frame} (sent : Frame) → old ≡ nothing_fed → o ≡ None → Received most a old (Ok o) b new → Came most a (Err Ended) sent b
reply_ended {most} {a} {b} {old} {new} sent fresh is received =
    let none : Received most a old (Ok None) b new = subst (λ (x : Option Frame). Received most a old (Ok x) b new) is received in
    let first : Received most a nothing_fed (Ok None) b new = subst (λ (x : Feeding). Received most a x (Ok None) b new) fresh none in
    record { came = first.came; received = first.received; so = (new.under_way, (going new first.so.0 first.so.1, first.so.2)) }

-- a fault
pub reply_failed : {most : ℕ} {a b : Input} {old new : Feeding} (fault : ReceiveFault) (sent : Frame) → old ≡ nothing_fed → Received most a old (Err fault) b new → Came most a (Err (fault_of fault)) sent b
reply_failed {most} {a} {b} {old} {new} receiving.Read sent fresh received =
    let first : Received most a nothing_fed (Err receiving.Read) b new = subst (λ (x : Feeding). Received most a x (Err receiving.Read) b new) fresh received in
    record { came = first.came; received = first.received; so = (new.under_way, (going new first.so.0 first.so.1, first.so.2)) }
reply_failed {most} {a} {b} {old} {new} (receiving.Wire Length) sent fresh received =
    let first : Received most a nothing_fed (Err (receiving.Wire Length)) b new = subst (λ (x : Feeding). Received most a x (Err (receiving.Wire Length)) b new) fresh received in
    record { came = first.came; received = first.received; so = inl first.so }
reply_failed {most} {a} {b} {old} {new} (receiving.Wire Kind) sent fresh received =
    let first : Received most a nothing_fed (Err (receiving.Wire Kind)) b new = subst (λ (x : Feeding). Received most a x (Err (receiving.Wire Kind)) b new) fresh received in
    record { came = first.came; received = first.received; so = inr (inl first.so) }
reply_failed {most} {a} {b} {old} {new} (receiving.Wire Body_fault) sent fresh received =
    let first : Received most a nothing_fed (Err (receiving.Wire Body_fault)) b new = subst (λ (x : Feeding). Received most a x (Err (receiving.Wire Body_fault)) b new) fresh received in
    record { came = first.came; received = first.received; so = inr (inr first.so) }
reply_failed (receiving.Wire No_memory) sent fresh received = record { came = received.came; received = received.received; so = tt }

-- ---- what holds where nothing is known of the bytes

fitting : (b : Bool) (r s : Reply) → cond b (Ok s) (Err Inadmissible) ≡ Ok r → (b ≡ true) × (s ≡ r)
fitting true r s e = (refl, cc)
fitting false r s e = absurd cc

reply_fits : (q : Request) (r : Reply) (body : Payload) → reply_of (Of_request q) body ≡ Ok r → answers q r ≡ true
reply_fits q r (Of_reply s) e = let f = fitting (answers q s) r s e in ap (answers q) (sym f.1) ∙ f.0
reply_fits q r (Of_request p) e = absurd cc

numbered : (b : Bool) (x : Result Reply LinkFault) (r : Reply) → cond b x (Err Sequence) ≡ Ok r → x ≡ Ok r
numbered true x r e = e
numbered false x r e = absurd cc

pub exchanged_fits : (most number : ℕ) (q : Request) (ahead : Bool) (r : Reply) (a b : Input) (old new : Option (List ℕ)) (puts puts' : List ℕ) (broken_writer : ℕ)
    → Exchanged most (request_frame number q) ahead a b old new puts puts' (Ok r) broken_writer → answers q r ≡ true
exchanged_fits most number q ahead r a b old new puts puts' broken_writer (inl x) =
    let f = x.1.so.0 in
    reply_fits q r f.body (numbered (eqb f.number number) (reply_of (Of_request q) f.body) r x.1.so.1.1)
exchanged_fits most number q ahead r a b old new puts puts' broken_writer (inr x) = absurd cc

not_sent : (sent : Frame) (ahead : Bool) (fault : LinkFault) (old new : Option (List ℕ)) (puts puts' : List ℕ) (broken : ℕ) → Read ≡ fault → SentAs (Err fault) sent ahead old new puts puts' broken → ⊥
not_sent sent ahead Read old new puts puts' broken e s = s
not_sent sent ahead Ended old new puts puts' broken e s = absurd cc
not_sent sent ahead Write old new puts puts' broken e s = absurd cc
not_sent sent ahead Malformed old new puts puts' broken e s = absurd cc
not_sent sent ahead Sequence old new puts puts' broken e s = absurd cc
not_sent sent ahead Inadmissible old new puts puts' broken e s = absurd cc
not_sent sent ahead Memory old new puts puts' broken e s = absurd cc
not_sent sent ahead TooMany old new puts puts' broken e s = absurd cc

abbrev fault_in : Result Reply LinkFault → LinkFault
fault_in (Ok r) = Ended
fault_in (Err fault) = fault

-- so many reads gave as many bytes at least
long : {most : ℕ} {a b : Input} {came : List ℕ} (r : Receiving most a b came) → length r.reads ≡ most → All (λ n. 1 ≤ n) r.reads → most ≤ length came
long r many some = omega (arith, many, few_times r.reads some, r.whole)

pub unread : ((bytes tail : List ℕ) → stream_of bytes ≡ Going [] tail → length bytes < 134217732)
    → (sent : Frame) (ahead : Bool) (a b : Input) (old new : Option (List ℕ)) (puts puts' : List ℕ) (broken_writer : ℕ) → Exchanged (2 ^ 32) sent ahead a b old new puts puts' (Err Read) broken_writer → b.broken ≡ 1
unread few sent ahead a b old new puts puts' broken_writer (inl x) = elim x.1.so.1.1 [
  | inl is ↦ is
  | inr cut ↦ absurd (omega (arith, long x.1.received cut.0 cut.1, few x.1.came x.1.so.0 x.1.so.1.0))
]
unread few sent ahead a b old new puts puts' broken_writer (inr x) = absurd (not_sent sent ahead x.0 old new puts puts' broken_writer (ap fault_in x.1.0) x.1.1.0)
