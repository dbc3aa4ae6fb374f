-- A fault in the place of the next request.
use Rattle.std.proofs.Common.{◌≡◌, ℕ, List, [], Err, subst, ap, inl, inr, ◌∙◌}
use Rattle.host_frame.specs.declared.frame.Frame.{Frame}
use Rattle.host_frame.specs.declared.fault.WireFault.TheVariants.{Length, Kind, Payload, Memory}
use Rattle.host_wire.specs.Ends.{Input}
use Rattle.host_wire.specs.Receiving.{Received}
use Rattle.host_wire.specs.Streams.{Stream, Feeding, Going, as_stream, nothing_fed}
use Rattle.host_wire.specs.declared.receiving.ReceiveFault.{ReceiveFault}
use Rattle.host_wire.specs.declared.receiving.ReceiveFault.TheVariants as receiving
use Rattle.host_serve.specs.Requests.{Next, fault_of}

going : {s : Stream} (new : Feeding) → s ≡ as_stream new → new.ready ≡ [] → s ≡ Going [] new.under_way
going new is none = is ∙ ap (λ (fs : List Frame). Going fs new.under_way) none

pub next_failed : {most : ℕ} {a b : Input} {old new : Feeding} (fault : ReceiveFault) (number : ℕ) → old ≡ nothing_fed → Received most a old (Err fault) b new → Next most a (Err (fault_of fault)) number b
next_failed {most} {a} {b} {old} {new} receiving.Read number fresh received =
    let first : Received most a nothing_fed (Err receiving.Read) b new = subst (λ (x : Feeding). Received most a x (Err receiving.Read) b new) fresh received in
    record { came = first.came; received = first.received; so = (new.under_way, (going new first.so.0 first.so.1, first.so.2)) }
next_failed {most} {a} {b} {old} {new} (receiving.Wire Length) number fresh received =
    let first : Received most a nothing_fed (Err (receiving.Wire Length)) b new = subst (λ (x : Feeding). Received most a x (Err (receiving.Wire Length)) b new) fresh received in
    record { came = first.came; received = first.received; so = inl first.so }
next_failed {most} {a} {b} {old} {new} (receiving.Wire Kind) number fresh received =
    let first : Received most a nothing_fed (Err (receiving.Wire Kind)) b new = subst (λ (x : Feeding). Received most a x (Err (receiving.Wire Kind)) b new) fresh received in
    record { came = first.came; received = first.received; so = inr (inl first.so) }
next_failed {most} {a} {b} {old} {new} (receiving.Wire Payload) number fresh received =
    let first : Received most a nothing_fed (Err (receiving.Wire Payload)) b new = subst (λ (x : Feeding). Received most a x (Err (receiving.Wire Payload)) b new) fresh received in
    record { came = first.came; received = first.received; so = inr (inr first.so) }
next_failed (receiving.Wire Memory) number fresh received = record { came = received.came; received = received.received; so = tt }
