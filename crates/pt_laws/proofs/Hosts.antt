-- The host that code has runs as the ptrace machine, so it keeps what that keeps.
use Rattle.std.proofs.Common.{ℕ, Bool, false, List, [], ◌∷◌, Option, Some, None, sym, subst}
use Rattle.std.specs.Option.{unwrap_or}
use Rattle.lx_abi.specs.declared.outcome.Outcome.{Outcome}
use Rattle.lx_abi.specs.declared.ptrace.Reply.{Reply}
use Rattle.lx_abi.specs.declared.ptrace.Request.{Request}
use Rattle.lx_abi.specs.declared.schedule.Event.TheVariants.{Turn, Serve}
use Rattle.lx_model.specs.Machine.{Machine}
use Rattle.pt_model.specs.Ptrace.{Host}
use Rattle.pt_model.specs.Requests.{serve}
use Rattle.pt_model.specs.Hosting.{Hosting, host_in, IsFresh, hosting_turn, hosting_serve, hosting_pending, hosting_asked, first_hosting}
use Rattle.pt_model.specs.HostLaws.{HostsTurnAlike, HostsServeAlike, HostsBeginAlike}
use Rattle.pt_laws.specs.Stops.{AreStops, minds}
use Rattle.pt_laws.specs.Hosts.{HostDeed, Puts, Comes, after, after_all, minds_pending, minds_after, minds_deeds, HostsKeepStops}
use Rattle.pt_laws.proofs.Turning.{turns_keep_stops}
use Rattle.pt_laws.proofs.Asking.{requests_keep_stops}
use Rattle.pt_laws.proofs.Stops.{first_stops}

record IsKept {S B : Type 0} (v : Hosting S B) (told : ℕ → Bool) : Type 0 where
  stops : AreStops (record { host = host_in v; told = told })
  fresh : IsFresh v

module _ {S B : Type 0} (turns : HostsTurnAlike S B) (serves : HostsServeAlike S B) (m : Machine S B) (outcome : S → Outcome) (follow : Bool) where
  abbrev Stops : (ℕ → Bool) → Host S B → Type 0
  Stops told h = AreStops (record { host = h; told = told })

  turn_kept : (v : Hosting S B) (told : ℕ → Bool) (p : ℕ) → IsKept v told → IsKept (hosting_turn m follow v p) told
  turn_kept v told p k = let alike = turns m follow v p k.fresh in record {
    stops = subst (Stops told) (sym alike.0) (turns_keep_stops m (record { host = host_in v; told = told }) p k.stops);
    fresh = alike.1;
  }

  serve_kept : (v : Hosting S B) (told : ℕ → Bool) (q : Request) → IsKept v told → IsKept (hosting_serve m outcome v q).hosting (minds told q (hosting_serve m outcome v q).reply)
  serve_kept v told q k = let alike = serves m outcome v q k.fresh in record {
    stops = subst (Stops (minds told q (hosting_serve m outcome v q).reply)) (sym alike.0)
        (subst (λ (r : Option Reply). Stops (minds told q r) (serve m outcome (host_in v) q).host) (sym alike.1) (requests_keep_stops m outcome (record { host = host_in v; told = told }) q k.stops));
    fresh = alike.2;
  }

  pending_kept : (v : Hosting S B) (told : ℕ → Bool) (q : Option Request) → IsKept v told → IsKept (hosting_pending m outcome v q).hosting (minds_pending told q (hosting_pending m outcome v q).reply)
  pending_kept v told None k = k
  pending_kept v told (Some q) k = let served = serve_kept v told q k in record { stops = served.stops; fresh = served.fresh }

  put_kept : (v : Hosting S B) (told : ℕ → Bool) (q : Request) (o : Option Request) → IsKept v told → IsKept (unwrap_or (hosting_asked v q o) v) told
  put_kept v told q None k = record { stops = k.stops; fresh = k.fresh }
  put_kept v told q (Some other) k = k

  deed_kept : (v : Hosting S B) (told : ℕ → Bool) (d : HostDeed) → IsKept v told → IsKept (after m outcome follow v d) (minds_after m outcome follow v d told)
  deed_kept v told (Puts q) k = put_kept v told q v.pending k
  deed_kept v told (Comes (Turn p)) k = turn_kept v told p k
  deed_kept v told (Comes Serve) k = pending_kept v told v.pending k

  deeds_kept : (v : Hosting S B) (told : ℕ → Bool) (ds : List HostDeed) → IsKept v told → IsKept (after_all m outcome follow v ds) (minds_deeds m outcome follow v ds told)
  deeds_kept v told [] k = k
  deeds_kept v told (d ∷ ds) k = deeds_kept (after m outcome follow v d) (minds_after m outcome follow v d told) ds (deed_kept v told d k)

pub hosts_keep_stops : {S B : Type 0} → HostsTurnAlike S B → HostsServeAlike S B → HostsBeginAlike S B → HostsKeepStops S B
hosts_keep_stops turns serves begins m outcome follow s b deeds =
    let alike = begins s b in
    (deeds_kept turns serves m outcome follow (first_hosting s b) (λ p. false) deeds
    (record { stops = subst (λ h. AreStops (record { host = h; told = λ p. false })) (sym alike.0) (first_stops s b); fresh = alike.1 })).stops
