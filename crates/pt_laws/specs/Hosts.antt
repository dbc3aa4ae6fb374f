-- The same of the host that code has: a request is put, unless another is pending, or an event comes.
use Rattle.std.specs.Prelude.{ℕ, Bool, false, List, [], ◌∷◌, Option, Some, None}
use Rattle.std.specs.Option.{unwrap_or}
use Rattle.lx_abi.specs.declared.outcome.Outcome.{Outcome}
use Rattle.lx_abi.specs.declared.ptrace.Reply.{Reply}
use Rattle.lx_abi.specs.declared.ptrace.Request.{Request}
use Rattle.lx_abi.specs.declared.schedule.Event.{Event}
use Rattle.lx_abi.specs.declared.schedule.Event.TheVariants.{Turn, Serve}
use Rattle.lx_model.specs.Machine.{Machine}
use Rattle.pt_model.specs.Hosting.{Hosting, host_in, hosting_asked, hosting_event, first_hosting}
use Rattle.pt_laws.specs.Stops.{AreStops, minds}

pub data HostDeed : Type 0 where
  Puts : Request → HostDeed
  Comes : Event → HostDeed

abbrev pub after : {S B : Type 0} → Machine S B → (S → Outcome) → Bool → Hosting S B → HostDeed → Hosting S B
after m outcome follow v (Puts q) = unwrap_or (hosting_asked v q v.pending) v
after m outcome follow v (Comes e) = (hosting_event m outcome follow v e).hosting

abbrev pub minds_pending : (ℕ → Bool) → Option Request → Option Reply → ℕ → Bool
minds_pending told None r = told
minds_pending told (Some q) r = minds told q r

-- what whoever asks it keeps in mind, by the replies
abbrev pub minds_after : {S B : Type 0} → Machine S B → (S → Outcome) → Bool → Hosting S B → HostDeed
    → (ℕ → Bool) → ℕ → Bool
minds_after m outcome follow v (Puts q) told = told
minds_after m outcome follow v (Comes (Turn p)) told = told
minds_after m outcome follow v (Comes Serve) told =
    minds_pending told v.pending (hosting_event m outcome follow v Serve).reply

abbrev pub after_all : {S B : Type 0} → Machine S B → (S → Outcome) → Bool → Hosting S B → List HostDeed → Hosting S B
after_all m outcome follow v [] = v
after_all m outcome follow v (d ∷ ds) = after_all m outcome follow (after m outcome follow v d) ds

abbrev pub minds_deeds : {S B : Type 0} → Machine S B → (S → Outcome) → Bool → Hosting S B → List HostDeed
    → (ℕ → Bool) → ℕ → Bool
minds_deeds m outcome follow v [] told = told
minds_deeds m outcome follow v (d ∷ ds) told =
    minds_deeds m outcome follow (after m outcome follow v d) ds (minds_after m outcome follow v d told)

abbrev pub HostsKeepStops : Type 0 → Type 0 → Type 0
HostsKeepStops S B =
    (m : Machine S B) (outcome : S → Outcome) (follow : Bool) (s : S) (b : B) (deeds : List HostDeed) →
    AreStops (record {
      host = host_in (after_all m outcome follow (first_hosting s b) deeds);
      told = minds_deeds m outcome follow (first_hosting s b) deeds (λ p. false);
    })
