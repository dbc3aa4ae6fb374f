-- A link in memory has no request pending behind a reply, and then only memory can fail it.
use Rattle.std.proofs.Common.{◌≡◌, ℕ, ◌<◌, ◌^◌, Bool, false, cond, List, [], ◌∷◌, Option, Some, None, Ok, Err, refl, sym, ap, ◌∙◌, inl, inr, arith}
use Rattle.std.specs.Prelude.{is_none}
use Rattle.lx_abi.specs.declared.ptrace.Reply.{Reply}
use Rattle.lx_abi.specs.declared.ptrace.Request.{Request}
use Rattle.lx_abi.specs.declared.schedule.Event.{Event}
use Rattle.lx_abi.specs.declared.schedule.Event.TheVariants.{Turn, Serve}
use Rattle.pt_model.specs.Attending.{left_pending}
use Rattle.pt_model.specs.Hosting.{with_pending}
use Rattle.pt_model.specs.Ptrace.{is_there}
use Rattle.pt_kernel.specs.Attends.{Attended, GoesOn, IsFed}
use Rattle.pt_kernel.specs.AfterEvents.{after}
use Rattle.pt_kernel.specs.Hosts.{HostState, event_of, is_boot, readiness_of}
use Rattle.pt_schedule.specs.Schedules.{next_of}
use Rattle.pt_schedule.specs.declared.schedule.Schedule.{Schedule}
use Rattle.host_link.specs.declared.fault.LinkFault.{LinkFault}
use Rattle.host_link.specs.declared.fault.LinkFault.TheVariants.{Ended, Read, Write, Malformed, Sequence, Inadmissible, Memory, TooMany}
use Rattle.host_link.specs.declared.local.LocalLink.{LocalLink}
use Rattle.host_link.specs.LocalLinks.{Calls, IsIdle, faults_of, given_of}

-- a request that is answered is no longer pending
served_leaves : (h : HostState) (pending : Option Request) (r : Reply) → (event_of (record h { hosting = with_pending h.hosting pending }) Serve).reply ≡ Some r
    → (event_of (record h { hosting = with_pending h.hosting pending }) Serve).hosting.pending ≡ None
served_leaves h None r e = absurd (cc e)
served_leaves h (Some q) r e = ap (left_pending q) e

event_leaves : (h : HostState) (e : Event) (r : Reply) → (event_of h e).reply ≡ Some r → (event_of h e).hosting.pending ≡ None
event_leaves h (Turn p) r e = absurd (cc e)
event_leaves h Serve r e = served_leaves h h.hosting.pending r e

-- the event that answers is the last one
last_leaves : (h : HostState) (s : Schedule) (es : List Event) (z : Attended) (o : Option Reply) (again : Type 0) → ((r : Reply) → o ≡ Some r → h.hosting.pending ≡ None)
    → (again → z.host.hosting.pending ≡ None) → GoesOn h s es z o again → z.host.hosting.pending ≡ None
last_leaves h s es z (Some r) again last further g = ap (λ (x : Attended). x.host.hosting.pending) g.1 ∙ last r refl
last_leaves h s es z None again last further g = further g

fed_leaves : (h : HostState) (s : Schedule) (es : List Event) (z : Attended) (r : Reply) → z.reply ≡ Some r → IsFed h s es z → z.host.hosting.pending ≡ None
fed_leaves h s [] z r is fed = let none : ◌≡◌ {A = Option Reply} None (Some r) = sym (ap (λ (x : Attended). x.reply) fed.1) ∙ is in absurd (cc none)
fed_leaves h s (e ∷ es) z r is fed =
    last_leaves (after h e) (next_of s (readiness_of h)).schedule es z (event_of h e).reply (IsFed (after h e) (next_of s (readiness_of h)).schedule es z) (event_leaves h e) (fed_leaves (after h e) (next_of s (readiness_of h)).schedule es z r is) fed.1

idle_at : (host : HostState) (x : Option Reply) (over : Bool) → over ≡ is_none x → over ≡ false → ((r : Reply) → x ≡ Some r → host.hosting.pending ≡ None) → is_there host.hosting.pending ≡ false
idle_at host (Some r) over is goes leaves = ap is_there (leaves r refl)
idle_at host None over is goes leaves = absurd (cc (sym is ∙ goes))

pub reply_leaves_idle : (a b : LocalLink) (q : Request) (r : Reply) → Calls a q (Ok r) b → IsIdle b
unfolding Calls
reply_leaves_idle a b q r (inl c) goes = absurd (cc (sym goes ∙ c.1.1.1.1.0))
reply_leaves_idle a b q r (inr c) goes =
    let serves = c.1.1.1.0 in
    idle_at b.host c.1.1.0 b.over c.1.1.1.1.1.0 goes (λ reply is. fed_leaves serves.asked a.schedule serves.attends.fed (record { host = b.host; schedule = b.schedule; reply = c.1.1.0 }) reply is serves.attends.is_fed)

pub idle_fails_for_memory : (a b : LocalLink) (q : Request) (f : LinkFault) → faults_of a ≡ 0 → given_of a < 2 ^ 40 → IsIdle a → is_boot q ≡ false → Calls a q (Err f) b → f ≡ Memory
unfolding Calls
idle_fails_for_memory a b q Ended whole few idle request (same, inl broken) = absurd (omega (arith, whole, ap {B = ℕ} (λ (x : Bool). cond x 1 0) broken))
idle_fails_for_memory a b q Ended whole few idle request (same, inr boot) = absurd (cc (sym request ∙ boot))
idle_fails_for_memory a b q TooMany whole few idle request full = absurd (omega (arith, few, full.1))
idle_fails_for_memory a b q Memory whole few idle request failed = refl
idle_fails_for_memory a b q Sequence whole few idle request busy = absurd (cc (sym (idle busy.1) ∙ busy.2))
idle_fails_for_memory a b q Read whole few idle request never = absurd never
idle_fails_for_memory a b q Write whole few idle request never = absurd never
idle_fails_for_memory a b q Malformed whole few idle request never = absurd never
idle_fails_for_memory a b q Inadmissible whole few idle request never = absurd never
