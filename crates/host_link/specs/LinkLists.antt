-- Calls of a link to a host in the tracer's own process, one after the other.
use Rattle.std.specs.Prelude.{◌≡◌, ◌+◌, ◌<◌, ◌^◌, false, List, [], ◌∷◌, ◌++◌, length, map, Ok, Err}
use Rattle.lx_abi.specs.declared.ptrace.Reply.{Reply}
use Rattle.lx_abi.specs.declared.ptrace.Request.{Request}
use Rattle.lx_abi.specs.declared.schedule.Event.{Event}
use Rattle.lx_proc.specs.declared.state.Shared.{Shared}
use Rattle.lx_proc.specs.declared.state.UserState.{UserState}
use Rattle.lx_turn.specs.Linux.{linux}
use Rattle.lx_kernel.specs.Outcomes.{outcome_in}
use Rattle.pt_kernel.specs.Hosts.{is_boot}
use Rattle.pt_kernel.specs.Seen.{next_of_host}
use Rattle.pt_model.specs.Attending.{answers_to}
use Rattle.pt_model.specs.Hosting.{first_hosting, host_in, IsFresh}
use Rattle.host_link.specs.LocalLinks.{Calls, IsIdle, faults_of, given_of, host_of, is_over, schedule_of}
use Rattle.host_link.specs.RequestLists.{FeedsList, host_after, turns_to}
use Rattle.host_link.specs.declared.fault.LinkFault.{LinkFault}
use Rattle.host_link.specs.declared.fault.LinkFault.TheVariants.{Memory}
use Rattle.host_link.specs.declared.local.LocalLink.{LocalLink}

-- its host hasn't failed, and its schedule hasn't ended
pub record IsServing (l : LocalLink) : Type 0 where
  pub fresh : IsFresh (host_of l).hosting
  pub whole : (host_of l).failed ≡ false
  pub going : is_over l ≡ false

-- each request was answered
abbrev pub AnswersAll : LocalLink → List (Request × Reply) → LocalLink → Type 0
AnswersAll a [] c = c ≡ a
AnswersAll a (x ∷ xs) c = (b : LocalLink) × (Calls a x.0 (Ok x.1) b × AnswersAll b xs c)

-- as a link counts its replies, and keeps whether it has met a fault
abbrev pub CountsAll : LocalLink → List (Request × Reply) → LocalLink → Type 0
CountsAll a [] c = c ≡ a
CountsAll a (x ∷ xs) c =
    (b : LocalLink) × (Calls a x.0 (Ok x.1) b
    × ((given_of b ≡ given_of a + 1) × ((faults_of b ≡ faults_of a) × CountsAll b xs c)))

-- by the events that the schedule gives to them, as the ptrace machine answers them, OutOfTurns once it has ended
pub record ServesList (a : LocalLink) (qs : List Request) (rs : List Reply) (b : LocalLink) : Type 0 where
  pub events : List Event
  pub given : FeedsList next_of_host linux outcome_in (schedule_of a) (host_in (host_of a).hosting) qs events
  pub replies : rs ≡ answers_to linux outcome_in (host_in (host_of a).hosting) qs events
  pub host : host_in (host_of b).hosting ≡ host_after linux outcome_in (host_in (host_of a).hosting) qs events
  pub turned : (host_of b).hosting.turns
      ≡ (host_of a).hosting.turns ++ turns_to linux outcome_in (host_in (host_of a).hosting) qs events

abbrev pub LinksServeLists : Type 0
LinksServeLists = (a b : LocalLink) (xs : List (Request × Reply)) → IsServing a → AnswersAll a xs b →
    ServesList a (map (λ x. x.0) xs) (map (λ x. x.1) xs) b

-- and in this way alone
abbrev pub ListsHaveOneAnswer : Type 0
ListsHaveOneAnswer = (a : LocalLink) (qs : List Request) (rs ss : List Reply) (b c : LocalLink) →
    ServesList a qs rs b → ServesList a qs ss c →
    (rs ≡ ss) × (host_in (host_of b).hosting ≡ host_in (host_of c).hosting)

-- a link over a host that was booted, whose schedule has not ended, is such a one
abbrev pub FirstLinksServe : Type 0
FirstLinksServe = (a : LocalLink) (s : Shared) (b : UserState) → (host_of a).hosting ≡ first_hosting s b →
    (host_of a).failed ≡ false → is_over a ≡ false → IsServing a

-- a list of fewer than 2^40 requests leaves a link that fails for want of memory alone
abbrev pub ListsFailForMemory : Type 0
ListsFailForMemory = (a b c : LocalLink) (xs : List (Request × Reply)) (q : Request) (f : LinkFault) →
    IsIdle a → faults_of a ≡ 0 → given_of a + length xs < 2 ^ 40 → is_boot q ≡ false →
    CountsAll a xs b → Calls b q (Err f) c → f ≡ Memory
