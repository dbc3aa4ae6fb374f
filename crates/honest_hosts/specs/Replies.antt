-- What a host replies reads back.
use Rattle.std.specs.Prelude.{◌≡◌, ℕ, ◌+◌, Bool, List, [], ◌∷◌, length, Some, None}
use Rattle.lx_abi.specs.declared.boot.Boot.{Boot}
use Rattle.lx_abi.specs.declared.ptrace.Reply.{Reply}
use Rattle.lx_abi.specs.declared.schedule.Event.{Event}
use Rattle.lx_boot.specs.Boots.{fault_of}
use Rattle.lx_kernel.specs.Outcomes.{outcome_in}
use Rattle.lx_turn.specs.Linux.{linux}
use Rattle.pt_model.specs.Hosting.{hosting_event}
use Rattle.pt_sound.specs.Traced.{Deed}
use Rattle.host_frame.specs.Reading.{frame_at}
use Rattle.host_frame.specs.Spelling.{CanBeSpelled, HasOrder, reply_frame, spelled}
use Rattle.host_frame.specs.declared.frame.Payload.TheVariants.{Reply as Of_reply}
use Rattle.host_link.specs.declared.local.LocalLink.{LocalLink}
use Rattle.host_serve.specs.Hosted.{Answers_by, Boots_by}
use Rattle.host_serve.specs.Serving.{AreSpelled, Exchanges, Leads}
use Rattle.host_serve.specs.declared.session.Phase.{Phase}
use Rattle.host_ends.specs.Recorded.{AreInOrder}
use Rattle.honest_hosts.specs.Outcomes.{host_after}

-- what an event of a host answers, after any requests and events
abbrev pub HostsReplyInOrder : Type 0
HostsReplyInOrder = (follow : Bool) (boot : Boot) (deeds : List Deed) (e : Event) (r : Reply) → fault_of boot ≡ None →
    (hosting_event linux outcome_in follow (host_after outcome_in follow boot deeds) e).reply ≡ Some r →
    HasOrder (Of_reply r)

-- what `encode` gives of it, by whatever number, is read as that reply
abbrev pub HostFramesReadBack : Type 0
HostFramesReadBack = (follow : Bool) (boot : Boot) (deeds : List Deed) (e : Event) (r : Reply) (number : ℕ) →
    fault_of boot ≡ None →
    (hosting_event linux outcome_in follow (host_after outcome_in follow boot deeds) e).reply ≡ Some r →
    CanBeSpelled (reply_frame number r) → frame_at (spelled (reply_frame number r)) ≡ Some (reply_frame number r)

-- the replies of a conversation with a host of any boot
abbrev pub RepliesAreInOrder : Type 0
RepliesAreInOrder = (xs : Exchanges) (phase : Phase LocalLink) → Leads Boots_by Answers_by xs phase → AreInOrder xs

-- the bytes of each reply's frame are read as that reply
abbrev pub ReadBack : Exchanges → Type 0
ReadBack [] = Unit {0}
ReadBack (x ∷ xs) =
    (frame_at (spelled (reply_frame (length xs + 1) x.1)) ≡ Some (reply_frame (length xs + 1) x.1)) × ReadBack xs

-- where none passes the limit of length, as of those that are written none does
abbrev pub RepliesReadBack : Type 0
RepliesReadBack = (xs : Exchanges) (phase : Phase LocalLink) → Leads Boots_by Answers_by xs phase →
    AreSpelled xs → ReadBack xs
