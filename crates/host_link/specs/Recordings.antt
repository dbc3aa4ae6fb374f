-- A link that gives replies that were kept.
use Rattle.std.specs.Prelude.{◌≡◌, ◌⊎◌, ℕ, ◌^◌, Bool, true, false, cond, List, [], ◌∷◌, Result, Ok, Err}
use Rattle.lx_abi.specs.declared.ptrace.Reply.{Reply}
use Rattle.host_link.specs.declared.fault.LinkFault.{LinkFault}
use Rattle.host_link.specs.declared.fault.LinkFault.TheVariants.{Ended, TooMany}

pub record Recording : Type 0 where
  -- replies that weren't given yet
  pub left : List Reply
  pub given : ℕ
  pub is_broken : Bool

abbrev pub recording : List Reply → Recording
recording replies = record { left = replies; given = 0; is_broken = false }

abbrev pub broken_of : Bool → ℕ
broken_of is_broken = cond is_broken 1 0

-- a reply is the next one; a fault takes none, and comes behind the last, after a fault, or after 2^40 replies
abbrev pub Replays : Recording → Result Reply LinkFault → Recording → Type 0
Replays a (Ok reply) b = a.left ≡ reply ∷ b.left
Replays a (Err Ended) b = (b.left ≡ a.left) × ((a.is_broken ≡ true) ⊎ (a.left ≡ []))
Replays a (Err TooMany) b = (b.left ≡ a.left) × (a.given ≡ 2 ^ 40)
Replays a (Err fault) b = ⊥
