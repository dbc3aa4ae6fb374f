-- The streams between a tracer and a host in a process of its own.
use Rattle.std.specs.Prelude.{ℕ, List, Option, Some, None}
use Rattle.host_link.specs.declared.streams.Replies.{Replies}
use Rattle.host_link.specs.declared.streams.Requests.{Requests}

-- for how many milliseconds a reply is waited for at most
abbrev pub limit_of : {O E : Type 0} → Replies O E → Option ℕ
limit_of r = r.limit

abbrev pub replies_in : {O E : Type 0} → Replies O E → O
replies_in r = r.stream

abbrev pub requests_in : {I : Type 0} → Requests I → I
requests_in r = r.stream

-- of what ends where its reader has no more patience nothing is known
abbrev pub known_within : Option ℕ → Option (List ℕ) → Option (List ℕ)
known_within None known = known
known_within (Some limit) known = None

-- the bytes that are left of the replies, by those of their stream
abbrev pub left_in : {O E : Type 0} → (O → Option (List ℕ)) → Replies O E → Option (List ℕ)
left_in remaining r = known_within r.limit (remaining r.stream)

-- the bytes of the requests, by those of their stream
abbrev pub taken_by : {I : Type 0} → (I → Option (List ℕ)) → Requests I → Option (List ℕ)
taken_by contents r = contents r.stream
