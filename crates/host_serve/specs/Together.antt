-- Requests that come together, whose replies go out together.
use Rattle.std.specs.Prelude.{◌≡◌, ℕ, List, [], Option, Bool, true, cond}
use Rattle.std.specs.Io.Buffered.{reader_buffer, reader_remaining, writer_buffer, writer_contents}
use Rattle.std.specs.Io.KnownBytes.{Keeps, append_known}
use Rattle.host_wire.specs.Counting.{inner_of, input_of as input_of_counted}
use Rattle.host_wire.specs.Ends.{Input}
use Rattle.host_serve.specs.declared.replies.Replies.{Replies}
use Rattle.host_serve.specs.declared.requested.Requests.{Requests}

-- what is left to read, with what has come
abbrev pub input_of : {R : Type 0} → (R → Option (List ℕ)) → Requests R → Input
input_of remaining r = input_of_counted (λ b. reader_remaining remaining b) r.input

abbrev pub ahead_of : {R : Type 0} → Requests R → List ℕ
ahead_of r = reader_buffer (inner_of r.input)

-- what has gone out, and then what is kept back
abbrev pub contents_of : {W : Type 0} → (W → Option (List ℕ)) → Replies W → Option (List ℕ)
contents_of contents r = writer_contents contents r.out

abbrev pub kept_of : {W : Type 0} → Replies W → List ℕ
kept_of r = writer_buffer r.out

abbrev pub puts_of : {W : Type 0} → Replies W → List ℕ
puts_of r = r.puts.items

abbrev pub faults_of : {W : Type 0} → Replies W → ℕ
faults_of r = cond r.broken 1 0

-- a reader that was never read
abbrev pub unread : Option (List ℕ) → Input
unread remaining = record { remaining = remaining; reads = []; broken = 0 }

-- what has gone out is a first part of what was put, and where all of it is out the whole
abbrev pub GoesOut : Option (List ℕ) → Option (List ℕ) → Bool → Type 0
GoesOut put gone is_out = (rest : List ℕ) × (Keeps put (append_known gone rest) × (is_out ≡ true → rest ≡ []))
