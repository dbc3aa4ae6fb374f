-- What is short enough for a frame, and whose numbers are of their widths, fits.
use Rattle.std.proofs.Common.{◌≡◌, ℕ, ◌+◌, ◌^◌, ◌<◌, ◌≤◌, Bool, true, false, ◌&&◌, List, [], ◌∷◌, ◌++◌, length, None, refl, inl, inr, arith, length-append}
use Rattle.std.specs.List.{flat_map, AllByRecursion}
use Rattle.byteorder.specs.Numbers.{length-bytes_high_first}
use Rattle.lx_abi.specs.declared.boot.Boot.{Boot}
use Rattle.lx_abi.specs.declared.boot.GuestFile.{GuestFile}
use Rattle.lx_abi.specs.declared.outcome.Ended.{Ended}
use Rattle.lx_abi.specs.declared.outcome.Node.{Node}
use Rattle.lx_abi.specs.declared.outcome.Node.TheVariants.{File, Directory}
use Rattle.lx_abi.specs.declared.outcome.Outcome.{Outcome}
use Rattle.lx_abi.specs.declared.outcome.OutcomeFile.{OutcomeFile}
use Rattle.lx_abi.specs.declared.schedule.Word.{Word}
use Rattle.lx_abi.specs.declared.schedule.Word.TheVariants.{Turn, TurnAlone, Serve, UntilReturn}
use Rattle.lx_abi.specs.declared.ptrace.Request.{Request}
use Rattle.lx_abi.specs.declared.ptrace.Request.TheVariants.{Boot as Boot_with, Wait, To, Outcome as Ask_outcome}
use Rattle.lx_abi.specs.declared.ptrace.Reply.{Reply}
use Rattle.lx_abi.specs.declared.ptrace.Reply.TheVariants.{Done, Status as Status_is, Registers as Registers_are, Bytes as Bytes_are, Message as Message_is, Info as Info_is, Outcome as Outcome_is, Errno as Errno_is, OutOfTurns, Refused}
use Rattle.host_values.specs.Spelling.{byte, word, double, text, items, guest_file, schedule_word, node, outcome_file, ended, FitsText, FitItems, FitsGuestFile, FitsNode, FitsOutcomeFile, FitsEnded}
use Rattle.host_values.specs.Reading.{paths_rise, pids_rise}
use Rattle.host_values.proofs.Sizes.{text_size}
use Rattle.host_frame.proofs.Messages.{body_refused}
use Rattle.host_frame.proofs.Whole.{frame_again, frame_by}
use Rattle.host_frame.specs.Reading.{frame_at}
use Rattle.host_frame.specs.declared.frame.Payload.{Payload}
use Rattle.host_frame.specs.declared.frame.Payload.TheVariants.{Request as Of_request, Reply as Of_reply}
use Rattle.host_frame.specs.declared.frame.Frame.{Frame}
use Rattle.host_frame.specs.Spelling.{head, limits, parts, boot, message, content, request_message, reply_message, FitsParts, FitsRequest, FitsReply, FitsMessage, FitsFrame, HasMessageNumbers, CanBeSpelled, HasOrder, HasReplyNumbers, HasRequestNumbers, IsShort, ReadsBack, spelled}

abbrev frame_is : ℕ → Payload → Frame
frame_is number body = record { number = number; body = body }

-- ---- lists

-- each item fits whose spelling is no longer than all of them
each_fits : {X : Type 0} (spell : X → List ℕ) (Fits : X → Type 0) (n : ℕ) → ((x : X) → length (spell x) ≤ n → Fits x) → (xs : List X)
    → length (flat_map spell xs) ≤ n → AllByRecursion Fits xs
each_fits spell Fits n one [] le = tt
each_fits spell Fits n one (x ∷ xs) le =
    let sum = length-append (spell x) (flat_map spell xs) in
    (one x (omega (arith, le, sum)), each_fits spell Fits n one xs (omega (arith, le, sum)))

-- there are no more items than bytes of theirs
few_items : {X : Type 0} (spell : X → List ℕ) → ((x : X) → 1 ≤ length (spell x)) → (xs : List X) → length xs ≤ length (flat_map spell xs)
few_items spell some [] = omega arith
few_items spell some (x ∷ xs) = omega (arith, some x, few_items spell some xs, length-append (spell x) (flat_map spell xs))

items_bytes : {X : Type 0} (spell : X → List ℕ) (xs : List X) → length (items spell xs) ≡ 4 + length (flat_map spell xs)
unfolding items
items_bytes spell xs = omega (arith, length-append (word (length xs)) (flat_map spell xs), length-bytes_high_first 4 (length xs))

items_fit : {X : Type 0} (spell : X → List ℕ) (Fits : X → Type 0) → ((x : X) → 1 ≤ length (spell x))
    → ((x : X) → length (spell x) ≤ 134217728 → Fits x) → (xs : List X) → length (items spell xs) ≤ 134217728 → FitItems Fits xs
items_fit spell Fits some one xs le =
    let size = items_bytes spell xs in
    (omega (arith, few_items spell some xs, size, le), each_fits spell Fits 134217728 one xs (omega (arith, size, le)))

-- ---- items

text_fits : (t : List ℕ) → length (text t) ≤ 134217728 → FitsText t
text_fits t le = omega (arith, text_size t, le)

text_some : (t : List ℕ) → 1 ≤ length (text t)
text_some t = omega (arith, text_size t)

texts_fit : (ts : List (List ℕ)) → length (items text ts) ≤ 134217728 → FitItems FitsText ts
texts_fit = items_fit text FitsText text_some text_fits

guest_file_fits : (f : GuestFile) → length (guest_file f) ≤ 134217728 → FitsGuestFile f
guest_file_fits f le =
    let sum = length-append (text f.path) (text f.content) in
    (text_fits f.path (omega (arith, le, sum)), text_fits f.content (omega (arith, le, sum)))

guest_file_some : (f : GuestFile) → 1 ≤ length (guest_file f)
guest_file_some f = omega (arith, text_some f.path, length-append (text f.path) (text f.content))

word_some : (w : Word) → 1 ≤ length (schedule_word w)
word_some (Turn p) = omega arith
word_some (TurnAlone p) = omega arith
word_some Serve = omega arith
word_some (UntilReturn p) = omega arith

node_fits : (n : Node) → length (node n) ≤ 134217728 → FitsNode n
node_fits (File content) le = text_fits content (omega (arith, le, length-append (byte 1) (text content)))
node_fits Directory le = tt

outcome_file_fits : (f : OutcomeFile) → length (outcome_file f) ≤ 134217728 → FitsOutcomeFile f
outcome_file_fits f le =
    let sum = length-append (text f.path) (node f.node) in
    (text_fits f.path (omega (arith, le, sum)), node_fits f.node (omega (arith, le, sum)))

outcome_file_some : (f : OutcomeFile) → 1 ≤ length (outcome_file f)
outcome_file_some f = omega (arith, text_some f.path, length-append (text f.path) (node f.node))

ended_some : (e : Ended) → 1 ≤ length (ended e)
ended_some e = omega (arith, length-append (word e.pid) (word e.word), length-bytes_high_first 4 e.pid)

-- ---- messages

parts_fit : (b : Boot) → length (parts b) ≤ 134217728 → FitsParts b
unfolding parts
parts_fit b le =
    let i : List ℕ = text b.input in
    let a : List ℕ = items text b.argv in
    let e : List ℕ = items text b.env in
    let f : List ℕ = items guest_file b.files in
    let last = length-append ((i ++ a) ++ e) f in
    let third = length-append (i ++ a) e in
    let second = length-append i a in (
      text_fits b.input (omega (arith, le, last, third, second)),
      (
        texts_fit b.argv (omega (arith, le, last, third, second)),
        (
          texts_fit b.env (omega (arith, le, last, third, second)),
          items_fit guest_file FitsGuestFile guest_file_some guest_file_fits b.files (omega (arith, le, last, third, second)),
        ),
      ),
    )

request_fits : (q : Request) → HasRequestNumbers q → length (request_message q).1 ≤ 134217728 → FitsRequest q
request_fits (Boot_with b limit words) has le =
    let h : List ℕ = head b.follow limit in
    let l : List ℕ = limits b.limits in
    let w : List ℕ = items schedule_word words in
    let last = length-append ((h ++ l) ++ parts b) w in
    let behind = length-append (h ++ l) (parts b) in (
      has.0,
      (
        (has.1.0, parts_fit b (omega (arith, le, last, behind))),
        (omega (arith, le, last, items_bytes schedule_word words, few_items schedule_word word_some words), has.1.1),
      ),
    )
request_fits (To pid ask) has le = has
request_fits Wait has le = tt
request_fits Ask_outcome has le = tt

outcome_parts : (o : Outcome) → HasReplyNumbers (Outcome_is o) → length (reply_message (Outcome_is o)).1 ≤ 134217728 → FitsText o.console × (FitItems FitsOutcomeFile o.files × FitItems FitsEnded o.ended)
outcome_parts o has le =
    let c : List ℕ = text o.console in
    let f : List ℕ = items outcome_file o.files in
    let e : List ℕ = items ended o.ended in
    let last = length-append (c ++ f) e in
    let first = length-append c f in (
      text_fits o.console (omega (arith, le, last, first)),
      (
        items_fit outcome_file FitsOutcomeFile outcome_file_some outcome_file_fits o.files (omega (arith, le, last, first)),
        (omega (arith, le, last, items_bytes ended o.ended, few_items ended ended_some o.ended), has),
      ),
    )

reply_fits : (r : Reply) → HasReplyNumbers r → HasOrder (Of_reply r) → length (reply_message r).1 ≤ 134217728 → FitsReply r
reply_fits Done has in_order le = tt
reply_fits (Status_is pid status) has in_order le = has
reply_fits (Registers_are rs) has in_order le = has
reply_fits (Bytes_are bytes) has in_order le = text_fits bytes le
reply_fits (Message_is pid) has in_order le = has
reply_fits (Info_is i) has in_order le = has
reply_fits (Outcome_is o) has in_order le =
    let parts = outcome_parts o has le in
    (parts.0, (parts.1.0, (parts.1.1, in_order)))
reply_fits (Errno_is number) has in_order le = has
reply_fits OutOfTurns has in_order le = tt
reply_fits (Refused fault) has in_order le = has

message_fits : (b : Payload) → HasMessageNumbers b → HasOrder b → length (message b).1 ≤ 134217728 → FitsMessage b
message_fits (Of_request q) has in_order le = request_fits q has le
message_fits (Of_reply r) has in_order le = reply_fits r has in_order le

short_message : (f : Frame) → IsShort f → length (message f.body).1 ≤ 134217728
short_message f short = omega (arith, short, length-append (double f.number ++ byte (message f.body).0) (message f.body).1)

pub frame_fits : (f : Frame) → CanBeSpelled f → HasOrder f.body → FitsFrame f
frame_fits f can in_order = (can.1.0, message_fits f.body can.1.1 in_order (short_message f can.0))

-- ---- in order or not

-- an outcome that is out of order isn't read
refused : (n : ℕ) (o : Outcome) → CanBeSpelled (frame_is n (Of_reply (Outcome_is o))) → (paths_rise None o.files && pids_rise None o.ended) ≡ false → frame_at (spelled (frame_is n (Of_reply (Outcome_is o)))) ≡ None
refused n o can out_of_order =
    let parts = outcome_parts o can.1.1 (short_message (frame_is n (Of_reply (Outcome_is o))) can.0) in
    frame_by (frame_is n (Of_reply (Outcome_is o))) can.1.0 None (body_refused o parts.0 parts.1.0 parts.1.1 out_of_order)

by_order : (b : Bool) (n : ℕ) (o : Outcome) → (paths_rise None o.files && pids_rise None o.ended) ≡ b → CanBeSpelled (frame_is n (Of_reply (Outcome_is o))) → ReadsBack (frame_is n (Of_reply (Outcome_is o)))
by_order true n o is can = inl (is, frame_again (frame_is n (Of_reply (Outcome_is o))) (frame_fits (frame_is n (Of_reply (Outcome_is o))) can is))
by_order false n o is can = inr ((λ in_order. absurd (cc (is, in_order))), refused n o can is)

again : (n : ℕ) (b : Payload) → HasOrder b → CanBeSpelled (frame_is n b) → ReadsBack (frame_is n b)
again n b in_order can = inl (in_order, frame_again (frame_is n b) (frame_fits (frame_is n b) can in_order))

body_reads_back : (n : ℕ) (b : Payload) → CanBeSpelled (frame_is n b) → ReadsBack (frame_is n b)
body_reads_back n (Of_request q) can = again n (Of_request q) tt can
body_reads_back n (Of_reply (Outcome_is o)) can = by_order (paths_rise None o.files && pids_rise None o.ended) n o refl can
body_reads_back n (Of_reply Done) can = again n (Of_reply Done) tt can
body_reads_back n (Of_reply (Status_is pid status)) can = again n (Of_reply (Status_is pid status)) tt can
body_reads_back n (Of_reply (Registers_are rs)) can = again n (Of_reply (Registers_are rs)) tt can
body_reads_back n (Of_reply (Bytes_are bytes)) can = again n (Of_reply (Bytes_are bytes)) tt can
body_reads_back n (Of_reply (Message_is pid)) can = again n (Of_reply (Message_is pid)) tt can
body_reads_back n (Of_reply (Info_is i)) can = again n (Of_reply (Info_is i)) tt can
body_reads_back n (Of_reply (Errno_is number)) can = again n (Of_reply (Errno_is number)) tt can
body_reads_back n (Of_reply OutOfTurns) can = again n (Of_reply OutOfTurns) tt can
body_reads_back n (Of_reply (Refused fault)) can = again n (Of_reply (Refused fault)) tt can

pub reads_back : (f : Frame) → CanBeSpelled f → ReadsBack f
reads_back f can = body_reads_back f.number f.body can
