-- What is read is spelled so, and what is spelled so is read: messages by kind, and bodies.
use Rattle.std.proofs.Common.{◌≡◌, ℕ, zero, suc, ◌^◌, ◌<◌, Bool, true, false, cond, ◌&&◌, ◌⊎◌, ltb, eqb, List, [], ◌++◌, length, Option, Some, None, refl, sym, ap, subst, ◌∙◌, append_assoc, append-nil, arith, inl, inr}
use Rattle.std.proofs.lemmas.Bool.{ltb-true, eqb-true}
use Rattle.std.proofs.lemmas.Option.{some_pair_parts}
use Rattle.lx_abi.specs.declared.boot.Boot.{Boot}
use Rattle.lx_abi.specs.declared.boot.Limits.{Limits}
use Rattle.lx_abi.specs.declared.boot.GuestFile.{GuestFile}
use Rattle.lx_abi.specs.declared.outcome.Outcome.{Outcome}
use Rattle.lx_abi.specs.declared.outcome.OutcomeFile.{OutcomeFile}
use Rattle.lx_abi.specs.declared.outcome.Ended.{Ended}
use Rattle.lx_abi.specs.declared.schedule.Word.{Word}
use Rattle.lx_abi.specs.declared.ptrace.Ask.{Ask}
use Rattle.lx_abi.specs.declared.ptrace.Ask.TheVariants.{Seize, SetOptions, GetRegs, SetRegs, Peek, Syscall, EventMsg, SigInfo, Listen}
use Rattle.lx_abi.specs.declared.ptrace.Request.{Request}
use Rattle.lx_abi.specs.declared.ptrace.Request.TheVariants.{Boot as Boot_with, Wait, To, Outcome as Ask_outcome}
use Rattle.lx_abi.specs.declared.ptrace.Reply.{Reply}
use Rattle.lx_abi.specs.declared.ptrace.Reply.TheVariants.{Done, Status as Status_is, Registers as Registers_are, Bytes as Bytes_are, Message as Message_is, Info as Info_is, Outcome as Outcome_is, Errno as Errno_is, OutOfTurns, Refused}
use Rattle.host_values.specs.Reading.{◌>>=◌, number_at, paths_rise, pids_rise}
use Rattle.host_values.specs.Spelling.{byte, word, double, registers, text, items, guest_file, outcome_file, ended, schedule_word, AreRegisters, FitsText, FitItems, FitsWord, FitsOutcomeFile, FitsEnded}
use Rattle.host_values.proofs.Forms.{IsBytes, IsForm, Takes, Takes-then, same, bind_some, some_is, byte_form, word_form, double_form, registers_form, text_form, items_form, of_one, of_two, and_then, pick}
use Rattle.host_values.proofs.Inverse.{retyped, of_one_if, if_some, choose, no_items, guest_file_items, schedule_word_items, outcome_file_items, ended_items}
use Rattle.host_frame.specs.declared.frame.Payload.{Payload}
use Rattle.host_frame.specs.declared.frame.Payload.TheVariants.{Request as Of_request, Reply as Of_reply}
use Rattle.host_frame.specs.Reading as reading
use Rattle.host_frame.specs.Reading.{follow_at, limits_at, limits_by, unsaid_limits, boot_by, boot_at, parts_at, outcome_at, request_at, reply_at, body_at, frame_at, status_at, regs_at, bytes_at, message_at, info_at, errno_at, refused_at, to_at}
use Rattle.host_frame.specs.Spelling.{flag, limits, head, parts, boot, boot_without_limits, ask_message, request_message, reply_message, message, FitsLimits, FitsParts, FitsRequest, FitsReply, FitsMessage}
use Rattle.host_frame.proofs.Asks.{to_takes, to_again}

-- ---- a boot

flag_small : (b : Bool) → flag b < 256 ^ 1
flag_small true = omega arith
flag_small false = omega arith

flag_spelled : (follow : ℕ) → follow < 2 → flag (eqb follow 1) ≡ follow
flag_spelled zero lt = refl
flag_spelled (suc zero) lt = refl
flag_spelled (suc (suc n)) lt = absurd (omega (arith, lt))

-- a byte as follow
abbrev follow_of : ℕ × List ℕ → Option (Bool × List ℕ)
follow_of n = cond {A = Option (Bool × List ℕ)} (ltb n.0 2) (Some (eqb n.0 1, n.1)) None

flag_read : (b : Bool) (rest : List ℕ) → follow_of (flag b, rest) ≡ Some (b, rest)
flag_read true rest = refl
flag_read false rest = refl

follow_form : IsForm (same {A = Bool}) (λ b. Unit {0}) (λ b. byte (flag b)) follow_at
unfolding follow_at
follow_form = record {
  takes = λ bytes x rest all e.
      let b = bind_some (number_at 1 bytes) follow_of (x, rest) e in
      let t = byte_form.takes bytes b.0.0 b.0.1 all b.1 in
      let h = if_some (ltb b.0.0 2) (eqb b.0.0 1, b.0.1) (x, rest) b.2 in
      let is : eqb b.0.0 1 ≡ x = ap (λ (p : Bool × List ℕ). p.0) h.1 in
      let behind : b.0.1 ≡ rest = ap (λ (p : Bool × List ℕ). p.1) h.1 in
      let told : byte t.0 ≡ byte (flag x) = ap byte (sym t.1 ∙ sym (flag_spelled b.0.0 (ltb-true b.0.0 2 h.0)) ∙ ap flag is) in
      (x, refl, tt, subst (λ (r : List ℕ). Takes bytes (byte (flag x)) r) behind (subst (λ (s : List ℕ). Takes bytes s b.0.1) told t.3));
  again = λ b rest fits. ap (λ (o : Option (ℕ × List ℕ)). o >>= follow_of) (byte_form.again (flag b) rest (flag_small b)) ∙ flag_read b rest;
}

abbrev limits_are : ℕ → ℕ → Limits
limits_are live last_pid = record { live = live; last_pid = last_pid }

limits_form : IsForm (same {A = Limits}) FitsLimits limits limits_at
unfolding limits_at
limits_form = retyped {A = ℕ × ℕ} (λ v. limits_are v.0 v.1) (λ l. (l.live, l.last_pid)) limits FitsLimits (of_two limits_are word_form word_form) (λ l fits. refl) (λ a. refl) (λ a fits. fits) (λ l fits. fits)

abbrev boot_of : Bool → Limits → List ℕ → List (List ℕ) → List (List ℕ) → List GuestFile → Boot
boot_of follow l input argv env files = record { limits = l; files = files; argv = argv; env = env; input = input; follow = follow }

behind_three : (a b c d : List ℕ) → ((a ++ b) ++ c) ++ d ≡ a ++ (b ++ (c ++ d))
behind_three a b c d = append_assoc (a ++ b) c d ∙ append_assoc a b (c ++ d)

-- the parts of a boot that is known to have this flag and these limits
abbrev FitsBehind : Bool → Limits → Boot → Type 0
FitsBehind follow l b = FitsParts b × ((b.follow ≡ follow) × (b.limits ≡ l))

parts_form : (follow : Bool) (l : Limits) → IsForm (same {A = Boot}) (FitsBehind follow l) parts (parts_at follow l)
unfolding parts_at parts
parts_form follow l = retyped {A = List ℕ × (List (List ℕ) × (List (List ℕ) × List GuestFile))} (λ v. boot_of follow l v.0 v.1.0 v.1.1.0 v.1.1.1) (λ b. (b.input, (b.argv, (b.env, b.files)))) parts (FitsBehind follow l)
    (and_then (λ i (v : List (List ℕ) × (List (List ℕ) × List GuestFile)). boot_of follow l i v.0 v.1.0 v.1.1) text_form
    (λ i. and_then (λ a (v : List (List ℕ) × List GuestFile). boot_of follow l i a v.0 v.1) (items_form text_form)
    (λ a. of_two (λ e fs. boot_of follow l i a e fs) (items_form text_form) (items_form guest_file_items))))
    (λ b fits. ap (λ (f : Bool). boot_of f l b.input b.argv b.env b.files) (sym fits.1.0) ∙ ap (λ (m : Limits). boot_of b.follow m b.input b.argv b.env b.files) (sym fits.1.1))
    (λ v. behind_three (text v.0) (items text v.1.0) (items text v.1.1.0) (items guest_file v.1.1.1)) (λ v fits. (fits, (refl, refl))) (λ b fits. fits.0)

-- behind the version, without limits and with them

abbrev Unsaid_parts : Type 0
Unsaid_parts = Bool × (ℕ × (Boot × List Word))

unsaid_form : IsForm {A = Unsaid_parts} (λ v. Boot_with v.1.1.0 v.1.0 v.1.1.1) (λ v. Unit {0} × ((v.1.0 < 256 ^ 8) × (FitsBehind v.0 unsaid_limits v.1.1.0 × FitItems FitsWord v.1.1.1)))
    (λ v. byte (flag v.0) ++ (double v.1.0 ++ (parts v.1.1.0 ++ items schedule_word v.1.1.1))) (boot_by 1)
unfolding boot_by
unsaid_form =
    and_then (λ f (v : ℕ × (Boot × List Word)). Boot_with v.1.0 v.0 v.1.1) follow_form
    (λ f. and_then (λ n (v : Boot × List Word). Boot_with v.0 n v.1) double_form
    (λ n. of_two (λ b w. Boot_with b n w) (parts_form f unsaid_limits) (items_form schedule_word_items)))

abbrev Said_parts : Type 0
Said_parts = Bool × (ℕ × (Limits × (Boot × List Word)))

said_form : IsForm {A = Said_parts} (λ v. Boot_with v.1.1.1.0 v.1.0 v.1.1.1.1) (λ v. Unit {0} × ((v.1.0 < 256 ^ 8) × (FitsLimits v.1.1.0 × (FitsBehind v.0 v.1.1.0 v.1.1.1.0 × FitItems FitsWord v.1.1.1.1))))
    (λ v. byte (flag v.0) ++ (double v.1.0 ++ (limits v.1.1.0 ++ (parts v.1.1.1.0 ++ items schedule_word v.1.1.1.1)))) (boot_by 2)
unfolding boot_by
said_form =
    and_then (λ f (v : ℕ × (Limits × (Boot × List Word))). Boot_with v.1.1.0 v.0 v.1.1.1) follow_form
    (λ f. and_then (λ n (v : Limits × (Boot × List Word)). Boot_with v.1.0 n v.1.1) double_form
    (λ n. and_then (λ l (v : Boot × List Word). Boot_with v.0 n v.1) limits_form
    (λ l. of_two (λ b w. Boot_with b n w) (parts_form f l) (items_form schedule_word_items))))

behind_four : (a b c d e : List ℕ) → (((a ++ b) ++ c) ++ d) ++ e ≡ a ++ (b ++ (c ++ (d ++ e)))
behind_four a b c d e = append_assoc ((a ++ b) ++ c) d e ∙ behind_three a b c (d ++ e)

unsaid_spelled : (f : Bool) (b : Boot) (limit : ℕ) (words : List Word) → b.follow ≡ f
    → boot_without_limits b limit words ≡ byte 1 ++ (byte (flag f) ++ (double limit ++ (parts b ++ items schedule_word words)))
unsaid_spelled f b limit words e =
    behind_four (byte 1) (byte (flag b.follow)) (double limit) (parts b) (items schedule_word words)
    ∙ ap (λ (x : Bool). byte 1 ++ (byte (flag x) ++ (double limit ++ (parts b ++ items schedule_word words)))) e

said_spelled : (f : Bool) (l : Limits) (b : Boot) (limit : ℕ) (words : List Word) → b.follow ≡ f → b.limits ≡ l
    → boot b limit words ≡ byte 2 ++ (byte (flag f) ++ (double limit ++ (limits l ++ (parts b ++ items schedule_word words))))
unfolding head
said_spelled f l b limit words e h =
    append_assoc (head b.follow limit ++ limits b.limits) (parts b) (items schedule_word words)
    ∙ behind_four (byte 2) (byte (flag b.follow)) (double limit) (limits b.limits) (parts b ++ items schedule_word words)
    ∙ ap (λ (x : Bool). byte 2 ++ (byte (flag x) ++ (double limit ++ (limits b.limits ++ (parts b ++ items schedule_word words))))) e
    ∙ ap (λ (x : Limits). byte 2 ++ (byte (flag f) ++ (double limit ++ (limits x ++ (parts b ++ items schedule_word words))))) h

one_or_two : (version : ℕ) (bytes : List ℕ) (y : Limits × List ℕ) → limits_by version bytes ≡ Some y → (version ≡ 1) ⊎ (version ≡ 2)
one_or_two version bytes y e = elim (pick {k = version} {c = 1} e) [
  | inl h ↦ inl h.0
  | inr e ↦ elim (pick {k = version} {c = 2} e) [
    | inl h ↦ inr h.0
    | inr e ↦ absurd (cc e)
  ]
]

-- a boot has one of two versions
versions : (version : ℕ) (bytes : List ℕ) (y : Request × List ℕ) → boot_by version bytes ≡ Some y → (version ≡ 1) ⊎ (version ≡ 2)
unfolding boot_by
versions version bytes y e =
    let f = bind_some (follow_at bytes) _ y e in
    let n = bind_some (number_at 8 f.0.1) _ y f.2 in
    let l = bind_some (limits_by version n.0.1) _ y n.2 in
    one_or_two version n.0.1 l.0 l.1

-- ---- an outcome and the other replies

abbrev outcome_is : List ℕ → List OutcomeFile → List Ended → Reply
outcome_is console files ends = Outcome_is (record { console = console; files = files; ended = ends })

abbrev Parts_of_outcome : Type 0
Parts_of_outcome = List ℕ × (List OutcomeFile × List Ended)

outcome_form : IsForm {A = Parts_of_outcome} (λ v. outcome_is v.0 v.1.0 v.1.1) (λ v. FitsText v.0 × (FitItems FitsOutcomeFile v.1.0 × (FitItems FitsEnded v.1.1 × ((paths_rise None v.1.0 && pids_rise None v.1.1) ≡ true))))
    (λ v. text v.0 ++ (items outcome_file v.1.0 ++ items ended v.1.1)) outcome_at
unfolding outcome_at
outcome_form =
    and_then (λ c (v : List OutcomeFile × List Ended). outcome_is c v.0 v.1) text_form
    (λ c. and_then (λ fs (es : List Ended). outcome_is c fs es) (items_form outcome_file_items)
    (λ fs. of_one_if (λ es. paths_rise None fs && pids_rise None es) (λ es. outcome_is c fs es) (items_form ended_items)))

abbrev info_is : ℕ → ℕ → ℕ → ℕ → ℕ → Reply
info_is signal code pid status address = Info_is (record { signal = signal; code = code; pid = pid; status = status; address = address })

info_form : IsForm {A = ℕ × (ℕ × (ℕ × (ℕ × ℕ)))} (λ v. info_is v.0 v.1.0 v.1.1.0 v.1.1.1.0 v.1.1.1.1)
    (λ v. (v.0 < 256 ^ 4) × ((v.1.0 < 256 ^ 4) × ((v.1.1.0 < 256 ^ 4) × ((v.1.1.1.0 < 256 ^ 4) × (v.1.1.1.1 < 256 ^ 8)))))
    (λ v. word v.0 ++ (word v.1.0 ++ (word v.1.1.0 ++ (word v.1.1.1.0 ++ double v.1.1.1.1)))) info_at
unfolding info_at
info_form =
    and_then (λ s (v : ℕ × (ℕ × (ℕ × ℕ))). info_is s v.0 v.1.0 v.1.1.0 v.1.1.1) word_form
    (λ s. and_then (λ c (v : ℕ × (ℕ × ℕ)). info_is s c v.0 v.1.0 v.1.1) word_form
    (λ c. and_then (λ p (v : ℕ × ℕ). info_is s c p v.0 v.1) word_form
    (λ p. and_then (λ t (a : ℕ). info_is s c p t a) word_form
    (λ t. of_one (info_is s c p t) double_form))))

status_form : IsForm {A = ℕ × ℕ} (λ v. Status_is v.0 (record { word = v.1 })) (λ v. (v.0 < 256 ^ 4) × (v.1 < 256 ^ 4)) (λ v. word v.0 ++ word v.1) status_at
unfolding status_at
status_form = of_two (λ p w. Status_is p (record { word = w })) word_form word_form

regs_form : IsForm Registers_are AreRegisters registers regs_at
unfolding regs_at
regs_form = of_one Registers_are registers_form

bytes_form : IsForm Bytes_are FitsText text bytes_at
unfolding bytes_at
bytes_form = of_one Bytes_are text_form

message_form : IsForm Message_is (λ x. x < 256 ^ 8) double message_at
unfolding message_at
message_form = of_one Message_is double_form

errno_form : IsForm Errno_is (λ x. x < 256 ^ 4) word errno_at
unfolding errno_at
errno_form = of_one Errno_is word_form

refused_form : IsForm Refused (λ x. x < 256 ^ 1) byte refused_at
unfolding refused_at
refused_form = of_one Refused byte_form

-- ---- messages by kind

-- the bytes begin with the body of this message
record IsMessage {X : Type 0} (message : X → ℕ × List ℕ) (Fits : X → Type 0) (kind : ℕ) (bytes rest : List ℕ) (x : X) : Type 0 where
  kind_is : (message x).0 ≡ kind
  body : Takes bytes (message x).1 rest
  fits : Fits x

formed : {A X : Type 0} {make : A → X} {Suits : A → Type 0} {spelling : A → List ℕ} {reads : List ℕ → Option (X × List ℕ)} {message : X → ℕ × List ℕ} {Fits : X → Type 0} {kind c : ℕ} {bytes rest : List ℕ} {x : X}
    → IsForm make Suits spelling reads → ((a : A) → Suits a → ((message (make a)).0 ≡ c) × (((message (make a)).1 ≡ spelling a) × Fits (make a))) → IsBytes bytes → (kind ≡ c) × (reads bytes ≡ Some (x, rest)) → IsMessage message Fits kind bytes rest x
formed {message = message} {Fits = Fits} {kind = kind} {bytes = bytes} {rest = rest} {x = x} f told all h =
    let t = f.takes bytes x rest all h.1 in
    let m = told t.0 t.2 in
    subst (IsMessage message Fits kind bytes rest) (sym t.1) (record { kind_is = m.0 ∙ sym h.0; body = subst (λ (s : List ℕ). Takes bytes s rest) (sym m.1.0) t.3; fits = m.1.1 })

bare : {X : Type 0} {message : X → ℕ × List ℕ} {Fits : X → Type 0} {kind c : ℕ} {bytes rest : List ℕ} {x : X} (y : X) → IsBytes bytes → (message y).0 ≡ c → (message y).1 ≡ [] → Fits y
    → (kind ≡ c) × (◌≡◌ {A = Option (X × List ℕ)} (Some (y, bytes)) (Some (x, rest))) → IsMessage message Fits kind bytes rest x
bare {message = message} {Fits = Fits} {kind = kind} {bytes = bytes} {rest = rest} {x = x} y all c none fits h =
    let p = some_pair_parts y x bytes rest h.1 in
    let body : Takes bytes (message y).1 rest = record { parts = p.1 ∙ ap (λ (t : List ℕ). t ++ rest) (sym none); rest_fits = subst IsBytes p.1 all } in
    subst (IsMessage message Fits kind bytes rest) p.0 (record { kind_is = c ∙ sym h.0; body = body; fits = fits })

-- they begin with the body of a boot without limits, and it has the limits that this means
abbrev BeginsUnsaid : List ℕ → List ℕ → Request → Type 0
BeginsUnsaid bytes rest x = (b : Boot) × (limit : ℕ) × (words : List Word) × (x ≡ Boot_with b limit words) × (b.limits ≡ unsaid_limits) × Takes bytes (boot_without_limits b limit words) rest

record IsRequest (kind : ℕ) (bytes rest : List ℕ) (x : Request) : Type 0 where
  kind_is : (request_message x).0 ≡ kind
  body : Takes bytes (request_message x).1 rest ⊎ BeginsUnsaid bytes rest x
  fits : FitsRequest x

as_request : {kind : ℕ} {bytes rest : List ℕ} {x : Request} → IsMessage request_message FitsRequest kind bytes rest x → IsRequest kind bytes rest x
as_request m = record { kind_is = m.kind_is; body = inl m.body; fits = m.fits }

abbrev IsReply : ℕ → List ℕ → List ℕ → Reply → Type 0
IsReply = IsMessage reply_message FitsReply

unsaid_takes : (kind : ℕ) (bytes front : List ℕ) (x : Request) (rest : List ℕ) → kind ≡ 1 → Takes bytes (byte 1) front → boot_by 1 front ≡ Some (x, rest) → IsRequest kind bytes rest x
unsaid_takes kind bytes front x rest k first e =
    let t = unsaid_form.takes front x rest first.rest_fits e in
    let v = t.0 in
    let b : Boot = v.1.1.0 in
    let fits = t.2 in
    let behind = fits.1.1.0 in
    let whole = Takes-then bytes (byte 1) front _ rest first t.3 in
    let body : Takes bytes (boot_without_limits b v.1.0 v.1.1.1) rest = subst (λ (s : List ℕ). Takes bytes s rest) (sym (unsaid_spelled v.0 b v.1.0 v.1.1.1 behind.1.0)) whole in
    let small : FitsLimits b.limits = subst FitsLimits (sym behind.1.1) (omega arith, omega arith) in
    subst (IsRequest kind bytes rest) (sym t.1) (record { kind_is = sym k; body = inr (b, v.1.0, v.1.1.1, refl, behind.1.1, body); fits = (fits.1.0, ((small, behind.0), fits.1.1.1)) })

said_takes : (kind : ℕ) (bytes front : List ℕ) (x : Request) (rest : List ℕ) → kind ≡ 1 → Takes bytes (byte 2) front → boot_by 2 front ≡ Some (x, rest) → IsRequest kind bytes rest x
said_takes kind bytes front x rest k first e =
    let t = said_form.takes front x rest first.rest_fits e in
    let v = t.0 in
    let b : Boot = v.1.1.1.0 in
    let fits = t.2 in
    let behind = fits.1.1.1.0 in
    let whole = Takes-then bytes (byte 2) front _ rest first t.3 in
    let body : Takes bytes (boot b v.1.0 v.1.1.1.1) rest = subst (λ (s : List ℕ). Takes bytes s rest) (sym (said_spelled v.0 v.1.1.0 b v.1.0 v.1.1.1.1 behind.1.0 behind.1.1)) whole in
    let small : FitsLimits b.limits = subst FitsLimits (sym behind.1.1) fits.1.1.0 in
    subst (IsRequest kind bytes rest) (sym t.1) (record { kind_is = sym k; body = inl body; fits = (fits.1.0, ((small, behind.0), fits.1.1.1.1)) })

boot_takes : (kind : ℕ) (bytes : List ℕ) (x : Request) (rest : List ℕ) → IsBytes bytes → kind ≡ 1 → boot_at bytes ≡ Some (x, rest) → IsRequest kind bytes rest x
unfolding boot_at
boot_takes kind bytes x rest all k e =
    let b = bind_some (number_at 1 bytes) (λ v. boot_by v.0 v.1) (x, rest) e in
    let t = byte_form.takes bytes b.0.0 b.0.1 all b.1 in
    let front : Takes bytes (byte b.0.0) b.0.1 = subst (λ (n : ℕ). Takes bytes (byte n) b.0.1) (sym t.1) t.3 in
    elim (versions b.0.0 b.0.1 (x, rest) b.2) [
      | inl h ↦ unsaid_takes kind bytes b.0.1 x rest k (subst (λ (n : ℕ). Takes bytes (byte n) b.0.1) h front) (subst (λ (n : ℕ). boot_by n b.0.1 ≡ Some (x, rest)) h b.2)
      | inr h ↦ said_takes kind bytes b.0.1 x rest k (subst (λ (n : ℕ). Takes bytes (byte n) b.0.1) h front) (subst (λ (n : ℕ). boot_by n b.0.1 ≡ Some (x, rest)) h b.2)
    ]

request_takes : (kind : ℕ) (bytes : List ℕ) (x : Request) (rest : List ℕ) → IsBytes bytes → request_at kind bytes ≡ Some (x, rest) → IsRequest kind bytes rest x
request_takes kind bytes x rest all e = elim (pick {k = kind} {c = 1} e) [
  | inl h ↦ boot_takes kind bytes x rest all h.0 h.1
  | inr e ↦ elim (pick {k = kind} {c = 4} e) [
    | inl h ↦ as_request (bare Wait all refl refl tt h)
    | inr e ↦ elim (pick {k = kind} {c = 11} e) [
      | inl h ↦ as_request (bare Ask_outcome all refl refl tt h)
      | inr e ↦
          let t = to_takes kind bytes x rest all e in
          subst (IsRequest kind bytes rest) (sym t.2) (record { kind_is = t.3; body = inl t.4; fits = (t.5, t.6) })
    ]
  ]
]

reply_takes : (kind : ℕ) (bytes : List ℕ) (x : Reply) (rest : List ℕ) → IsBytes bytes → reply_at kind bytes ≡ Some (x, rest) → IsReply kind bytes rest x
reply_takes kind bytes x rest all e = elim (pick {k = kind} {c = 0x81} e) [
  | inl h ↦ bare Done all refl refl tt h
  | inr e ↦ elim (pick {k = kind} {c = 0x82} e) [
    | inl h ↦ formed status_form (λ v fits. (refl, (refl, fits))) all h
    | inr e ↦ elim (pick {k = kind} {c = 0x83} e) [
      | inl h ↦ formed regs_form (λ v fits. (refl, (refl, fits))) all h
      | inr e ↦ elim (pick {k = kind} {c = 0x84} e) [
        | inl h ↦ formed bytes_form (λ v fits. (refl, (refl, fits))) all h
        | inr e ↦ elim (pick {k = kind} {c = 0x85} e) [
          | inl h ↦ formed message_form (λ v fits. (refl, (refl, fits))) all h
          | inr e ↦ elim (pick {k = kind} {c = 0x86} e) [
            | inl h ↦ formed info_form (λ v fits. (refl, (behind_four (word v.0) (word v.1.0) (word v.1.1.0) (word v.1.1.1.0) (double v.1.1.1.1), fits))) all h
            | inr e ↦ elim (pick {k = kind} {c = 0x87} e) [
              | inl h ↦ formed outcome_form (λ v fits. (refl, (append_assoc (text v.0) (items outcome_file v.1.0) (items ended v.1.1), fits))) all h
              | inr e ↦ elim (pick {k = kind} {c = 0x88} e) [
                | inl h ↦ formed errno_form (λ v fits. (refl, (refl, fits))) all h
                | inr e ↦ elim (pick {k = kind} {c = 0x89} e) [
                  | inl h ↦ bare OutOfTurns all refl refl tt h
                  | inr e ↦ elim (pick {k = kind} {c = 0x8a} e) [
                    | inl h ↦ formed refused_form (λ v fits. (refl, (refl, fits))) all h
                    | inr e ↦ absurd (cc e)
                  ]
                ]
              ]
            ]
          ]
        ]
      ]
    ]
  ]
]

to_last : (ask : Ask) (p q r s : Option (Request × List ℕ)) → cond (eqb (ask_message ask).0 1) p (cond (eqb (ask_message ask).0 4) q (cond (eqb (ask_message ask).0 11) r s)) ≡ s
to_last (Seize options) p q r s = refl
to_last (SetOptions options) p q r s = refl
to_last GetRegs p q r s = refl
to_last (SetRegs rs) p q r s = refl
to_last (Peek address count) p q r s = refl
to_last (Syscall signal) p q r s = refl
to_last EventMsg p q r s = refl
to_last SigInfo p q r s = refl
to_last Listen p q r s = refl

versioned_again : (b : Boot) (limit : ℕ) (words : List Word) (rest : List ℕ) → FitsRequest (Boot_with b limit words)
    → boot_at ((byte 2 ++ (byte (flag b.follow) ++ (double limit ++ (limits b.limits ++ (parts b ++ items schedule_word words))))) ++ rest) ≡ Some (Boot_with b limit words, rest)
unfolding boot_at
versioned_again b limit words rest fits =
    let behind : List ℕ = byte (flag b.follow) ++ (double limit ++ (limits b.limits ++ (parts b ++ items schedule_word words))) in
    ap boot_at (append_assoc (byte 2) behind rest)
    ∙ ap (λ (o : Option (ℕ × List ℕ)). o >>= λ v. boot_by v.0 v.1) (byte_form.again 2 (behind ++ rest) (omega arith))
    ∙ said_form.again (b.follow, (limit, (b.limits, (b, words)))) rest (tt, (fits.0, (fits.1.0.0, ((fits.1.0.1, (refl, refl)), fits.1.1))))

request_again : (x : Request) (rest : List ℕ) → FitsRequest x → request_at (request_message x).0 ((request_message x).1 ++ rest) ≡ Some (x, rest)
request_again (Boot_with b limit words) rest fits =
    ap (λ (s : List ℕ). boot_at (s ++ rest)) (said_spelled b.follow b.limits b limit words refl refl) ∙ versioned_again b limit words rest fits
request_again Wait rest fits = refl
request_again Ask_outcome rest fits = refl
request_again (To pid ask) rest fits = to_last ask _ _ _ _ ∙ to_again pid ask rest fits.0 fits.1

reply_again : (x : Reply) (rest : List ℕ) → FitsReply x → reply_at (reply_message x).0 ((reply_message x).1 ++ rest) ≡ Some (x, rest)
reply_again Done rest fits = refl
reply_again (Status_is pid status) rest fits = status_form.again (pid, status.word) rest fits
reply_again (Registers_are rs) rest fits = regs_form.again rs rest fits
reply_again (Bytes_are bytes) rest fits = bytes_form.again bytes rest fits
reply_again (Message_is pid) rest fits = message_form.again pid rest fits
reply_again (Info_is i) rest fits =
    ap (λ (s : List ℕ). info_at (s ++ rest)) (behind_four (word i.signal) (word i.code) (word i.pid) (word i.status) (double i.address)) ∙ info_form.again (i.signal, (i.code, (i.pid, (i.status, i.address)))) rest fits
reply_again (Outcome_is o) rest fits =
    ap (λ (s : List ℕ). outcome_at (s ++ rest)) (append_assoc (text o.console) (items outcome_file o.files) (items ended o.ended)) ∙ outcome_form.again (o.console, (o.files, o.ended)) rest fits
reply_again (Errno_is number) rest fits = errno_form.again number rest fits
reply_again OutOfTurns rest fits = refl
reply_again (Refused fault) rest fits = refused_form.again fault rest fits

-- ---- bodies

all_read : (b c : Payload) (rest : List ℕ) → reading.ended (b, rest) ≡ Some c → (b ≡ c) × (rest ≡ [])
all_read b c rest e = elim (choose (eqb (length rest) 0) (Some b) None e) [
  | inl h ↦ (some_is b c h.1, no_items rest (eqb-true (length rest) 0 h.0))
  | inr h ↦ absurd (cc h.1)
]

-- the bytes are the body of a boot without limits, and it has the limits that this means
abbrev pub IsUnsaid : List ℕ → Payload → Type 0
IsUnsaid bytes b = (booted : Boot) × (limit : ℕ) × (words : List Word) × (b ≡ Of_request (Boot_with booted limit words)) × (booted.limits ≡ unsaid_limits) × (bytes ≡ boot_without_limits booted limit words)

abbrev pub IsBody : ℕ → List ℕ → Payload → Type 0
IsBody kind bytes b = ((message b).0 ≡ kind) × (((bytes ≡ (message b).1) ⊎ IsUnsaid bytes b) × FitsMessage b)

none_behind : (bytes text rest : List ℕ) → Takes bytes text rest → rest ≡ [] → bytes ≡ text
none_behind bytes text rest t e = t.parts ∙ ap (λ (x : List ℕ). text ++ x) e ∙ append-nil _

request_body : (bytes rest : List ℕ) (x : Request) → rest ≡ [] → Takes bytes (request_message x).1 rest ⊎ BeginsUnsaid bytes rest x → (bytes ≡ (request_message x).1) ⊎ IsUnsaid bytes (Of_request x)
request_body bytes rest x e (inl t) = inl (none_behind bytes (request_message x).1 rest t e)
request_body bytes rest x e (inr u) = inr (u.0, u.1, u.2, ap Of_request u.3, u.4, none_behind bytes (boot_without_limits u.0 u.1 u.2) rest u.5 e)

pub body_takes : (kind : ℕ) (bytes : List ℕ) (b : Payload) → IsBytes bytes → body_at kind bytes ≡ Some b → IsBody kind bytes b
unfolding body_at
body_takes kind bytes b all e = elim (choose (ltb kind 0x80) _ _ e) [
  | inl h ↦
      let s = bind_some (request_at kind bytes) (λ x. reading.ended (Of_request x.0, x.1)) b h.1 in
      let r = all_read (Of_request s.0.0) b s.0.1 s.2 in
      let t = request_takes kind bytes s.0.0 s.0.1 all s.1 in
      subst (IsBody kind bytes) r.0 (t.kind_is, (request_body bytes s.0.1 s.0.0 r.1 t.body, t.fits))
  | inr h ↦
      let s = bind_some (reply_at kind bytes) (λ x. reading.ended (Of_reply x.0, x.1)) b h.1 in
      let r = all_read (Of_reply s.0.0) b s.0.1 s.2 in
      let t = reply_takes kind bytes s.0.0 s.0.1 all s.1 in
      subst (IsBody kind bytes) r.0 (t.kind_is, (inl (none_behind bytes (reply_message s.0.0).1 s.0.1 t.body r.1), t.fits))
]

request_kind : (q : Request) → ltb (request_message q).0 0x80 ≡ true
request_kind (Boot_with b limit words) = refl
request_kind Wait = refl
request_kind Ask_outcome = refl
request_kind (To pid (Seize options)) = refl
request_kind (To pid (SetOptions options)) = refl
request_kind (To pid GetRegs) = refl
request_kind (To pid (SetRegs rs)) = refl
request_kind (To pid (Peek address count)) = refl
request_kind (To pid (Syscall signal)) = refl
request_kind (To pid EventMsg) = refl
request_kind (To pid SigInfo) = refl
request_kind (To pid Listen) = refl

reply_kind : (r : Reply) → ltb (reply_message r).0 0x80 ≡ false
reply_kind Done = refl
reply_kind (Status_is pid status) = refl
reply_kind (Registers_are rs) = refl
reply_kind (Bytes_are bytes) = refl
reply_kind (Message_is pid) = refl
reply_kind (Info_is i) = refl
reply_kind (Outcome_is o) = refl
reply_kind (Errno_is number) = refl
reply_kind OutOfTurns = refl
reply_kind (Refused fault) = refl

-- an outcome whose lists are out of order isn't read

outcome_refused : (o : Outcome) (rest : List ℕ) → FitsText o.console → FitItems FitsOutcomeFile o.files → FitItems FitsEnded o.ended → (paths_rise None o.files && pids_rise None o.ended) ≡ false
    → outcome_at (text o.console ++ (items outcome_file o.files ++ (items ended o.ended ++ rest))) ≡ None
unfolding outcome_at
outcome_refused o rest console files ends out_of_order =
    rw (text_form.again o.console (items outcome_file o.files ++ (items ended o.ended ++ rest)) console, (items_form outcome_file_items).again o.files (items ended o.ended ++ rest) files, (items_form ended_items).again o.ended rest ends, out_of_order) refl

pub body_refused : (o : Outcome) → FitsText o.console → FitItems FitsOutcomeFile o.files → FitItems FitsEnded o.ended → (paths_rise None o.files && pids_rise None o.ended) ≡ false
    → body_at (message (Of_reply (Outcome_is o))).0 (message (Of_reply (Outcome_is o))).1 ≡ None
unfolding body_at
body_refused o console files ends out_of_order =
    let c : List ℕ = text o.console in
    let f : List ℕ = items outcome_file o.files in
    let e : List ℕ = items ended o.ended in
    let parts : (c ++ f) ++ e ≡ c ++ (f ++ (e ++ [])) = append_assoc c f e ∙ ap (λ (t : List ℕ). c ++ (f ++ t)) (sym (append-nil e)) in
    ap (λ (x : Option (Reply × List ℕ)). x >>= λ x. reading.ended (Of_reply x.0, x.1)) (ap outcome_at parts ∙ outcome_refused o [] console files ends out_of_order)

pub body_again : (b : Payload) → FitsMessage b → body_at (message b).0 (message b).1 ≡ Some b
unfolding body_at
body_again (Of_request q) fits =
    let k : ℕ = (request_message q).0 in
    let m : List ℕ = (request_message q).1 in
    let e : request_at k m ≡ Some (q, []) = ap (request_at k) (sym (append-nil m)) ∙ request_again q [] fits in
    ap (λ (t : Bool). cond t (request_at k m >>= λ x. reading.ended (Of_request x.0, x.1)) (reply_at k m >>= λ x. reading.ended (Of_reply x.0, x.1))) (request_kind q)
    ∙ ap (λ (o : Option (Request × List ℕ)). o >>= λ x. reading.ended (Of_request x.0, x.1)) e
body_again (Of_reply r) fits =
    let k : ℕ = (reply_message r).0 in
    let m : List ℕ = (reply_message r).1 in
    let e : reply_at k m ≡ Some (r, []) = ap (reply_at k) (sym (append-nil m)) ∙ reply_again r [] fits in
    ap (λ (t : Bool). cond t (request_at k m >>= λ x. reading.ended (Of_request x.0, x.1)) (reply_at k m >>= λ x. reading.ended (Of_reply x.0, x.1))) (reply_kind r)
    ∙ ap (λ (o : Option (Reply × List ℕ)). o >>= λ x. reading.ended (Of_reply x.0, x.1)) e
