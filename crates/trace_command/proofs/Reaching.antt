-- What a file holds of what was written.
use Rattle.std.proofs.Common.{◌≡◌, ◌∙◌, ◌==◌, ℕ, Bool, true, false, List, [], length, Option, None, Some, Result, Err}
use Rattle.std.proofs.Common.{refl, sym, ap, subst, append-nil, inl, inr}
use Rattle.std.specs.Io.KnownBytes.{Keeps, append_known}
use Rattle.std.proofs.KnownBytes.{Keeps-refl}
use Rattle.std.proofs.lemmas.Bool.{eqb-false, eqb-true}
use Rattle.std.proofs.lemmas.List.{nil_from_length}
use Rattle.lx_abi.specs.declared.outcome.Outcome.{Outcome}
use Rattle.lx_abi.specs.declared.schedule.Event.{Event}
use Rattle.front_end.specs.declared.fault.Fault.{Fault}
use Rattle.trace_run.specs.Writers.{Writer}
use Rattle.trace_run.specs.declared.running.Ended.{Ended}
use Rattle.trace_run.specs.declared.running.RunFault.{RunFault}
use Rattle.trace_run.specs.declared.running.RunFault.TheVariants.{Output as Unwritable}
use Rattle.trace_command.specs.Tracing.{Outputs, Reaches, Runs, RunsNoting, RunsTo, Wanted, WritesFile, WritesTo}
use Rattle.trace_command.specs.Tracing.{is_noted, unused}
use Rattle.trace_words.specs.declared.plan.Plan.{Plan}
use Rattle.trace_command.specs.declared.place.Place.{Place}
use Rattle.trace_command.specs.declared.place.Place.TheVariants as place

append_known-nil : (known : Option (List ℕ)) → append_known known [] ≡ known
append_known-nil None = refl
append_known-nil (Some bytes) = ap Some (append-nil bytes)

pub append_known-empty : (known : Option (List ℕ)) (rest : List ℕ) → rest ≡ [] → append_known known rest ≡ known
append_known-empty known rest e = ap (append_known known) e ∙ append_known-nil known

pub reaches_at_once : (ended : Result Ended RunFault) (held : Option (List ℕ)) → Reaches ended ended held held
reaches_at_once ended held = inl (refl, Keeps-refl held)

pub reaches_whole : (ended : Result Ended RunFault) (rest : List ℕ) {is_empty : Bool} → is_empty ≡ (length rest == 0)
    → is_empty ≡ true → (written held : Option (List ℕ)) → Keeps written (append_known held rest)
    → Reaches ended ended written held
reaches_whole ended rest e t written held kept =
    let nil : rest ≡ [] = nil_from_length rest (eqb-true (length rest) 0 (sym e ∙ t)) in
    inl (refl, subst (Keeps written) (append_known-empty held rest nil) kept)

pub reaches_part : (ended : Result Ended RunFault) (rest : List ℕ) {is_empty : Bool} → is_empty ≡ (length rest == 0)
    → is_empty ≡ false → (written held : Option (List ℕ)) → Keeps written (append_known held rest)
    → Reaches ended (Err Unwritable) written held
reaches_part ended rest e f written held kept =
    inr (refl, (rest, (λ nil. eqb-false (length rest) 0 (sym e ∙ f) (ap length nil), kept)))

-- a run that was written to a file, from its beginning on
pub writes_file : {F : Type 0} (held : F → Option (List ℕ)) (writes : Result Ended RunFault → Writer → Writer → Type 0)
    (ended result : Result Ended RunFault) (old new : F) (first last : Writer) → first ≡ unused (held old)
    → writes ended first last → Reaches ended result last.contents (held new) → WritesFile held writes result
writes_file held writes ended result old new first last e written reaches =
    (old, (new, (ended, (last, (subst (λ w. writes ended w last) e written, reaches)))))

-- a run that writes so writes so too
pub writes_to_more : {F : Type 0} (held : F → Option (List ℕ))
    (writes writes' : Result Ended RunFault → Writer → Writer → Type 0) (result : Result Ended RunFault) (at : Place)
    (old new : Outputs)
    → ((ended : Result Ended RunFault) (old new : Writer) → writes ended old new → writes' ended old new)
    → WritesTo held writes result at old new → WritesTo held writes' result at old new
writes_to_more held writes writes' result place.Error old new g h = (h.0, g result old.err new.err h.1)
writes_to_more held writes writes' result place.Output old new g h = (h.0, g result old.out new.out h.1)
writes_to_more held writes writes' result (place.File path) old new g h =
    let f = h.1.1 in
    (h.0, (h.1.0, (f.0, (f.1.0, (f.1.1.0, (f.1.1.1.0, (g f.1.1.0 (unused (held f.0)) f.1.1.1.0 f.1.1.1.1.0, f.1.1.1.1.1)))))))

-- what is asked for is so by the words
pub runs_asked : (P E : Type 0) {I O F : Type 0} (held : F → Option (List ℕ)) (remaining : O → Option (List ℕ))
    (contents : I → Option (List ℕ)) (wanted : Wanted) (plan : Plan) (asked : Bool) (noted : Option (List Event))
    (at : Place) (result : Result Outcome Fault) (old new : Outputs) → asked ≡ is_noted wanted
    → RunsTo held (RunsNoting P E remaining contents wanted plan asked noted) at result old new
    → RunsTo held (Runs P E remaining contents wanted plan noted) at result old new
runs_asked P E held remaining contents wanted plan asked noted at result old new is h =
    subst (λ a. RunsTo held (RunsNoting P E remaining contents wanted plan a noted) at result old new) is h
