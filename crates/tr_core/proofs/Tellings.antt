-- A tracer's states are those of the definitions, and what it prints is the text of their parts.
use Rattle.std.proofs.Common.{◌≡◌, false, List, [], ◌∷◌, ◌++◌, refl, sym, ap, ◌∙◌, append_assoc}
use Rattle.std.proofs.lemmas.List.{append-nil}
use Rattle.lx_abi.specs.declared.ptrace.Reply.{Reply}
use Rattle.lx_model.specs.Kernel.{Script}
use Rattle.pt_model.specs.Parts.{Options, Part}
use Rattle.pt_model.specs.Tracer.{Tracer, Moved, next, new_tracer}
use Rattle.pt_model.specs.Replies.{after_all}
use Rattle.tr_core.specs.Pens.{Pen, bytes_of_part, pen_after_part, wrote, pen_after}
use Rattle.tr_core.specs.States.{State, moved, said, heard, told, text}
use Rattle.tr_core.specs.Laws.{StatesAreTracers, TextsAreWhole, TracersWriteRenderings}
use Rattle.tr_args.specs.Reads.{wants_of, text_of}
use Rattle.tr_args.specs.Texts.{TextsAreTexts}
use Rattle.tr_line.specs.Printing.{PrinterWritesTheRendering, written, new_printing}

pub wrote-append : (pen : Pen) (xs ys : List Part) → wrote pen (xs ++ ys) ≡ wrote pen xs ++ wrote (pen_after pen xs) ys
unfolding wrote pen_after
wrote-append pen [] ys = refl
wrote-append pen (x ∷ xs) ys = ap (λ l. bytes_of_part pen x ++ l) (wrote-append (pen_after_part pen x) xs ys) ∙ sym (append_assoc (bytes_of_part pen x) (wrote (pen_after_part pen x) xs) (wrote (pen_after (pen_after_part pen x) xs) ys))

pen_after-append : (pen : Pen) (xs ys : List Part) → pen_after pen (xs ++ ys) ≡ pen_after (pen_after pen xs) ys
unfolding pen_after
pen_after-append pen [] ys = refl
pen_after-append pen (x ∷ xs) ys = pen_after-append (pen_after_part pen x) xs ys

abbrev begun : Options → Script → Tracer → Pen → State
begun o script t pen = record { options = o; script = script; tracer = t; pen = pen; failed = false }

tells : (o : Options) (script : Script) (pen : Pen) (ps : List Part) (t : Tracer) (rs : List Reply)
    → wrote pen ps ++ text (begun o script t (pen_after pen ps)) rs ≡ wrote pen (after_all o script (record { tracer = t; printed = ps }) rs).printed
unfolding said heard moved
tells o script pen ps t [] = append-nil (wrote pen ps)
tells o script pen ps t (r ∷ rs) =
    let m : Moved = next o script t r in
    let rest = text (begun o script m.tracer (pen_after (pen_after pen ps) m.printed)) rs in
    sym (append_assoc (wrote pen ps) (wrote (pen_after pen ps) m.printed) rest)
    ∙ ap (λ l. l ++ rest) (sym (wrote-append pen ps m.printed))
    ∙ ap (λ p. wrote pen (ps ++ m.printed) ++ text (begun o script m.tracer p) rs) (sym (pen_after-append pen ps m.printed))
    ∙ tells o script pen (ps ++ m.printed) m.tracer rs

traced : (o : Options) (script : Script) (pen : Pen) (ps : List Part) (t : Tracer) (rs : List Reply) → (told (begun o script t pen) rs).tracer ≡ (after_all o script (record { tracer = t; printed = ps }) rs).tracer
unfolding heard moved
traced o script pen ps t [] = refl
traced o script pen ps t (r ∷ rs) = traced o script (pen_after pen (next o script t r).printed) (ps ++ (next o script t r).printed) (next o script t r).tracer rs

pub states_are_tracers : StatesAreTracers
unfolding said heard moved wrote pen_after
states_are_tracers o script pen rs = (traced o script pen [] new_tracer rs, tells o script pen [] new_tracer rs)

pub whole_texts : TextsAreTexts → TextsAreWhole
unfolding wants_of text_of
whole_texts h limit most = h limit most

wrote-is : (pen : Pen) (parts : List Part) → wrote pen parts ≡ written pen parts
unfolding wrote written
wrote-is pen [] = refl
wrote-is pen (part ∷ parts) = ap (λ l. bytes_of_part pen part ++ l) (wrote-is (pen_after_part pen part) parts)

pub write_renderings : PrinterWritesTheRendering → TracersWriteRenderings
write_renderings h o script l rs = (states_are_tracers o script (new_printing l) rs).1 ∙ wrote-is (new_printing l) _ ∙ h l _
