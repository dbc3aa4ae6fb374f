-- What is shown of a log, item by item.
use Rattle.std.proofs.Common.{◌≡◌, ◌∙◌, Bool, true, cond, ℕ, List, [], ◌∷◌, ◌++◌, refl, sym, ap, ap₂, subst, false, append-nil, append_assoc}
use Rattle.std.specs.FinMap as maps
use Rattle.std.proofs.lemmas.List.Elements.{filter-append}
use Rattle.lx_abi.specs.declared.log.Item.{Item}
use Rattle.lx_abi.specs.declared.log.Item.TheVariants.{Enter, Done, Taken, Stopped, Exit}
use Rattle.lx_abi.specs.Log.{Note, Noted, pid_of}
use Rattle.lx_kernel.specs.Runs.{Run}
use Rattle.lx_model.specs.Kernel.{traces}
use Rattle.pt_model.specs.Parts.{Options as PartOptions, Part}
use Rattle.pt_model.specs.View.{item_parts, part, parts, traced}
use Rattle.pt_schedule.specs.declared.schedule.Schedule.{Schedule}
use Rattle.tr_args.specs.Reads.{text_of as half_text}
use Rattle.tr_core.specs.Settings.{first_pen, layout_by, options_by}
use Rattle.tr_core.specs.declared.settings.Options.{Options}
use Rattle.tr_line.specs.Printing.{Printing, PrinterWritesTheRendering, after_part, writes, written}
use Rattle.plain_run.specs.Notes.{RunsNoted, notes_of}
use Rattle.plain_trace.specs.Reading.{decoded}
use Rattle.plain_trace.specs.Shown.{after_parts, entry_parts, parts_of, result_parts, shown, shown_item, text_of}
use Rattle.plain_trace.specs.Traces.{HasShown, IsTrace, Shows}
use Rattle.plain_trace.specs.declared.trace.Trace.{Trace}

parts_both : (o : PartOptions) (xs ys : List Noted) → parts o (xs ++ ys) ≡ parts o xs ++ parts o ys
parts_both o [] ys = refl
parts_both o (x ∷ xs) ys = ap (λ l. part o x ++ l) (parts_both o xs ys) ∙ sym (append_assoc (part o x) (parts o xs) (parts o ys))

-- what is shown of an item, by the decoder of its call's text
same_parts : (o : Options) (note : Note) (item : Item) → parts_of o note item ≡ item_parts (options_by o) note item
unfolding parts_of entry_parts result_parts decoded half_text
same_parts o note (Enter pid call) = refl
same_parts o note (Done pid call x replaced) = refl
same_parts o note (Taken pid signal cause) = refl
same_parts o note (Stopped pid signal) = refl
same_parts o note (Exit pid word left) = refl

of_one : (o : Options) (n : Noted) → shown o (n ∷ []) ≡ shown_item o n
of_one o n = by (traces o.follow (pid_of n.item))
  where
    by : (b : Bool) → parts (options_by o) (cond b (n ∷ []) []) ≡ cond b (parts_of o n.note n.item) []
    by true = append-nil (part (options_by o) n) ∙ sym (same_parts o n.note n.item)
    by false = refl

pub shown_more : (o : Options) (log : List Noted) (n : Noted) → shown o (log ++ n ∷ []) ≡ shown o log ++ shown_item o n
shown_more o log n =
    ap (λ l. parts (options_by o) l) (filter-append (λ (x : Noted). traces o.follow (pid_of x.item)) log (n ∷ []))
    ∙ parts_both (options_by o) (traced o.follow log) (traced o.follow (n ∷ []))
    ∙ ap (λ l. shown o log ++ l) (of_one o n)

written_both : (s : Printing) (xs ys : List Part) → written s (xs ++ ys) ≡ written s xs ++ written (after_parts s xs) ys
unfolding written after_parts
written_both s [] ys = refl
written_both s (x ∷ xs) ys =
    ap (λ l. writes s.layout s.line (maps.get s.calls) x ++ l) (written_both (after_part s x) xs ys)
    ∙ sym (append_assoc (writes s.layout s.line (maps.get s.calls) x) _ _)

after_both : (s : Printing) (xs ys : List Part) → after_parts s (xs ++ ys) ≡ after_parts (after_parts s xs) ys
unfolding after_parts
after_both s [] ys = refl
after_both s (x ∷ xs) ys = after_both (after_part s x) xs ys

pub shows_more : (o : Options) (log : List Noted) (n : Noted) (t u : Trace) → HasShown o log t → u.options ≡ t.options
    → u.bytes ≡ t.bytes ++ written t.printer (shown_item t.options n) → u.printer ≡ after_parts t.printer (shown_item t.options n)
    → HasShown o (log ++ n ∷ []) u
shows_more o log n t u h same bytes printer = record {
  options = same ∙ h.options;
  bytes = bytes ∙ ap₂ (λ l i. l ++ i) h.bytes (ap₂ (λ s i. written s (shown_item i n)) h.printer h.options)
      ∙ sym (written_both (first_pen o) (shown o log) (shown_item o n))
      ∙ ap (λ l. written (first_pen o) l) (sym (shown_more o log n));
  printer = printer ∙ ap₂ (λ s i. after_parts s (shown_item i n)) h.printer h.options
      ∙ sym (after_both (first_pen o) (shown o log) (shown_item o n))
      ∙ ap (λ l. after_parts (first_pen o) l) (sym (shown_more o log n));
}

-- and of a whole run
pub traced_run : PrinterWritesTheRendering → (o : Options) (first t : Trace) (k : Run) (s : Schedule) (z : Run) (bytes : List ℕ)
    → first.options ≡ o → Shows first first [] → RunsNoted k s z (Shows first first) (Shows first t) → t.failed ≡ false → bytes ≡ t.bytes
    → IsTrace o k s z bytes
unfolding text_of
traced_run law o first t k s z bytes given begins ran unfailed same =
    let log = notes_of k ran.to.pids in
    let has : HasShown o log t = subst (λ (i : Options). HasShown i log t) given (ran.notes [] begins unfailed) in
    record { to = ran.to; text = same ∙ has.bytes ∙ law (layout_by o) (shown o log) }
