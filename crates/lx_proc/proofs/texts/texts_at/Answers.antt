use Rattle.std.proofs.Common.{◌≡◌, ◌+◌, ◌-◌, ◌<◌, List, ℕ, Option, length, is_some, ap, sym, subst, ◌∙◌, arith}
use Rattle.std.specs.List.{sum_by}
use Rattle.std.proofs.lemmas.List.Sums.{sum_by_push}
use Rattle.lx_proc.specs.declared.texts.Words.{Words}
use Rattle.lx_proc.specs.Starts.{cost_of}
use Rattle.lx_proc.specs.Read.{Reads, ReadsWithin, too_large_if}
use Rattle.lx_proc.specs.Texts.{pointer_at, any_length, text_at, texts_at, whole}
use Rattle.lx_proc.proofs.Reading.{pointer_unreadable, texts_ended, texts_go_on, texts_too_many}
use Rattle.lx_proc.proofs.Looking.{too_large_from, not_within, no_room}
use Rattle.lx_proc.proofs.texts.texts_at.Goals as goal

pub returns-in_default-clause-words : goal.returns-in_default-clause-words
returns-in_default-clause-words c =
    sym (pointer_unreadable c.args.memory.now any_length c.loop-i.i c.loop-i.at c.loop-i.texts.items _ c.in_default.field-0 (omega arith) (rw c.loop-i.invariant.kept at c.in_default.ensures.fault) c.loop-i.invariant.so_far)

pub returns-then-pointer-eq0-clause-words : goal.returns-then-pointer-eq0-clause-words
returns-then-pointer-eq0-clause-words c =
    sym (texts_ended c.args.memory.now any_length c.loop-i.i c.loop-i.at c.loop-i.texts.items _ (omega arith) (rw c.loop-i.invariant.kept at c.in-Ok.ensures.ok)
    (rw (c.from_le_bytes-pointer.ensures, c.in-Ok.ensures.value, c.loop-i.invariant.kept) at c.if-pointer-eq0.true) c.loop-i.invariant.so_far)

pub returns-in_default-2-clause-words : goal.returns-in_default-2-clause-words
returns-in_default-2-clause-words c =
    let m = c.args.memory.now in
    let at_pointer : c.from_le_bytes-pointer.result ≡ pointer_at m c.loop-i.at = rw (c.from_le_bytes-pointer.ensures, c.in-Ok.ensures.value, c.loop-i.invariant.kept) in
    let text : ReadsWithin c.in_ok-text.field-0 c.loop-i.room (whole (text_at m any_length (pointer_at m c.loop-i.at))) = rw (c.in-Ok.ensures.unchanged, c.loop-i.invariant.kept, at_pointer) at c.in_ok-text.ensures.text in
    let judged : c.in_ok-words.words ≡ too_large_if (is_some (texts_at m (any_length - c.loop-i.i) c.loop-i.at)) = cc (c.in_ok-words.ensures.words, c.in_ok-text.ensures.kept, c.in-Ok.ensures.unchanged, c.loop-i.invariant.kept) in
    let P : Words → Type 0 = λ w. Reads w (texts_at m any_length c.args.address) in
    subst P (sym judged)
    (too_large_from m any_length c.loop-i.i c.loop-i.at c.loop-i.texts.items _ c.loop-i.room (omega arith) (rw c.loop-i.invariant.kept at c.in-Ok.ensures.ok)
    (rw at_pointer at c.if-pointer-eq0.false) c.loop-i.invariant.so_far c.loop-i.invariant.spent (not_within c.in_ok-text.field-0 c.loop-i.room _ text c.in_default-2.not-Some))

pub returns-in_default-checked_sub-clause-words : goal.returns-in_default-checked_sub-clause-words
returns-in_default-checked_sub-clause-words c =
    let m = c.args.memory.now in
    let at_pointer : c.from_le_bytes-pointer.result ≡ pointer_at m c.loop-i.at = rw (c.from_le_bytes-pointer.ensures, c.in-Ok.ensures.value, c.loop-i.invariant.kept) in
    let text : ReadsWithin c.in_ok-text.field-0 c.loop-i.room (whole (text_at m any_length (pointer_at m c.loop-i.at))) = rw (c.in-Ok.ensures.unchanged, c.loop-i.invariant.kept, at_pointer) at c.in_ok-text.ensures.text in
    let judged : c.in_ok-others.others ≡ too_large_if (is_some (texts_at m (any_length - c.loop-i.i) c.loop-i.at)) = cc (c.in_ok-others.ensures.words, c.in_ok-text.ensures.kept, c.in-Ok.ensures.unchanged, c.loop-i.invariant.kept) in
    let size = c.len.ensures in
    let over = c.in_default-checked_sub.ensures in
    let much : c.loop-i.room < length c.in-Some.text + 9 = omega (arith, size, over) in
    let P : Words → Type 0 = λ w. Reads w (texts_at m any_length c.args.address) in
    subst P (sym judged)
    (too_large_from m any_length c.loop-i.i c.loop-i.at c.loop-i.texts.items _ c.loop-i.room (omega arith) (rw c.loop-i.invariant.kept at c.in-Ok.ensures.ok)
    (rw at_pointer at c.if-pointer-eq0.false) c.loop-i.invariant.so_far c.loop-i.invariant.spent (no_room c.in_ok-text.field-0 c.in-Some.text c.loop-i.room _ text c.in-Some.is much))

pub loop-i-preserved : goal.loop-i-preserved
loop-i-preserved c =
    let m = c.args.memory.now in
    let at_pointer : c.from_le_bytes-pointer.result ≡ pointer_at m c.loop-i.at = rw (c.from_le_bytes-pointer.ensures, c.in-Ok.ensures.value, c.loop-i.invariant.kept) in
    let text : ReadsWithin c.in_ok-text.field-0 c.loop-i.room (whole (text_at m any_length (pointer_at m c.loop-i.at))) = rw (c.in-Ok.ensures.unchanged, c.loop-i.invariant.kept, at_pointer) at c.in_ok-text.ensures.text in
    let P : Option (List ℕ) → Type 0 = λ o. ReadsWithin o c.loop-i.room (whole (text_at m any_length (pointer_at m c.loop-i.at))) in
    let e = texts_go_on m any_length c.loop-i.i c.loop-i.at c.loop-i.texts.items _ c.in-Some.text (omega arith) (rw c.loop-i.invariant.kept at c.in-Ok.ensures.ok)
    (rw at_pointer at c.if-pointer-eq0.false) (subst P c.in-Some.is text) c.loop-i.invariant.so_far in
    let sum = ap (sum_by cost_of) c.in_ok-push.ensures.items ∙ sum_by_push cost_of c.loop-i.texts.items c.in-Some.text in
    let size = c.len.ensures in
    let spent = c.in-Some-checked_sub.ensures in
    record {
      kept = c.in_ok-text.ensures.kept ∙ c.in-Ok.ensures.unchanged ∙ c.loop-i.invariant.kept;
      so_far = cc (e, c.in_ok-push.ensures.items);
      spent = omega (arith, size, spent.0, spent.1, sum, c.loop-i.invariant.spent);
    }

pub returns-clause-words : goal.returns-clause-words
returns-clause-words c = sym (texts_too_many c.args.memory.now any_length c.loop-i.i c.loop-i.at c.loop-i.texts.items _ (omega arith) c.loop-i.invariant.so_far)
