use Rattle.std.proofs.Common.{length, take, ◌-◌, arith}
use Rattle.std.specs.Prelude.{Some, None}
use Rattle.std.proofs.lemmas.Str.Pattern.{split_parts, split_text_parts}
use Rattle.sweep_words.proofs.Likeness.{around, around_star, piece_found, ends_with_it, on_true, on_false}
use Rattle.sweep_words.proofs.Likeness.{starless, rest_is_like, no_piece, other_end}
use Rattle.sweep_words.proofs.known.ends_like.Goals as goal

pub loop-piece-preserved : goal.loop-piece-preserved
loop-piece-preserved c =
    let left = c.loop-piece.left.now in
    let others = c.loop-piece.others.now in
    let piece = c.in-Some.piece.now in
    let more = c.in-Some.more.now in
    let front = c.in-Some-split_once.field-0-0.now in
    let rest = c.in-Some-split_once.rest.now in
    let at = c.in-Some.ensures.cases in
    let found = c.in-Some-split_once.ensures.cases in (
      search,
      search,
      λ h. c.loop-piece.invariant.2
          (piece_found left front piece rest others more
          (around left front piece rest found.0 found.1 found.3 found.4 found.2.1.split)
          (around_star others piece more at.0 at.1 at.3 at.4 at.2.1.split) h),
      λ h. rest_is_like left piece rest others more found.0 found.1 found.2.0 found.2.1 found.4
          (starless piece (split_parts 42 others (Some (c.in-Some.piece, c.in-Some.more)) at (omega arith)).1)
          (around_star others piece more at.0 at.1 at.3 at.4 at.2.1.split) (c.loop-piece.invariant.3 h),
    )

pub returns-clause-is : goal.returns-clause-is
returns-clause-is c = λ e.
    let left = c.loop-piece.left.now in
    let others = c.loop-piece.others.now in
    let ends = on_true _ _ c.ends_with.result c.ends_with.ensures.cases e in
    c.loop-piece.invariant.2 (ends_with_it left (take (length left - ends.0) left) others ends.1.1)

pub returns-clause-otherwise : goal.returns-clause-otherwise
returns-clause-otherwise c = λ e h.
    let left = c.loop-piece.left.now in
    let others = c.loop-piece.others.now in
    other_end left others (starless others (split_parts 42 others None c.in_default.ensures.cases (omega arith))) (on_false _ _ c.ends_with.result c.ends_with.ensures.cases e) (c.loop-piece.invariant.3 h)

pub returns-in_default-split_once-clause-otherwise : goal.returns-in_default-split_once-clause-otherwise
returns-in_default-split_once-clause-otherwise c = λ e h.
    let left = c.loop-piece.left.now in
    let others = c.loop-piece.others.now in
    let piece = c.in-Some.piece.now in
    let more = c.in-Some.more.now in
    let at = c.in-Some.ensures.cases in
    no_piece left piece others more (starless piece (split_parts 42 others (Some (c.in-Some.piece, c.in-Some.more)) at (omega arith)).1)
    (around_star others piece more at.0 at.1 at.3 at.4 at.2.1.split)
    (split_text_parts piece left None c.in_default-split_once.ensures.cases) (c.loop-piece.invariant.3 h)
