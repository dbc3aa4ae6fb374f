use Rattle.std.proofs.Common.{◌++◌, ap, subst, sym, List, ℕ, ◌∙◌, arith}
use Rattle.std.specs.Prelude.{Some, None}
use Rattle.std.proofs.lemmas.Str.Pattern.{split_parts}
use Rattle.std.specs.Prelude.{◌==◌}
use Rattle.std.specs.Cmp.Lexicographic.{pointwise}
use Rattle.sweep_words.specs.Known.{star, IsLike}
use Rattle.sweep_words.proofs.Likeness.{around_star, begins_like, like_itself, same_texts, test_of_same}
use Rattle.sweep_words.proofs.Likeness.{starless, like_starless, behind_piece, same_behind}
use Rattle.sweep_words.proofs.known.is_like.Goals as goal

pub returns-in_default-clause-is : goal.returns-in_default-clause-is
returns-in_default-clause-is c = λ e.
    let text = c.args.text.now in
    subst (λ (p : List ℕ). IsLike text p) (same_texts text c.args.pattern.now (sym c.eq.ensures ∙ e)) (like_itself text)

pub returns-clause-is : goal.returns-clause-is
returns-clause-is c = λ e.
    let first = c.in-Some.first.now in
    let others = c.in-Some.others.now in
    let left = c.in-Some-strip_prefix.left.now in
    let at = c.in-Some.ensures.cases in
    let begins = c.in-Some-strip_prefix.ensures.cases in
    let pattern = around_star c.args.pattern.now first others at.0 at.1 at.3 at.4 at.2.1.split in
    let text = begins.1.1 ∙ ap (λ rest. first ++ rest) (sym begins.2) in
    subst (λ (t : List ℕ). IsLike t c.args.pattern.now) (sym text)
    (subst (λ (p : List ℕ). IsLike (first ++ left) p) (sym pattern) (begins_like first left (star others) (c.ends_like.ensures.is e)))

pub returns-in_default-clause-otherwise : goal.returns-in_default-clause-otherwise
returns-in_default-clause-otherwise c = λ e h.
    let text = c.args.text.now in
    let pattern = c.args.pattern.now in
    let same = like_starless text pattern (starless pattern (split_parts 42 pattern None c.in_default.ensures.cases (omega arith))) h in
    absurd (cc (sym (c.eq.ensures ∙ ap (λ (p : List ℕ). pointwise ◌==◌ text p) (sym same) ∙ test_of_same text) ∙ e))

pub returns-in_default-strip_prefix-clause-otherwise : goal.returns-in_default-strip_prefix-clause-otherwise
returns-in_default-strip_prefix-clause-otherwise c = λ e h.
    let first = c.in-Some.first.now in
    let others = c.in-Some.others.now in
    let at = c.in-Some.ensures.cases in
    let pattern = around_star c.args.pattern.now first others at.0 at.1 at.3 at.4 at.2.1.split in
    let none = starless first (split_parts 42 c.args.pattern.now (Some (c.in-Some.first, c.in-Some.others)) at (omega arith)).1 in
    let behind = behind_piece first (star others) c.args.text.now none (subst (λ (p : List ℕ). IsLike c.args.text.now p) pattern h) in
    c.in_default-strip_prefix.ensures.cases behind.0 behind.1

pub returns-clause-otherwise : goal.returns-clause-otherwise
returns-clause-otherwise c = λ e h.
    let first = c.in-Some.first.now in
    let others = c.in-Some.others.now in
    let left = c.in-Some-strip_prefix.left.now in
    let at = c.in-Some.ensures.cases in
    let begins = c.in-Some-strip_prefix.ensures.cases in
    let pattern = around_star c.args.pattern.now first others at.0 at.1 at.3 at.4 at.2.1.split in
    let none = starless first (split_parts 42 c.args.pattern.now (Some (c.in-Some.first, c.in-Some.others)) at (omega arith)).1 in
    let behind = behind_piece first (star others) c.args.text.now none (subst (λ (p : List ℕ). IsLike c.args.text.now p) pattern h) in
    let text = begins.1.1 ∙ ap (λ rest. first ++ rest) (sym begins.2) in
    c.ends_like.ensures.otherwise e (subst (λ (t : List ℕ). IsLike t (star others)) (same_behind first behind.0 left (sym behind.1 ∙ text)) behind.2)
