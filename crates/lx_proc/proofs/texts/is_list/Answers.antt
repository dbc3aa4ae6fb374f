use Rattle.std.proofs.Common.{◌≡◌, List, ℕ, Option, Vec, Global, IfSome, is_some, not, ap, sym, subst, ◌∙◌}
use Rattle.std.specs.List.{list_any}
use Rattle.std.proofs.lemmas.List.Sorted.{list_any-IsPermutation}
use Rattle.rv_mem.specs.Memory.{Memory}
use Rattle.lx_proc.specs.Read.{is_no_text}
use Rattle.lx_proc.specs.Texts.{texts_at}
use Rattle.lx_proc.proofs.texts.is_list.Goals as goal

pub returns-in-Some-clause-list : goal.returns-in-Some-clause-list
returns-in-Some-clause-list c =
    let m = c.args.memory.now in
    let P : Option (Vec ℕ Global) → Type 0 = λ o. IfSome o (λ v. is_some (texts_at m c.args.limit c.args.address) ≡ not (list_any (is_no_text m) v.items)) in
    let read = subst P c.in-Some.is c.in_ok-pointers_at.ensures.some in
    c.are_texts.ensures.texts
    ∙ ap (λ (n : Memory). not (list_any (is_no_text n) c.as_slice.result.now)) c.in_ok-pointers_at.ensures.kept
    ∙ ap (λ (ps : List ℕ). not (list_any (is_no_text m) ps)) c.as_slice.ensures.value
    ∙ ap not (sym (list_any-IsPermutation (is_no_text m) c.in-Some.pointers.items c.sort_unstable.new.self.items c.sort_unstable.ensures.permutation))
    ∙ sym read
