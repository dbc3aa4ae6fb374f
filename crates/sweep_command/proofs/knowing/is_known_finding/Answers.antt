use Rattle.std.proofs.Common.{◌⊎◌, List, ℕ, subst}
use Rattle.std.specs.String.{string_bytes}
use Rattle.sweep_words.specs.Known.{IsKnown}
use Rattle.sweep_command.proofs.knowing.is_known_finding.Goals as goal

pub returns : goal.returns
returns c =
    let key = string_bytes c.in_ok-key.key in
    let older = string_bytes c.in_ok-older.older in
    record {
      key = key;
      older = older;
      is_key = c.in_ok-key.ensures;
      is_older = c.in_ok-older.ensures;
      finding = λ _. c.requires;
      like = λ e. subst (λ lines. IsKnown lines key ⊎ IsKnown lines older) c.as_slice-known.ensures.value
          (subst (λ (text : List ℕ). IsKnown c.as_slice-known.result.now text ⊎ IsKnown c.as_slice-known.result.now older) c.as_str.ensures.value
          (subst (λ (text : List ℕ). IsKnown c.as_slice-known.result.now c.as_str.result.now ⊎ IsKnown c.as_slice-known.result.now text) c.as_str-2.ensures.value
          (c.is_one_known.ensures.is e)));
      unlike = λ e _. subst (λ lines. ¬ (IsKnown lines key) × ¬ (IsKnown lines older)) c.as_slice-known.ensures.value
          (subst (λ (text : List ℕ). ¬ (IsKnown c.as_slice-known.result.now text) × ¬ (IsKnown c.as_slice-known.result.now older)) c.as_str.ensures.value
          (subst (λ (text : List ℕ). ¬ (IsKnown c.as_slice-known.result.now c.as_str.result.now) × ¬ (IsKnown c.as_slice-known.result.now text)) c.as_str-2.ensures.value
          (c.is_one_known.ensures.otherwise e)));
    }
