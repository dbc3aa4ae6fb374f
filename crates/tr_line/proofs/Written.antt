-- A printer over a finite map writes what the printer over a function does.
use Rattle.std.proofs.Common.{◌≡◌, ◌∙◌, ℕ, ◌==◌, Some, None, List, [], ◌∷◌, ◌++◌, refl, ap, arith}
use Rattle.std.proofs.lemmas.Bool.Decides.{nat_tests}
use Rattle.std.specs.Ordering.{nat_cmp, eq_by_cmp}
use Rattle.std.proofs.lemmas.Cmp.{nat_cmp_total}
use Rattle.std.specs.FinMap as maps
use mathlib.Core.Path.{fun_ext}
use Rattle.pt_model.specs.Parts.{Part, Part_enter, Part_done, Part_signal, Part_stopped, Part_exit}
use Rattle.lx_model.specs.Kernel.{put}
use Rattle.tr_line.specs.declared.layout.Layout.{Layout}
use Rattle.tr_line.specs.Lines.{rendering}
use Rattle.tr_line.specs.Printing.{Printing, writes, line_after, calls_after, printed, after_part, written, new_printing}
use Rattle.tr_line.proofs.Rendered.{prints_rendering}

same_key : (q p : ℕ) → eq_by_cmp nat_cmp q p ≡ (p == q)
same_key q p = grind (arith, nat_tests)

inserted : (m : maps.FinMap nat_cmp ℕ) (p n : ℕ) → maps.get (maps.insert m p n) ≡ put (maps.get m) p (Some n)
inserted m p n = fun_ext (λ q. rw (maps.get-insert nat_cmp_total m p n q, same_key q p) refl)

removed : (m : maps.FinMap nat_cmp ℕ) (p : ℕ) → maps.get (maps.remove m p) ≡ put (maps.get m) p None
removed m p = fun_ext (λ q. rw (maps.get-remove nat_cmp_total m p q, same_key q p) refl)

step : (s : Printing) (x : Part) (parts : List Part) → printed (after_part s x).layout (after_part s x).line (maps.get (after_part s x).calls) parts ≡ printed s.layout (line_after s.layout x) (calls_after (maps.get s.calls) x) parts
step s (Part_enter p c text) parts = ap (λ calls. printed s.layout (line_after s.layout (Part_enter p c text)) calls parts) (inserted s.calls p c.number)
step s (Part_done p c x replaced text) parts = ap (λ calls. printed s.layout None calls parts) (removed s.calls p)
step s (Part_signal p i) parts = refl
step s (Part_stopped p signal) parts = refl
step s (Part_exit p word) parts = ap (λ calls. printed s.layout None calls parts) (removed s.calls p)

same : (s : Printing) (parts : List Part) → written s parts ≡ printed s.layout s.line (maps.get s.calls) parts
unfolding written printed
same s [] = refl
same s (x ∷ parts) = ap (λ more. writes s.layout s.line (maps.get s.calls) x ++ more) (same (after_part s x) parts ∙ step s x parts)

pub writes_rendering : (l : Layout) (parts : List Part) → written (new_printing l) parts ≡ rendering l parts
writes_rendering l parts = same (new_printing l) parts ∙ (ap (λ calls. printed l None calls parts) (fun_ext (λ q. maps.get-empty nat_cmp q)) ∙ prints_rendering l parts)
