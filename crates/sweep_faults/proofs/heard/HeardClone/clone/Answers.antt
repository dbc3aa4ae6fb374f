use Rattle.std.proofs.Common.{List, sym, subst, ◌∙◌}
use Rattle.sweep_rows.specs.Known.{IsKnown}
use Rattle.sweep_rows.specs.Likeness.{GoBeside}
use Rattle.sweep_rows.specs.Said.{Says}
use Rattle.sweep_rows.specs.declared.known.Known.{Known}
use Rattle.sweep_rows.specs.declared.streams.Piece.{Piece}
use Rattle.sweep_faults.specs.Courses.{AreCourses}
use Rattle.sweep_faults.specs.Processes.{course_in, likeness_in}
use Rattle.sweep_faults.specs.declared.processes.Processes.{Processes}
use Rattle.sweep_faults.proofs.heard.HeardClone.clone.Goals as goal

pub returns : goal.returns
returns c = record {
  cases = λ calls log h. record {
    heard = record {
      logged = c.again.ensures ∙ h.heard.logged;
      counted = c.in_ok-clone.ensures.cases log h.heard.counted;
      coursed = subst (λ (x : Processes). AreCourses (course_in x) log) (sym c.in_ok-clone-2.ensures.cases) h.heard.coursed;
      known = subst (λ (x : Known). IsKnown log x) (sym c.in_ok-clone-3.ensures.cases) h.heard.known;
      said = subst (λ (x : List Piece). Says x log) (sym c.in_ok-clone-4.ensures.cases) h.heard.said;
    };
    beside = subst (λ (x : Processes). GoBeside calls (likeness_in x) log) (sym c.in_ok-clone-2.ensures.cases) h.beside;
  };
}
