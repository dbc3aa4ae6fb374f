use Rattle.std.proofs.Common.{◌≡◌, ℕ, List, Some, sym, subst, ◌∙◌}
use Rattle.std.proofs.Common.{refl}
use Rattle.lx_files.specs.Folders.{child, at, names_of, Entered}
use Rattle.lx_files.proofs.Cutting.{cut, uncut, cut_rest}
use Rattle.lx_files.proofs.Adding.{keeps_itself, keeps_both}
use Rattle.lx_files.proofs.Walking.{next_entered, last_entered, if_ok}
use Rattle.lx_files.proofs.folders.enter_path.Goals as goal

pub names-init : goal.names-init
names-init c = (c.requires.tree, keeps_itself c.args.folders.now.standings c.args.folders.now.standings refl, c.requires.there, λ names i e. e, λ path e. e)

pub enter-requires-clause-bare : goal.enter-requires-clause-bare
enter-requires-clause-bare c = uncut c.names.rest.now c.in-None.ensures

pub enter-requires-in-Some-clause-bare : goal.enter-requires-in-Some-clause-bare
enter-requires-in-Some-clause-bare c = (cut c.names.rest.now c.in-Some.end c.in-Some.ensures).bare

pub returns-in_err-folder-in-Some-clause-keeps : goal.returns-in_err-folder-in-Some-clause-keeps
returns-in_err-folder-in-Some-clause-keeps c = keeps_both c.args.folders.now.standings c.names.folders.standings c.enter-in-Some.new.folders.standings c.names.invariant.1 c.enter-in-Some.ensures.keeps

pub names-preserved : goal.names-preserved
names-preserved c = (
  c.in_ok-folder-in-Some.ensures.tree,
  keeps_both c.args.folders.now.standings c.names.folders.standings c.enter-in-Some.new.folders.standings c.names.invariant.1 c.enter-in-Some.ensures.keeps,
  c.in_ok-folder-in-Some.ensures.there,
  λ names i e. c.enter-in-Some.ensures.stays names i (c.names.invariant.3 names i e),
  λ path e. subst (λ r. Entered c.enter-in-Some.new.folders.children c.in_ok-folder-in-Some.folder r path) (sym (c.after_first-rest.ensures ∙ cut_rest c.names.rest.now c.in-Some.end))
      (next_entered c.names.folders.children c.enter-in-Some.new.folders.children c.names.folder c.in_ok-folder-in-Some.folder c.in-Some.end c.names.rest.now path c.in-Some.ensures c.in_ok-folder-in-Some.ensures.stays c.in_ok-folder-in-Some.ensures.leads (c.names.invariant.4 path e)),
)

pub returns-in-None-clause-keeps : goal.returns-in-None-clause-keeps
returns-in-None-clause-keeps c = keeps_both c.args.folders.now.standings c.names.folders.standings c.enter.new.folders.standings c.names.invariant.1 c.enter.ensures.keeps

pub returns-in-None-clause-leads : goal.returns-in-None-clause-leads
returns-in-None-clause-leads c =
    if_ok c.enter.result (λ k. child c.enter.new.folders.children c.names.folder c.names.rest.now ≡ Some k) (λ k. (path : List ℕ) → Entered c.args.folders.now.children c.args.start c.args.text.now path → at c.enter.new.folders.children (names_of path) ≡ Some k)
    (λ k leads path e. last_entered c.names.folders.children c.enter.new.folders.children c.names.folder k c.names.rest.now path c.in-None.ensures c.enter.ensures.stays leads (c.names.invariant.4 path e))
    c.enter.ensures.leads

pub returns-in-None-clause-stays : goal.returns-in-None-clause-stays
returns-in-None-clause-stays c = λ names i e. c.enter.ensures.stays names i (c.names.invariant.3 names i e)

pub returns-in_err-folder-in-Some-clause-stays : goal.returns-in_err-folder-in-Some-clause-stays
returns-in_err-folder-in-Some-clause-stays c = λ names i e. c.enter-in-Some.ensures.stays names i (c.names.invariant.3 names i e)
