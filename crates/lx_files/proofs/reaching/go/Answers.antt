use Rattle.std.proofs.Common.{ap, sym, ◌∙◌}
use Rattle.lx_files.specs.Folders.{at, names_of}
use Rattle.lx_files.proofs.Walking.{beyond_here, beyond_up, beyond_down, led_on}
use Rattle.lx_files.proofs.reaching.go.Goals as goal

pub returns-then-stays-clause-folder : goal.returns-then-stays-clause-folder
returns-then-stays-clause-folder c = c.requires.there ∙ ap (λ p. at c.args.folders.now.children (names_of p)) (sym (c.in_ok-go_beyond.ensures ∙ beyond_here c.args.path.now.items c.args.part.now (sym c.stays.ensures ∙ c.if-stays.true)))

pub returns-then-leads_up-clause-folder : goal.returns-then-leads_up-clause-folder
returns-then-leads_up-clause-folder c =
    c.go_up.ensures c.args.path.now.items c.requires.there (c.as_slice.ensures.value ∙ c.in_ok-go_beyond.ensures ∙ beyond_up c.args.path.now.items c.args.part.now (sym c.stays.ensures ∙ c.if-stays.false) (sym c.leads_up.ensures ∙ c.if-leads_up.true))
    ∙ ap (λ p. at c.args.folders.now.children (names_of p)) c.as_slice.ensures.value

pub returns-clause-folder : goal.returns-clause-folder
returns-clause-folder c =
    c.go_down.ensures ∙ led_on c.args.folders.now.children c.args.folder c.args.path.now.items c.args.part.now c.requires.there
    ∙ ap (λ p. at c.args.folders.now.children (names_of p)) (sym (c.in_ok-go_beyond.ensures ∙ beyond_down c.args.path.now.items c.args.part.now (sym c.stays.ensures ∙ c.if-stays.false) (sym c.leads_up.ensures ∙ c.if-leads_up.false)))
