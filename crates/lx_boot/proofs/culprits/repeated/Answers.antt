use Rattle.std.proofs.Common.{◌∙◌, sym, ap, take}
use Rattle.std.specs.List.{list_any}
use Rattle.std.specs.Str.{bytes_eq}
use Rattle.lx_boot.proofs.Seeking.{new_path, old_path, none_repeated}
use Rattle.lx_boot.proofs.culprits.repeated.Goals as goal

pub returns-then-is_among : goal.returns-then-is_among
returns-then-is_among c =
    old_path c.args.files.now c.loop-at.at c.index-files-at.result _ c.loop-at-test.true c.index-files-at.is
    (sym (c.if-is_among.ensures ∙ ap (λ path. list_any (λ g. bytes_eq path g.path) (take c.loop-at.at c.args.files.now)) c.as_slice.ensures)) c.loop-at.invariant

pub loop-at-preserved : goal.loop-at-preserved
loop-at-preserved c =
    new_path c.args.files.now c.loop-at.at c.index-files-at.result _ c.loop-at-test.true c.index-files-at.is
    (sym (c.if-is_among.ensures ∙ ap (λ path. list_any (λ g. bytes_eq path g.path) (take c.loop-at.at c.args.files.now)) c.as_slice.ensures)) c.loop-at.invariant

pub returns : goal.returns
returns c = none_repeated c.args.files.now c.loop-at.at _ c.loop-at-test.false c.loop-at.invariant
