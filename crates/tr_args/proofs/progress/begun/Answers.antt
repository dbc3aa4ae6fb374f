use Rattle.std.proofs.Common.{length, codes, ap, ◌∙◌}
use Rattle.tr_values.specs.Calls.{name_text}
use Rattle.tr_args.specs.Arguments.{joint}
use Rattle.tr_args.specs.Progress.{behind}
use Rattle.tr_args.proofs.Opening.{put_both}
use Rattle.tr_args.proofs.Begun.{begun_entry, begun_rest}
use Rattle.tr_args.proofs.progress.begun.Goals as goal

pub returns-in_ok-put-in-None-clause-begins : goal.returns-in_ok-put-in-None-clause-begins
returns-in_ok-put-in-None-clause-begins c =
    let context = c.args.context.now in
    begun_entry context c.format_of-format.result.0 c.are_both.result c.args.sheet.now c.put.new.self c.in-None.is (ap (λ f. f.0) c.format_of-format.ensures.value)
    (ap behind c.are_both.ensures ∙ ap joint c.format_of-format.ensures.value) (put_both (name_text context.number) (codes "(") c.args.sheet.now c.name.new.sheet c.put.new.self c.in_ok-name-in-None.ensures c.in_ok-put-in-None.ensures)

pub returns-in-Some-clause-begins : goal.returns-in-Some-clause-begins
returns-in-Some-clause-begins c =
    begun_rest c.args.context.now c.in-Some.field-0 (length c.format_of-format.result.0.now) c.format_of-format.result.1 c.args.sheet.now c.in-Some.is (ap (λ f. length f.0) c.format_of-format.ensures.value) (ap (λ f. f.1) c.format_of-format.ensures.value)
