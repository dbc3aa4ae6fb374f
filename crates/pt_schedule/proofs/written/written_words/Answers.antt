use Rattle.std.proofs.Common.{rules}
use Rattle.lx_abi.specs.declared.schedule.Word.TheVariants.{Turn}
use Rattle.pt_schedule.proofs.ReadBack.{more_written, all_written, text_written}
use Rattle.pt_schedule.proofs.written.written_words.Goals as goal

pub loop-word-preserved : goal.loop-word-preserved
loop-word-preserved c = more_written c.args.words.now c.loop-word.word-index (Turn 0) _ _ (search rules) c.loop-word.invariant c.push_word.ensures.number c.in_ok-push_word.ensures.text

pub returns-clause-text : goal.returns-clause-text
returns-clause-text c = search (rules, text_written)

pub returns-clause-read : goal.returns-clause-read
returns-clause-read c = search (rules, all_written)
