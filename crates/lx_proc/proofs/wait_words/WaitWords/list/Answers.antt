use Rattle.std.proofs.Common.{◌≡◌, IfOk, subst}
use Rattle.lx_proc.specs.WaitWords.{Words, ends_of}
use Rattle.lx_proc.proofs.wait_words.WaitWords.list.Goals as goal

pub returns : goal.returns
returns c = subst (λ (w : Words). IfOk c.list_words.result (λ l. l ≡ ends_of w)) c.self.view_is c.list_words.ensures
