use Rattle.std.proofs.Common.{◌≡◌, List, [], ◌∷◌, ◌++◌, subst, sym}
use Rattle.lx_abi.specs.declared.ptrace.Reply.{Reply}
use Rattle.lx_abi.specs.declared.ptrace.Request.{Request}
use Rattle.transcript.specs.declared.said.Said.{Said}
use Rattle.transcript.specs.declared.said.Said.TheVariants.{Asked, Answered}
use Rattle.host_shared.specs.Hearing.{pairs, spoken}
use Rattle.host_shared.proofs.Hearing.{added, pairs_added}
use Rattle.host_shared.proofs.exchanges.Exchanges.add.Goals as goal

pub invariant_of-self : goal.invariant_of-self
invariant_of-self g c =
    let s = c.self.inside in
    added (pairs s.transcript) c.args.transcript s.count c.self.invariant.1
    (subst (λ (l : List (Request × Reply)). (q : Request) × (r : Reply) × (c.args.transcript ≡ spoken l ++ Asked q ∷ Answered r ∷ [])) (sym c.self.view_is) c.requires.more)

pub returns : goal.returns
returns g c q r e = pairs_added _ c.args.transcript q r e
