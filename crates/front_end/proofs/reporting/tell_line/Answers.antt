use Rattle.std.proofs.Common.{◌++◌, ◌∷◌, [], ap, sym, subst, ◌∙◌, append_assoc}
use Rattle.std.specs.Prelude.{OnOk, codes, decimal}
use Rattle.std.specs.Io.KnownBytes.{Appends}
use Rattle.front_end.specs.Texts.{line_of}
use Rattle.front_end.proofs.reporting.tell_line.Goals as goal

pub returns-in-Memory : goal.returns-in-Memory
returns-in-Memory g c =
    subst (λ text. OnOk c.writeln-in-Memory.result (Appends (g.E.Write.contents c.args.err.now)
    (g.E.Write.contents c.writeln-in-Memory.new.self) text))
    (sym (ap (λ fault. line_of c.args.program.now fault ++ 10 ∷ []) c.in-Memory.is
    ∙ append_assoc c.args.program.now (codes ": out of memory") (10 ∷ [])))
    c.writeln-in-Memory.ensures.bytes

pub returns-in-Output : goal.returns-in-Output
returns-in-Output g c =
    subst (λ text. OnOk c.writeln-in-Output.result (Appends (g.E.Write.contents c.args.err.now)
    (g.E.Write.contents c.writeln-in-Output.new.self) text))
    (sym (ap (λ fault. line_of c.args.program.now fault ++ 10 ∷ []) c.in-Output.is
    ∙ append_assoc c.args.program.now (codes ": output fault") (10 ∷ [])))
    c.writeln-in-Output.ensures.bytes

pub returns-in-Host : goal.returns-in-Host
returns-in-Host g c =
    subst (λ text. OnOk c.writeln-in-Host.result (Appends (g.E.Write.contents c.args.err.now)
    (g.E.Write.contents c.writeln-in-Host.new.self) text))
    (sym (ap (λ fault. line_of c.args.program.now fault ++ 10 ∷ []) c.in-Host.is
    ∙ append_assoc c.args.program.now (codes ": host fault " ++ decimal c.in-Host.number) (10 ∷ [])
    ∙ ap (λ rest. c.args.program.now ++ rest) (append_assoc (codes ": host fault ") (decimal c.in-Host.number) (10 ∷ []))))
    c.writeln-in-Host.ensures.bytes

pub returns-in-Expression : goal.returns-in-Expression
returns-in-Expression g c =
    subst (λ text. OnOk c.writeln-in-Expression.result (Appends (g.E.Write.contents c.args.err.now)
    (g.E.Write.contents c.writeln-in-Expression.new.self) text))
    (sym (ap (λ fault. line_of c.args.program.now fault ++ 10 ∷ []) c.in-Expression.is
    ∙ ap (λ n. (c.args.program.now ++ (codes ": expression fault " ++ decimal n)) ++ 10 ∷ [])
    (sym c.number-number.ensures)
    ∙ append_assoc c.args.program.now (codes ": expression fault " ++ decimal c.number-number.result) (10 ∷ [])
    ∙ ap (λ rest. c.args.program.now ++ rest)
    (append_assoc (codes ": expression fault ") (decimal c.number-number.result) (10 ∷ []))))
    c.writeln-in-Expression.ensures.bytes
