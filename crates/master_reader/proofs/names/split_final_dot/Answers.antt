use Rattle.std.proofs.Common.{ap, sym, ◌∙◌}
use Rattle.dns_name.specs.Parts.{without_final, ends_so}
use Rattle.dns_name.proofs.Splits.{without_final_yes, without_final_no}
use Rattle.master_reader.specs.Tokens.{is_unescaped}
use Rattle.master_reader.proofs.Labels.{ends_so-last}
use Rattle.master_reader.proofs.names.split_final_dot.Goals as goal

pub returns-then-is_unescaped-clause-front : goal.returns-then-is_unescaped-clause-front
returns-then-is_unescaped-clause-front c =
    let cut = c.in-Some.ensures.cases.0 in
    sym (ap (without_final (is_unescaped 46)) cut ∙ without_final_yes (is_unescaped 46) c.in-Some.front.now c.in-Some.last.now (sym c.is_unescaped.ensures ∙ c.if-is_unescaped.true))

pub returns-then-is_unescaped-clause-absolute : goal.returns-then-is_unescaped-clause-absolute
returns-then-is_unescaped-clause-absolute c =
    let cut = c.in-Some.ensures.cases.0 in
    sym (ap (ends_so (is_unescaped 46)) cut ∙ ends_so-last (is_unescaped 46) c.in-Some.front.now c.in-Some.last.now ∙ (sym c.is_unescaped.ensures ∙ c.if-is_unescaped.true))

pub returns-else-is_unescaped-clause-front : goal.returns-else-is_unescaped-clause-front
returns-else-is_unescaped-clause-front c =
    let cut = c.in-Some.ensures.cases.0 in
    cut ∙ sym (ap (without_final (is_unescaped 46)) cut ∙ without_final_no (is_unescaped 46) c.in-Some.front.now c.in-Some.last.now (sym c.is_unescaped.ensures ∙ c.if-is_unescaped.false))

pub returns-else-is_unescaped-clause-absolute : goal.returns-else-is_unescaped-clause-absolute
returns-else-is_unescaped-clause-absolute c =
    let cut = c.in-Some.ensures.cases.0 in
    sym (ap (ends_so (is_unescaped 46)) cut ∙ ends_so-last (is_unescaped 46) c.in-Some.front.now c.in-Some.last.now ∙ (sym c.is_unescaped.ensures ∙ c.if-is_unescaped.false))
