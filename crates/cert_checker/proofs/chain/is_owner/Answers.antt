use Rattle.std.proofs.Common.{sym, ◌∙◌}
use Rattle.zone_answers.proofs.Nodes.{same_true}
use Rattle.cert_checker.proofs.ChainLemmas.{owner_other, owner_parts, owner_zero}
use Rattle.cert_checker.proofs.chain.is_owner.Goals as goal

pub returns-then-number-eq0 : goal.returns-then-number-eq0
returns-then-number-eq0 c = owner_zero c.args.owner.now c.args.name.now c.args.label.now c.args.number c.eq.result c.if-number-eq0.true c.eq.ensures

pub returns-then-eq : goal.returns-then-eq
returns-then-eq c =
    owner_parts c.args.owner.now c.args.name.now c.in-Some-Some.above c.args.label.now c.in-Some-Some.first.now c.args.number c.is_numbered.result c.if-number-eq0.false
    (sym c.in-Some-Some.ensures) (sym c.in-Some-Some.ensures') (same_true c.in-Some-Some.above c.args.name.now (sym c.eq-2.ensures ∙ c.if-eq.true)) c.is_numbered.ensures

pub returns-else-eq : goal.returns-else-eq
returns-else-eq c =
    owner_other c.args.owner.now c.args.name.now c.in-Some-Some.above c.args.label.now c.in-Some-Some.first.now c.args.number c.eq-2.result c.if-number-eq0.false
    (sym c.in-Some-Some.ensures) (sym c.in-Some-Some.ensures') c.eq-2.ensures c.if-eq.false
