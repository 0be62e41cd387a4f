use Rattle.std.proofs.Common.{◌↔◌, Contains, sym, subst}
use Rattle.std.proofs.lemmas.Result.{IfOk-weaker}
use Rattle.spf_model.specs.Result.{IsInOrder}
use Rattle.symbolic_check.proofs.asked.in_order.Goals as goal

pub returns-clause-order : goal.returns-clause-order
returns-clause-order c =
    IfOk-weaker c.in_turn.result _ _ (λ questions e. subst IsInOrder (sym e) c.in_ok-found.ensures.order) c.in_turn.ensures

pub returns-clause-same : goal.returns-clause-same
returns-clause-same c =
    IfOk-weaker c.in_turn.result _ _
    (λ questions e question. subst (λ qs. Contains qs question ↔ Contains c.args.asked question) (sym e) (c.in_ok-found.ensures.same question))
    c.in_turn.ensures
