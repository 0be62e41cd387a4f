use Rattle.std.proofs.Common.{ap, sym, ◌∙◌, ◌++◌, ◌∷◌, []}
use Rattle.zone_answers.proofs.Listing.{pushed_under, passed_under}
use Rattle.zone_answers.proofs.zone.push_under.Goals as goal

pub returns-in_ok-push : goal.returns-in_ok-push
returns-in_ok-push c = pushed_under c.args.names.now c.push.new.self c.args.added.now c.args.top.now
    (c.in_ok-push.ensures.ok ∙ ap (λ n. c.args.names.now ++ n ∷ []) c.in_ok-clone.ensures.cases) (sym c.if-under.ensures.test)

pub returns-else-under : goal.returns-else-under
returns-else-under c = passed_under c.args.names.now c.args.added.now c.args.top.now (sym c.if-under.ensures.test)
