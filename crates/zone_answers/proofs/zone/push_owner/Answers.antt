use Rattle.std.proofs.Common.{ap, sym, ◌∙◌, ◌++◌, ◌∷◌, []}
use Rattle.zone_answers.specs.Index.{counts}
use Rattle.zone_answers.proofs.Listing.{owner_pushed, owner_passed}
use Rattle.zone_answers.proofs.zone.push_owner.Goals as goal

pub returns-in_ok-push : goal.returns-in_ok-push
returns-in_ok-push c = owner_pushed c.args.names.now c.push.new.self c.args.listed.now.owner (counts c.args.lent c.args.listed.now)
    (c.in_ok-push.ensures.ok ∙ ap (λ n. c.args.names.now ++ n ∷ []) c.in_ok-clone.ensures.cases) (sym c.if-counts.ensures)

pub returns-else-counts : goal.returns-else-counts
returns-else-counts c = owner_passed c.args.names.now c.args.listed.now.owner (counts c.args.lent c.args.listed.now) (sym c.if-counts.ensures)
