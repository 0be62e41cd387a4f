use Rattle.zone_answers.proofs.Distinct.{distinct_more}
use Rattle.zone_answers.proofs.zones.distinct.Goals as goal

pub loop-added-preserved : goal.loop-added-preserved
loop-added-preserved c = distinct_more c.loop-added.set.keys c.insert.new.self.keys c.loop-added.yielded c.in-Some.added c.loop-added.invariant c.in_ok-insert.ensures.keys
