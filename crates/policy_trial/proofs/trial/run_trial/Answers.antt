use Rattle.policy_trial.proofs.TrialLemmas.{summed_due, zone_has_verdicts}
use Rattle.policy_trial.proofs.trial.run_trial.Goals as goal

pub all_verdicts-requires : goal.all_verdicts-requires
all_verdicts-requires c = zone_has_verdicts c.args.start c.args.networks c.in_ok-zones.zones c.requires.few c.in_ok-zones.ensures

pub returns : goal.returns
returns c =
    let chosen = c.in_ok-shortest.ensures in
    let told = c.in_ok-summary.ensures in
    summed_due c.args.start c.args.networks c.in_ok-zones.zones c.in_ok-tries.tries.v4 c.in_ok-tries.tries.v6 c.in_ok-shortest.shortest.list c.in_ok-shortest.shortest.rows4
    c.in_ok-shortest.shortest.rows6 c.in_ok-shortest.shortest.total c.in_ok-summary.summary c.in_ok-zones.ensures c.in_ok-tries.ensures chosen.list chosen.rows4 chosen.rows6 chosen.total
    (record { fewest = told.fewest; rows = told.rows; records = told.records })
