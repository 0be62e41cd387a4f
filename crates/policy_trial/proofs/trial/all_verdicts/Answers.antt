use Rattle.spf_model.specs.Check.{receiver_limits}
use Rattle.spf_model.specs.Run.{says}
use Rattle.policy_verdicts.proofs.OneAnswer.{never_both}
use Rattle.policy_trial.specs.Trial.{trial_text}
use Rattle.policy_trial.proofs.trial.all_verdicts.Goals as goal

pub unreachable-requires : goal.unreachable-requires
unreachable-requires c =
    let least = rw c.in-Err-Refused.field-0-is at c.in-Err-Refused.ensures.refused in
    never_both (says c.args.zones.now) receiver_limits trial_text c.in-Err-Refused.field-0-0 c.in-Err-Refused.field-0-1 c.requires.0 least c.requires.1
