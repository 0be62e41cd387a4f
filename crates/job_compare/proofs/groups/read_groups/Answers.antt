use Rattle.spfc_words.specs.Words.{texts}
use Rattle.job_compare.proofs.Splitting.{one_named, two_named}
use Rattle.job_compare.proofs.groups.read_groups.Goals as goal

pub returns-in-Some : goal.returns-in-Some
returns-in-Some c =
    two_named (texts c.args.words.now) (texts c.in-Some.first.now) (texts c.in-Some.others.now) c.read_two_groups.result c.in-Some.ensures c.read_two_groups.ensures

pub returns-in-None : goal.returns-in-None
returns-in-None c = one_named (texts c.args.words.now) c.read_one_group.result c.in-None.ensures c.read_one_group.ensures
