use Rattle.master_reader.proofs.Answered.{never_neither}
use Rattle.master_reader.proofs.Once.{reads_once, reads_not_faults, faults_once}
use Rattle.master_reader.proofs.laws.one_answer.Goals as goal

pub returns : goal.returns
returns c = record { records = reads_once; never_both = reads_not_faults; fault = faults_once; never_neither = never_neither }
