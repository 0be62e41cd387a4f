use Rattle.std.proofs.Common.{◌≡◌, false, length}
use Rattle.master_reader.specs.Entry.{behind_ttl_and_class}
use Rattle.master_reader.proofs.meaning.behind_ttl_and_class.Given as goal

abbrev pub invariant-loop-rest : goal.invariant-loop-rest
invariant-loop-rest l = behind_ttl_and_class false false l.tokens ≡ behind_ttl_and_class l.has_ttl l.has_class l.rest

abbrev pub decreases-loop-rest : goal.decreases-loop-rest
decreases-loop-rest l = length l.rest
