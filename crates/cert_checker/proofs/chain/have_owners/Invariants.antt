use Rattle.std.proofs.Common.{drop}
use Rattle.cert_checker.proofs.ChainLemmas.{OwnersBy}
use Rattle.cert_checker.proofs.chain.have_owners.Given as goal

-- the names of the records so far are right
abbrev pub invariant-loop-number : goal.invariant-loop-number
invariant-loop-number l = OwnersBy l.name l.label l.records l.number (drop l.number l.records)
