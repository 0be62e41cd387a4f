use Rattle.std.proofs.Common.{sym}
use Rattle.std.proofs.lemmas.Bool.{ltb-true}
use Rattle.cert_checker.proofs.ChainLemmas.{label_second, label_single}
use Rattle.cert_checker.proofs.chain.label_of.Goals as goal

pub returns-in_default : goal.returns-in_default
returns-in_default c = λ name label form own. label_single name c.args.records.now c.in_default.ensures.lookup.3 label form own

pub returns : goal.returns
returns c = λ name label form own.
    rw c.without_last.ensures
    (label_second name c.args.records.now c.in-Some.second.now c.in_ok-first.first.now (ltb-true 1 _ (sym c.in-Some.ensures.lookup.0)) c.in-Some.ensures.lookup.1 (sym c.in_ok-first.ensures) label form own)
