use Rattle.std.proofs.Common.{IsTrue, Ok, ap, subst, sym}
use Rattle.spfc_outer.proofs.TakenLemmas.{taken_of}
use Rattle.loading.proofs.reading.take_file.Goals as goal

pub returns-in_err-taken-in-Chosen-clause-takes : goal.returns-in_err-taken-in-Chosen-clause-takes
returns-in_err-taken-in-Chosen-clause-takes g c = λ told.
    let e = c.in_ok-open_file.ensures in
    taken_of _ _ _ _ _ _ (e.whole (ap Ok c.in-Chosen.is) told) (c.in_err-taken-in-Chosen.ensures.takes (subst (λ u. IsTrue u) (sym e.told) told))

pub returns-in_ok-taken-in-Chosen-clause-takes : goal.returns-in_ok-taken-in-Chosen-clause-takes
returns-in_ok-taken-in-Chosen-clause-takes g c = λ told.
    let e = c.in_ok-open_file.ensures in
    taken_of _ _ _ _ _ _ (e.whole (ap Ok c.in-Chosen.is) told) (c.in_ok-taken-in-Chosen.ensures.takes (subst (λ u. IsTrue u) (sym e.told) told))
