use Rattle.std.proofs.Common.{IsTrue, Ok, ap, subst, sym}
use Rattle.spfc_outer.proofs.TakenLemmas.{taken_of}
use Rattle.spfc_outer.proofs.loading.load.Goals as goal

pub returns-in_err-bytes-in-Chosen-clause-takes : goal.returns-in_err-bytes-in-Chosen-clause-takes
returns-in_err-bytes-in-Chosen-clause-takes g c = λ told.
    let e = c.in_ok-open_file.ensures in
    let opened = ap Ok c.in-Chosen.is in
    taken_of _ _ _ _ _ _ (e.whole opened told) (c.in_err-bytes-in-Chosen.ensures.takes (subst (λ u. IsTrue u) (sym e.told) told))

pub returns-in_ok-bytes-in-Chosen-clause-takes : goal.returns-in_ok-bytes-in-Chosen-clause-takes
returns-in_ok-bytes-in-Chosen-clause-takes g c = λ told.
    let e = c.in_ok-open_file.ensures in
    let opened = ap Ok c.in-Chosen.is in
    taken_of _ _ _ _ _ _ (e.whole opened told) (c.in_ok-bytes-in-Chosen.ensures.takes (subst (λ u. IsTrue u) (sym e.told) told))
