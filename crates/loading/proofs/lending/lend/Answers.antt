use Rattle.std.proofs.Common.{refl}
use Rattle.loading.specs.Loading.{too_many, clash}
use Rattle.loading.proofs.lending.lend.Goals as goal

pub returns-in_ok-clone-in-Err-TooMany-clause-refused : goal.returns-in_ok-clone-in-Err-TooMany-clause-refused
returns-in_ok-clone-in-Err-TooMany-clause-refused c =
    rw c.in_ok-clone-in-Err-TooMany.ensures.cases (too_many _
    (rw (c.in-Err-TooMany.field-0-is, c.in_ok-clone.ensures.cases) at c.in-Err-TooMany.ensures.refused) refl)

pub returns-in_ok-clone-in-Err-AliasAndOther-clause-refused : goal.returns-in_ok-clone-in-Err-AliasAndOther-clause-refused
returns-in_ok-clone-in-Err-AliasAndOther-clause-refused c =
    rw (c.clash.ensures.is, c.in_ok-clone-in-Err-AliasAndOther.ensures.cases)
    (clash _ c.clash.ensures.legal
    (rw (c.in-Err-AliasAndOther.field-0-is, c.in_ok-clone.ensures.cases) at c.in-Err-AliasAndOther.ensures.refused) refl)
