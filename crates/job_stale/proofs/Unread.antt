-- A file that is no kept list.
use Rattle.std.specs.Prelude.{Err}
use Rattle.std.proofs.Common.{◌≡◌, ℕ, List, subst}
use Rattle.bound_table.specs.Reading.{lines_of}
use Rattle.kept_lists.specs.declared.kept.KeptFault.{KeptFault}
use Rattle.kept_lists.specs.declared.kept.KeptFault.TheVariants.{NotKept}
use Rattle.kept_lists.specs.Reading.{AreNotKept, IsKeptAnswer}

-- the line that is named is the first at fault
pub unread : (seen bytes : List ℕ) (fault : KeptFault) (line : ℕ) → seen ≡ bytes → fault ≡ NotKept line → IsKeptAnswer (lines_of seen) (Err fault) → AreNotKept (lines_of bytes) line
unread seen bytes fault line same is answer =
    let over : IsKeptAnswer (lines_of bytes) (Err fault) = subst (λ (t : List ℕ). IsKeptAnswer (lines_of t) (Err fault)) same answer in
    subst (λ (f : KeptFault). IsKeptAnswer (lines_of bytes) (Err f)) is over
