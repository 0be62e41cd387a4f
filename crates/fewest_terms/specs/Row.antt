-- Rows of needs as contracts see them: the project's own choice.
use Rattle.addr_bits.specs.Prefix.{Cidr}
use Rattle.fewest_terms.specs.declared.needs.Needs.{Needs}

-- a mixed prefix, and how many terms it needs
pub record NeedRow : Type 0 where
  pub prefix : Cidr
  pub needs : Needs
