-- What holds of both families.
use Rattle.std.proofs.Common.{◌≡◌, ℕ, ◌≤◌, refl, lit≤}
use Rattle.addr_bits.specs.declared.address.Family.{Family}
use Rattle.addr_bits.specs.declared.address.Family.TheVariants.{V4, V6}
use Rattle.addr_bits.specs.Address.{bits_of, address_of, family_of}

pub few_bits : (f : Family) → bits_of f ≤ 128
few_bits V4 = lit≤ tt
few_bits V6 = lit≤ tt

pub family_again : (f : Family) (a : ℕ) → family_of (address_of f a) ≡ f
family_again V4 a = refl
family_again V6 a = refl
