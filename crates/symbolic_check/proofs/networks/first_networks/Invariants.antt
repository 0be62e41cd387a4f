use Rattle.std.proofs.Common.{◌≡◌, ◌<◌, ◌^◌, ℕ, Some, drop}
use Rattle.addr_bits.specs.Address.{address_of}
use Rattle.prefix_trie.specs.Leaves.{value_at}
use Rattle.symbolic_check.specs.Networks.{first_network}
use Rattle.symbolic_check.proofs.networks.first_networks.Given as goal

-- the trie has what the directives that were taken up give
abbrev pub invariant-loop-i : goal.invariant-loop-i
invariant-loop-i g l = (a : ℕ) → a < 2 ^ g.W.Width.BITS → value_at g.W.Width.BITS l.found a ≡ Some (first_network (drop l.i l.terms) (address_of g.W.AddressFamily.family a))
