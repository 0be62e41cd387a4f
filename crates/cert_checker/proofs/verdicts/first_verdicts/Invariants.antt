use Rattle.std.proofs.Common.{◌≡◌, ◌<◌, ◌^◌, ℕ, Some, drop}
use Rattle.addr_bits.specs.Address.{address_of}
use Rattle.prefix_trie.specs.Leaves.{value_at}
use Rattle.spf_grammar.specs.Flat.{first}
use Rattle.cert_checker.proofs.verdicts.first_verdicts.Given as goal

-- the trie has what the terms that were taken up give
abbrev pub invariant-loop-i : goal.invariant-loop-i
invariant-loop-i g l = (a : ℕ) → a < 2 ^ g.W.Width.BITS → value_at g.W.Width.BITS l.found a ≡ Some (first (drop l.i l.list) (address_of g.W.AddressFamily.family a))
