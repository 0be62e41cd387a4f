-- Lists of flat terms, and what each family sees of them.
use Rattle.std.specs.Prelude.{ℕ, ◌≡◌, List, [], ◌∷◌, Option, None, Some}
use Rattle.addr_bits.specs.Address.{address_of}
use Rattle.addr_bits.specs.Prefix.{Cidr, IsCidr}
use Rattle.addr_bits.specs.declared.address.Family.{Family}
use Rattle.addr_bits.specs.declared.address.Family.TheVariants.{V4, V6}
use Rattle.spf_grammar.specs.declared.flat.Net.{Net}
use Rattle.spf_grammar.specs.declared.flat.Net.TheVariants.{V4 as Net4, V6 as Net6, All}
use Rattle.spf_grammar.specs.declared.flat.FlatTerm.{FlatTerm}
use Rattle.spf_grammar.specs.declared.policy.Mechanism.{Mechanism}
use Rattle.spf_grammar.specs.declared.policy.Mechanism.TheVariants as mechanism
use Rattle.spf_grammar.specs.declared.policy.Mechanism.TheVariants.{Include, A, Mx, Ptr, Ip4, Ip6, Exists}
use Rattle.spf_grammar.specs.Flat.{first}
use Rattle.spf_grammar.specs.FirstMatch.{first_rule}
use Rattle.spf_grammar.specs.Lists.{seen}

-- RFC 4632, section 3.1: the prefix of a network is one of its family's addresses
abbrev pub HasPrefix : Net → Type 0
HasPrefix (Net4 p) = IsCidr 32 p
HasPrefix (Net6 p) = IsCidr 128 p
HasPrefix All = Unit {0}

-- each network of the list has such a prefix
abbrev pub HavePrefixes : List FlatTerm → Type 0
HavePrefixes [] = Unit {0}
HavePrefixes (term ∷ terms) = HasPrefix term.net × HavePrefixes terms

-- RFC 7208, section 5.6: the network of a prefix of the family
abbrev pub net_in : Family → Cidr → Net
net_in V4 p = Net4 p
net_in V6 p = Net6 p

-- RFC 7208, sections 5.1 and 5.6: the prefix of the family's addresses that a network has, if it has any
abbrev pub part_in : Family → Net → Option Cidr
part_in f All = Some (record { start = 0; len = 0 })
part_in V4 (Net4 p) = Some p
part_in V6 (Net6 p) = Some p
part_in V4 (Net6 p) = None
part_in V6 (Net4 p) = None

-- RFC 7208, sections 5.1 and 5.6: the network of a mechanism that has one
abbrev pub network_of : Mechanism → Option Net
network_of (Ip4 p) = Some (Net4 p)
network_of (Ip6 p) = Some (Net6 p)
network_of mechanism.All = Some All
network_of (Include spec) = None
network_of (A spec len4 len6) = None
network_of (Mx spec len4 len6) = None
network_of (Ptr spec) = None
network_of (Exists spec) = None

-- the verdict of the first term that has an address is that of the first which the address's family sees to cover it
abbrev pub FirstIsSeen : Type 0
FirstIsSeen =
    (f : Family) (list : List FlatTerm) (a : ℕ) → HavePrefixes list
    → first list (address_of f a) ≡ first_rule (seen f list) a
