-- Written forms. Among the spellings of a term, which is written is the project's own choice.
use Rattle.std.specs.Prelude.{ℕ, ◌==◌, List, [], ◌++◌, codes, decimal, if◌then◌else◌}
use Rattle.addr_bits.specs.Address.{bits_of, text_in}
use Rattle.addr_bits.specs.declared.address.Family.{Family}
use Rattle.addr_bits.specs.declared.address.Family.TheVariants as family
use Rattle.addr_bits.specs.Prefix.{Cidr}
use Rattle.spf_grammar.specs.declared.verdict.Verdict.{Verdict}
use Rattle.spf_grammar.specs.declared.verdict.Verdict.TheVariants.{Fail, SoftFail, Pass, Neutral}
use Rattle.spf_grammar.specs.declared.flat.Net.{Net}
use Rattle.spf_grammar.specs.declared.flat.Net.TheVariants.{V4, V6, All}
use Rattle.spf_grammar.specs.declared.flat.FlatTerm.{FlatTerm}

-- RFC 7208, section 4.6.1: a qualifier, of which `+` is not written
abbrev pub written_qualifier : Verdict → List ℕ
written_qualifier Fail = codes "-"
written_qualifier SoftFail = codes "~"
written_qualifier Pass = []
written_qualifier Neutral = codes "?"

-- RFC 7208, section 5.6: a length behind its slash; the longest is not written
abbrev pub written_len : (slash : List ℕ) (most len : ℕ) → List ℕ
written_len slash most len = if len == most then [] else slash ++ decimal len

-- RFC 7208, section 5.6: the name of the mechanism that has the networks of a family
abbrev pub network_word : Family → List ℕ
network_word family.V4 = codes "ip4:"
network_word family.V6 = codes "ip6:"

-- RFC 7208, section 5.6
abbrev pub written_network : Family → Cidr → List ℕ
written_network f p = network_word f ++ text_in f p.start ++ written_len (codes "/") (bits_of f) p.len

-- RFC 7208, sections 5.1 and 5.6: a network as the mechanism that has its addresses
abbrev pub written_net : Net → List ℕ
written_net (V4 p) = written_network family.V4 p
written_net (V6 p) = written_network family.V6 p
written_net All = codes "all"

-- the written form of a flat term
unfoldable pub written_flat : FlatTerm → List ℕ
written_flat term = written_qualifier term.verdict ++ written_net term.net
