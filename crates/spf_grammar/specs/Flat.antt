-- Lists of flat terms: the first that has an address gives its verdict.
use Rattle.std.specs.Prelude.{ℕ, ◌==◌, Bool, true, false, List, [], ◌∷◌, if◌then◌else◌}
use Rattle.addr_bits.specs.Width.{cut_of}
use Rattle.addr_bits.specs.Prefix.{Cidr}
use Rattle.addr_bits.specs.declared.address.Address.{Address}
use Rattle.addr_bits.specs.declared.address.Address.TheVariants.{V4, V6}
use Rattle.spf_grammar.specs.declared.verdict.Verdict.{Verdict}
use Rattle.spf_grammar.specs.declared.verdict.Verdict.TheVariants.{Neutral}
use Rattle.spf_grammar.specs.declared.flat.Net.{Net}
use Rattle.spf_grammar.specs.declared.flat.Net.TheVariants.{V4 as Net4, V6 as Net6, All}
use Rattle.spf_grammar.specs.declared.flat.FlatTerm.{FlatTerm}

-- RFC 7208, section 5.6: the first bits of the address, as many as the prefix is long, are the prefix's
abbrev pub agrees : (bits : ℕ) → Cidr → ℕ → Bool
agrees bits p a = cut_of bits a p.len == p.start

-- RFC 7208, sections 5.1 and 5.6: a network has the addresses of its family in its prefix, and `all` has every address
abbrev pub covers : Net → Address → Bool
covers (Net4 p) (V4 a) = agrees 32 p a
covers (Net4 p) (V6 a) = false
covers (Net6 p) (V4 a) = false
covers (Net6 p) (V6 a) = agrees 128 p a
covers All a = true

-- RFC 7208, sections 4.6.2 and 4.7: the verdict of the first term that has the address, and neutral where none has it
abbrev pub first : List FlatTerm → Address → Verdict
first [] a = Neutral
first (term ∷ terms) a = if covers term.net a then term.verdict else first terms a
