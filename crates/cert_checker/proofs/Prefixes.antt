-- The networks that records spell have the prefixes of their families.
use Rattle.std.proofs.Common.{ℕ, ◌-◌, ◌<◌, ◌≤◌, ◌^◌, inl, inr, List, [], ◌∷◌, ◌++◌, sym, subst, arith, Option, Some, None}
use Rattle.std.proofs.Math.Nat.{div-mul-le_self}
use Rattle.addr_bits.specs.Address.{SpellsIn, bits_of}
use Rattle.addr_bits.specs.Prefix.{Cidr, IsCidr, cidr_of}
use Rattle.addr_bits.specs.declared.address.Family.{Family}
use Rattle.addr_bits.specs.declared.address.Family.TheVariants as family
use Rattle.addr_bits.proofs.Cidrs.{cut_of-cut_of}
use Rattle.spf_macros.specs.declared.piece.Piece.{Piece}
use Rattle.master_reader.specs.declared.record.Record.{Record}
use Rattle.spf_grammar.specs.Families.{HasPrefix, HavePrefixes}
use Rattle.spf_grammar.specs.Grammar.{SpellsLen, SpellsMechanism, SpellsNetwork, SpellsTerms}
use Rattle.spf_grammar.specs.declared.flat.FlatTerm.{FlatTerm}
use Rattle.spf_grammar.specs.declared.flat.Net.{Net}
use Rattle.spf_grammar.specs.declared.flat.Net.TheVariants as net
use Rattle.spf_grammar.specs.declared.policy.Term.{Term}
use Rattle.spf_model.specs.Chains.{all_terms, directives_of, mechanism_of, redirect_terms}
use Rattle.std.specs.Prelude.{codes}
use Rattle.cert_checker.specs.Forms.{AreLinked, IsFlat}

cidr_valid : (bits len a : ℕ) → len ≤ bits → a < 2 ^ bits → IsCidr bits (cidr_of bits len a)
cidr_valid bits len a short below = record {
  short = short;
  cut = cut_of-cut_of bits a len len (omega arith) short;
  within = omega (arith, div-mul-le_self a (2 ^ (bits - len)), below);
}

len_short : (most : ℕ) (text : List ℕ) (len : ℕ) → SpellsLen (codes "/") most text len → len ≤ most
len_short most text len (inl h) = omega (arith, h.1)
len_short most text len (inr h) = h.0

address_below : (f : Family) (text : List ℕ) (a : ℕ) → SpellsIn f text a → a < 2 ^ bits_of f
address_below family.V4 text a h = h.0
address_below family.V6 text a h = h.0

network_valid : (f : Family) (p : Cidr) (text : List ℕ) → SpellsNetwork f p text → IsCidr (bits_of f) p
network_valid f p text s =
    subst (IsCidr (bits_of f)) (sym s.is_prefix)
    (cidr_valid (bits_of f) s.len s.address (len_short (bits_of f) s.after s.len s.short) (address_below f s.network s.address s.spells))

net_valid : (n : Net) (text : List ℕ) → SpellsMechanism text (mechanism_of n) → HasPrefix n
net_valid (net.V4 p) text (front, rest, says, part, whole) = network_valid family.V4 p rest part
net_valid (net.V6 p) text (front, rest, says, part, whole) = network_valid family.V6 p rest part
net_valid net.All text h = tt

terms_valid : (flat : List FlatTerm) (rest : List Term) (text : List ℕ) → SpellsTerms text (directives_of flat rest) → HavePrefixes flat
terms_valid [] rest text h = tt
terms_valid (term ∷ flat) rest text (gap, word, behind, spaces, (front, after, qualifier, mechanism, is), more, whole) = (net_valid term.net after mechanism, terms_valid flat rest behind more)

flat_valid : (r : Record) (terms : List FlatTerm) (redirect : Option (List Piece)) → IsFlat r.body terms redirect → HavePrefixes terms
flat_valid r terms redirect flat = terms_valid terms (redirect_terms redirect) flat.spells.rest flat.spells.terms

append_valid : (a b : List FlatTerm) → HavePrefixes a → HavePrefixes b → HavePrefixes (a ++ b)
append_valid [] b ha hb = hb
append_valid (t ∷ a) b ha hb = (ha.0, append_valid a b ha.1 hb)

-- all networks of a chain
pub chain_valid : (records : List Record) (lists : List (List FlatTerm)) → AreLinked records lists → HavePrefixes (all_terms lists)
chain_valid [] lists h = absurd h
chain_valid (r ∷ []) [] h = absurd h
chain_valid (r ∷ next ∷ records) [] h = absurd h
chain_valid (r ∷ []) (terms ∷ []) h = append_valid terms [] (flat_valid r terms None h.flat) tt
chain_valid (r ∷ []) (terms ∷ more ∷ lists) h = absurd h
chain_valid (r ∷ next ∷ records) (terms ∷ lists) h = append_valid terms (all_terms lists) (flat_valid r terms (Some h.0.spec) h.0.flat) (chain_valid (next ∷ records) lists h.1)
