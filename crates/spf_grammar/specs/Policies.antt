-- The written form of a policy. Among its spellings, which is written is the project's own choice.
use Rattle.std.specs.Prelude.{ℕ, List, [], ◌∷◌, ◌++◌, flat_map, codes, Option, Some, None}
use Rattle.addr_bits.specs.declared.address.Family.TheVariants.{V4, V6}
use Rattle.spf_macros.specs.declared.piece.Piece.{Piece}
use Rattle.spf_macros.specs.Grammar.{written}
use Rattle.spf_grammar.specs.declared.policy.Mechanism.{Mechanism}
use Rattle.spf_grammar.specs.declared.policy.Mechanism.TheVariants.{All, Include, A, Mx, Ptr, Ip4, Ip6, Exists}
use Rattle.spf_grammar.specs.declared.policy.Term.{Term}
use Rattle.spf_grammar.specs.declared.policy.Term.TheVariants.{Directive, Redirect, Exp, Unknown}
use Rattle.spf_grammar.specs.declared.policy.Policy.{Policy}
use Rattle.spf_grammar.specs.Written.{written_qualifier, written_len, written_network}

-- RFC 7208, section 12: [ ":" domain-spec ]
abbrev pub written_target : Option (List Piece) → List ℕ
written_target None = []
written_target (Some spec) = 58 ∷ written spec

-- RFC 7208, section 12: a domain-spec and two lengths, of which those of 32 and 128 bits are not written
abbrev pub written_hosts : Option (List Piece) → ℕ → ℕ → List ℕ
written_hosts spec len4 len6 =
    written_target spec ++ (written_len (codes "/") 32 len4 ++ written_len (codes "//") 128 len6)

-- RFC 7208, section 12: names are written in lower case
abbrev pub written_mechanism : Mechanism → List ℕ
written_mechanism All = codes "all"
written_mechanism (Include spec) = codes "include" ++ written_target (Some spec)
written_mechanism (A spec len4 len6) = codes "a" ++ written_hosts spec len4 len6
written_mechanism (Mx spec len4 len6) = codes "mx" ++ written_hosts spec len4 len6
written_mechanism (Ptr spec) = codes "ptr" ++ written_target spec
written_mechanism (Ip4 p) = written_network V4 p
written_mechanism (Ip6 p) = written_network V6 p
written_mechanism (Exists spec) = codes "exists" ++ written_target (Some spec)

-- RFC 7208, section 12: a directive without `+`, or a modifier
abbrev pub written_term : Term → List ℕ
written_term (Directive verdict mechanism) = written_qualifier verdict ++ written_mechanism mechanism
written_term (Redirect spec) = codes "redirect=" ++ written spec
written_term (Exp spec) = codes "exp=" ++ written spec
written_term (Unknown name value) = name ++ 61 ∷ written value

-- RFC 7208, section 4.5: the version section, and one space before each term
abbrev pub written_policy : Policy → List ℕ
written_policy policy = codes "v=spf1" ++ flat_map (λ term. 32 ∷ written_term term) policy.terms
