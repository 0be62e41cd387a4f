-- A mechanism of a name is one of its kind.
use Rattle.std.proofs.Common.{◌≡◌, ℕ, List, [], Option, subst}
use Rattle.addr_bits.specs.Prefix.{Cidr}
use Rattle.addr_bits.specs.declared.address.Family.TheVariants.{V4, V6}
use Rattle.spf_macros.specs.declared.piece.Piece.{Piece}
use Rattle.spf_grammar.specs.declared.hosts.Hosts.{Hosts}
use Rattle.spf_grammar.specs.declared.keywords.Keyword.{Keyword}
use Rattle.spf_grammar.specs.declared.keywords.Keyword.TheVariants as keyword
use Rattle.spf_grammar.specs.declared.policy.Mechanism.{Mechanism}
use Rattle.spf_grammar.specs.declared.policy.Mechanism.TheVariants.{All, Include, A, Mx, Ptr, Ip4, Ip6, Exists}
use Rattle.spf_grammar.specs.Grammar.{SpellsTarget, SpellsNetwork}
use Rattle.spf_grammar.specs.Reading.{keyword_of, BehindMechanism, SpellsBehind, SpellsRequired, SpellsAsHosts}

-- what stands behind a name spells something of its kind
abbrev IsBehind : Keyword → List ℕ → Type 0
IsBehind keyword.All text = text ≡ []
IsBehind keyword.Include text = (spec : List Piece) × SpellsRequired text spec
IsBehind keyword.A text = (hosts : Hosts) × SpellsAsHosts text hosts
IsBehind keyword.Mx text = (hosts : Hosts) × SpellsAsHosts text hosts
IsBehind keyword.Ptr text = (spec : Option (List Piece)) × SpellsTarget text spec
IsBehind keyword.Ip4 text = (p : Cidr) × SpellsNetwork V4 p text
IsBehind keyword.Ip6 text = (p : Cidr) × SpellsNetwork V6 p text
IsBehind keyword.Exists text = (spec : List Piece) × SpellsRequired text spec

of_kind : (text : List ℕ) (m : Mechanism) → BehindMechanism m text → IsBehind (keyword_of m) text
of_kind text All h = h
of_kind text (Include spec) h = (spec, h)
of_kind text (A spec l m) h = (record { target = spec; len4 = l; len6 = m }, h)
of_kind text (Mx spec l m) h = (record { target = spec; len4 = l; len6 = m }, h)
of_kind text (Ptr spec) h = (spec, h)
of_kind text (Ip4 p) h = (p, h)
of_kind text (Ip6 p) h = (p, h)
of_kind text (Exists spec) h = (spec, h)

behind : (k : Keyword) (text : List ℕ) (m : Mechanism) → SpellsBehind k text m → IsBehind k text
behind k text m h = subst (λ word. IsBehind word text) h.0 (of_kind text m h.1)

pub no_include : (text : List ℕ) → ((spec : List Piece) → ¬ SpellsRequired text spec) → (m : Mechanism) → SpellsBehind keyword.Include text m → ⊥
no_include text none m h = let b = behind keyword.Include text m h in none b.0 b.1

pub no_exists : (text : List ℕ) → ((spec : List Piece) → ¬ SpellsRequired text spec) → (m : Mechanism) → SpellsBehind keyword.Exists text m → ⊥
no_exists text none m h = let b = behind keyword.Exists text m h in none b.0 b.1

pub no_a : (text : List ℕ) → ((hosts : Hosts) → ¬ SpellsAsHosts text hosts) → (m : Mechanism) → SpellsBehind keyword.A text m → ⊥
no_a text none m h = let b = behind keyword.A text m h in none b.0 b.1

pub no_mx : (text : List ℕ) → ((hosts : Hosts) → ¬ SpellsAsHosts text hosts) → (m : Mechanism) → SpellsBehind keyword.Mx text m → ⊥
no_mx text none m h = let b = behind keyword.Mx text m h in none b.0 b.1

pub no_ptr : (text : List ℕ) → ((spec : Option (List Piece)) → ¬ SpellsTarget text spec) → (m : Mechanism) → SpellsBehind keyword.Ptr text m → ⊥
no_ptr text none m h = let b = behind keyword.Ptr text m h in none b.0 b.1
