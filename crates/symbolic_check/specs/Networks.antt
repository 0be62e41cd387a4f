-- A row of network terms as one step of the walk (the project's own form).
use Rattle.std.specs.Prelude.{ℕ, Bool, true, false, List, [], ◌∷◌, Option, Some, None, is_some, if◌then◌else◌}
use Rattle.addr_bits.specs.declared.address.Address.{Address}
use Rattle.addr_bits.specs.Prefix.{Cidr}
use Rattle.spf_grammar.specs.Flat.{agrees, covers}
use Rattle.spf_grammar.specs.Families.{network_of}
use Rattle.spf_grammar.specs.declared.flat.Net.{Net}
use Rattle.spf_grammar.specs.declared.verdict.Verdict.{Verdict}
use Rattle.spf_grammar.specs.declared.policy.Mechanism.{Mechanism}
use Rattle.spf_grammar.specs.declared.policy.Term.{Term}
use Rattle.spf_grammar.specs.declared.policy.Term.TheVariants.{Directive, Redirect, Exp, Unknown}

-- RFC 7208, sections 5.1 and 5.6: a mechanism that asks nothing and matches by the address alone
abbrev pub is_network : Mechanism → Bool
is_network mechanism = is_some (network_of mechanism)

-- the network has the address, if there is one
abbrev pub some_covers : Option Net → Address → Bool
some_covers None a = false
some_covers (Some net) a = covers net a

-- RFC 7208, sections 5.1 and 5.6: it matches this address
abbrev pub network_covers : Mechanism → Address → Bool
network_covers mechanism a = some_covers (network_of mechanism) a

-- a term that a row of networks may have: a directive with a network, or a modifier, which is passed over
abbrev pub is_row_term : Term → Bool
is_row_term (Directive verdict mechanism) = is_network mechanism
is_row_term (Redirect spec) = true
is_row_term (Exp spec) = true
is_row_term (Unknown name value) = true

-- what a directive's network makes of what is found behind it
abbrev pub with_first : Term → Address → Option (Option Verdict) → Option (Option Verdict)
with_first (Directive verdict mechanism) a behind = if network_covers mechanism a then Some (Some verdict) else behind
with_first (Redirect spec) a behind = behind
with_first (Exp spec) a behind = behind
with_first (Unknown name value) a behind = behind

-- the verdict of the first of these directives whose network covers the address
abbrev pub first_network : List Term → Address → Option Verdict
first_network [] a = None
first_network (Directive verdict mechanism ∷ terms) a =
    if network_covers mechanism a then Some verdict else first_network terms a
first_network (Redirect spec ∷ terms) a = first_network terms a
first_network (Exp spec ∷ terms) a = first_network terms a
first_network (Unknown name value ∷ terms) a = first_network terms a

-- the address lies in the network, if there is one
abbrev pub is_in : (bits : ℕ) → Option Cidr → ℕ → Bool
is_in bits None a = false
is_in bits (Some p) a = agrees bits p a
