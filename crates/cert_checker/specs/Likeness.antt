-- Where a list gives the verdicts of tries, and where it gives others: the project's own form.
use Rattle.std.specs.Prelude.{◌≡◌, ◌≢◌, ℕ, ◌<◌, ◌^◌, Bool, true, false, List, Option, None, Some}
use Rattle.addr_bits.specs.Address.{address_of}
use Rattle.addr_bits.specs.Prefix.{Cidr}
use Rattle.addr_bits.specs.declared.address.Address.{Address}
use Rattle.addr_bits.specs.declared.address.Address.TheVariants.{V4, V6}
use Rattle.addr_bits.specs.declared.address.Family.{Family}
use Rattle.addr_bits.specs.declared.address.Family.TheVariants as family
use Rattle.prefix_trie.specs.Leaves.{CoverInOrder, value_at}
use Rattle.spf_grammar.specs.Flat.{agrees, first}
use Rattle.spf_grammar.specs.declared.flat.FlatTerm.{FlatTerm}
use Rattle.spf_grammar.specs.declared.verdict.Verdict.{Verdict}
use Rattle.verdict_map.specs.declared.tries.VerdictTries.{VerdictTries}

-- RFC 7208, section 5.6: the address lies in the part of a network that its family has, if it has one
abbrev pub is_in_part : (bits : ℕ) → Option Cidr → ℕ → Bool
is_in_part bits None a = false
is_in_part bits (Some p) a = agrees bits p a

-- whether two verdicts differ
abbrev pub Differs : Verdict → Verdict → Bool → Type 0
Differs v w true = v ≢ w
Differs v w false = v ≡ w

-- the least address where true stands
pub record IsLeastTrue (bits : ℕ) (found : List (Cidr × Bool)) (a : ℕ) : Type 0 where
  pub within : a < 2 ^ bits
  pub here : value_at bits found a ≡ Some true
  pub least : (b : ℕ) → b < a → value_at bits found b ≡ Some false

-- the list gives each address of the family the verdict that stands there
abbrev pub AreAlike : Family → (bits : ℕ) → List (Cidr × Verdict) → List FlatTerm → Type 0
AreAlike f bits due list = (a : ℕ) → a < 2 ^ bits → value_at bits due a ≡ Some (first list (address_of f a))

-- the least address of the family to which it gives another one
pub record IsLeastUnlike (f : Family) (bits : ℕ) (due : List (Cidr × Verdict)) (list : List FlatTerm)
    (a : ℕ) : Type 0 where
  pub verdict : Verdict
  pub within : a < 2 ^ bits
  pub here : value_at bits due a ≡ Some verdict
  pub other : first list (address_of f a) ≢ verdict
  pub least : (b : ℕ) → b < a → value_at bits due b ≡ Some (first list (address_of f b))

-- the same for both families
pub record AllAlike (due : VerdictTries) (list : List FlatTerm) : Type 0 where
  pub four : AreAlike family.V4 32 due.v4 list
  pub six : AreAlike family.V6 128 due.v6 list
  pub whole4 : CoverInOrder 32 0 (2 ^ 32) due.v4
  pub whole6 : CoverInOrder 128 0 (2 ^ 128) due.v6

-- project's own choice: the addresses of IPv4 stand first
abbrev pub IsFirstUnlike : VerdictTries → List FlatTerm → Address → Type 0
IsFirstUnlike due list (V4 a) = IsLeastUnlike family.V4 32 due.v4 list a
IsFirstUnlike due list (V6 a) = AreAlike family.V4 32 due.v4 list × IsLeastUnlike family.V6 128 due.v6 list a
