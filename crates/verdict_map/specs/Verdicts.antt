-- Which addresses have a verdict, and the least that has none.
use Rattle.std.specs.Prelude.{◌≡◌, ◌<◌, ◌^◌, ℕ, Bool, true, false, List, Option, Some, IsSomeAnd}
use Rattle.addr_bits.specs.Address.{address_of}
use Rattle.addr_bits.specs.Prefix.{Cidr}
use Rattle.addr_bits.specs.declared.address.Address.{Address}
use Rattle.addr_bits.specs.declared.address.Address.TheVariants.{V4, V6}
use Rattle.addr_bits.specs.declared.address.Family.{Family}
use Rattle.prefix_trie.specs.Leaves.{value_at}
use Rattle.spf_grammar.specs.declared.verdict.Verdict.{Verdict}
use Rattle.spf_grammar.specs.declared.verdict.Verdict.TheVariants.{Neutral}
use Rattle.spf_model.specs.declared.outcome.Outcome.{Outcome}
use Rattle.spf_model.specs.declared.outcome.Outcome.TheVariants.{Is}
use Rattle.verdict_map.specs.declared.fault.VerdictFault.{VerdictFault}
use Rattle.verdict_map.specs.declared.fault.VerdictFault.TheVariants.{Refused, Memory}

-- RFC 7208, section 2.6: the outcome is one that a record gives an address by a qualifier
abbrev pub has_verdict : Outcome → Bool
has_verdict (Is verdict) = true
has_verdict _ = false

-- the verdict that an outcome is, and neutral where it is none
abbrev pub verdict_or_neutral : Outcome → Verdict
verdict_or_neutral (Is verdict) = verdict
verdict_or_neutral _ = Neutral

-- what stands at an address of two tries: an outcome that is a verdict, and this verdict
abbrev pub IsVerdictOf : Option Outcome → Option Verdict → Type 0
IsVerdictOf outcome found = (verdict : Verdict) × (outcome ≡ Some (Is verdict)) × (found ≡ Some verdict)

-- the outcome at an address is a verdict
abbrev pub HasVerdict : (bits : ℕ) → List (Cidr × Outcome) → (a : ℕ) → Type 0
HasVerdict bits outcomes a = IsSomeAnd (value_at bits outcomes a) (λ outcome. has_verdict outcome ≡ true)

-- each address of the family has a verdict
abbrev pub HaveVerdicts : (bits : ℕ) → List (Cidr × Outcome) → Type 0
HaveVerdicts bits outcomes = (a : ℕ) → a < 2 ^ bits → HasVerdict bits outcomes a

-- project's own choice of the address that a refusal names: the least one whose outcome is no verdict
pub record IsLeastWithout (bits : ℕ) (outcomes : List (Cidr × Outcome)) (a : ℕ) (outcome : Outcome) : Type 0 where
  pub within : a < 2 ^ bits
  pub here : value_at bits outcomes a ≡ Some outcome
  pub no_verdict : has_verdict outcome ≡ false
  pub least : (b : ℕ) → b < a → HasVerdict bits outcomes b

-- the same as a refusal of one family; want of memory may come anywhere
abbrev pub IsFamilyFault : Family → (bits : ℕ) → List (Cidr × Outcome) → VerdictFault → Type 0
IsFamilyFault f bits outcomes (Refused address outcome) = (a : ℕ) × (address ≡ address_of f a)
    × IsLeastWithout bits outcomes a outcome
IsFamilyFault f bits outcomes Memory = Unit {0}

-- project's own choice: a refusal is of the least IPv4 address without a verdict, or where there is none of the least
-- IPv6 address
abbrev pub IsRefused : List (Cidr × Outcome) → List (Cidr × Outcome) → Address → Outcome → Type 0
IsRefused v4 v6 (V4 a) outcome = IsLeastWithout 32 v4 a outcome
IsRefused v4 v6 (V6 a) outcome = HaveVerdicts 32 v4 × IsLeastWithout 128 v6 a outcome

-- each fault with its cause; want of memory may come anywhere
abbrev pub IsFault : List (Cidr × Outcome) → List (Cidr × Outcome) → VerdictFault → Type 0
IsFault v4 v6 (Refused address outcome) = IsRefused v4 v6 address outcome
IsFault v4 v6 Memory = Unit {0}
