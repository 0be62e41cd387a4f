-- First-match lists of both families (RFC 7208, sections 4.6.2, 4.7 and 5.6), and when such a list gives the verdicts:
-- the project's own form.
use Rattle.std.specs.Prelude.{ℕ, ◌≡◌, ◌-◌, ◌/◌, ◌^◌, ◌<◌, List, map}
use Rattle.spf_grammar.specs.declared.verdict.Verdict.{Verdict}
use Rattle.addr_bits.specs.declared.address.Family.{Family}
use Rattle.addr_bits.specs.Address.{bits_of}
use Rattle.addr_bits.specs.declared.address.Family.TheVariants.{V4, V6}
use Rattle.spf_grammar.specs.declared.flat.Net.{Net}
use Rattle.spf_grammar.specs.declared.flat.Net.TheVariants.{V4 as Net4, V6 as Net6, All}
use Rattle.spf_grammar.specs.declared.flat.FlatTerm.{FlatTerm}
use Rattle.spf_grammar.specs.FirstMatch.{Reach, everything, nothing, below, Rule, first_rule}

-- what a network covers in a family
abbrev pub reach : Family → Net → Reach
reach f All = everything
reach V4 (Net4 p) = below (32 - p.len) (p.start / 2 ^ (32 - p.len))
reach V6 (Net6 p) = below (128 - p.len) (p.start / 2 ^ (128 - p.len))
reach V4 (Net6 p) = nothing
reach V6 (Net4 p) = nothing

-- a list as a family sees it
abbrev pub seen : Family → List FlatTerm → List Rule
seen f list = map (λ t. record { verdict = t.verdict; reach = reach f t.net }) list

-- the list gives each address of the family its verdict
abbrev pub GivesAll : Family → (ℕ → Verdict) → List FlatTerm → Type 0
GivesAll f v list = (a : ℕ) → a < 2 ^ bits_of f → first_rule (seen f list) a ≡ v a

-- the list gives each address of both families its verdict
pub record IsSame (v4 v6 : ℕ → Verdict) (list : List FlatTerm) : Type 0 where
  pub four : GivesAll V4 v4 list
  pub six : GivesAll V6 v6 list
