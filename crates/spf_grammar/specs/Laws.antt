-- The laws over SPF records, as statements.
use Rattle.std.specs.Prelude.{◌≡◌, ℕ, List}
use Rattle.spf_grammar.specs.declared.policy.Policy.{Policy}
use Rattle.spf_grammar.specs.Grammar.{SpellsPolicy}
use Rattle.spf_grammar.specs.Policies.{written_policy}

-- RFC 7208, section 12: some text spells the policy
abbrev pub IsPolicy : Policy → Type 0
IsPolicy policy = (text : List ℕ) × SpellsPolicy text policy

-- a text spells at most one policy
abbrev pub OnePolicy : Type 0
OnePolicy = (text : List ℕ) (a b : Policy) → SpellsPolicy text a → SpellsPolicy text b → a ≡ b

-- the written form spells its policy
abbrev pub WrittenSpells : Type 0
WrittenSpells = (policy : Policy) → IsPolicy policy → SpellsPolicy (written_policy policy) policy
