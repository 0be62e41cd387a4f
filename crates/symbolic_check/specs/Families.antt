-- The evaluation of every address of one family (the project's own form).
use Rattle.std.specs.Prelude.{ℕ, ◌<◌, ◌^◌, ◌⊎◌, List, Contains, IsSomeAnd}
use Rattle.addr_bits.specs.Prefix.{Cidr}
use Rattle.addr_bits.specs.declared.address.Address.{Address}
use Rattle.zone_answers.specs.declared.answer.Question.{Question}
use Rattle.prefix_trie.specs.Leaves.{value_at}
use Rattle.spf_model.specs.declared.outcome.Counts.{Counts}
use Rattle.spf_model.specs.declared.outcome.Outcome.{Outcome}
use Rattle.spf_model.specs.Check.{check_host}
use Rattle.spf_model.specs.Run.{Run, Answering, EndsWith, AsksFor}
use Rattle.spf_model.specs.declared.context.RecordContext.{RecordContext}

-- RFC 7208, section 4: check_host for the address with this number, at the context's domain
abbrev pub run_at : (ℕ → Address) → RecordContext → ℕ → Run
run_at address context a = check_host context.limits (address a) context.domain.now context.name.now

-- some address of the family asks the question
abbrev pub AskedBySome : (bits : ℕ) → (ℕ → Answering) → (ℕ → Run) → Question → Type 0
AskedBySome bits zones run question = (a : ℕ) × (a < 2 ^ bits) × AsksFor (zones a) (run a) question

-- at each address stands how its run ends, and to the questions are added those that the runs ask
pub record AreEndsOf (bits : ℕ) (zones : ℕ → Answering) (run : ℕ → Run) (ends : List (Cidr × Outcome))
    (asked more : List Question) : Type 0 where
  pub each : (a : ℕ) → a < 2 ^ bits → IsSomeAnd (value_at bits ends a)
      (λ outcome. (counts : Counts) × EndsWith (zones a) (run a) outcome counts)
  pub kept : (question : Question) → Contains asked question → Contains more question
  pub only : (question : Question) → Contains more question → Contains asked question
      ⊎ AskedBySome bits zones run question
  pub covers : (question : Question) → AskedBySome bits zones run question → Contains more question
