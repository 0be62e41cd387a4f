-- The evaluation of every address, as check_host of RFC 7208 has it for each.
use Rattle.std.specs.Prelude.{ℕ, ◌<◌, ◌^◌, ◌↔◌, List, Contains, IsSomeAnd}
use Rattle.addr_bits.specs.Prefix.{Cidr}
use Rattle.addr_bits.specs.declared.address.Address.TheVariants.{V4, V6}
use Rattle.zone_answers.specs.declared.answer.Question.{Question}
use Rattle.prefix_trie.specs.Leaves.{value_at}
use Rattle.spf_model.specs.declared.outcome.Limits.{Limits}
use Rattle.spf_model.specs.declared.outcome.Outcome.{Outcome}
use Rattle.spf_model.specs.Run.{AnsweringEach}
use Rattle.spf_model.specs.Result.{Gives, IsAsked, IsInOrder}

-- RFC 7208, section 4: the questions are those that check_host asks for some address, once each and in order
pub record AreAsked (zones : AnsweringEach) (limits : Limits) (domain : List ℕ) (asked : List Question) : Type 0 where
  pub same : (question : Question) → Contains asked question ↔ IsAsked zones limits domain question
  pub in_order : IsInOrder asked

-- RFC 7208, section 4: at each address of both families stands what check_host gives it; and the questions are those
-- that some address asks
pub record IsEvaluation (zones : AnsweringEach) (limits : Limits) (domain : List ℕ) (four six : List (Cidr × Outcome))
    (asked : List Question) : Type 0 where
  pub v4 : (a : ℕ) → a < 2 ^ 32 → IsSomeAnd (value_at 32 four a) (Gives zones limits domain (V4 a))
  pub v6 : (a : ℕ) → a < 2 ^ 128 → IsSomeAnd (value_at 128 six a) (Gives zones limits domain (V6 a))
  pub questions : AreAsked zones limits domain asked
