-- The evaluation of every address, from those of both families.
use Rattle.std.proofs.Common.{◌≡◌, ℕ, ◌↔◌, List, [], sym, subst, ◌∙◌, arith, Contains, inl, inr, Option, Some, None, Ok, IsSomeAnd, ap}
use Rattle.addr_bits.specs.Prefix.{Cidr}
use Rattle.addr_bits.specs.Address.{IsAddress}
use Rattle.addr_bits.specs.declared.address.Address.{Address}
use Rattle.addr_bits.specs.declared.address.Address.TheVariants.{V4, V6}
use Rattle.dns_name.specs.Name.{name_of_text}
use Rattle.zone_answers.specs.declared.answer.Question.{Question}
use Rattle.prefix_trie.specs.Leaves.{value_at}
use Rattle.spf_model.specs.declared.outcome.Counts.{Counts}
use Rattle.spf_model.specs.declared.outcome.Limits.{Limits}
use Rattle.spf_model.specs.declared.outcome.Outcome.{Outcome}
use Rattle.spf_model.specs.Check.{check_host}
use Rattle.spf_model.specs.Judging.{Labels, legal, name_of}
use Rattle.spf_model.specs.Result.{Gives, AskedFor, IsAsked, IsInOrder}
use Rattle.spf_model.specs.Run.{AnsweringEach, EndsWith, AsksFor}
use Rattle.symbolic_check.specs.Evaluation.{IsEvaluation}
use Rattle.symbolic_check.specs.Families.{AreEndsOf}

-- a text that writes a name is that of the name
pub named : (domain : List ℕ) (name : Labels) → name_of_text domain ≡ Ok name → name_of domain ≡ Some name
unfolding name_of
named domain name e = ap legal e

same_name : {a b : Labels} → Some a ≡ Some b → a ≡ b
same_name e = cc

given : (zones : AnsweringEach) (limits : Limits) (domain : List ℕ) (name : Labels) (a : Address) → name_of domain ≡ Some name → (end : Option Outcome)
    → IsSomeAnd end (λ outcome. (counts : Counts) × EndsWith (zones a) (check_host limits a domain name) outcome counts) → IsSomeAnd end (Gives zones limits domain a)
given zones limits domain name a is_name None h = h
given zones limits domain name a is_name (Some outcome) h = (name, h.0, is_name, h.1)

-- what some address asks, its run asks
asks_there : (zones : AnsweringEach) (limits : Limits) (domain : List ℕ) (name : Labels) (a : Address) (question : Question) → name_of domain ≡ Some name
    → AskedFor zones limits domain a question → AsksFor (zones a) (check_host limits a domain name) question
asks_there zones limits domain name a question is_name h =
    subst (λ n. AsksFor (zones a) (check_host limits a domain n) question) (same_name (sym h.1 ∙ is_name)) h.2

none_in : (question : Question) → Contains {X = Question} [] question → ⊥
none_in question h = omega (arith, h.1)

module _ (zones : AnsweringEach) (limits : Limits) (domain : List ℕ) (name : Labels) (four six : List (Cidr × Outcome)) (between more ordered : List Question) where
  asked_by : name_of domain ≡ Some name
      → AreEndsOf 32 (λ a. zones (V4 a)) (λ a. check_host limits (V4 a) domain name) four [] between
      → AreEndsOf 128 (λ a. zones (V6 a)) (λ a. check_host limits (V6 a) domain name) six between more
      → (question : Question) → Contains more question → IsAsked zones limits domain question
  asked_by is_name first second question h = elim (second.only question h) [
    | inl before ↦ elim (first.only question before) [
      | inl never ↦ absurd (none_in question never)
      | inr by ↦ (V4 by.0, by.1, (name, is_name, by.2))
    ]
    | inr by ↦ (V6 by.0, by.1, (name, is_name, by.2))
  ]

  listed : name_of domain ≡ Some name
      → AreEndsOf 32 (λ a. zones (V4 a)) (λ a. check_host limits (V4 a) domain name) four [] between
      → AreEndsOf 128 (λ a. zones (V6 a)) (λ a. check_host limits (V6 a) domain name) six between more
      → (question : Question) (a : Address) → IsAddress a → AskedFor zones limits domain a question → Contains more question
  listed is_name first second question (V4 n) below h =
      second.kept question (first.covers question (n, below, asks_there zones limits domain name (V4 n) question is_name h))
  listed is_name first second question (V6 n) below h =
      second.covers question (n, below, asks_there zones limits domain name (V6 n) question is_name h)

  pub evaluated : name_of domain ≡ Some name
      → AreEndsOf 32 (λ a. zones (V4 a)) (λ a. check_host limits (V4 a) domain name) four [] between
      → AreEndsOf 128 (λ a. zones (V6 a)) (λ a. check_host limits (V6 a) domain name) six between more
      → IsInOrder ordered → ((question : Question) → Contains ordered question ↔ Contains more question)
      → IsEvaluation zones limits domain four six ordered
  evaluated is_name first second in_order same = record {
    v4 = λ a below. given zones limits domain name (V4 a) is_name (value_at 32 four a) (first.each a below);
    v6 = λ a below. given zones limits domain name (V6 a) is_name (value_at 128 six a) (second.each a below);
    questions = record {
      same = λ question. (
        λ h. asked_by is_name first second question ((same question).0 h),
        λ h. (same question).1 (listed is_name first second question h.0 h.1 h.2),
      );
      in_order = in_order;
    };
  }
