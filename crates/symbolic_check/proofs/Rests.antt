-- The questions of an evaluation decide it.
use Rattle.std.proofs.Common.{ℕ, List, Option, Some, None, IsSomeAnd}
use Rattle.addr_bits.specs.declared.address.Address.{Address}
use Rattle.addr_bits.specs.declared.address.Address.TheVariants.{V4, V6}
use Rattle.addr_bits.specs.Address.{IsAddress}
use Rattle.prefix_trie.specs.Leaves.{value_at}
use Rattle.zone_answers.specs.declared.answer.Question.{Question}
use Rattle.spf_model.specs.declared.outcome.Limits.{Limits}
use Rattle.spf_model.specs.declared.outcome.Outcome.{Outcome}
use Rattle.spf_model.specs.Run.{AnsweringEach, AnswerAlike}
use Rattle.spf_model.specs.Check.{check_host}
use Rattle.spf_model.specs.Result.{Gives, IsAsked}
use Rattle.spf_model.proofs.RunLaws.{same_end, same_asked, same_asked_back}
use Rattle.symbolic_check.specs.Laws.{RestsOnAsked}

-- the questions of the evaluation are answered alike, so those of each address are
gives_there : (zones others : AnsweringEach) (limits : Limits) (domain : List ℕ) (a : Address) → IsAddress a
    → ((question : Question) → IsAsked zones limits domain question → AnswerAlike others zones question)
    → (outcome : Option Outcome) → IsSomeAnd outcome (Gives zones limits domain a) → IsSomeAnd outcome (Gives others limits domain a)
gives_there zones others limits domain a address same None gives = gives
gives_there zones others limits domain a address same (Some outcome) gives = (
  gives.0,
  gives.1,
  gives.2,
  same_end (zones a) (others a) (check_host limits a domain gives.0) outcome gives.1
      (λ q asked. same q (a, address, (gives.0, gives.2, asked)) a address) gives.3,
)

pub rests_on_asked : RestsOnAsked
rests_on_asked zones others limits domain four six asked same evaluation =
    let alike : (question : Question) → IsAsked zones limits domain question → AnswerAlike others zones question =
    λ q is_asked. same q ((evaluation.questions.same q).1 is_asked)
    in record {
      v4 = λ a below. gives_there zones others limits domain (V4 a) below alike (value_at 32 four a) (evaluation.v4 a below);
      v6 = λ a below. gives_there zones others limits domain (V6 a) below alike (value_at 128 six a) (evaluation.v6 a below);
      questions = record {
        same = λ q. (
          λ contains. let h = (evaluation.questions.same q).0 contains in
              (h.0, h.1, (h.2.0, h.2.1, same_asked (zones h.0) (others h.0) (check_host limits h.0 domain h.2.0) q (λ p there. alike p (h.0, h.1, (h.2.0, h.2.1, there)) h.0 h.1) h.2.2)),
          λ h. (evaluation.questions.same q).1
              (h.0, h.1, (h.2.0, h.2.1, same_asked_back (zones h.0) (others h.0) (check_host limits h.0 domain h.2.0) q (λ p there. alike p (h.0, h.1, (h.2.0, h.2.1, there)) h.0 h.1) h.2.2)),
        );
        in_order = evaluation.questions.in_order;
      };
    }
