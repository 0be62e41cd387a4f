-- What a domain and limits that may be kept are, and what is asked for them.
use Rattle.std.specs.Prelude.{Contains}
use Rattle.std.proofs.Common.{◌≡◌, ℕ, ◌≤◌, IsOk, List, [], ◌∷◌, subst, arith}
use Rattle.std.specs.List.{AllByRecursion}
use Rattle.std.proofs.lemmas.List.Elements.{All-contains_itself, recursion_from_All}
use Rattle.addr_bits.specs.Prefix.{Cidr}
use Rattle.dns_name.specs.Name.{name_of_text}
use Rattle.zone_answers.specs.Zone.{Zone}
use Rattle.zone_answers.specs.declared.answer.Question.{Question}
use Rattle.spf_model.specs.Result.{AreModest}
use Rattle.spf_model.specs.Run.{says}
use Rattle.spf_model.specs.declared.outcome.Limits.{Limits}
use Rattle.spf_model.specs.declared.outcome.Outcome.{Outcome}
use Rattle.spfc_words.proofs.Domains.{domain_is_name}
use Rattle.symbolic_check.specs.Evaluation.{IsEvaluation}
use Rattle.deps_watch.specs.Lists.{AreReadingLimits, HasRoom, IsKeptDomain}
use Rattle.deps_watch.specs.Keeping.{AppendsLines, IsKeptOf}
use Rattle.deps_watch.proofs.Room.{is_asked_room}
use Rattle.deps_watch.specs.Lists.{header_text, kept_text, lines_text}

pub kept_named : (domain : List ℕ) → IsKeptDomain domain → IsOk (name_of_text domain)
kept_named domain h = subst (λ (t : List ℕ). IsOk (name_of_text t)) h.lower (domain_is_name domain h.form)

pub kept_modest : (limits : Limits) → AreReadingLimits limits → AreModest limits
kept_modest limits h = record {
  lookups = omega (arith, h.most_lookups);
  voids = omega (arith, h.most_voids);
  exchanges = omega (arith, h.most_exchanges);
}

weaker : {A : Type 0} (P Q : A → Type 0) → ((x : A) → P x → Q x) → (xs : List A) → AllByRecursion P xs → AllByRecursion Q xs
weaker P Q f [] h = tt
weaker P Q f (x ∷ xs) h = (f x h.0, weaker P Q f xs h.1)

-- each question that is asked has room
pub asked_rooms : (zones : List Zone) (limits : Limits) (domain : List ℕ) (v4 v6 : List (Cidr × Outcome)) (asked : List Question) → IsEvaluation (says zones) limits domain v4 v6 asked → AllByRecursion (λ question. HasRoom question.kind question.name) asked
asked_rooms zones limits domain v4 v6 asked e =
    weaker (Contains {X = Question} asked) (λ question. HasRoom question.kind question.name) (λ question has. is_asked_room (says zones) limits domain question ((e.questions.same question).0 has)) asked
    (recursion_from_All (Contains {X = Question} asked) asked (All-contains_itself asked))
