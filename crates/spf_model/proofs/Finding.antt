-- The record of a domain, for every address.
use Rattle.std.proofs.Common.{◌≡◌, ℕ, ◌<◌, ◌≤◌, ◌++◌, List, [], ◌∷◌, length, refl, sym, ◌∙◌, ap, subst, ◌⊎◌, inl, inr, Option, Some, None, Result, Ok, Err, arith}
use Rattle.addr_bits.proofs.Texts.{one_address}
use Rattle.zone_answers.specs.declared.ask_kind.AskKind.TheVariants as kind
use Rattle.zone_answers.specs.declared.answer.Question.{Question}
use Rattle.zone_answers.specs.declared.answer.Answer.{Answer}
use Rattle.zone_answers.specs.declared.answer.Answer.TheVariants as answer
use Rattle.spf_grammar.proofs.OnePolicy.{one_policy}
use Rattle.spf_grammar.specs.Grammar.{ReadAs}
use Rattle.spf_grammar.specs.declared.policy.Policy.{Policy}
use Rattle.spf_grammar.specs.declared.policy.Term.{Term}
use Rattle.spf_model.specs.declared.outcome.Cause.TheVariants as cause
use Rattle.spf_model.specs.declared.outcome.Halt.{Halt}
use Rattle.spf_model.specs.declared.outcome.Halt.TheVariants.{Ended}
use Rattle.spf_model.specs.declared.outcome.Counts.{Counts}
use Rattle.spf_model.specs.declared.outcome.Outcome.{Outcome}
use Rattle.spf_model.specs.declared.outcome.Outcome.TheVariants.{Nothing, Perm}
use Rattle.spf_model.specs.Run.{Run, Ends, Reads, Answering, EndsWith, AsksFor}
use Rattle.spf_model.specs.Judging.{Labels}
use Rattle.spf_model.specs.Check.{with_policy, with_texts, with_answer, with_record}
use Rattle.spf_model.proofs.RunLaws.{read_once}
use Rattle.spf_model.specs.Leads.{NoVerdict}
use Rattle.spf_model.specs.Settling.{Follows}
use Rattle.spf_model.specs.Settling.{PartOf, Settles}
use Rattle.spf_model.proofs.Settling.{adds_none}
use Rattle.spf_model.proofs.Asking.{settles_passing, settles_stopping, settles_next, answer_part, answer_settles}

-- the grammar reads a text in one way, so a text that was read is passed
pub follows_reading : (zones : Answering) (asked : List Question) (text : List ℕ) (next : Option Policy → Run) (policy : Option Policy) → ReadAs text policy
    → Follows zones asked (Reads text next) (next policy)
follows_reading zones asked text next policy reads = record {
  ends = λ o c. (
    λ h. (policy, reads, h),
    λ h. subst (λ (p : Option Policy). EndsWith zones (next p) o c) (read_once (one_policy one_address) text h.0 policy h.1 reads) h.2,
  );
  asks = λ q h. (policy, reads, h);
  covers = λ q h. inr (subst (λ (p : Option Policy). AsksFor zones (next p) q) (read_once (one_policy one_address) text h.0 policy h.1 reads) h.2);
}

-- ---- the texts

abbrev texts_part : Labels → List (List ℕ) → PartOf (List Term)
texts_part name texts counts go = with_texts name counts texts go

abbrev reading : List ℕ → PartOf (Option Policy)
reading text counts go = Reads text go

abbrev policy_part : Labels → Option Policy → PartOf (List Term)
policy_part name policy counts go = with_policy name counts policy go

reading_settles : (zones : Answering) (asked : List Question) (text : List ℕ) (policy : Option Policy) → ReadAs text policy → Settles zones (reading text) asked asked (Ok policy)
reading_settles zones asked text policy reads = (λ counts go. follows_reading zones asked text go policy reads, adds_none zones (reading text) asked)

pub text_read : (zones : Answering) (name : Labels) (text : List ℕ) (read : Option Policy) (policy : Policy) (asked : List Question) → ReadAs text read → read ≡ Some policy
    → Settles zones (texts_part name (text ∷ [])) asked asked (Ok policy.terms)
text_read zones name text read policy asked reads e =
    settles_next zones asked asked asked (reading text) (policy_part name) read (Ok policy.terms) (reading_settles zones asked text read reads)
    (settles_passing zones asked (policy_part name read) policy.terms (λ counts go. ap (λ (p : Option Policy). with_policy name counts p go) e))

pub text_unread : (zones : Answering) (name : Labels) (text : List ℕ) (read : Option Policy) (halt : Halt) (asked : List Question) → ReadAs text read → read ≡ None
    → halt ≡ Ended (Perm cause.Syntax (record { name = name; term = 0 })) → Settles zones (texts_part name (text ∷ [])) asked asked (Err halt)
text_unread zones name text read halt asked reads e is =
    settles_next zones asked asked asked (reading text) (policy_part name) read (Err halt) (reading_settles zones asked text read reads)
    (settles_stopping zones asked (policy_part name read) (Perm cause.Syntax (record { name = name; term = 0 })) halt is tt
    (λ counts go. ap (λ (p : Option Policy). with_policy name counts p go) e))

pub no_text : (zones : Answering) (name : Labels) (texts : List (List ℕ)) (halt : Halt) (asked : List Question) → texts ≡ [] → halt ≡ Ended (Nothing (record { name = name; term = 0 }))
    → Settles zones (texts_part name texts) asked asked (Err halt)
no_text zones name texts halt asked e is =
    settles_stopping zones asked (texts_part name texts) (Nothing (record { name = name; term = 0 })) halt is tt (λ counts go. ap (λ (ts : List (List ℕ)). with_texts name counts ts go) e)

pub many_texts : (zones : Answering) (name : Labels) (texts : List (List ℕ)) (halt : Halt) (asked : List Question) → 2 ≤ length texts
    → halt ≡ Ended (Perm cause.Records (record { name = name; term = 0 })) → Settles zones (texts_part name texts) asked asked (Err halt)
many_texts zones name [] halt asked many is = absurd (omega (arith, many))
many_texts zones name (text ∷ []) halt asked many is = absurd (omega (arith, many))
many_texts zones name (text ∷ next ∷ texts) halt asked many is =
    settles_stopping zones asked (texts_part name (text ∷ next ∷ texts)) (Perm cause.Records (record { name = name; term = 0 })) halt is tt (λ counts go. refl)

-- ---- the answer

abbrev record_part : Labels → PartOf (List Term)
record_part name counts go = with_record name counts go

abbrev found_part : Labels → Answer → PartOf (List Term)
found_part name found counts go = with_answer name counts found go

pub few_labels : (zones : Answering) (name : Labels) (halt : Halt) (asked : List Question) → length name < 2 → halt ≡ Ended (Nothing (record { name = name; term = 0 }))
    → Settles zones (record_part name) asked asked (Err halt)
few_labels zones [] halt asked few is = settles_stopping zones asked (record_part []) (Nothing (record { name = []; term = 0 })) halt is tt (λ counts go. refl)
few_labels zones (label ∷ []) halt asked few is =
    settles_stopping zones asked (record_part (label ∷ [])) (Nothing (record { name = label ∷ []; term = 0 })) halt is tt (λ counts go. refl)
few_labels zones (label ∷ next ∷ labels) halt asked few is = absurd (omega (arith, few))

-- a name of enough labels is asked for, and what is answered decides
record_asked : (zones : Answering) (name : Labels) (found : Answer) (asked more : List Question) (result : Result (List Term) Halt) → 2 ≤ length name
    → more ≡ asked ++ record { name = name; kind = kind.Txt } ∷ [] → found ≡ zones (record { name = name; kind = kind.Txt })
    → Settles zones (found_part name found) more more result → Settles zones (record_part name) asked more result
record_asked zones [] found asked more result many noted e h = absurd (omega (arith, many))
record_asked zones (label ∷ []) found asked more result many noted e h = absurd (omega (arith, many))
record_asked zones (label ∷ next ∷ labels) found asked more result many noted e h =
    let question : Question = record { name = label ∷ next ∷ labels; kind = kind.Txt } in
    settles_next zones asked more more (answer_part question) (found_part (label ∷ next ∷ labels)) found result (answer_settles zones asked more question found noted e) h

-- what is noted, and answered
pub record IsAsked (zones : Answering) (name : Labels) (found : Answer) (asked more : List Question) : Type 0 where
  pub many : 2 ≤ length name
  pub noted : more ≡ asked ++ record { name = name; kind = kind.Txt } ∷ []
  pub answer : found ≡ zones (record { name = name; kind = kind.Txt })

pub found_ended : (zones : Answering) (name : Labels) (found ended : Answer) (outcome : Outcome) (halt : Halt) (asked more : List Question) → IsAsked zones name found asked more
    → NoVerdict outcome → ((counts : Counts) (go : List Term → Run) → with_answer name counts ended go ≡ Ends outcome counts) → found ≡ ended → halt ≡ Ended outcome
    → Settles zones (record_part name) asked more (Err halt)
found_ended zones name found ended outcome halt asked more h none ends e is =
    record_asked zones name found asked more (Err halt) h.many h.noted h.answer
    (settles_stopping zones more (found_part name found) outcome halt is none (λ counts go. ap (λ (x : Answer). with_answer name counts x go) e ∙ ends counts go))

pub found_nothing : (zones : Answering) (name : Labels) (found : Answer) (halt : Halt) (asked more : List Question) → IsAsked zones name found asked more
    → (found ≡ answer.NoName) ⊎ (found ≡ answer.NoData)
    → halt ≡ Ended (Nothing (record { name = name; term = 0 })) → Settles zones (record_part name) asked more (Err halt)
found_nothing zones name found halt asked more h (inl e) is =
    found_ended zones name found answer.NoName (Nothing (record { name = name; term = 0 })) halt asked more h tt (λ counts go. refl) e is
found_nothing zones name found halt asked more h (inr e) is =
    found_ended zones name found answer.NoData (Nothing (record { name = name; term = 0 })) halt asked more h tt (λ counts go. refl) e is

pub found_bodies : (zones : Answering) (name : Labels) (found bodies : Answer) (result : Result (List Term) Halt) (asked more : List Question) → IsAsked zones name found asked more
    → found ≡ bodies → Settles zones (found_part name bodies) more more result → Settles zones (record_part name) asked more result
found_bodies zones name found bodies result asked more h e settled =
    record_asked zones name found asked more result h.many h.noted h.answer (subst (λ (x : Answer). Settles zones (found_part name x) more more result) (sym e) settled)
