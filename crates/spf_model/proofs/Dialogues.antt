-- A run is one dialogue.
use Rattle.std.proofs.Common.{◌≡◌, zero, suc, List, [], ◌∷◌, refl, sym, ap, ◌∙◌, ◌⊎◌, subst, inl, inr, arith, Some, None}
use Rattle.std.specs.Prelude.{Contains}
use Rattle.zone_answers.specs.declared.answer.Question.{Question}
use Rattle.spf_grammar.specs.Laws.{OnePolicy}
use Rattle.spf_model.specs.declared.outcome.Counts.{Counts}
use Rattle.spf_model.specs.declared.outcome.Outcome.{Outcome}
use Rattle.spf_model.specs.Run.{Run, Ends, Asks, Reads, Answering, EndsWith, AsksFor, IsDialogue}
use Rattle.spf_model.specs.Laws.{OneEnd}
use Rattle.spf_model.proofs.RunLaws.{one_end, read_once}

one_dialogue : OnePolicy → (zones : Answering) (run : Run) (questions others : List Question) (o p : Outcome) (c d : Counts)
    → IsDialogue zones run questions o c → IsDialogue zones run others p d → (questions ≡ others) × (o ≡ p) × (c ≡ d)
one_dialogue one zones (Ends x y) questions others o p c d h g = (h.0 ∙ sym g.0, h.1 ∙ sym g.1, h.2 ∙ sym g.2)
one_dialogue one zones (Asks question next) questions others o p c d h g =
    let later = one_dialogue one zones (next (zones question)) h.0 g.0 o p c d h.2 g.2 in
    (h.1 ∙ ap (λ (qs : List Question). question ∷ qs) later.0 ∙ sym g.1, later.1, later.2)
one_dialogue one zones (Reads text next) questions others o p c d h g =
    one_dialogue one zones (next h.0) questions others o p c d h.2
    (subst (λ policy. IsDialogue zones (next policy) others p d) (sym (read_once one text h.0 g.0 h.1 g.1)) g.2)

-- a text that has no policy is read as none
never_none : (zones : Answering) (run : Run) → ((questions : List Question) (o : Outcome) (c : Counts) → ¬ IsDialogue zones run questions o c) → ⊥
never_none zones (Ends o c) none = none [] o c (refl, refl, refl)
never_none zones (Asks question next) none = never_none zones (next (zones question)) (λ questions o c later. none (question ∷ questions) o c (questions, refl, later))
never_none zones (Reads text next) none =
    never_none zones (next None) (λ questions o c later. none questions o c
    (None, (λ policy spelled. never_none zones (next (Some policy)) (λ qs p d behind. none qs p d (Some policy, spelled, behind))), later))

dialogue_of : (zones : Answering) (run : Run) (o : Outcome) (c : Counts) → EndsWith zones run o c → (questions : List Question) × IsDialogue zones run questions o c
dialogue_of zones (Ends x y) o c ends = ([], (refl, ends.0, ends.1))
dialogue_of zones (Asks question next) o c ends = let later = dialogue_of zones (next (zones question)) o c ends in (question ∷ later.0, (later.0, refl, later.1))
dialogue_of zones (Reads text next) o c ends = let later = dialogue_of zones (next ends.0) o c ends.2 in (later.0, (ends.0, ends.1, later.1))

end_of : (zones : Answering) (run : Run) (questions : List Question) (o : Outcome) (c : Counts) → IsDialogue zones run questions o c → EndsWith zones run o c
end_of zones (Ends x y) questions o c h = (h.1, h.2)
end_of zones (Asks question next) questions o c h = end_of zones (next (zones question)) h.0 o c h.2
end_of zones (Reads text next) questions o c h = (h.0, h.1, end_of zones (next h.0) questions o c h.2)

-- ---- the questions

asked_in : OnePolicy → (zones : Answering) (run : Run) (questions : List Question) (o : Outcome) (c : Counts) → IsDialogue zones run questions o c → (question : Question) → AsksFor zones run question → Contains questions question
asked_in one zones (Ends x y) questions o c h question asked = absurd asked
asked_in one zones (Asks q next) questions o c h question asked = subst (λ (qs : List Question). Contains qs question) (sym h.1) (elim asked [
  | inl here ↦ (zero, omega arith, sym here)
  | inr later ↦ let place = asked_in one zones (next (zones q)) h.0 o c h.2 question later in (suc place.0, omega (arith, place.1), place.2)
])
asked_in one zones (Reads text next) questions o c h question asked =
    asked_in one zones (next h.0) questions o c h.2 question (subst (λ policy. AsksFor zones (next policy) question) (read_once one text asked.0 h.0 asked.1 h.1) asked.2)

none_in : (question : Question) → Contains [] question → ⊥
none_in question place = omega (arith, place.1)

in_front : (q : Question) (later : List Question) (question : Question) → Contains (q ∷ later) question → (question ≡ q) ⊎ Contains later question
in_front q later question (zero, below, is) = inl (sym is)
in_front q later question (suc k, below, is) = inr (k, omega (arith, below), is)

asked_of : (zones : Answering) (run : Run) (questions : List Question) (o : Outcome) (c : Counts) → IsDialogue zones run questions o c → (question : Question) → Contains questions question → AsksFor zones run question
asked_of zones (Ends x y) questions o c h question place = none_in question (subst (λ (qs : List Question). Contains qs question) h.0 place)
asked_of zones (Asks q next) questions o c h question place = elim (in_front q h.0 question (subst (λ (qs : List Question). Contains qs question) h.1 place)) [
  | inl here ↦ inl here
  | inr later ↦ inr (asked_of zones (next (zones q)) h.0 o c h.2 question later)
]
asked_of zones (Reads text next) questions o c h question place = (h.0, h.1, asked_of zones (next h.0) questions o c h.2 question place)

pub one_run : OnePolicy → OneEnd
one_run one = record {
  one = one_dialogue one;
  never_none = never_none;
  ends = λ zones run o c. ((λ ends. dialogue_of zones run o c ends), (λ h. end_of zones run h.0 o c h.1));
  asks = λ zones run questions o c h question. ((λ asked. asked_in one zones run questions o c h question asked), (λ place. asked_of zones run questions o c h question place));
  one_end = one_end one;
}
