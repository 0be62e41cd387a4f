-- The laws of runs.
use Rattle.std.proofs.Common.{◌≡◌, ℕ, List, refl, sym, ◌∙◌, ◌⊎◌, subst, inl, inr, ap, Option, Some, None}
use Rattle.zone_answers.specs.declared.answer.Question.{Question}
use Rattle.spf_grammar.specs.Grammar.{ReadAs}
use Rattle.spf_model.specs.declared.outcome.Counts.{Counts}
use Rattle.spf_model.specs.declared.outcome.Outcome.{Outcome}
use Rattle.spf_model.specs.Run.{Run, Ends, Asks, Reads, Answering, EndsWith, AsksFor, then_do}
use Rattle.spf_model.specs.Laws.{SameAnswers, RestsOnItsQuestions}
use Rattle.spf_grammar.specs.Laws.{OnePolicy}
use Rattle.spf_grammar.specs.declared.policy.Policy.{Policy}

-- zones that answer alike give the run the same end
pub same_end : (zones others : Answering) (run : Run) (outcome : Outcome) (counts : Counts)
    → SameAnswers zones others run → EndsWith zones run outcome counts → EndsWith others run outcome counts
same_end zones others (Ends o c) outcome counts same ends = ends
same_end zones others (Asks question next) outcome counts same ends =
    subst (λ found. EndsWith others (next found) outcome counts) (sym (same question (inl refl)))
    (same_end zones others (next (zones question)) outcome counts (λ q asked. same q (inr asked)) ends)
same_end zones others (Reads text next) outcome counts same ends =
    (ends.0, ends.1, same_end zones others (next ends.0) outcome counts (λ q asked. same q (ends.0, ends.1, asked)) ends.2)

-- and the same questions
pub same_asked : (zones others : Answering) (run : Run) (question : Question)
    → SameAnswers zones others run → AsksFor zones run question → AsksFor others run question
same_asked zones others (Ends o c) question same asked = asked
same_asked zones others (Asks q next) question same asked = elim asked [
  | inl here ↦ inl here
  | inr later ↦ inr (subst (λ found. AsksFor others (next found) question) (sym (same q (inl refl)))
      (same_asked zones others (next (zones q)) question (λ p below. same p (inr below)) later))
]
same_asked zones others (Reads text next) question same asked =
    (asked.0, asked.1, same_asked zones others (next asked.0) question (λ q below. same q (asked.0, asked.1, below)) asked.2)

-- a run rests on its own questions
pub rests_on_its_questions : RestsOnItsQuestions
rests_on_its_questions = record { ends = same_end; asks = same_asked }

-- a run that goes on after another ends as the second does from where the first ends
pub ends_after : (zones : Answering) (run : Run) (go : Outcome → Counts → Run) (mid : Outcome) (between : Counts) (outcome : Outcome) (counts : Counts)
    → EndsWith zones run mid between → EndsWith zones (go mid between) outcome counts → EndsWith zones (then_do run go) outcome counts
ends_after zones (Ends o c) go mid between outcome counts ends rest =
    subst (λ x. EndsWith zones (go x c) outcome counts) ends.0 (subst (λ x. EndsWith zones (go mid x) outcome counts) ends.1 rest)
ends_after zones (Asks question next) go mid between outcome counts ends rest =
    ends_after zones (next (zones question)) go mid between outcome counts ends rest
ends_after zones (Reads text next) go mid between outcome counts ends rest =
    (ends.0, ends.1, ends_after zones (next ends.0) go mid between outcome counts ends.2 rest)

-- where a run goes on after another, the other ends first
pub ends_split : (zones : Answering) (run : Run) (go : Outcome → Counts → Run) (outcome : Outcome) (counts : Counts)
    → EndsWith zones (then_do run go) outcome counts
    → (mid : Outcome) × (between : Counts) × EndsWith zones run mid between × EndsWith zones (go mid between) outcome counts
ends_split zones (Ends o c) go outcome counts ends = (o, c, (refl, refl), ends)
ends_split zones (Asks question next) go outcome counts ends = ends_split zones (next (zones question)) go outcome counts ends
ends_split zones (Reads text next) go outcome counts ends =
    let below = ends_split zones (next ends.0) go outcome counts ends.2 in
    (below.0, below.1, (ends.0, ends.1, below.2), below.3)

-- the questions of a run that goes on after another: the first run's, and then those of what it leads to
pub asks_first : (zones : Answering) (run : Run) (go : Outcome → Counts → Run) (question : Question)
    → AsksFor zones run question → AsksFor zones (then_do run go) question
asks_first zones (Ends o c) go question asked = absurd asked
asks_first zones (Asks q next) go question asked =
    elim asked [ inl here ↦ inl here | inr later ↦ inr (asks_first zones (next (zones q)) go question later) ]
asks_first zones (Reads text next) go question asked = (asked.0, asked.1, asks_first zones (next asked.0) go question asked.2)

pub asks_after : (zones : Answering) (run : Run) (go : Outcome → Counts → Run) (mid : Outcome) (between : Counts) (question : Question)
    → EndsWith zones run mid between → AsksFor zones (go mid between) question → AsksFor zones (then_do run go) question
asks_after zones (Ends o c) go mid between question ends asked =
    subst (λ x. AsksFor zones (go x c) question) ends.0 (subst (λ x. AsksFor zones (go mid x) question) ends.1 asked)
asks_after zones (Asks q next) go mid between question ends asked = inr (asks_after zones (next (zones q)) go mid between question ends asked)
asks_after zones (Reads text next) go mid between question ends asked =
    (ends.0, ends.1, asks_after zones (next ends.0) go mid between question ends.2 asked)

pub asks_split : (zones : Answering) (run : Run) (go : Outcome → Counts → Run) (question : Question)
    → AsksFor zones (then_do run go) question
    → AsksFor zones run question
    ⊎ ((mid : Outcome) × (between : Counts) × EndsWith zones run mid between × AsksFor zones (go mid between) question)
asks_split zones (Ends o c) go question asked = inr (o, c, (refl, refl), asked)
asks_split zones (Asks q next) go question asked = elim asked [
  | inl here ↦ inl (inl here)
  | inr later ↦ elim (asks_split zones (next (zones q)) go question later) [
    | inl first ↦ inl (inr first)
    | inr after ↦ inr after
  ]
]
asks_split zones (Reads text next) go question asked = elim (asks_split zones (next asked.0) go question asked.2) [
  | inl first ↦ inl (asked.0, asked.1, first)
  | inr after ↦ inr (after.0, after.1, (asked.0, asked.1, after.2), after.3)
]

-- zones that answer a run's questions alike have no further questions of it
pub same_asked_back : (zones others : Answering) (run : Run) (question : Question)
    → SameAnswers zones others run → AsksFor others run question → AsksFor zones run question
same_asked_back zones others (Ends o c) question same asked = asked
same_asked_back zones others (Asks q next) question same asked = elim asked [
  | inl here ↦ inl here
  | inr later ↦ inr (same_asked_back zones others (next (zones q)) question (λ p below. same p (inr below))
      (subst (λ found. AsksFor others (next found) question) (same q (inl refl)) later))
]
same_asked_back zones others (Reads text next) question same asked =
    (asked.0, asked.1, same_asked_back zones others (next asked.0) question (λ q below. same q (asked.0, asked.1, below)) asked.2)

-- the grammar reads a text in one way
pub read_once : OnePolicy → (text : List ℕ) (p q : Option Policy) → ReadAs text p → ReadAs text q → p ≡ q
read_once one text None None h g = refl
read_once one text None (Some q) h g = absurd (h q g)
read_once one text (Some p) None h g = absurd (g p h)
read_once one text (Some p) (Some q) h g = ap Some (one text p q h g)

-- so a run ends in one way
pub one_end : OnePolicy → (zones : Answering) (run : Run) (o p : Outcome) (c d : Counts) → EndsWith zones run o c → EndsWith zones run p d → (o ≡ p) × (c ≡ d)
one_end one zones (Ends x y) o p c d h g = (h.0 ∙ sym g.0, h.1 ∙ sym g.1)
one_end one zones (Asks question next) o p c d h g = one_end one zones (next (zones question)) o p c d h g
one_end one zones (Reads text next) o p c d h g =
    one_end one zones (next h.0) o p c d h.2
    (subst (λ policy. EndsWith zones (next policy) p d) (sym (read_once one text h.0 g.0 h.1 g.1)) g.2)
