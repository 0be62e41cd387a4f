-- An `exists` that asks at reversed names, as a walk.
use Rattle.std.proofs.Common.{◌≡◌, ℕ, true, false, ◌<◌, ◌^◌, List, [], ◌∷◌, ◌++◌, refl, sym, ap, ◌∙◌, subst, inl, inr, Contains, Some}
use Rattle.std.proofs.lemmas.List.Elements.{Contains-append_left, Contains-append_cases, Contains-push}
use Rattle.addr_bits.specs.Address.{family_of}
use Rattle.addr_bits.specs.Prefix.{Cidr}
use Rattle.addr_bits.specs.declared.address.Address.{Address}
use Rattle.addr_bits.specs.declared.address.Family.{Family}
use Rattle.prefix_trie.specs.Leaves.{value_at}
use Rattle.zone_answers.specs.Reversed.{reversed_class}
use Rattle.zone_answers.specs.Zone.{Zone}
use Rattle.zone_answers.specs.declared.answer.Answer.{Answer}
use Rattle.zone_answers.specs.declared.answer.Question.{Question}
use Rattle.zone_answers.specs.declared.class.Class.{Class}
use Rattle.zone_answers.specs.declared.class.Class.TheVariants.{Hit, Void, Beyond, Round}
use Rattle.spf_macros.specs.declared.piece.Piece.{Piece}
use Rattle.spf_grammar.specs.declared.policy.Mechanism.TheVariants.{Exists}
use Rattle.spf_grammar.specs.declared.verdict.Verdict.{Verdict}
use Rattle.spf_model.specs.Judging.{Labels, Site, answered, at, judge_gathered, reversed_question}
use Rattle.spf_model.specs.Check.{unless_matched}
use Rattle.spf_model.specs.Leads.{site_of}
use Rattle.spf_model.specs.Run.{Run, Ends, Asks, Answering, heard, says}
use Rattle.spf_model.specs.Settling.{Follows}
use Rattle.spf_model.specs.declared.context.RecordContext.{RecordContext}
use Rattle.spf_model.specs.declared.gathered.Hosts.TheVariants.{Reversed}
use Rattle.spf_model.specs.declared.outcome.Cause.TheVariants as cause
use Rattle.spf_model.specs.declared.outcome.Counts.{Counts}
use Rattle.spf_model.specs.declared.outcome.Limits.{Limits}
use Rattle.spf_model.specs.declared.outcome.Outcome.TheVariants.{Is, Temp, Unsettled}
use Rattle.spf_model.specs.declared.outcome.Place.{Place}
use Rattle.spf_model.proofs.Following.{follows_itself, follows_question}
use Rattle.spf_model.proofs.Saying.{reversely}
use Rattle.symbolic_check.specs.Steps.{after_class}
use Rattle.symbolic_check.specs.Stretches.{own_stretch}
use Rattle.symbolic_check.specs.Walk.{Leaves, Moves, SomeLive, StepsWith, Stretch, Walks, says_at}
use Rattle.symbolic_check.specs.declared.state.State.{State}
use Rattle.symbolic_check.specs.declared.state.State.TheVariants.{Live, Decided, Failed}
use Rattle.symbolic_check.proofs.Keying.{in_one}
use Rattle.symbolic_check.proofs.Rows.{stands_stepped_with}
use Rattle.symbolic_check.proofs.Stepping.{void_moves}
use Rattle.symbolic_check.proofs.Walking.{leaves_twice}

-- ---- one address

-- what comes after the answer
abbrev judging_found : Site → Address → ℕ → Verdict → List Piece → Counts → (Counts → Run) → Answer → Run
judging_found site a t verdict spec c go found =
    judge_gathered site a t (Exists spec) (record { void = false; answers = found ∷ [] }) c (unless_matched verdict go)

abbrev with_found : Site → Address → ℕ → Verdict → List Piece → Counts → (Counts → Run) → Answer → Run
with_found site a t verdict spec c go found = answered site t c (judging_found site a t verdict spec c go) found

-- each class leaves what the step makes of it
class_leaves : (zones : Answering) (asked : List Question) (site : Site) (a : Address) (t : ℕ) (verdict : Verdict) (spec : List Piece) (c : Counts) (class : Class)
    → Leaves zones asked (λ go. with_found site a t verdict spec c go (heard class)) (after_class site.limits (at site t) verdict class (Live c))
class_leaves zones asked site a t verdict spec c Hit = λ go. follows_itself zones asked (Ends (Is verdict) c)
class_leaves zones asked site a t verdict spec c Void = void_moves zones asked site t true (Live c)
class_leaves zones asked site a t verdict spec c Beyond = (tt, λ go. (c, follows_itself zones asked (Ends (Unsettled cause.Outside (at site t)) c)))
class_leaves zones asked site a t verdict spec c Round = (tt, λ go. (c, follows_itself zones asked (Ends (Temp cause.Alias (at site t)) c)))

over_decided : (limits : Limits) (place : Place) (verdict v : Verdict) (c : Counts) (class : Class) → after_class limits place verdict class (Decided v c) ≡ Decided v c
over_decided limits place verdict v c Hit = refl
over_decided limits place verdict v c Void = refl
over_decided limits place verdict v c Beyond = refl
over_decided limits place verdict v c Round = refl

over_failed : (limits : Limits) (place : Place) (verdict : Verdict) (o : _) (class : Class) → after_class limits place verdict class (Failed o) ≡ Failed o
over_failed limits place verdict o Hit = refl
over_failed limits place verdict o Void = refl
over_failed limits place verdict o Beyond = refl
over_failed limits place verdict o Round = refl

-- a stretch that asks at the reversed name
abbrev asking : Site → Address → ℕ → Verdict → List Piece → Question → Stretch
asking site a t verdict spec question c go = Asks question (with_found site a t verdict spec c go)

-- the question is noted, and answered by the class
class_moves : (zones : Answering) (asked : List Question) (site : Site) (a : Address) (t : ℕ) (verdict : Verdict) (spec : List Piece) (question : Question) (class : Class) (state : State)
    → Contains asked question → zones question ≡ heard class
    → Moves zones asked (asking site a t verdict spec question) state (after_class site.limits (at site t) verdict class state)
class_moves zones asked site a t verdict spec question class (Live c) noted e =
    leaves_twice zones asked (asking site a t verdict spec question c) (λ go. with_found site a t verdict spec c go (heard class)) (after_class site.limits (at site t) verdict class (Live c))
    (λ go. subst (λ (found : Answer). Follows zones asked (Asks question (with_found site a t verdict spec c go)) (with_found site a t verdict spec c go found)) e
    (follows_question zones asked question (with_found site a t verdict spec c go) noted))
    (class_leaves zones asked site a t verdict spec c class)
class_moves zones asked site a t verdict spec question class (Decided v c) noted e = over_decided site.limits (at site t) verdict v c class
class_moves zones asked site a t verdict spec question class (Failed o) noted e = over_failed site.limits (at site t) verdict o class

-- ---- every address

same_class : {c d : Class} → Some c ≡ Some d → c ≡ d
same_class e = cc

pub reversed_walk : (bits : ℕ) (zones : List Zone) (context : RecordContext) (address : ℕ → Address) (t : ℕ) (verdict : Verdict) (spec : List Piece) (name : Labels) (place : Place) (question : Question)
    (classes : List (Cidr × Class)) (old new : List (Cidr × State)) (asked more : List Question)
    → ((a : ℕ) → family_of (address a) ≡ context.family) → place ≡ at (site_of context) t → question ≡ reversed_question context.family name → more ≡ asked ++ question ∷ [] → SomeLive bits old
    → ((a : ℕ) → a < 2 ^ bits → value_at bits classes a ≡ Some (reversed_class zones name (address a)))
    → StepsWith bits (after_class context.limits place verdict) classes old new
    → Walks bits (says_at address zones) (own_stretch address context t verdict (Exists spec) (Reversed name)) old new asked more
reversed_walk bits zones context address t verdict spec name place question classes old new asked more family at_term is noted live values steps = record {
  each = λ a below. stands_stepped_with (says_at address zones a) more (asking (site_of context) (address a) t verdict spec asks_for) (after_class context.limits place verdict)
      (value_at bits old a) (value_at bits classes a) (value_at bits new a)
      (λ class s e. subst (λ (p : Place). Moves (says_at address zones a) more (asking (site_of context) (address a) t verdict spec asks_for) s (after_class context.limits p verdict class s)) (sym at_term)
      (class_moves (says_at address zones a) more (site_of context) (address a) t verdict spec asks_for class s there (told a ∙ ap heard (same_class (sym (values a below) ∙ e))))) (steps a below);
  kept = λ q h. subst (λ (qs : List Question). Contains qs q) (sym is_more) (Contains-append_left asked (asks_for ∷ []) q h);
  only = λ q h. elim (Contains-append_cases asked (asks_for ∷ []) q (subst (λ (qs : List Question). Contains qs q) is_more h)) [
    | inl before ↦ inl before
    | inr now ↦ inr (record { address = live.0; counts = live.1; within = live.2; live = live.3; asks = λ go. inl (sym (in_one asks_for q now)) })
  ];
}
  where
    asks_for : Question
    asks_for = reversed_question context.family name

    is_more : more ≡ asked ++ asks_for ∷ []
    is_more = noted ∙ ap (λ (q : Question). asked ++ q ∷ []) is

    there : Contains more asks_for
    there = subst (λ (qs : List Question). Contains qs asks_for) (sym is_more) (Contains-push asked asks_for)

    told : (a : ℕ) → says zones (address a) asks_for ≡ heard (reversed_class zones name (address a))
    told a = ap (λ (f : Family). says zones (address a) (reversed_question f name)) (sym (family a)) ∙ reversely zones name (address a)
