-- The parts of a record's terms that every address of a family has alike.
use Rattle.std.proofs.Common.{◌≡◌, ◌≢◌, ℕ, zero, suc, ◌<◌, ◌++◌, List, [], ◌∷◌, refl, sym, ◌∙◌, ap, subst, inl, inr, Contains, Option, Some, None, Result, Ok, Err, arith}
use Rattle.std.specs.Prelude.{slice_index_or}
use Rattle.std.proofs.lemmas.List.Elements.{Contains-append_left, Contains-append_cases, Contains-push}
use Rattle.zone_answers.specs.declared.answer.Question.{Question}
use Rattle.zone_answers.specs.declared.answer.Answer.{Answer}
use Rattle.zone_answers.specs.declared.answer.Answer.TheVariants as answer
use Rattle.spf_macros.specs.declared.piece.Piece.{Piece}
use Rattle.spf_model.specs.declared.gathered.Gathered.{Gathered}
use Rattle.spf_model.specs.declared.gathered.Hosts.TheVariants.{Common}
use Rattle.spf_model.specs.declared.outcome.Counts.{Counts}
use Rattle.spf_model.specs.declared.outcome.Halt.{Halt}
use Rattle.spf_model.specs.declared.outcome.Halt.TheVariants.{Ended, Memory}
use Rattle.spf_model.specs.declared.outcome.Outcome.{Outcome}
use Rattle.spf_model.specs.Run.{Run, Ends, Asks, Answering}
use Rattle.spf_model.specs.Judging.{Labels, Site, with_target, with_name, name_of, answered, ask}
use Rattle.spf_model.specs.Leads.{common_of, NoVerdict, HandsOn, Halts}
use Rattle.spf_model.specs.Settling.{Follows}
use Rattle.spf_model.specs.Settling.{PartOf, Passes, Stops, Settles}
use Rattle.spf_model.proofs.Following.{follows_itself, follows_question}
use Rattle.spf_model.proofs.Settling.{then_part, passes_twice, stops_next, stops_first, adds_none, adds_first, adds_twice}

-- ---- parts that ask nothing

-- a part that is what it hands on
pub passes_here : {A : Type 0} (zones : Answering) (asked : List Question) (part : PartOf A) (x : A)
    → ((counts : Counts) (go : A → Run) → part counts go ≡ go x) → Passes zones asked part x
passes_here zones asked part x same = λ counts go. subst (λ run. Follows zones asked (part counts go) run) (same counts go) (follows_itself zones asked (part counts go))

-- a part that is an end
pub stops_here : {A : Type 0} (zones : Answering) (asked : List Question) (part : PartOf A) (outcome : Outcome) → NoVerdict outcome
    → ((counts : Counts) (go : A → Run) → part counts go ≡ Ends outcome counts) → Stops zones asked part outcome
stops_here zones asked part outcome none same =
    (none, λ counts go. subst (λ run. Follows zones asked (part counts go) run) (same counts go) (follows_itself zones asked (part counts go)))

-- so nothing is asked
pub settles_passing : {A : Type 0} (zones : Answering) (asked : List Question) (part : PartOf A) (x : A)
    → ((counts : Counts) (go : A → Run) → part counts go ≡ go x) → Settles zones part asked asked (Ok x)
settles_passing zones asked part x same = (passes_here zones asked part x same, adds_none zones part asked)

pub settles_stopping : {A : Type 0} (zones : Answering) (asked : List Question) (part : PartOf A) (outcome : Outcome) (halt : Halt) → halt ≡ Ended outcome → NoVerdict outcome
    → ((counts : Counts) (go : A → Run) → part counts go ≡ Ends outcome counts) → Settles zones part asked asked (Err halt)
settles_stopping zones asked part outcome halt e none same =
    subst (λ h. Settles zones part asked asked (Err h)) (sym e) (stops_here zones asked part outcome none same, adds_none zones part asked)

-- the first part stops
pub settles_first : {A B : Type 0} (zones : Answering) (asked more : List Question) (first : PartOf A) (next : A → PartOf B) (halt : Halt)
    → Settles zones first asked more (Err halt) → Settles zones (then_part first next) asked more (Err halt)
settles_first zones asked more first next (Ended o) h = (stops_first zones more first next o h.0, adds_first zones asked more first next h.1)
settles_first zones asked more first next Memory h = tt

-- the first part passes
pub settles_next : {A B : Type 0} (zones : Answering) (asked mid more : List Question) (first : PartOf A) (next : A → PartOf B) (x : A) (result : Result B Halt)
    → Settles zones first asked mid (Ok x) → Settles zones (next x) mid more result → Settles zones (then_part first next) asked more result
settles_next zones asked mid more first next x (Ok y) f g =
    (passes_twice zones mid more first next x y g.1.kept f.0 g.0, adds_twice zones asked mid more first next x f.0 f.1 g.1)
settles_next zones asked mid more first next x (Err (Ended o)) f g =
    (stops_next zones mid more first next x o g.1.kept f.0 g.0, adds_twice zones asked mid more first next x f.0 f.1 g.1)
settles_next zones asked mid more first next x (Err Memory) f g = tt

-- the same part
pub settles_same : {A : Type 0} (zones : Answering) (asked more : List Question) (part other : PartOf A) (result : Result A Halt)
    → ((counts : Counts) (go : A → Run) → part counts go ≡ other counts go) → Settles zones other asked more result → Settles zones part asked more result
settles_same {A} zones asked more part other result same h =
    subst (λ (p : PartOf A). Settles zones p asked more result) (λ i counts go. sym (same counts go) i) h

-- a part of which something is made that is handed on
abbrev pub handing : {A B : Type 0} → (A → B) → PartOf A → PartOf B
handing {A} f part counts go = part counts (λ (x : A). go (f x))

abbrev onward : {A B : Type 0} → (A → B) → A → PartOf B
onward f x counts go = go (f x)

pub hands : {A B : Type 0} (zones : Answering) (asked more : List Question) (part : PartOf A) (f : A → B) (x : A)
    → Settles zones part asked more (Ok x) → Settles zones (handing f part) asked more (Ok (f x))
hands zones asked more part f x h =
    settles_next zones asked more more part (onward f) x (Ok (f x)) h (settles_passing zones more (onward f x) (f x) (λ counts go. refl))

pub halts_handing : {A B : Type 0} (zones : Answering) (asked more : List Question) (part : PartOf A) (f : A → B) (halt : Halt)
    → Settles zones part asked more (Err halt) → Settles zones (handing f part) asked more (Err halt)
halts_handing zones asked more part f halt h = settles_first zones asked more part (onward f) halt h

-- what all addresses have in common
pub commons : (zones : Answering) (asked more : List Question) (part : PartOf Gathered) (result : Result Gathered Halt)
    → Settles zones part asked more result → Settles zones (handing Common part) asked more (common_of result)
commons zones asked more part (Ok x) h = hands zones asked more part Common x h
commons zones asked more part (Err halt) h = halts_handing zones asked more part Common halt h

-- ---- parts of a run

-- what a part hands on
pub passed_on : {A : Type 0} (zones : Answering) (asked more : List Question) (part : PartOf A) (x : A) → Settles zones part asked more (Ok x)
    → (counts : Counts) → HandsOn zones (part counts) x
passed_on zones asked more part x h counts = λ go outcome after e. ((h.0 counts go).ends outcome after).0 e

-- where it ends the run
pub stopped_on : {A : Type 0} (zones : Answering) (asked more : List Question) (part : PartOf A) (halt : Halt) → Settles zones part asked more (Err halt)
    → (counts : Counts) → Halts zones (part counts) halt
stopped_on zones asked more part (Ended o) h counts = (h.0.0, λ go. (counts, ((h.0.1 counts go).ends o counts).0 (refl, refl)))
stopped_on zones asked more part Memory h counts = tt

-- ---- names

-- the target text of a term
abbrev pub target_part : Site → ℕ → Option (List Piece) → PartOf (List ℕ)
target_part site t spec counts go = with_target site t counts spec go

-- the name that a text writes, with which a part hands something on; it ends with the outcome where there is none
abbrev name_part : {A : Type 0} → Outcome → (List ℕ → Labels → A) → List ℕ → PartOf A
name_part none handed text counts go = with_name none counts (name_of text) (λ name. go (handed text name))

-- the target text, and then its name: the name of a term's hosts, or the domain whose record it asks for
abbrev pub naming_part : {A : Type 0} → Site → ℕ → Option (List Piece) → Outcome → (List ℕ → Labels → A) → PartOf A
naming_part site t spec none handed = then_part (target_part site t spec) (name_part none handed)

pub untold : {A : Type 0} (zones : Answering) (site : Site) (t : ℕ) (spec : Option (List Piece)) (none : Outcome) (handed : List ℕ → Labels → A) (halt : Halt) (asked : List Question)
    → Settles zones (target_part site t spec) asked asked (Err halt) → Settles zones (naming_part site t spec none handed) asked asked (Err halt)
untold zones site t spec none handed halt asked h = settles_first zones asked asked (target_part site t spec) (name_part none handed) halt h

pub named : {A : Type 0} (zones : Answering) (site : Site) (t : ℕ) (spec : Option (List Piece)) (none : Outcome) (handed : List ℕ → Labels → A) (text : List ℕ) (name : Labels) (asked : List Question)
    → Settles zones (target_part site t spec) asked asked (Ok text) → Some name ≡ name_of text → Settles zones (naming_part site t spec none handed) asked asked (Ok (handed text name))
named {A} zones site t spec none handed text name asked h e =
    settles_next zones asked asked asked (target_part site t spec) (name_part none handed) text (Ok (handed text name)) h
    (settles_passing zones asked (name_part none handed text) (handed text name)
    (λ counts go. ap (λ (found : Option Labels). with_name none counts found (λ n. go (handed text n))) (sym e)))

pub unnamed : {A : Type 0} (zones : Answering) (site : Site) (t : ℕ) (spec : Option (List Piece)) (none : Outcome) (handed : List ℕ → Labels → A) (text : List ℕ) (halt : Halt) (asked : List Question)
    → NoVerdict none → Settles zones (target_part site t spec) asked asked (Ok text) → None ≡ name_of text → halt ≡ Ended none
    → Settles zones (naming_part site t spec none handed) asked asked (Err halt)
unnamed {A} zones site t spec none handed text halt asked end h e is =
    settles_next zones asked asked asked (target_part site t spec) (name_part none handed) text (Err halt) h
    (settles_stopping zones asked (name_part none handed text) none halt is end
    (λ counts go. ap (λ (found : Option Labels). with_name none counts found (λ n. go (handed text n))) (sym e)))

-- ---- questions

-- the answer to a question
abbrev pub answer_part : Question → PartOf Answer
answer_part question counts go = Asks question go

only_item : (question other : Question) → Contains (question ∷ []) other → other ≡ question
only_item question other h = at_first h.0 h.1 h.2
  where
    at_first : (k : ℕ) → k < 1 → slice_index_or (question ∷ []) k other ≡ other → other ≡ question
    at_first zero below e = sym e
    at_first (suc k) below e = absurd (omega (arith, below))

-- a question that is noted is answered
pub answer_settles : (zones : Answering) (asked more : List Question) (question : Question) (found : Answer) → more ≡ asked ++ question ∷ [] → found ≡ zones question
    → Settles zones (answer_part question) asked more (Ok found)
answer_settles zones asked more question found noted e = (
  λ counts go.
      subst (λ (x : Answer). Follows zones more (Asks question go) (go x)) (sym e)
      (follows_question zones more question go (subst (λ (qs : List Question). Contains qs question) (sym noted) (Contains-push asked question))),
  record {
    kept = λ q h. subst (λ (qs : List Question). Contains qs q) (sym noted) (Contains-append_left asked (question ∷ []) q h);
    only = λ q h. elim (Contains-append_cases asked (question ∷ []) q (subst (λ (qs : List Question). Contains qs q) noted h)) [
      | inl before ↦ inl before
      | inr now ↦ inr (λ counts go. inl (only_item question q now))
    ];
  },
)

-- the answer to a term's question
abbrev pub ask_part : Site → ℕ → Question → PartOf Answer
ask_part site t question counts go = ask site t counts question go

abbrev answered_part : Site → ℕ → Answer → PartOf Answer
answered_part site t found counts go = answered site t counts go found

answer_goes_on : (site : Site) (t : ℕ) (counts : Counts) (go : Answer → Run) (found : Answer) → found ≢ answer.Outside → found ≢ answer.Loop
    → answered_part site t found counts go ≡ go found
answer_goes_on site t counts go answer.Outside n m = absurd (n refl)
answer_goes_on site t counts go answer.Loop n m = absurd (m refl)
answer_goes_on site t counts go answer.NoName n m = refl
answer_goes_on site t counts go answer.NoData n m = refl
answer_goes_on site t counts go (answer.Found bodies) n m = refl

pub ask_told : (zones : Answering) (site : Site) (t : ℕ) (question : Question) (found : Answer) (asked more : List Question)
    → more ≡ asked ++ question ∷ [] → found ≡ zones question → found ≢ answer.Outside → found ≢ answer.Loop
    → Settles zones (ask_part site t question) asked more (Ok found)
ask_told zones site t question found asked more noted e n m =
    settles_next zones asked more more (answer_part question) (answered_part site t) found (Ok found) (answer_settles zones asked more question found noted e)
    (settles_passing zones more (answered_part site t found) found (λ counts go. answer_goes_on site t counts go found n m))

pub ask_ended : (zones : Answering) (site : Site) (t : ℕ) (question : Question) (found ended : Answer) (outcome : Outcome) (halt : Halt) (asked more : List Question)
    → NoVerdict outcome → ((counts : Counts) (go : Answer → Run) → answered site t counts go ended ≡ Ends outcome counts)
    → more ≡ asked ++ question ∷ [] → found ≡ zones question → found ≡ ended → halt ≡ Ended outcome
    → Settles zones (ask_part site t question) asked more (Err halt)
ask_ended zones site t question found ended outcome halt asked more none ends noted e is halts =
    settles_next zones asked more more (answer_part question) (answered_part site t) found (Err halt) (answer_settles zones asked more question found noted e)
    (settles_stopping zones more (answered_part site t found) outcome halt halts none
    (λ counts go. ap (λ (x : Answer). answered site t counts go x) is ∙ ends counts go))
