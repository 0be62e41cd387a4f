-- What the hosts of a term have, for every address of a family.
use Rattle.std.proofs.Common.{◌≡◌, ℕ, ◌+◌, ◌<◌, ◌≤◌, Bool, List, [], ◌∷◌, ◌++◌, map, length, get_or, drop, drop-cons, add-one, length-drop, arith, refl, ap, subst, append-nil, append_assoc, inl, inr, Result, Ok, Err}
use Rattle.std.specs.Prelude.{filter_map}
use Rattle.std.proofs.lemmas.Bool.{le-leb, lt-leb}
use Rattle.std.proofs.lemmas.List.{nil_from_length}
use Rattle.zone_answers.specs.Answers.{kind_in}
use Rattle.zone_answers.specs.declared.answer.QKind.{QKind}
use Rattle.zone_answers.specs.declared.answer.QKind.TheVariants as kind
use Rattle.zone_answers.specs.declared.answer.Question.{Question}
use Rattle.zone_answers.specs.declared.answer.Answer.{Answer}
use Rattle.spf_model.specs.declared.outcome.Cause.TheVariants as cause
use Rattle.spf_model.specs.declared.outcome.Counts.{Counts}
use Rattle.spf_model.specs.declared.outcome.Halt.{Halt}
use Rattle.spf_model.specs.declared.outcome.Halt.TheVariants.{Ended, Memory}
use Rattle.spf_model.specs.declared.outcome.Outcome.TheVariants.{Perm}
use Rattle.spf_model.specs.declared.gathered.Gathered.{Gathered}
use Rattle.spf_model.specs.Run.{Run, Ends, Answering}
use Rattle.spf_model.specs.Judging.{Site, Labels, at, go_if, ask_all, question_of, exchange_of, answer_bodies, is_void, gather_hosts, gather_exchanges}
use Rattle.spf_model.specs.Settling.{Follows, PartOf, Adds, Settles}
use Rattle.spf_model.proofs.Following.{follows_itself, follows_twice, follows_more}
use Rattle.spf_model.proofs.Settling.{adds_none, then_part}
use Rattle.spf_model.proofs.Asking.{ask_part, settles_same, settles_stopping}

-- ---- hosts, one after the other

-- the hosts of `rest` are still to be asked
abbrev pub later_part : Site → ℕ → QKind → Bool → List Answer → List Labels → PartOf Gathered
later_part site t kind void answers rest counts go =
    ask_all site t counts (map (question_of kind) rest) (λ later. go (record { void = void; answers = answers ++ later }))

-- what the hosts so far have, where those of `rest` are still to be asked
pub record GatheredSoFar (zones : Answering) (site : Site) (t : ℕ) (kind : QKind) (void : Bool) (answers : List Answer) (hosts rest : List Labels) (asked more : List Question) : Type 0 where
  pub passes : (counts : Counts) (go : Gathered → Run)
      → Follows zones more (gather_hosts site t kind void hosts counts go) (later_part site t kind void answers rest counts go)
  pub adds : Adds zones (gather_hosts site t kind void hosts) asked more

-- nothing is asked yet
pub begin : (zones : Answering) (site : Site) (t : ℕ) (kind : QKind) (void : Bool) (hosts : List Labels) (asked : List Question)
    → GatheredSoFar zones site t kind void [] hosts hosts asked asked
begin zones site t kind void hosts asked = record {
  passes = λ counts go. follows_itself zones asked (gather_hosts site t kind void hosts counts go);
  adds = adds_none zones (gather_hosts site t kind void hosts) asked;
}

-- the next question is that of the hosts
more_adds : (zones : Answering) (site : Site) (t : ℕ) (kind : QKind) (void : Bool) (answers : List Answer) (hosts rest : List Labels) (host : Labels) (asked mid more : List Question)
    → GatheredSoFar zones site t kind void answers hosts (host ∷ rest) asked mid
    → Adds zones (ask_part site t (question_of kind host)) mid more → Adds zones (gather_hosts site t kind void hosts) asked more
more_adds zones site t kind void answers hosts rest host asked mid more so_far g = record {
  kept = λ q h. g.kept q (so_far.adds.kept q h);
  only = λ q h. elim (g.only q h) [
    | inl here ↦ so_far.adds.only q here
    | inr by ↦ inr (λ counts go. (so_far.passes counts go).asks q
        (by counts (λ (found : Answer). ask_all site t counts (map (question_of kind) rest) (λ later. go (record { void = void; answers = answers ++ found ∷ later })))))
  ];
}

-- one more is asked
pub step : (zones : Answering) (site : Site) (t : ℕ) (kind : QKind) (void : Bool) (answers : List Answer) (hosts rest : List Labels) (host : Labels) (found : Answer) (asked mid more : List Question)
    → GatheredSoFar zones site t kind void answers hosts (host ∷ rest) asked mid
    → Settles zones (ask_part site t (question_of kind host)) mid more (Ok found)
    → GatheredSoFar zones site t kind void (answers ++ found ∷ []) hosts rest asked more
step zones site t kind void answers hosts rest host found asked mid more so_far on = record {
  passes = λ counts go. simp append_assoc
      (follows_twice zones more (gather_hosts site t kind void hosts counts go) (later_part site t kind void answers (host ∷ rest) counts go)
      (ask_all site t counts (map (question_of kind) rest) (λ later. go (record { void = void; answers = answers ++ found ∷ later })))
      (follows_more zones mid more (gather_hosts site t kind void hosts counts go) (later_part site t kind void answers (host ∷ rest) counts go) on.1.kept (so_far.passes counts go))
      (on.0 counts (λ (x : Answer). ask_all site t counts (map (question_of kind) rest) (λ later. go (record { void = void; answers = answers ++ x ∷ later })))));
  adds = more_adds zones site t kind void answers hosts rest host asked mid more so_far on.1;
}

-- a question that ends the term
pub stops : (zones : Answering) (site : Site) (t : ℕ) (kind : QKind) (void : Bool) (answers : List Answer) (hosts rest : List Labels) (host : Labels) (halt : Halt) (asked mid more : List Question)
    → GatheredSoFar zones site t kind void answers hosts (host ∷ rest) asked mid
    → Settles zones (ask_part site t (question_of kind host)) mid more (Err halt)
    → Settles zones (gather_hosts site t kind void hosts) asked more (Err halt)
stops zones site t kind void answers hosts rest host (Ended o) asked mid more so_far on = (
  (
    on.0.0,
    λ counts go.
        follows_twice zones more (gather_hosts site t kind void hosts counts go) (later_part site t kind void answers (host ∷ rest) counts go) (Ends o counts)
        (follows_more zones mid more (gather_hosts site t kind void hosts counts go) (later_part site t kind void answers (host ∷ rest) counts go) on.1.kept (so_far.passes counts go))
        (on.0.1 counts (λ (x : Answer). ask_all site t counts (map (question_of kind) rest) (λ later. go (record { void = void; answers = answers ++ x ∷ later })))),
  ),
  more_adds zones site t kind void answers hosts rest host asked mid more so_far on.1,
)
stops zones site t kind void answers hosts rest host Memory asked mid more so_far on = tt

-- all are asked
pub all_asked : (zones : Answering) (site : Site) (t : ℕ) (kind : QKind) (void : Bool) (answers : List Answer) (hosts : List Labels) (asked more : List Question)
    → GatheredSoFar zones site t kind void answers hosts [] asked more
    → Settles zones (gather_hosts site t kind void hosts) asked more (Ok (record { void = void; answers = answers }))
all_asked zones site t kind void answers hosts asked more so_far = (
  λ counts go.
      subst (λ (xs : List Answer). Follows zones more (gather_hosts site t kind void hosts counts go) (go (record { void = void; answers = xs }))) (append-nil answers)
      (so_far.passes counts go),
  so_far.adds,
)

-- the next host, and those behind it
pub next : {E : Type 0} (f : E → Labels) (hosts : List E) (i : ℕ) (x : E) → i < length hosts → x ≡ get_or hosts i x → map f (drop i hosts) ≡ f x ∷ map f (drop (i + 1) hosts)
next f hosts i x within e = rw (add-one, drop-cons hosts i x within, ← e) refl

-- no host is left
pub none_left : {E : Type 0} (f : E → Labels) (hosts : List E) (i : ℕ) → length hosts ≤ i → map f (drop i hosts) ≡ []
none_left f hosts i past = ap (map f) (nil_from_length (drop i hosts) (rw length-drop (omega (arith, past))))

-- ---- exchanges

-- few enough
pub few_enough : (zones : Answering) (site : Site) (t : ℕ) (found : Answer) (result : Result Gathered Halt) (asked more : List Question)
    → length (filter_map exchange_of (answer_bodies found)) ≤ site.limits.exchanges
    → Settles zones (gather_hosts site t (kind_in site.family) (is_void found) (filter_map exchange_of (answer_bodies found))) asked more result
    → Settles zones (gather_exchanges site t found) asked more result
few_enough zones site t found result asked more few h =
    settles_same zones asked more (gather_exchanges site t found) (gather_hosts site t (kind_in site.family) (is_void found) (filter_map exchange_of (answer_bodies found))) result
    (λ counts go. ap (λ (test : Bool). go_if test (Perm cause.Exchanges (at site t)) counts
    (λ counts. gather_hosts site t (kind_in site.family) (is_void found) (filter_map exchange_of (answer_bodies found)) counts go))
    (le-leb (length (filter_map exchange_of (answer_bodies found))) site.limits.exchanges few)) h

-- too many
pub too_many : (zones : Answering) (site : Site) (t : ℕ) (found : Answer) (halt : Halt) (asked : List Question) → halt ≡ Ended (Perm cause.Exchanges (at site t))
    → site.limits.exchanges < length (filter_map exchange_of (answer_bodies found))
    → Settles zones (gather_exchanges site t found) asked asked (Err halt)
too_many zones site t found halt asked is many =
    settles_stopping zones asked (gather_exchanges site t found) (Perm cause.Exchanges (at site t)) halt is tt
    (λ counts go. ap (λ (test : Bool). go_if test (Perm cause.Exchanges (at site t)) counts
    (λ counts. gather_hosts site t (kind_in site.family) (is_void found) (filter_map exchange_of (answer_bodies found)) counts go))
    (lt-leb (length (filter_map exchange_of (answer_bodies found))) site.limits.exchanges many))

-- ---- `mx`

-- the exchanges of a name, and then their addresses
abbrev pub mx_part : Site → ℕ → Labels → PartOf Gathered
mx_part site t name = then_part (ask_part site t (question_of kind.Mx name)) (gather_exchanges site t)
