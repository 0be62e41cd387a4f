-- The laws of the job.
use Rattle.std.specs.Prelude.{◌≡◌, ◌<◌, ℕ, List, [], ◌∷◌, ◌++◌, codes}
use Rattle.std.proofs.Common.{sym, ap, subst, ◌∙◌, arith}
use Rattle.zone_answers.specs.Zone.{Zone}
use Rattle.zone_answers.specs.declared.answer.Question.{Question}
use Rattle.spfc_words.specs.Inputs.{file_input}
use Rattle.spfc_words.specs.declared.input.Group.TheVariants.{Zones}
use Rattle.spfc_words.specs.declared.input.Input.{Input}
use Rattle.spfc_words.proofs.Inputs.{one_inputs}
use Rattle.bound_table.specs.Reading.{lines_of}
use Rattle.kept_lists.specs.declared.kept.Kept.{Kept}
use Rattle.kept_lists.specs.declared.kept.KeptLine.{KeptLine}
use Rattle.kept_lists.specs.Reading.{AreKept}
use Rattle.kept_lists.proofs.OneList.{one_kept}
use Rattle.deps_watch.specs.declared.fresh.Freshness.TheVariants.{Fresh}
use Rattle.deps_watch.specs.Freshness.{IsFreshness, IsFirstStale}
use Rattle.deps_watch.proofs.KeptWell.{fresh_keeps}
use Rattle.deps_watch.proofs.Watching.{fresh_or_stale, first_stale}
use Rattle.loading.specs.declared.loaded.Loaded.{Loaded}
use Rattle.loading.specs.declared.refusal.Refusal.{Refusal}
use Rattle.loading.specs.declared.refusal.Refusal.TheVariants.{BadList}
use Rattle.jobs.specs.Meaning.{Due, Refuses, Gives, IsLawful}
use Rattle.jobs.specs.declared.output.Output.{Output}
use Rattle.job_stale.specs.declared.stale.Stale.{Stale}
use Rattle.job_stale.specs.Meaning.{fresh_line, stale_line, IsWatchLine, fresh, stale, IsWatch, IsBest}
use Rattle.job_stale.specs.Meaning.{StaleDue, said, unlisted, meaning_of_stale}
use Rattle.job_stale.specs.Words.{SpellsStale}

pub stale_ready : (words : List (List ℕ)) (job : Stale) → SpellsStale words job → Unit {0}
stale_ready words job is = tt

pub one_stale : (words : List (List ℕ)) (a b : Stale) → SpellsStale words a → SpellsStale words b → a ≡ b
one_stale [] a b x y = absurd x
one_stale (file ∷ words) a b x y =
    let name : a.file ≡ b.file = x.kept ∙ sym y.kept in
    let zones : x.zones ≡ y.zones = one_inputs Zones words x.zones y.zones x.named y.named in
    let inputs : a.inputs ≡ b.inputs =
    x.are ∙ (ap (λ (z : List Input). z ++ file_input file ∷ []) zones ∙ sym y.are) in
    λ i. record { file = name i; inputs = inputs i }

-- ---- the line

abbrev first_byte : List ℕ → ℕ
first_byte [] = 0
first_byte (byte ∷ bytes) = byte

-- no question is named where all is fresh
named_fresh : (question : Question) → stale_line question ≡ fresh_line → ⊥
named_fresh question e = omega (arith, ap first_byte e)

one_line : (zones : List Zone) (lines : List KeptLine) (a b : List ℕ) → IsWatchLine zones lines a
    → IsWatchLine zones lines b → a ≡ b
one_line zones lines a b (fresh is e) (fresh is' e') = e ∙ sym e'
one_line zones lines a b (fresh is e) (stale place first e') = absurd (fresh_or_stale zones lines place is first)
one_line zones lines a b (stale place first e) (fresh is e') = absurd (fresh_or_stale zones lines place is first)
one_line zones lines a b (stale p x e) (stale q y e') =
    e ∙ (ap (λ (l : KeptLine). stale_line l.question) (first_stale zones lines p q x y).1 ∙ sym e')

all_fresh : (zones : List Zone) (lines : List KeptLine) (bytes : List ℕ) → IsWatchLine zones lines bytes
    → bytes ≡ fresh_line → IsFreshness zones lines Fresh
all_fresh zones lines bytes (fresh is e) printed = is
all_fresh zones lines bytes (stale place first e) printed = absurd (named_fresh first.line.question (sym e ∙ printed))

-- ---- what is due

one_output : (job : Stale) (loaded : Loaded) (a b : Output) → IsWatch job loaded a → IsWatch job loaded b → a ≡ b
one_output job loaded a b x y =
    let kept : x.kept ≡ y.kept = one_kept.one (lines_of loaded.file) x.kept y.kept x.read y.read in
    let line : IsWatchLine loaded.zones y.kept.lines a.bytes =
    subst (λ (k : Kept). IsWatchLine loaded.zones k.lines a.bytes) kept x.line in
    let bytes : a.bytes ≡ b.bytes = one_line loaded.zones y.kept.lines a.bytes b.bytes line y.line in
    let asked : a.asked ≡ b.asked = x.untold ∙ sym y.untold in
    λ i. record { bytes = bytes i; asked = asked i }

one_due : (job : Stale) (loaded : Loaded) (x y : Due) → StaleDue job loaded x → StaleDue job loaded y → x ≡ y
one_due job loaded x y (said a is due) (said b is' due') =
    due ∙ (ap (λ (o : Output). Gives o) (one_output job loaded a b is is') ∙ sym due')
one_due job loaded x y (said a is due) (unlisted m none due') =
    absurd (one_kept.never_both (lines_of loaded.file) is.kept m is.read none)
one_due job loaded x y (unlisted m none due) (said b is' due') =
    absurd (one_kept.never_both (lines_of loaded.file) is'.kept m is'.read none)
one_due job loaded x y (unlisted m none due) (unlisted n none' due') =
    let same : m ≡ n = one_kept.one_fault (lines_of loaded.file) m n none none' in
    due ∙ (ap (λ (l : ℕ). Refuses (BadList job.file l)) same ∙ sym due')

gives_once : (a b : Output) → Gives a ≡ Gives b → a ≡ b
gives_once a b e = cc

gives_refuses : (output : Output) (why : Refusal) → Gives output ≡ Refuses why → ⊥
gives_refuses output why e = cc

-- what a fresh file says
best_watch : (job : Stale) (loaded : Loaded) (output : Output) → IsWatch job loaded output → IsBest job loaded output
best_watch job loaded output is = record {
  watch = is;
  keeps = λ printed others limits domain named ranges list.
      fresh_keeps loaded.zones others limits domain loaded.file is.kept named ranges list is.read
      (all_fresh loaded.zones is.kept.lines output.bytes is.line printed);
}

best_due : (job : Stale) (loaded : Loaded) (output : Output) → StaleDue job loaded (Gives output)
    → IsBest job loaded output
best_due job loaded output (said other is due) =
    best_watch job loaded output (subst (λ o. IsWatch job loaded o) (gives_once other output (sym due)) is)
best_due job loaded output (unlisted line none due) =
    absurd (gives_refuses output (BadList job.file line) due)

pub stale_lawful : (job : Stale) → IsLawful (meaning_of_stale job)
stale_lawful job = record { one = one_due job; best = λ ready. best_due job }
