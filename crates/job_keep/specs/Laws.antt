-- The laws of the job.
use Rattle.std.specs.Prelude.{◌≡◌, ℕ, List, [], ◌∷◌}
use Rattle.std.proofs.Common.{sym, ap, subst, ◌∙◌}
use Rattle.spfc_words.specs.Limits.{reading_options}
use Rattle.spfc_words.proofs.Subjects.{one_subject}
use Rattle.kept_lists.proofs.WordRanges.{word_domain, word_limits}
use Rattle.deps_watch.proofs.KeptWell.{kept_well, one_list}
use Rattle.loading.specs.declared.loaded.Loaded.{Loaded}
use Rattle.jobs.specs.Meaning.{Due, Gives, IsLawful}
use Rattle.jobs.specs.declared.output.Output.{Output}
use Rattle.job_keep.specs.declared.keep.Keep.{Keep}
use Rattle.job_keep.specs.Meaning.{IsKeptList, IsBest, KeepDue, IsReady, meaning_of_keep}
use Rattle.job_keep.specs.Words.{SpellsKeep}

pub keep_ready : (words : List (List ℕ)) (job : Keep) → SpellsKeep words job → IsReady job
keep_ready [] job is = absurd is
keep_ready (domain ∷ words) job is = record {
  named = word_domain domain job.subject.domain is.named;
  ranges = word_limits reading_options words job.subject.limits is.reading;
}

pub one_keep : (words : List (List ℕ)) (a b : Keep) → SpellsKeep words a → SpellsKeep words b → a ≡ b
one_keep words a b x y =
    let subject : a.subject ≡ b.subject = one_subject words a.subject b.subject x y in
    λ i. record { subject = subject i }

one_output : (job : Keep) (loaded : Loaded) (a b : Output) → IsKeptList job loaded a → IsKeptList job loaded b → a ≡ b
one_output job loaded a b x y =
    let bytes : a.bytes ≡ b.bytes =
    one_list loaded.zones job.subject.limits job.subject.domain.text a.bytes b.bytes x.list y.list in
    let asked : a.asked ≡ b.asked = x.untold ∙ sym y.untold in
    λ i. record { bytes = bytes i; asked = asked i }

gives_once : (a b : Output) → Gives a ≡ Gives b → a ≡ b
gives_once a b e = cc

one_due : (job : Keep) (loaded : Loaded) (x y : Due) → KeepDue job loaded x → KeepDue job loaded y → x ≡ y
one_due job loaded x y (a, is, due) (b, is', due') =
    due ∙ (ap (λ (o : Output). Gives o) (one_output job loaded a b is is') ∙ sym due')

-- what the lines decide
at_rest : (job : Keep) (loaded : Loaded) (output : Output) → IsReady job → IsKeptList job loaded output
    → IsBest job loaded output
at_rest job loaded output ready is = record {
  is = is;
  well =
      kept_well loaded.zones job.subject.limits job.subject.domain.text output.bytes ready.named ready.ranges is.list;
}

best_due : (job : Keep) → IsReady job → (loaded : Loaded) (output : Output) → KeepDue job loaded (Gives output)
    → IsBest job loaded output
best_due job ready loaded output (other, is, due) =
    at_rest job loaded output ready (subst (λ o. IsKeptList job loaded o) (gives_once other output (sym due)) is)

pub keep_lawful : (job : Keep) → IsLawful (meaning_of_keep job)
keep_lawful job = record { one = one_due job; best = best_due job }
