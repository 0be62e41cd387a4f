-- The laws of the job.
use Rattle.std.specs.Prelude.{◌≡◌, ◌≢◌, ℕ, IsTrue, List, [], ◌∷◌, ◌++◌, length, codes}
use Rattle.std.proofs.Common.{sym, ap, subst, ◌∙◌, lit≤}
use Rattle.master_reader.specs.declared.record.Record.{Record}
use Rattle.master_reader.proofs.Once.{reads_once}
use Rattle.zone_answers.specs.Zone.{Zone}
use Rattle.spf_macros.specs.Words.{is_domain}
use Rattle.spf_grammar.specs.declared.flat.FlatTerm.{FlatTerm}
use Rattle.spf_model.specs.Chains.{all_terms}
use Rattle.spf_model.specs.declared.outcome.Limits.{Limits}
use Rattle.spfc_words.specs.Inputs.{file_input}
use Rattle.spfc_words.specs.Options.{behind_options}
use Rattle.spfc_words.specs.declared.input.Group.TheVariants.{Zones}
use Rattle.spfc_words.specs.declared.input.Input.{Input}
use Rattle.spfc_words.proofs.Domains.{one_domain}
use Rattle.spfc_words.proofs.Inputs.{one_inputs}
use Rattle.spfc_words.proofs.LowerTexts.{is_domain_lower}
use Rattle.spfc_words.proofs.ReadingLimits.{one_limits, limits_modest}
use Rattle.spfc_words.proofs.Settings.{one_number_is}
use Rattle.loading.specs.declared.loaded.Loaded.{Loaded}
use Rattle.loading.specs.declared.memory.OrMemory.{OrMemory}
use Rattle.loading.specs.declared.memory.OrMemory.TheVariants.{Error, Memory}
use Rattle.loading.specs.declared.refusal.Refusal.{Refusal}
use Rattle.cert_checker.specs.declared.answer.No.{No}
use Rattle.cert_checker.specs.declared.answer.No.TheVariants as no
use Rattle.cert_checker.specs.declared.answer.Yes.{Yes}
use Rattle.cert_checker.specs.Certified.{IsCertified}
use Rattle.cert_checker.specs.Forms.{AreLinked, ReadChain, name_at, terms_of}
use Rattle.cert_checker.proofs.OneChain.{one_lists}
use Rattle.cert_checker.proofs.OneReason.{one_reason, no_reason_beside_yes}
use Rattle.jobs.specs.Meaning.{Due, Refuses, Gives, IsLawful}
use Rattle.jobs.specs.declared.output.Output.{Output}
use Rattle.job_verify.specs.Meaning.{IsAccepted, IsDenied, VerifyDue, accepted, denied, IsReady, meaning_of_verify}
use Rattle.job_verify.specs.Meaning.{refused_by, yes_line}
use Rattle.job_verify.specs.Words.{AreVerifyInputs, SpellsVerify, verify_options}
use Rattle.job_verify.specs.declared.verify.Verify.{Verify}

pub verify_ready : (words : List (List ℕ)) (job : Verify) → SpellsVerify words job → IsReady job
verify_ready [] job is = absurd is
verify_ready (domain ∷ []) job is = absurd is
verify_ready (domain ∷ file ∷ words) job is = record {
  form = subst (λ t. IsTrue (is_domain t)) (sym is.named.lower) (is_domain_lower domain ∙ is.named.form);
  modest = limits_modest verify_options words job.limits is.reading;
}

one_list : (file : List ℕ) (words : List (List ℕ)) (a b : List Input) → AreVerifyInputs file words a
    → AreVerifyInputs file words b → a ≡ b
one_list file words a b x y =
    let zones : x.zones ≡ y.zones = one_inputs Zones words x.zones y.zones x.named y.named in
    x.are ∙ (ap (λ (z : List Input). z ++ file_input file ∷ []) zones ∙ sym y.are)

pub one_verify : (words : List (List ℕ)) (a b : Verify) → SpellsVerify words a → SpellsVerify words b → a ≡ b
one_verify [] a b x y = absurd x
one_verify (domain ∷ []) a b x y = absurd x
one_verify (domain ∷ file ∷ words) a b x y =
    let named : a.domain ≡ b.domain = one_domain domain a.domain b.domain x.named y.named in
    let size : a.size ≡ b.size =
    one_number_is verify_options words (codes "--size") 64 4096 450 a.size b.size (lit≤ tt) x.sized y.sized in
    let limits : a.limits ≡ b.limits = one_limits verify_options words a.limits b.limits x.reading y.reading in
    let inputs : a.inputs ≡ b.inputs =
    one_list file (behind_options verify_options words) a.inputs b.inputs x.inputs y.inputs in
    λ i. record { domain = named i; size = size i; limits = limits i; inputs = inputs i }

-- ---- what is due

-- bytes are one chain at most
one_chain : (domain bytes : List ℕ) (a b : ReadChain domain bytes) → (a.records ≡ b.records) × (terms_of a ≡ terms_of b)
one_chain domain bytes a b =
    let records : a.records ≡ b.records = reads_once (name_at domain) bytes a.records b.records a.reads b.reads in
    let lists : a.lists ≡ b.lists =
    one_lists a.records a.lists b.lists a.form.linked (subst (λ r. AreLinked r b.lists) (sym records) b.form.linked) in
    (records, ap (λ (ls : List (List FlatTerm)). all_terms ls) lists)

one_yes : (zones : List Zone) (limits : Limits) (domain : List ℕ) (size : ℕ) (bytes : List ℕ) (a b : Yes)
    → IsCertified zones limits domain size bytes a → IsCertified zones limits domain size bytes b → a ≡ b
one_yes zones limits domain size bytes a b x y =
    let one = one_chain domain bytes x.chain y.chain in
    let terms : a.terms ≡ b.terms = x.terms ∙ (ap (λ (l : List FlatTerm). length l) one.1 ∙ sym y.terms) in
    let records : a.records ≡ b.records = x.records ∙ (ap (λ (l : List Record). length l) one.0 ∙ sym y.records) in
    λ i. record { terms = terms i; records = records i }

error_once : (a b : Refusal) → (let x : OrMemory Refusal = Error a in x ≡ Error b) → a ≡ b
error_once a b e = cc

-- a reason that refuses is not want of memory
no_memory : (n : No) (why : Refusal) → refused_by n ≡ Error why → n ≢ no.Memory
no_memory n why is e = error_memory (sym is ∙ ap refused_by e)
  where
    error_memory : (let x : OrMemory Refusal = Error why in x ≡ Memory) → ⊥
    error_memory e = cc

one_denial : (job : Verify) (loaded : Loaded) (a b : Refusal) → IsDenied job loaded a → IsDenied job loaded b → a ≡ b
one_denial job loaded a b x y =
    let same : x.reason ≡ y.reason =
    one_reason loaded.zones job.limits job.domain.text job.size loaded.file x.reason y.reason
    (no_memory x.reason a x.is) (no_memory y.reason b y.is) x.first y.first in
    error_once a b (sym x.is ∙ (ap refused_by same ∙ y.is))

one_output : (job : Verify) (loaded : Loaded) (a b : Output) → IsAccepted job loaded a → IsAccepted job loaded b
    → a ≡ b
one_output job loaded a b x y =
    let counts : x.counts ≡ y.counts =
    one_yes loaded.zones job.limits job.domain.text job.size loaded.file x.counts y.counts x.certified y.certified in
    let bytes : a.bytes ≡ b.bytes = x.line ∙ (ap (λ (z : Yes). yes_line z) counts ∙ sym y.line) in
    let asked : a.asked ≡ b.asked = x.untold ∙ sym y.untold in
    λ i. record { bytes = bytes i; asked = asked i }

-- a file that is accepted is not refused
never_both : (job : Verify) (loaded : Loaded) (output : Output) (why : Refusal) → IsAccepted job loaded output
    → IsDenied job loaded why → ⊥
never_both job loaded output why x y =
    no_memory y.reason why y.is
    (no_reason_beside_yes loaded.zones job.limits job.domain.text job.size loaded.file x.counts y.reason x.certified
    y.first)

one_due : (job : Verify) (loaded : Loaded) (x y : Due) → VerifyDue job loaded x → VerifyDue job loaded y → x ≡ y
one_due job loaded x y (accepted a is due) (accepted b is' due') =
    due ∙ (ap (λ (o : Output). Gives o) (one_output job loaded a b is is') ∙ sym due')
one_due job loaded x y (accepted a is due) (denied why is' due') = absurd (never_both job loaded a why is is')
one_due job loaded x y (denied why is due) (accepted b is' due') = absurd (never_both job loaded b why is' is)
one_due job loaded x y (denied a is due) (denied b is' due') =
    due ∙ (ap (λ (w : Refusal). Refuses w) (one_denial job loaded a b is is') ∙ sym due')

gives_once : (a b : Output) → Gives a ≡ Gives b → a ≡ b
gives_once a b e = cc

gives_refuses : (output : Output) (why : Refusal) → Gives output ≡ Refuses why → ⊥
gives_refuses output why e = cc

best_due : (job : Verify) (loaded : Loaded) (output : Output) → VerifyDue job loaded (Gives output)
    → IsAccepted job loaded output
best_due job loaded output (accepted other is due) =
    subst (λ o. IsAccepted job loaded o) (gives_once other output (sym due)) is
best_due job loaded output (denied why is due) = absurd (gives_refuses output why due)

pub verify_lawful : (job : Verify) → IsLawful (meaning_of_verify job)
verify_lawful job = record { one = one_due job; best = λ ready. best_due job }
