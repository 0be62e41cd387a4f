-- The laws of the job.
use Rattle.std.specs.Prelude.{◌≡◌, ℕ, List, [], ◌∷◌, Ok, Err, Result, map, codes}
use Rattle.std.specs.List.{AllZip}
use Rattle.std.proofs.Common.{inl, inr, refl, sym, ap, ap₂, subst, ◌∙◌}
use Rattle.addr_bits.specs.Address.{IsAddress}
use Rattle.addr_bits.specs.declared.address.Address.{Address}
use Rattle.addr_bits.specs.declared.address.Address.TheVariants.{V4, V6}
use Rattle.zone_answers.specs.Zone.{Zone}
use Rattle.spf_grammar.specs.declared.verdict.Verdict.{Verdict}
use Rattle.spf_model.specs.Run.{says}
use Rattle.spf_model.specs.declared.outcome.Limits.{Limits}
use Rattle.spf_model.specs.declared.outcome.Outcome.{Outcome}
use Rattle.policy_join.specs.Strength.{joined}
use Rattle.policy_verdicts.specs.Policy.{verdict_at}
use Rattle.policy_verdicts.proofs.OneAnswer.{one_refused, never_both, one_verdict}
use Rattle.spfc_words.specs.Domains.{IsDomain}
use Rattle.spfc_words.specs.Options.{behind_options}
use Rattle.spfc_words.specs.declared.domain.Domain.{Domain}
use Rattle.spfc_words.specs.declared.input.Group.TheVariants.{Zones}
use Rattle.spfc_words.proofs.Domains.{one_domain}
use Rattle.spfc_words.proofs.Inputs.{one_inputs}
use Rattle.spfc_words.proofs.ReadingLimits.{one_limits, limits_modest}
use Rattle.spfc_words.proofs.Settings.{one_flag_is}
use Rattle.published_records.specs.Standing.{HoldsName}
use Rattle.loading.specs.declared.loaded.Loaded.{Loaded}
use Rattle.loading.specs.declared.refusal.Refusal.{Refusal}
use Rattle.loading.specs.declared.refusal.Refusal.TheVariants.{NoVerdict}
use Rattle.jobs.specs.Meaning.{Due, Refuses, Gives, IsLawful}
use Rattle.jobs.specs.declared.output.Output.{Output}
use Rattle.publishing.specs.Published.{PublicationDue}
use Rattle.publishing.specs.Settings.{AreLegal}
use Rattle.publishing.proofs.LegalSettings.{one_settings, settings_legal}
use Rattle.publishing.proofs.OnePublication.{one_publication}
use Rattle.publishing.proofs.ShortestPolicy.{due_is_shortest, verdicts_held}
use Rattle.job_join.specs.Meaning.{IsReady, due_of, JoinDue, refused, kept, IsShortestJoin, meaning_of_join}
use Rattle.job_join.specs.Verdicts.{AreNamed, AllGive, IsFirstRefused, IsJoint}
use Rattle.job_join.specs.Words.{SpellsParts, SpellsJoin, domains_in, behind_domains, join_options}
use Rattle.job_join.specs.declared.join.Join.{Join}

-- ---- the words
named_all : (words : List (List ℕ)) (domains : List Domain) → AllZip IsDomain words domains → AreNamed domains
named_all [] [] each = tt
named_all [] (d ∷ domains) each = absurd each
named_all (word ∷ words) [] each = absurd each
named_all (word ∷ words) (d ∷ domains) each = (each.0.named, named_all words domains each.1)

first_named : (first : List ℕ) (others : List (List ℕ)) (domains : List Domain) (domain : Domain)
    → AllZip IsDomain (first ∷ others) domains → IsDomain first domain
    → (rest : List Domain) × (domains ≡ domain ∷ rest)
first_named first others [] domain each is = absurd each
first_named first others (d ∷ domains) domain each is =
    (domains, ap (λ (e : Domain). e ∷ domains) (one_domain first d domain each.0 is))

ready_parts : (front rest : List (List ℕ)) (job : Join) → SpellsParts front rest job → IsReady job
ready_parts [] rest job is = absurd is
ready_parts (first ∷ others) rest job is =
    let front = first_named first others job.domains job.settings.domain is.named.each is.settings.named in
    record {
      named = named_all (first ∷ others) job.domains is.named.each;
      legal = settings_legal join_options first rest job.settings is.settings;
      modest = limits_modest join_options rest job.limits is.reading;
      others = front.0;
      first = front.1;
    }

pub join_ready : (words : List (List ℕ)) (job : Join) → SpellsJoin words job → IsReady job
join_ready words job is = ready_parts (domains_in words) (behind_domains words) job is

same_domains : (words : List (List ℕ)) (a b : List Domain) → AllZip IsDomain words a → AllZip IsDomain words b → a ≡ b
same_domains [] [] [] x y = refl
same_domains [] [] (e ∷ b) x y = absurd y
same_domains [] (d ∷ a) b x y = absurd x
same_domains (word ∷ words) [] b x y = absurd x
same_domains (word ∷ words) (d ∷ a) [] x y = absurd y
same_domains (word ∷ words) (d ∷ a) (e ∷ b) x y =
    ap₂ (λ (f : Domain) (fs : List Domain). f ∷ fs) (one_domain word d e x.0 y.0) (same_domains words a b x.1 y.1)

one_parts : (front rest : List (List ℕ)) (a b : Join) → SpellsParts front rest a → SpellsParts front rest b → a ≡ b
one_parts [] rest a b x y = absurd x
one_parts (first ∷ others) rest a b x y =
    let domains : a.domains ≡ b.domains =
    same_domains (first ∷ others) a.domains b.domains x.named.each y.named.each in
    let settings : a.settings ≡ b.settings =
    one_settings join_options first rest a.settings b.settings x.settings y.settings in
    let limits : a.limits ≡ b.limits = one_limits join_options rest a.limits b.limits x.reading y.reading in
    let weakest : a.weakest ≡ b.weakest =
    one_flag_is join_options rest (codes "--weakest") a.weakest b.weakest x.taking y.taking in
    let inputs : a.inputs ≡ b.inputs =
    one_inputs Zones (behind_options join_options rest) a.inputs b.inputs x.zones y.zones in
    λ i. record {
      domains = domains i;
      settings = settings i;
      limits = limits i;
      weakest = weakest i;
      inputs = inputs i;
    }

pub one_join : (words : List (List ℕ)) (a b : Join) → SpellsJoin words a → SpellsJoin words b → a ≡ b
one_join words a b x y = one_parts (domains_in words) (behind_domains words) a b x y

-- ---- what is due
never_all : (limits : Limits) (zones : List Zone) (domains : List Domain) (a : Address) (o : Outcome)
    (given : List (Address → Verdict))
    → IsFirstRefused limits zones domains a o → AllGive limits zones domains given → ⊥
never_all limits zones [] a o given first all = absurd first
never_all limits zones (d ∷ domains) a o [] first all = absurd all
never_all limits zones (d ∷ domains) a o (v ∷ given) (inl least) all =
    never_both (says zones) limits d.text a o v least all.0
never_all limits zones (d ∷ domains) a o (v ∷ given) (inr behind) all =
    never_all limits zones domains a o given behind.1 all.1

one_first : (limits : Limits) (zones : List Zone) (domains : List Domain) (a b : Address) (o p : Outcome)
    → IsFirstRefused limits zones domains a o → IsFirstRefused limits zones domains b p → (a ≡ b) × (o ≡ p)
one_first limits zones [] a b o p x y = absurd x
one_first limits zones (d ∷ domains) a b o p (inl x) (inl y) = one_refused (says zones) limits d.text a b o p x y
one_first limits zones (d ∷ domains) a b o p (inl x) (inr y) =
    absurd (never_both (says zones) limits d.text a o y.0.0 x y.0.1)
one_first limits zones (d ∷ domains) a b o p (inr x) (inl y) =
    absurd (never_both (says zones) limits d.text b p x.0.0 y x.0.1)
one_first limits zones (d ∷ domains) a b o p (inr x) (inr y) = one_first limits zones domains a b o p x.1 y.1

refused_once : (a b : Address) (o p : Outcome) → (a ≡ b) × (o ≡ p) → Refuses (NoVerdict a o) ≡ Refuses (NoVerdict b p)
refused_once a b o p same = ap₂ (λ (c : Address) (q : Outcome). Refuses (NoVerdict c q)) same.0 same.1

-- the domains give each address one verdict each
same_given : (limits : Limits) (zones : List Zone) (domains : List Domain) (x y : List (Address → Verdict))
    → AllGive limits zones domains x → AllGive limits zones domains y → (a : Address) → IsAddress a
    → map (λ verdict_of. verdict_of a) x ≡ map (λ verdict_of. verdict_of a) y
same_given limits zones [] [] [] x y a one = refl
same_given limits zones [] [] (w ∷ ws) x y a one = absurd y
same_given limits zones [] (v ∷ vs) ws x y a one = absurd x
same_given limits zones (d ∷ domains) [] ws x y a one = absurd x
same_given limits zones (d ∷ domains) (v ∷ vs) [] x y a one = absurd y
same_given limits zones (d ∷ domains) (v ∷ vs) (w ∷ ws) x y a one =
    ap₂ (λ (e : Verdict) (es : List Verdict). e ∷ es) (one_verdict (says zones) limits d.text v w x.0 y.0 a one)
    (same_given limits zones domains vs ws x.1 y.1 a one)

one_due : (job : Join) (loaded : Loaded) (x y : Due) → JoinDue job loaded x → JoinDue job loaded y → x ≡ y
one_due job loaded x y (refused a o first is) (refused b p first' is') =
    is ∙ (refused_once a b o p (one_first job.limits loaded.zones job.domains a b o p first first') ∙ sym is')
one_due job loaded x y (refused a o first is) (kept given v4 v6 r each joint due is') =
    absurd (never_all job.limits loaded.zones job.domains a o given first each)
one_due job loaded x y (kept given v4 v6 r each joint due is) (refused a o first is') =
    absurd (never_all job.limits loaded.zones job.domains a o given first each)
one_due job loaded x y (kept given v4 v6 r each joint due is) (kept given' w4 w6 s each' joint' due' is') =
    let same : (a : Address) → IsAddress a → verdict_at v4 v6 a ≡ verdict_at w4 w6 a =
    λ a one. joint a one
    ∙ (ap (λ (vs : List Verdict). joined job.weakest vs)
    (same_given job.limits loaded.zones job.domains given given' each each' a one) ∙ sym (joint' a one)) in
    let published : r ≡ s =
    one_publication job.settings loaded.zones v4 v6 w4 w6 r s (λ a lt. same (V4 a) lt) (λ a lt. same (V6 a) lt)
    due due' in
    is ∙ (ap due_of published ∙ sym is')

-- ---- what is best
gives_refuses : {output : Output} {why : Refusal} → Gives output ≡ Refuses why → ⊥
gives_refuses e = cc

gives_once : {a b : Output} → Gives a ≡ Gives b → a ≡ b
gives_once e = cc

held : (job : Join) (zones : List Zone) (others : List Domain) (given : List (Address → Verdict))
    → AreLegal job.settings → AllGive job.limits zones (job.settings.domain ∷ others) given
    → HoldsName zones job.settings.domain.name
held job zones others [] legal each = absurd each
held job zones others (v ∷ given) legal each = verdicts_held job.settings job.limits zones v legal each.0

best_of : (job : Join) (loaded : Loaded) (output : Output) (given : List (Address → Verdict)) (v4 v6 : ℕ → Verdict)
    (r : Result (List ℕ) Refusal) → IsReady job → AllGive job.limits loaded.zones job.domains given
    → IsJoint job.weakest given v4 v6 → PublicationDue job.settings loaded.zones v4 v6 r → Gives output ≡ due_of r
    → IsShortestJoin job loaded output
best_of job loaded output given v4 v6 (Err why) ready each joint due is = absurd (gives_refuses is)
best_of job loaded output given v4 v6 (Ok bytes) ready each joint due is =
    let same : output ≡ record { bytes = bytes; asked = [] } = gives_once is in
    let written : output.bytes ≡ bytes = ap (λ (o : Output). o.bytes) same in
    let all : AllGive job.limits loaded.zones (job.settings.domain ∷ ready.others) given =
    subst (λ (ds : List Domain). AllGive job.limits loaded.zones ds given) ready.first each in
    record {
      given = given;
      v4 = v4;
      v6 = v6;
      each = each;
      joint = joint;
      shortest = due_is_shortest job.settings loaded.zones v4 v6 output.bytes ready.legal
          (held job loaded.zones ready.others given ready.legal all)
          (subst (λ (b : List ℕ). PublicationDue job.settings loaded.zones v4 v6 (Ok b)) (sym written) due);
      untold = ap (λ (o : Output). o.asked) same;
    }

best_due : (job : Join) → IsReady job → (loaded : Loaded) (output : Output) → JoinDue job loaded (Gives output)
    → IsShortestJoin job loaded output
best_due job ready loaded output (refused a o first is) = absurd (gives_refuses is)
best_due job ready loaded output (kept given v4 v6 r each joint due is) =
    best_of job loaded output given v4 v6 r ready each joint due is

pub join_lawful : (job : Join) → IsLawful (meaning_of_join job)
join_lawful job = record { one = one_due job; best = best_due job }
