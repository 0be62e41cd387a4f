-- The verdicts of the domains, one after the other.
use Rattle.std.proofs.Common.{◌≡◌, ◌<◌, ◌≤◌, ◌+◌, ◌++◌, ◌∙◌, inl, inr, ℕ, zero, suc, Bool, List, [], ◌∷◌, Ok, Err, length, map, take, get_or, refl, sym, ap, ap₂, subst, arith}
use Rattle.std.specs.List.{AllZip}
use Rattle.std.proofs.lemmas.List.{take_more}
use Rattle.std.proofs.lemmas.Slice.Zip.{AllZip-long}
use Rattle.addr_bits.specs.Address.{IsAddress}
use Rattle.addr_bits.specs.declared.address.Address.{Address}
use Rattle.addr_bits.specs.declared.address.Address.TheVariants.{V4, V6}
use Rattle.dns_name.specs.Name.{name_of_text}
use Rattle.zone_answers.specs.Zone.{Zone}
use Rattle.spf_grammar.specs.declared.verdict.Verdict.{Verdict}
use Rattle.spf_model.specs.Run.{says}
use Rattle.spf_model.specs.declared.outcome.Limits.{Limits}
use Rattle.spf_model.specs.declared.outcome.Outcome.{Outcome}
use Rattle.fewest_terms.specs.Leaves.{verdict_at as trie_verdict}
use Rattle.verdict_map.specs.declared.fault.VerdictFault.{VerdictFault}
use Rattle.verdict_map.specs.declared.fault.VerdictFault.TheVariants.{Refused, Memory}
use Rattle.verdict_map.specs.declared.tries.VerdictTries.{VerdictTries}
use Rattle.policy_verdicts.specs.Policy.{IsLeastRefused, IsPolicyFault, KeepVerdicts, verdict_at}
use Rattle.policy_join.specs.Strength.{joined}
use Rattle.policy_join.specs.Tries.{IsJoin, verdicts4, verdicts6}
use Rattle.spfc_words.specs.declared.domain.Domain.{Domain}
use Rattle.spfc_words.proofs.ZoneWords.{zip_push}
use Rattle.loading.specs.Memory.{ErrorIs, refusal_of}
use Rattle.loading.specs.declared.loaded.Loaded.{Loaded}
use Rattle.loading.specs.declared.refusal.Refusal.{Refusal}
use Rattle.jobs.specs.Meaning.{Refuses, Gives}
use Rattle.jobs.specs.declared.output.Output.{Output}
use Rattle.publishing.specs.Published.{PublicationDue}
use Rattle.job_join.specs.Meaning.{JoinDue, refused, kept}
use Rattle.job_join.specs.Verdicts.{AreNamed, AllGive, IsFirstRefused, IsFirstFault, IsJoint, KeepAll, joint}
use Rattle.job_join.specs.declared.join.Join.{Join}

pub named_at : (domains : List Domain) (i : ℕ) (domain : Domain) → i < length domains → domain ≡ get_or domains i domain → AreNamed domains → name_of_text domain.text ≡ Ok domain.name
named_at [] i domain within is named = absurd (omega (arith, within))
named_at (d ∷ domains) zero domain within is named = subst (λ (e : Domain). name_of_text e.text ≡ Ok e.name) (sym is) named.0
named_at (d ∷ domains) (suc i) domain within is named = named_at domains i domain (omega (arith, within)) is named.1

-- the verdicts of two tries
abbrev of_tries : VerdictTries → Address → Verdict
of_tries tries = verdict_at (trie_verdict 32 tries.v4) (trie_verdict 128 tries.v6)

pub refused_at : (limits : Limits) (zones : List Zone) (domains : List Domain) (i : ℕ) (domain : Domain) (all : List VerdictTries) (fault : VerdictFault) → i < length domains
    → domain ≡ get_or domains i domain → KeepAll limits zones (take i domains) all → IsPolicyFault limits zones domain.text fault → IsFirstFault limits zones domains fault
refused_at limits zones domains i domain all Memory within is keep least = tt
refused_at limits zones [] i domain all (Refused a o) within is keep least = absurd (omega (arith, within))
refused_at limits zones (d ∷ domains) zero domain all (Refused a o) within is keep least = inl (subst (λ (e : Domain). IsLeastRefused (says zones) limits e.text a o) is least)
refused_at limits zones (d ∷ domains) (suc i) domain [] (Refused a o) within is keep least = absurd keep
refused_at limits zones (d ∷ domains) (suc i) domain (tries ∷ all) (Refused a o) within is keep least =
    inr ((of_tries tries, keep.0), refused_at limits zones domains i domain all (Refused a o) (omega (arith, within)) is keep.1 least)

pub kept_more : (limits : Limits) (zones : List Zone) (domains : List Domain) (i : ℕ) (domain : Domain) (tries : VerdictTries) (all more : List VerdictTries) → i < length domains
    → domain ≡ get_or domains i domain → KeepAll limits zones (take i domains) all → KeepVerdicts limits zones domain.text tries.v4 tries.v6 → more ≡ all ++ tries ∷ []
    → KeepAll limits zones (take (i + 1) domains) more
kept_more limits zones domains i domain tries all more within is keep keeps pushed =
    let front : take (i + 1) domains ≡ take i domains ++ domain ∷ [] =
    take_more domains i domain within ∙ ap (λ (d : Domain). take i domains ++ d ∷ []) (sym is) in
    subst (λ (ts : List VerdictTries). KeepAll limits zones (take (i + 1) domains) ts) (sym pushed)
    (subst (λ (ds : List Domain). KeepAll limits zones ds (all ++ tries ∷ [])) (sym front)
    (zip_push (λ (d : Domain) (t : VerdictTries). KeepVerdicts limits zones d.text t.v4 t.v6) (take i domains) all domain tries keep keeps))

-- ---- what is due
abbrev given_of : List VerdictTries → List (Address → Verdict)
given_of all = map of_tries all

all_given : (limits : Limits) (zones : List Zone) (domains : List Domain) (all : List VerdictTries) → KeepAll limits zones domains all → AllGive limits zones domains (given_of all)
all_given limits zones [] [] keep = tt
all_given limits zones [] (tries ∷ all) keep = absurd keep
all_given limits zones (d ∷ domains) [] keep = absurd keep
all_given limits zones (d ∷ domains) (tries ∷ all) keep = (keep.0, all_given limits zones domains all keep.1)

at_four : (all : List VerdictTries) (a : ℕ) → map (λ verdict_of. verdict_of (V4 a)) (given_of all) ≡ verdicts4 all a
at_four [] a = refl
at_four (tries ∷ all) a = ap (λ (vs : List Verdict). trie_verdict 32 tries.v4 a ∷ vs) (at_four all a)

at_six : (all : List VerdictTries) (a : ℕ) → map (λ verdict_of. verdict_of (V6 a)) (given_of all) ≡ verdicts6 all a
at_six [] a = refl
at_six (tries ∷ all) a = ap (λ (vs : List Verdict). trie_verdict 128 tries.v6 a ∷ vs) (at_six all a)

joint_of : (weak : Bool) (all : List VerdictTries) (tries : VerdictTries) → IsJoin weak all tries → IsJoint weak (given_of all) (trie_verdict 32 tries.v4) (trie_verdict 128 tries.v6)
joint_of weak all tries is (V4 a) one = is.four a one ∙ ap (λ (vs : List Verdict). joined weak vs) (sym (at_four all a))
joint_of weak all tries is (V6 a) one = is.six a one ∙ ap (λ (vs : List Verdict). joined weak vs) (sym (at_six all a))

-- there is one policy at least
pub some_kept : (limits : Limits) (zones : List Zone) (first : Domain) (others domains : List Domain) (all : List VerdictTries) → domains ≡ first ∷ others → KeepAll limits zones domains all → 1 ≤ length all
some_kept limits zones first others domains all is keep =
    let long : length all ≡ length domains =
    AllZip-long (λ (d : Domain) (t : VerdictTries). KeepVerdicts limits zones d.text t.v4 t.v6) domains all keep in
    omega (arith, long, ap (λ (ds : List Domain). length ds) is)

pub fault_due : (job : Join) (loaded : Loaded) (fault : VerdictFault) → IsFirstFault job.limits loaded.zones job.domains fault
    → ErrorIs (λ (why : Refusal). JoinDue job loaded (Refuses why)) (refusal_of fault)
fault_due job loaded (Refused a o) first = refused a o first refl
fault_due job loaded Memory first = tt

pub join_refused : (job : Join) (loaded : Loaded) (all : List VerdictTries) (tries : VerdictTries) → KeepAll job.limits loaded.zones job.domains all → IsJoin job.weakest all tries
    → (why : Refusal) → PublicationDue job.settings loaded.zones (trie_verdict 32 tries.v4) (trie_verdict 128 tries.v6) (Err why) → JoinDue job loaded (Refuses why)
join_refused job loaded all tries keep is why due =
    kept (given_of all) (trie_verdict 32 tries.v4) (trie_verdict 128 tries.v6) (Err why) (all_given job.limits loaded.zones job.domains all keep) (joint_of job.weakest all tries is) due refl

pub join_written : (job : Join) (loaded : Loaded) (all : List VerdictTries) (tries : VerdictTries) (output : Output) → KeepAll job.limits loaded.zones job.domains all → IsJoin job.weakest all tries
    → PublicationDue job.settings loaded.zones (trie_verdict 32 tries.v4) (trie_verdict 128 tries.v6) (Ok output.bytes) → output.asked ≡ [] → JoinDue job loaded (Gives output)
join_written job loaded all tries output keep is due none =
    kept (given_of all) (trie_verdict 32 tries.v4) (trie_verdict 128 tries.v6) (Ok output.bytes) (all_given job.limits loaded.zones job.domains all keep) (joint_of job.weakest all tries is) due
    (λ i. Gives (record { bytes = output.bytes; asked = none i }))
