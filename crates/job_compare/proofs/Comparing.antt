-- What is due, from what the steps of the job answer.
use Rattle.std.proofs.Common.{◌≡◌, List, [], refl}
use Rattle.addr_bits.specs.Prefix.{Cidr}
use Rattle.spf_grammar.specs.declared.verdict.Verdict.{Verdict}
use Rattle.fewest_terms.specs.Leaves.{verdict_at as trie_verdict}
use Rattle.verdict_map.specs.declared.fault.VerdictFault.{VerdictFault}
use Rattle.verdict_map.specs.declared.fault.VerdictFault.TheVariants.{Refused, Memory}
use Rattle.policy_verdicts.specs.Policy.{IsPolicyFault, KeepVerdicts, verdict_at}
use Rattle.policy_compare.specs.Changes.{AreChanges}
use Rattle.policy_compare.specs.declared.change.Change.{Change}
use Rattle.loading.specs.Memory.{ErrorIs, refusal_of}
use Rattle.loading.specs.declared.loaded.Loaded.{Loaded}
use Rattle.loading.specs.declared.refusal.Refusal.{Refusal}
use Rattle.jobs.specs.Meaning.{Refuses, Gives}
use Rattle.jobs.specs.declared.output.Output.{Output}
use Rattle.job_compare.specs.Lines.{changes_text}
use Rattle.job_compare.specs.Meaning.{CompareDue, one_refused, two_refused, compared, second_zones}
use Rattle.job_compare.specs.declared.compare.Compare.{Compare}

-- what is refused is due
abbrev IsDueFault : Compare → Loaded → VerdictFault → Type 0
IsDueFault job loaded fault = ErrorIs (λ (why : Refusal). CompareDue job loaded (Refuses why)) (refusal_of fault)

pub first_fault : (job : Compare) (loaded : Loaded) (fault : VerdictFault)
    → IsPolicyFault job.limits loaded.zones job.one.text fault → IsDueFault job loaded fault
first_fault job loaded (Refused address outcome) is = one_refused address outcome is refl
first_fault job loaded Memory is = tt

pub second_fault : (job : Compare) (loaded : Loaded) (v4 v6 : List (Cidr × Verdict)) (fault : VerdictFault)
    → KeepVerdicts job.limits loaded.zones job.one.text v4 v6
    → IsPolicyFault job.limits (second_zones job loaded) job.two.text fault → IsDueFault job loaded fault
second_fault job loaded v4 v6 (Refused address outcome) one is =
    two_refused (verdict_at (trie_verdict 32 v4) (trie_verdict 128 v6)) address outcome one is refl
second_fault job loaded v4 v6 Memory one is = tt

pub compared_output : (job : Compare) (loaded : Loaded) (v4 v6 w4 w6 : List (Cidr × Verdict)) (changes : List Change)
    (output : Output) → KeepVerdicts job.limits loaded.zones job.one.text v4 v6
    → KeepVerdicts job.limits (second_zones job loaded) job.two.text w4 w6
    → AreChanges (trie_verdict 32 v4) (trie_verdict 128 v6) (trie_verdict 32 w4) (trie_verdict 128 w6) changes
    → output.bytes ≡ changes_text changes → output.asked ≡ [] → CompareDue job loaded (Gives output)
compared_output job loaded v4 v6 w4 w6 changes output one two are bytes asked =
    compared (trie_verdict 32 v4) (trie_verdict 128 v6) (trie_verdict 32 w4) (trie_verdict 128 w6) changes one two are
    (λ i. Gives (record { bytes = bytes i; asked = asked i }))
