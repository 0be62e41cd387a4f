-- What the job means.
use Rattle.std.specs.Prelude.{◌≡◌, ◌↔◌, ℕ, List, [], Ok, codes}
use Rattle.addr_bits.specs.declared.address.Address.{Address}
use Rattle.dns_name.specs.Name.{name_of_text}
use Rattle.zone_answers.specs.Zone.{Zone}
use Rattle.spf_grammar.specs.declared.verdict.Verdict.{Verdict}
use Rattle.spf_model.specs.Result.{AllHave, AreModest}
use Rattle.spf_model.specs.Run.{says}
use Rattle.spf_model.specs.declared.outcome.Outcome.{Outcome}
use Rattle.policy_compare.specs.Changes.{AreChanges}
use Rattle.policy_compare.specs.declared.change.Change.{Change}
use Rattle.policy_verdicts.specs.Policy.{IsLeastRefused, verdict_at}
use Rattle.spfc_words.specs.declared.input.Group.{Group}
use Rattle.spfc_words.specs.declared.input.Group.TheVariants.{Zones, Others}
use Rattle.loading.specs.Lines.{line_of}
use Rattle.loading.specs.declared.loaded.Loaded.{Loaded}
use Rattle.loading.specs.declared.refusal.Refusal.TheVariants.{NoVerdict}
use Rattle.jobs.specs.Meaning.{Due, Refuses, Gives, Meaning}
use Rattle.jobs.specs.declared.output.Output.{Output}
use Rattle.job_compare.specs.Lines.{changes_text}
use Rattle.job_compare.specs.declared.compare.Compare.{Compare}

-- the zones of a group
abbrev pub zones_in : Loaded → Group → List Zone
zones_in loaded Zones = loaded.zones
zones_in loaded Others = loaded.others

-- the zones over which the second policy is read
abbrev pub second_zones : Compare → Loaded → List Zone
second_zones job loaded = zones_in loaded job.groups.second

-- RFC 7208, section 4: check_host gives each address this verdict by the first policy
abbrev pub OneHas : Compare → Loaded → (Address → Verdict) → Type 0
OneHas job loaded verdict_of = AllHave (says loaded.zones) job.limits job.one.text verdict_of

-- RFC 7208, section 4: check_host gives each address this verdict by the second policy
abbrev pub TwoHas : Compare → Loaded → (Address → Verdict) → Type 0
TwoHas job loaded verdict_of = AllHave (says (second_zones job loaded)) job.limits job.two.text verdict_of

-- what is due: each policy has a verdict for each address, or the first that has none for some address is refused; then
-- the text of the changes, and no question is told of
pub data CompareDue (job : Compare) (loaded : Loaded) (due : Due) : Type 0 where
  one_refused : (address : Address) (outcome : Outcome)
      → IsLeastRefused (says loaded.zones) job.limits job.one.text address outcome
      → due ≡ Refuses (NoVerdict address outcome) → CompareDue job loaded due
  two_refused : (verdict_of : Address → Verdict) (address : Address) (outcome : Outcome)
      → OneHas job loaded verdict_of
      → IsLeastRefused (says (second_zones job loaded)) job.limits job.two.text address outcome
      → due ≡ Refuses (NoVerdict address outcome) → CompareDue job loaded due
  compared : (v4 v6 w4 w6 : ℕ → Verdict) (changes : List Change)
      → OneHas job loaded (verdict_at v4 v6) → TwoHas job loaded (verdict_at w4 w6)
      → AreChanges v4 v6 w4 w6 changes → due ≡ Gives (record { bytes = changes_text changes; asked = [] })
      → CompareDue job loaded due

-- RFC 7208, section 4: the two policies give each IPv4 and IPv6 address the same verdict by check_host
abbrev pub AreEqual : Compare → Loaded → Type 0
AreEqual job loaded = (verdict_of : Address → Verdict) × OneHas job loaded verdict_of × TwoHas job loaded verdict_of

-- The output is the text of the changes from the verdicts that check_host gives by the first policy to those that it
-- gives by the second. It is `equal` exactly where these are the same for each address; no question is told of
pub record IsComparison (job : Compare) (loaded : Loaded) (output : Output) : Type 0 where
  pub v4 : ℕ → Verdict
  pub v6 : ℕ → Verdict
  pub w4 : ℕ → Verdict
  pub w6 : ℕ → Verdict
  pub one : OneHas job loaded (verdict_at v4 v6)
  pub two : TwoHas job loaded (verdict_at w4 w6)
  pub changes : List Change
  pub are : AreChanges v4 v6 w4 w6 changes
  pub written : output.bytes ≡ changes_text changes
  pub equal : (output.bytes ≡ line_of (codes "equal") []) ↔ AreEqual job loaded
  pub untold : output.asked ≡ []

-- both domains are legal names, and the limits are modest
pub record IsReady (job : Compare) : Type 0 where
  pub one : name_of_text job.one.text ≡ Ok job.one.name
  pub two : name_of_text job.two.text ≡ Ok job.two.name
  pub modest : AreModest job.limits

-- what the job means
abbrev pub meaning_of_compare : Compare → Meaning
meaning_of_compare job =
    record { inputs = job.groups.inputs; IsReady = IsReady job; IsDue = CompareDue job; IsBest = IsComparison job }
