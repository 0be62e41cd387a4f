-- What a trial comes to, step by step.
use Rattle.std.proofs.Common.{◌≡◌, ◌+◌, ◌≤◌, ℕ, List, [], length, sym, ap₂, subst, ◌∙◌}
use Rattle.addr_bits.specs.Prefix.{Cidr}
use Rattle.master_reader.specs.Reading.{Reads}
use Rattle.master_reader.specs.declared.record.Record.{Record}
use Rattle.master_reader.proofs.Once.{reads_once}
use Rattle.zone_answers.specs.Lend.{AreLendable, IsLent, with_zone}
use Rattle.zone_answers.specs.Zone.{Zone}
use Rattle.zone_answers.proofs.Reading.{read_lendable}
use Rattle.spf_grammar.specs.declared.flat.FlatTerm.{FlatTerm}
use Rattle.spf_grammar.specs.declared.verdict.Verdict.{Verdict}
use Rattle.spf_model.specs.Check.{receiver_limits}
use Rattle.policy_verdicts.specs.Policy.{KeepVerdicts}
use Rattle.fewest_terms.specs.Chosen.{chosen_list}
use Rattle.fewest_terms.specs.Leaves.{verdict_at as trie_verdict}
use Rattle.fewest_terms.specs.Row.{NeedRow}
use Rattle.fewest_terms.specs.Tables.{need_rows}
use Rattle.fewest_terms.specs.Totals.{total}
use Rattle.spf_gen.specs.Generated.{zone_text}
use Rattle.spf_gen.specs.Records.{zone_records}
use Rattle.spf_gen.proofs.Reading.{zone_is_read}
use Rattle.policy_trial.specs.Trial.{trial_name, trial_text, HasReading, IsTrialZone, LeastRecords, TrialDue}
use Rattle.policy_trial.specs.Verdicts.{HaveVerdicts, trial_verdict}
use Rattle.policy_trial.specs.declared.summary.Summary.{Summary}
use Rattle.policy_trial.proofs.OneTrial.{one_zone}
use Rattle.policy_trial.proofs.Rows.{rows_counted}
use Rattle.policy_trial.proofs.Verdicts.{trials_have_verdicts}
use Rattle.policy_trial.proofs.ZoneLent.{zone_lent}

-- ---- the zone
pub bytes_read : (start networks : ℕ) (bytes : List ℕ) → bytes ≡ zone_text start networks → networks ≤ 10000 → HasReading trial_name bytes
bytes_read start networks bytes is few = (zone_records start networks, subst (λ (b : List ℕ). Reads trial_name b (zone_records start networks)) (sym is) (zone_is_read start networks few))

-- the records that were read
pub record Taken (start networks : ℕ) (records : List Record) : Type 0 where
  pub reads : Reads trial_name (zone_text start networks) records
  pub lendable : AreLendable trial_name records
  pub lent : IsLent [] trial_name records

pub records_taken : (start networks : ℕ) (bytes : List ℕ) (records : List Record) → bytes ≡ zone_text start networks → networks ≤ 10000 → Reads trial_name bytes records → Taken start networks records
records_taken start networks bytes records is few reads =
    let whole : Reads trial_name (zone_text start networks) records = subst (λ (b : List ℕ). Reads trial_name b records) is reads in
    record {
      reads = whole;
      lendable = read_lendable trial_name (zone_text start networks) records whole;
      lent =
          subst (λ (rs : List Record). IsLent [] trial_name rs) (reads_once trial_name (zone_text start networks) (zone_records start networks) records (zone_is_read start networks few) whole)
          (zone_lent start networks);
    }

pub zone_taken : (start networks : ℕ) (records : List Record) (zones : List Zone) → Taken start networks records → zones ≡ with_zone [] trial_name records → IsTrialZone start networks zones
zone_taken start networks records zones taken is = record { records = records; reads = taken.reads; lent = taken.lent; alone = is }

-- ---- its verdicts
pub zone_has_verdicts : (start networks : ℕ) (zones : List Zone) → networks ≤ 10000 → IsTrialZone start networks zones → HaveVerdicts zones
zone_has_verdicts start networks zones few zone =
    let has = trials_have_verdicts start networks few in
    subst (λ (zs : List Zone). HaveVerdicts zs) (one_zone start networks has.zones zones has.zone zone) (trial_verdict start networks, has.verdicts)

-- ---- the trial
-- what is told of a list, its rows and its total
pub record Tells (list : List FlatTerm) (rows4 rows6 : List NeedRow) (sum : ℕ) (summary : Summary) : Type 0 where
  pub fewest : summary.fewest ≡ sum
  pub rows : summary.rows ≡ length rows4 + length rows6
  pub records : LeastRecords list summary.records

pub summed_due : (start networks : ℕ) (zones : List Zone) (v4 v6 : List (Cidr × Verdict)) (list : List FlatTerm) (rows4 rows6 : List NeedRow) (sum : ℕ) (summary : Summary)
    → IsTrialZone start networks zones → KeepVerdicts receiver_limits zones trial_text v4 v6
    → list ≡ chosen_list (trie_verdict 32 v4) (trie_verdict 128 v6) → rows4 ≡ need_rows 32 (trie_verdict 32 v4) 32 0
    → rows6 ≡ need_rows 128 (trie_verdict 128 v6) 128 0 → sum ≡ total (trie_verdict 32 v4) (trie_verdict 128 v6)
    → Tells list rows4 rows6 sum summary → TrialDue start networks summary
summed_due start networks zones v4 v6 list rows4 rows6 sum summary due kept chosen four six summed_up tells = (
  zones,
  due,
  record {
    v4 = trie_verdict 32 v4;
    v6 = trie_verdict 128 v6;
    verdicts = kept;
    fewest = tells.fewest ∙ summed_up;
    rows = tells.rows ∙ (ap₂ (λ (a b : List NeedRow). length a + length b) four six ∙ rows_counted (trie_verdict 32 v4) (trie_verdict 128 v6));
    records = subst (λ (l : List FlatTerm). LeastRecords l summary.records) chosen tells.records;
  },
)
