-- A trial comes to one thing.
use Rattle.std.proofs.Common.{◌≡◌, ◌+◌, ℕ, List, [], length, Option, Some, None, refl, sym, ap, ap₂, subst, ◌∙◌, arith}
use Rattle.addr_bits.specs.Address.{IsAddress}
use Rattle.addr_bits.specs.declared.address.Address.{Address}
use Rattle.addr_bits.specs.declared.address.Address.TheVariants.{V4, V6}
use Rattle.master_reader.specs.declared.record.Record.{Record}
use Rattle.master_reader.proofs.Once.{reads_once}
use Rattle.zone_answers.specs.Lend.{with_zone}
use Rattle.zone_answers.specs.Zone.{Zone}
use Rattle.spf_grammar.specs.declared.flat.FlatTerm.{FlatTerm}
use Rattle.spf_grammar.specs.declared.verdict.Verdict.{Verdict}
use Rattle.spf_model.specs.Check.{receiver_limits}
use Rattle.spf_model.specs.Run.{says}
use Rattle.fewest_terms.specs.Chosen.{chosen_list}
use Rattle.fewest_terms.specs.Needs.{mixed_count}
use Rattle.fewest_terms.specs.Row.{NeedRow}
use Rattle.fewest_terms.proofs.Whole.{below_all}
use Rattle.policy_verdicts.specs.Policy.{verdict_at}
use Rattle.policy_verdicts.proofs.OneAnswer.{one_verdict}
use Rattle.policy_verdicts.proofs.SameVerdicts.{Agree, rows_same, total_same, chosen_list_same}
use Rattle.spf_gen.specs.Generated.{zone_text}
use Rattle.policy_trial.specs.Trial.{trial_name, trial_text, IsTrialZone, LeastRecords, IsSummary, OneTrial}
use Rattle.policy_trial.proofs.Rows.{rows_counted}
use Rattle.policy_trial.specs.declared.summary.Summary.{Summary}

-- ---- the zone
pub one_zone : (start networks : ℕ) (a b : List Zone) → IsTrialZone start networks a → IsTrialZone start networks b → a ≡ b
one_zone start networks a b x y =
    x.alone ∙ (ap (λ (records : List Record). with_zone [] trial_name records) (reads_once trial_name (zone_text start networks) x.records y.records x.reads y.reads) ∙ sym y.alone)

-- ---- the summary
one_count : (list : List FlatTerm) (a b : Option ℕ) → LeastRecords list a → LeastRecords list b → a ≡ b
one_count list None None x y = refl
one_count list None (Some n) x (ends, fits, least, is) = absurd (x ends fits)
one_count list (Some m) None (ends, fits, least, is) y = absurd (y ends fits)
one_count list (Some m) (Some n) (ends, fits, least, is) (ends', fits', least', is') =
    ap Some (omega (arith, least ends' fits', least' ends fits))

-- verdicts that agree have as many mixed prefixes
counts_same : (v4 v6 u4 u6 : ℕ → Verdict) → Agree v4 u4 32 0 → Agree v6 u6 128 0
    → mixed_count v4 32 0 + mixed_count v6 128 0 ≡ mixed_count u4 32 0 + mixed_count u6 128 0
counts_same v4 v6 u4 u6 four six =
    sym (rows_counted v4 v6)
    ∙ (ap₂ (λ (m n : List NeedRow). length m + length n) (rows_same 32 v4 u4 32 0 four) (rows_same 128 v6 u6 128 0 six) ∙ rows_counted u4 u6)

one_summary : (zones : List Zone) (a b : Summary) → IsSummary zones a → IsSummary zones b → a ≡ b
one_summary zones a b x y =
    let all : (c : Address) → IsAddress c → verdict_at x.v4 x.v6 c ≡ verdict_at y.v4 y.v6 c =
    λ c one. one_verdict (says zones) receiver_limits trial_text (verdict_at x.v4 x.v6) (verdict_at y.v4 y.v6) x.verdicts y.verdicts c one in
    let four : Agree x.v4 y.v4 32 0 = record { agree = λ n e. all (V4 n) (below_all 32 n e) } in
    let six : Agree x.v6 y.v6 128 0 = record { agree = λ n e. all (V6 n) (below_all 128 n e) } in
    let fewest : a.fewest ≡ b.fewest = x.fewest ∙ (total_same x.v4 y.v4 x.v6 y.v6 four six ∙ sym y.fewest) in
    let rows : a.rows ≡ b.rows = x.rows ∙ (counts_same x.v4 x.v6 y.v4 y.v6 four six ∙ sym y.rows) in
    let records : a.records ≡ b.records =
    one_count (chosen_list y.v4 y.v6) a.records b.records
    (subst (λ list. LeastRecords list a.records) (chosen_list_same x.v4 y.v4 x.v6 y.v6 four six) x.records) y.records in
    λ i. record { fewest = fewest i; rows = rows i; records = records i }

-- ---- the trial
pub one_trial : OneTrial
one_trial start networks a b (zones, x, is) (others, y, is') =
    one_summary zones a b is (subst (λ (zs : List Zone). IsSummary zs b) (one_zone start networks others zones y x) is')
