-- What is due, step by step.
use Rattle.std.proofs.Common.{◌≡◌, ◌<◌, ◌≤◌, ◌+◌, ℕ, Bool, true, false, IsFalse, nat_lt, List, length, Result, Ok, Err, IfOk, refl, ap, subst, arith}
use Rattle.std.proofs.lemmas.Bool.{ltb-true, ltb-false}
use Rattle.addr_bits.specs.Prefix.{Cidr}
use Rattle.zone_answers.specs.Names.{has_own_alias, other_text_of}
use Rattle.zone_answers.specs.Zone.{Zone}
use Rattle.spf_grammar.specs.declared.flat.FlatTerm.{FlatTerm}
use Rattle.spf_grammar.specs.declared.verdict.Verdict.{Verdict}
use Rattle.spf_model.specs.declared.outcome.Limits.{Limits}
use Rattle.verdict_map.specs.declared.fault.VerdictFault.{VerdictFault}
use Rattle.verdict_map.specs.declared.fault.VerdictFault.TheVariants.{Refused, Memory}
use Rattle.fewest_terms.specs.Chosen.{chosen_list}
use Rattle.fewest_terms.specs.Leaves.{verdict_at as trie_verdict}
use Rattle.fewest_terms.specs.Row.{NeedRow}
use Rattle.fewest_terms.specs.Tables.{need_rows}
use Rattle.fewest_terms.specs.Totals.{total}
use Rattle.loading.specs.declared.refusal.Refusal.{Refusal}
use Rattle.loading.specs.Memory.{ErrorIs, refusal_of}
use Rattle.policy_verdicts.specs.Policy.{IsPolicyFault, KeepVerdicts}
use Rattle.publishing.specs.Policy.{PolicyDue, refused, kept}
use Rattle.publishing.specs.Published.{IsChosenCut, IsTooBig, IsFirstTakenRefusal, is_record_taken}
use Rattle.publishing.specs.Published.{ListDue, too_big, taken, PublicationDue, packed}
use Rattle.publishing.specs.declared.settings.ChainSettings.{ChainSettings}

-- ---- from the list to the verdicts
-- a list, its rows and its total, as they are chosen
pub record IsChosen (v4 v6 : ℕ → Verdict) (list : List FlatTerm) (rows4 rows6 : List NeedRow) (sum : ℕ) : Type 0 where
  pub list_is : list ≡ chosen_list v4 v6
  pub rows4_are : rows4 ≡ need_rows 32 v4 32 0
  pub rows6_are : rows6 ≡ need_rows 128 v6 128 0
  pub sum_is : sum ≡ total v4 v6

pub list_due : (want : ChainSettings) (zones : List Zone) (v4 v6 : ℕ → Verdict) (list : List FlatTerm) (rows4 rows6 : List NeedRow) (sum : ℕ) (due : Result (List ℕ) Refusal)
    → IsFalse (has_own_alias zones want.domain.name) → IsChosen v4 v6 list rows4 rows6 sum → ListDue want zones list rows4 rows6 sum due → PublicationDue want zones v4 v6 due
list_due want zones v4 v6 list rows4 rows6 sum due own is h = packed own (rw (is.list_is, is.rows4_are, is.rows6_are, is.sum_is) at h)

pub list_written : {E : Type 0} (want : ChainSettings) (zones : List Zone) (v4 v6 : ℕ → Verdict) (list : List FlatTerm) (rows4 rows6 : List NeedRow) (sum : ℕ) (r : Result (List ℕ) E)
    → IsFalse (has_own_alias zones want.domain.name) → IsChosen v4 v6 list rows4 rows6 sum
    → IfOk r (λ bytes. ListDue want zones list rows4 rows6 sum (Ok bytes)) → IfOk r (λ bytes. PublicationDue want zones v4 v6 (Ok bytes))
list_written want zones v4 v6 list rows4 rows6 sum (Ok bytes) own is h = list_due want zones v4 v6 list rows4 rows6 sum (Ok bytes) own is h
list_written want zones v4 v6 list rows4 rows6 sum (Err e) own is h = tt

-- ---- why a list gives no fragment
pub too_big_due : (want : ChainSettings) (zones : List Zone) (list : List FlatTerm) (rows4 rows6 : List NeedRow) (sum : ℕ) (why : Refusal)
    → IsTooBig want (other_text_of zones want.domain.name) list why → ListDue want zones list rows4 rows6 sum (Err why)
too_big_due want zones list rows4 rows6 sum why h = too_big h.1 (ap (λ (w : Refusal). Err w) h.0)

pub taken_due : (want : ChainSettings) (zones : List Zone) (list : List FlatTerm) (rows4 rows6 : List NeedRow) (sum : ℕ) (ends : List ℕ) (why : Refusal)
    → IsChosenCut want (other_text_of zones want.domain.name) list ends → IsFirstTakenRefusal want zones (length ends) why → ListDue want zones list rows4 rows6 sum (Err why)
taken_due want zones list rows4 rows6 sum ends why chosen h = taken ends h.0 chosen h.1 (ap (λ (w : Refusal). Err w) h.2)

-- ---- names that are taken
-- one more name is free
pub free_more : (want : ChainSettings) (zones : List Zone) (n : ℕ) → ((j : ℕ) → 1 ≤ j → j < n → IsFalse (is_record_taken want zones j)) → is_record_taken want zones n ≡ false
    → (j : ℕ) → 1 ≤ j → j < n + 1 → IsFalse (is_record_taken want zones j)
free_more want zones n free last j behind below = by (nat_lt j n) refl
  where
    by : (b : Bool) → nat_lt j n ≡ b → IsFalse (is_record_taken want zones j)
    by true e = free j behind (ltb-true j n e)
    by false e =
        let at_least : n ≤ j = ltb-false j n e in
        let same : n ≡ j = omega (arith, at_least, below) in
        subst (λ (k : ℕ). is_record_taken want zones k ≡ false) same last

-- ---- from the verdicts to the policy
pub policy_refused : (want : ChainSettings) (limits : Limits) (zones : List Zone) (fault : VerdictFault) → IsPolicyFault limits zones want.domain.text fault
    → ErrorIs (λ why. PolicyDue want limits zones (Err why)) (refusal_of fault)
policy_refused want limits zones (Refused address outcome) least = refused address outcome least refl
policy_refused want limits zones Memory least = tt

pub policy_written : {E : Type 0} (want : ChainSettings) (limits : Limits) (zones : List Zone) (v4 v6 : List (Cidr × Verdict)) (r : Result (List ℕ) E) → KeepVerdicts limits zones want.domain.text v4 v6
    → IfOk r (λ bytes. PublicationDue want zones (trie_verdict 32 v4) (trie_verdict 128 v6) (Ok bytes)) → IfOk r (λ bytes. PolicyDue want limits zones (Ok bytes))
policy_written want limits zones v4 v6 (Ok bytes) keep h = kept (trie_verdict 32 v4) (trie_verdict 128 v6) keep h
policy_written want limits zones v4 v6 (Err e) keep h = tt

pub policy_stopped : (want : ChainSettings) (limits : Limits) (zones : List Zone) (v4 v6 : List (Cidr × Verdict)) → KeepVerdicts limits zones want.domain.text v4 v6 → (why : Refusal)
    → PublicationDue want zones (trie_verdict 32 v4) (trie_verdict 128 v6) (Err why) → PolicyDue want limits zones (Err why)
policy_stopped want limits zones v4 v6 keep why h = kept (trie_verdict 32 v4) (trie_verdict 128 v6) keep h
