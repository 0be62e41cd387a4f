-- The laws of the job.
use Rattle.std.specs.Prelude.{◌≡◌, ℕ, Bool, true, false, List, [], ◌∷◌, ◌++◌}
use Rattle.std.specs.List.{before_first, after_first, list_any}
use Rattle.std.proofs.Common.{arith, refl, sym, ap, ap₂, subst, ◌∙◌}
use Rattle.addr_bits.specs.declared.address.Address.{Address}
use Rattle.addr_bits.specs.declared.address.Address.TheVariants.{V4, V6}
use Rattle.zone_answers.specs.Zone.{Zone}
use Rattle.spf_grammar.specs.declared.verdict.Verdict.{Verdict}
use Rattle.spf_model.specs.Result as model
use Rattle.spf_model.specs.Run.{says}
use Rattle.spf_model.specs.declared.outcome.Outcome.{Outcome}
use Rattle.spf_model.specs.declared.outcome.Outcome.TheVariants.{Is}
use Rattle.policy_compare.specs.Changes.{AreChanges}
use Rattle.policy_compare.specs.Laws.{Agree}
use Rattle.policy_compare.specs.declared.change.Change.{Change}
use Rattle.policy_compare.proofs.OneList.{one_list_of_changes, none_where_equal}
use Rattle.policy_verdicts.specs.Policy.{verdict_at}
use Rattle.policy_verdicts.proofs.OneAnswer.{one_refused as one_least, never_both, one_verdict}
use Rattle.spfc_words.specs.Limits.{reading_options}
use Rattle.spfc_words.specs.Options.{behind_options}
use Rattle.spfc_words.specs.declared.input.Group.TheVariants.{Zones, Others}
use Rattle.spfc_words.specs.declared.input.Input.{Input}
use Rattle.spfc_words.proofs.Domains.{one_domain}
use Rattle.spfc_words.proofs.Inputs.{one_inputs}
use Rattle.spfc_words.proofs.ReadingLimits.{one_limits, limits_modest}
use Rattle.loading.specs.declared.loaded.Loaded.{Loaded}
use Rattle.loading.specs.declared.refusal.Refusal.{Refusal}
use Rattle.loading.specs.declared.refusal.Refusal.TheVariants.{NoVerdict}
use Rattle.jobs.specs.Meaning.{Due, Refuses, Gives, IsLawful}
use Rattle.jobs.specs.declared.output.Output.{Output}
use Rattle.job_compare.specs.Lines.{changes_text}
use Rattle.job_compare.specs.Meaning.{second_zones, OneHas, TwoHas, CompareDue, one_refused, two_refused, compared}
use Rattle.job_compare.specs.Meaning.{AreEqual, IsComparison, IsReady, meaning_of_compare}
use Rattle.job_compare.specs.Words.{SpellsCompare, AreGroupsBy, is_with}
use Rattle.job_compare.specs.declared.compare.Compare.{Compare}
use Rattle.job_compare.specs.declared.groups.Groups.{Groups}

-- ---- the words
pub compare_ready : (words : List (List ℕ)) (job : Compare) → SpellsCompare words job → IsReady job
compare_ready [] job is = absurd is
compare_ready (one ∷ []) job is = absurd is
compare_ready (one ∷ two ∷ words) job is = record {
  one = is.first.named;
  two = is.second.named;
  modest = limits_modest reading_options words job.limits is.reading;
}

same_groups : (a b : Groups) → a.inputs ≡ b.inputs → a.second ≡ b.second → a ≡ b
same_groups a b inputs second = λ i. record { inputs = inputs i; second = second i }

one_groups : (with : Bool) (words : List (List ℕ)) (a b : Groups) → AreGroupsBy with words a → AreGroupsBy with words b
    → a ≡ b
one_groups true words a b x y =
    let first : x.first ≡ y.first =
    one_inputs Zones (before_first is_with words) x.first y.first x.zones y.zones in
    let others : x.others ≡ y.others =
    one_inputs Others (after_first is_with words) x.others y.others x.other_zones y.other_zones in
    same_groups a b (x.both ∙ (ap₂ (λ (p q : List Input). p ++ q) first others ∙ sym y.both)) (x.second ∙ sym y.second)
one_groups false words a b x y =
    same_groups a b (one_inputs Zones words a.inputs b.inputs x.zones y.zones) (x.second ∙ sym y.second)

pub one_compare : (words : List (List ℕ)) (a b : Compare) → SpellsCompare words a → SpellsCompare words b → a ≡ b
one_compare [] a b x y = absurd x
one_compare (one ∷ []) a b x y = absurd x
one_compare (one ∷ two ∷ words) a b x y =
    let first : a.one ≡ b.one = one_domain one a.one b.one x.first y.first in
    let second : a.two ≡ b.two = one_domain two a.two b.two x.second y.second in
    let reading : a.limits ≡ b.limits = one_limits reading_options words a.limits b.limits x.reading y.reading in
    let rest : List (List ℕ) = behind_options reading_options words in
    let zones : a.groups ≡ b.groups = one_groups (list_any is_with rest) rest a.groups b.groups x.zones y.zones in
    λ i. record { one = first i; two = second i; limits = reading i; groups = zones i }

-- ---- what is due
refused_once : (a b : Address) (o p : Outcome) → (a ≡ b) × (o ≡ p) → Refuses (NoVerdict a o) ≡ Refuses (NoVerdict b p)
refused_once a b o p same = ap₂ (λ (c : Address) (q : Outcome). Refuses (NoVerdict c q)) same.0 same.1

abbrev due_of : List Change → Due
due_of changes = Gives (record { bytes = changes_text changes; asked = [] })

changes_once : (job : Compare) (loaded : Loaded) (v4 v6 w4 w6 x4 x6 y4 y6 : ℕ → Verdict) (p q : List Change)
    → OneHas job loaded (verdict_at v4 v6) → TwoHas job loaded (verdict_at w4 w6)
    → OneHas job loaded (verdict_at x4 x6) → TwoHas job loaded (verdict_at y4 y6)
    → AreChanges v4 v6 w4 w6 p → AreChanges x4 x6 y4 y6 q → p ≡ q
changes_once job loaded v4 v6 w4 w6 x4 x6 y4 y6 p q one two one' two' are are' =
    let firsts =
    one_verdict (says loaded.zones) job.limits job.one.text (verdict_at v4 v6) (verdict_at x4 x6) one one' in
    let seconds =
    one_verdict (says (second_zones job loaded)) job.limits job.two.text (verdict_at w4 w6) (verdict_at y4 y6) two
    two' in
    one_list_of_changes v4 v6 w4 w6 x4 x6 y4 y6 p q (λ a below. firsts (V4 a) below) (λ a below. firsts (V6 a) below)
    (λ a below. seconds (V4 a) below) (λ a below. seconds (V6 a) below) are are'

one_due : (job : Compare) (loaded : Loaded) (x y : Due) → CompareDue job loaded x → CompareDue job loaded y → x ≡ y
one_due job loaded x y (one_refused a o least is) (one_refused b p least' is') =
    is ∙ (refused_once a b o p (one_least (says loaded.zones) job.limits job.one.text a b o p least least') ∙ sym is')
one_due job loaded x y (one_refused a o least is) (two_refused v b p one least' is') =
    absurd (never_both (says loaded.zones) job.limits job.one.text a o v least one)
one_due job loaded x y (one_refused a o least is) (compared v4 v6 w4 w6 changes one two are is') =
    absurd (never_both (says loaded.zones) job.limits job.one.text a o (verdict_at v4 v6) least one)
one_due job loaded x y (two_refused v b p one least is) (one_refused a o least' is') =
    absurd (never_both (says loaded.zones) job.limits job.one.text a o v least' one)
one_due job loaded x y (two_refused v a o one least is) (two_refused w b p one' least' is') =
    is ∙ (refused_once a b o p
    (one_least (says (second_zones job loaded)) job.limits job.two.text a b o p least least') ∙ sym is')
one_due job loaded x y (two_refused v a o one least is) (compared v4 v6 w4 w6 changes one' two are is') =
    absurd (never_both (says (second_zones job loaded)) job.limits job.two.text a o (verdict_at w4 w6) least two)
one_due job loaded x y (compared v4 v6 w4 w6 changes one two are is) (one_refused a o least is') =
    absurd (never_both (says loaded.zones) job.limits job.one.text a o (verdict_at v4 v6) least one)
one_due job loaded x y (compared v4 v6 w4 w6 changes one two are is) (two_refused v a o one' least is') =
    absurd (never_both (says (second_zones job loaded)) job.limits job.two.text a o (verdict_at w4 w6) least two)
one_due job loaded x y (compared v4 v6 w4 w6 p one two are is) (compared x4 x6 y4 y6 q one' two' are' is') =
    is ∙ (ap due_of (changes_once job loaded v4 v6 w4 w6 x4 x6 y4 y6 p q one two one' two' are are') ∙ sym is')

-- ---- what is best
abbrev first_byte : List ℕ → ℕ
first_byte [] = 0
first_byte (byte ∷ bytes) = byte

-- the text of no change is that of no other list
text_of_none : (changes : List Change) → changes_text changes ≡ changes_text [] → changes ≡ []
text_of_none [] e = refl
text_of_none (change ∷ changes) e = absurd (omega (arith, ap first_byte e))

moved : (zones : List Zone) (job : Compare) (domain : List ℕ) (v4 v6 w4 w6 : ℕ → Verdict) → Agree 32 v4 w4
    → Agree 128 v6 w6 → model.AllHave (says zones) job.limits domain (verdict_at w4 w6)
    → model.AllHave (says zones) job.limits domain (verdict_at v4 v6)
moved zones job domain v4 v6 w4 w6 four six all (V4 a) below =
    subst (λ (v : Verdict). model.Gives (says zones) job.limits domain (V4 a) (Is v)) (sym (four a below))
    (all (V4 a) below)
moved zones job domain v4 v6 w4 w6 four six all (V6 a) below =
    subst (λ (v : Verdict). model.Gives (says zones) job.limits domain (V6 a) (Is v)) (sym (six a below))
    (all (V6 a) below)

equal_both : (job : Compare) (loaded : Loaded) (v4 v6 w4 w6 : ℕ → Verdict) → OneHas job loaded (verdict_at v4 v6)
    → TwoHas job loaded (verdict_at w4 w6) → Agree 32 v4 w4 × Agree 128 v6 w6 → AreEqual job loaded
equal_both job loaded v4 v6 w4 w6 one two agree =
    (verdict_at v4 v6, one, moved (second_zones job loaded) job job.two.text v4 v6 w4 w6 agree.0 agree.1 two)

both_equal : (job : Compare) (loaded : Loaded) (v4 v6 w4 w6 : ℕ → Verdict) → OneHas job loaded (verdict_at v4 v6)
    → TwoHas job loaded (verdict_at w4 w6) → AreEqual job loaded → Agree 32 v4 w4 × Agree 128 v6 w6
both_equal job loaded v4 v6 w4 w6 one two (same, one', two') =
    let firsts = one_verdict (says loaded.zones) job.limits job.one.text (verdict_at v4 v6) same one one' in
    let seconds =
    one_verdict (says (second_zones job loaded)) job.limits job.two.text (verdict_at w4 w6) same two two' in (
      λ a below. firsts (V4 a) below ∙ sym (seconds (V4 a) below),
      λ a below. firsts (V6 a) below ∙ sym (seconds (V6 a) below),
    )

gives_refuses : {output : Output} {why : Refusal} → Gives output ≡ Refuses why → ⊥
gives_refuses e = cc

gives_once : {a b : Output} → Gives a ≡ Gives b → a ≡ b
gives_once e = cc

best_due : (job : Compare) (loaded : Loaded) (output : Output) → CompareDue job loaded (Gives output)
    → IsComparison job loaded output
best_due job loaded output (one_refused a o least is) = absurd (gives_refuses is)
best_due job loaded output (two_refused v a o one least is) = absurd (gives_refuses is)
best_due job loaded output (compared v4 v6 w4 w6 changes one two are is) =
    let same : output ≡ record { bytes = changes_text changes; asked = [] } = gives_once is in
    let bytes : output.bytes ≡ changes_text changes = ap (λ (o : Output). o.bytes) same in
    let none = none_where_equal v4 v6 w4 w6 changes are in
    record {
      v4 = v4;
      v6 = v6;
      w4 = w4;
      w6 = w6;
      one = one;
      two = two;
      changes = changes;
      are = are;
      written = bytes;
      equal = (
        λ e. equal_both job loaded v4 v6 w4 w6 one two (none.0 (text_of_none changes (sym bytes ∙ e))),
        λ equal. bytes ∙ ap changes_text (none.1 (both_equal job loaded v4 v6 w4 w6 one two equal)),
      );
      untold = ap (λ (o : Output). o.asked) same;
    }

pub compare_lawful : (job : Compare) → IsLawful (meaning_of_compare job)
compare_lawful job = record { one = one_due job; best = λ ready. best_due job }
