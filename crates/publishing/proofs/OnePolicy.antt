-- For the same settings, limits and zones one thing is due at most.
use Rattle.std.proofs.Common.{◌≡◌, ◌<◌, ◌^◌, ℕ, List, Result, Err, sym, ap₂, ◌∙◌}
use Rattle.addr_bits.specs.declared.address.Address.{Address}
use Rattle.addr_bits.specs.declared.address.Address.TheVariants.{V4, V6}
use Rattle.zone_answers.specs.Zone.{Zone}
use Rattle.spf_model.specs.declared.outcome.Limits.{Limits}
use Rattle.spf_model.specs.declared.outcome.Outcome.{Outcome}
use Rattle.spf_model.specs.Run.{says}
use Rattle.policy_verdicts.specs.Policy.{verdict_at}
use Rattle.policy_verdicts.proofs.OneAnswer.{one_refused, never_both, one_verdict}
use Rattle.loading.specs.declared.refusal.Refusal.{Refusal}
use Rattle.loading.specs.declared.refusal.Refusal.TheVariants.{NoVerdict}
use Rattle.publishing.specs.Policy.{PolicyDue, refused, kept}
use Rattle.publishing.specs.declared.settings.ChainSettings.{ChainSettings}
use Rattle.publishing.proofs.OnePublication.{one_publication}

-- ---- one thing is due for a policy
pub one_policy_due : (want : ChainSettings) (limits : Limits) (zones : List Zone) (x y : Result (List ℕ) Refusal)
    → PolicyDue want limits zones x → PolicyDue want limits zones y → x ≡ y
one_policy_due want limits zones x y (refused a o least is) (refused b p least' is') =
    let same = one_refused (says zones) limits want.domain.text a b o p least least' in
    is ∙ (ap₂ (λ (c : Address) (q : Outcome). Err (NoVerdict c q)) same.0 same.1 ∙ sym is')
one_policy_due want limits zones x y (refused a o least is) (kept v4 v6 all due) =
    absurd (never_both (says zones) limits want.domain.text a o (verdict_at v4 v6) least all)
one_policy_due want limits zones x y (kept v4 v6 all due) (refused a o least is') =
    absurd (never_both (says zones) limits want.domain.text a o (verdict_at v4 v6) least all)
one_policy_due want limits zones x y (kept v4 v6 all due) (kept w4 w6 all' due') =
    let four : (a : ℕ) → a < 2 ^ 32 → v4 a ≡ w4 a =
    λ a lt. one_verdict (says zones) limits want.domain.text (verdict_at v4 v6) (verdict_at w4 w6) all all' (V4 a) lt in
    let six : (a : ℕ) → a < 2 ^ 128 → v6 a ≡ w6 a =
    λ a lt. one_verdict (says zones) limits want.domain.text (verdict_at v4 v6) (verdict_at w4 w6) all all' (V6 a) lt in
    one_publication want zones v4 v6 w4 w6 x y four six due due'
