use Rattle.std.proofs.Common.{ℕ, ◌++◌, [], ◌∷◌, sym, ap, ◌∙◌}
use Rattle.std.proofs.lemmas.Bool.{ne_eqb}
use Rattle.spf_macros.specs.Expansion.{without_final_dot}
use Rattle.spf_macros.proofs.DomainSpecs.{without_final-dot, without_final-other}
use Rattle.spf_macros.proofs.domain.without_final_dot.Goals as goal

pub returns-then-last-eq46 : goal.returns-then-last-eq46
returns-then-last-eq46 c =
    sym (ap without_final_dot (c.in-Some.ensures.cases.0 ∙ ap (λ (b : ℕ). c.in-Some.front.now ++ b ∷ []) c.if-last-eq46.true) ∙ without_final-dot c.in-Some.front.now)

pub returns-else-last-eq46 : goal.returns-else-last-eq46
returns-else-last-eq46 c =
    c.in-Some.ensures.cases.0 ∙ sym (ap without_final_dot c.in-Some.ensures.cases.0 ∙ without_final-other c.in-Some.front.now c.in-Some.last.now (ne_eqb c.in-Some.last.now 46 c.if-last-eq46.false))
