use Rattle.std.proofs.Common.{◌≡◌, ℕ, ◌||◌, ◌⊎◌, Bool, true, false, List, sym, inl, inr}
use Rattle.std.specs.Prelude.{MatchBool}
use Rattle.std.specs.List.{list_all}
use Rattle.std.proofs.lemmas.Bool.{both_ways}
use Rattle.spf_macros.specs.declared.piece.Piece.{Piece}
use Rattle.spf_macros.specs.Grammar.{is_for_all, SpellsMacroText, SpellsDomainSpec}
use Rattle.spf_macros.specs.Reading.{EndsInExpand}
use Rattle.spf_macros.proofs.DomainSpecs.{ends_in_top, EndsInTop, top_found, top_told, spec_from_top, spec_from_expand, spec_end}
use Rattle.spf_macros.proofs.domain.is_domain_spec.Goals as goal

by_top : (explain : Bool) (text : List ℕ) (pieces : List Piece) (b : Bool) → SpellsMacroText text pieces → (explain || list_all is_for_all pieces) ≡ true → ¬ EndsInExpand pieces → b ≡ ends_in_top text
    → MatchBool b (SpellsDomainSpec explain text pieces) (¬ SpellsDomainSpec explain text pieces)
by_top explain text pieces true h letters none test = spec_from_top explain text pieces h letters (top_found text (sym test))
by_top explain text pieces false h letters none test = λ s. from (spec_end explain text pieces s)
  where
    from : EndsInExpand pieces ⊎ EndsInTop text → ⊥
    from (inl expands) = none expands
    from (inr top) = both_ways (ends_in_top text) (sym test) (top_told text top)

pub returns-then-ends_in_expand : goal.returns-then-ends_in_expand
returns-then-ends_in_expand c =
    spec_from_expand c.args.explain c.args.text.now c.args.pieces.now c.requires (sym c.if-not-are_allowed.ensures) c.if-ends_in_expand.ensures

pub returns : goal.returns
returns c =
    by_top c.args.explain c.args.text.now c.args.pieces.now c.ends_in_toplabel.result c.requires (sym c.if-not-are_allowed.ensures) c.if-ends_in_expand.ensures c.ends_in_toplabel.ensures
