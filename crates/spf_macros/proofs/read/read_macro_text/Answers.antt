use Rattle.std.proofs.Common.{ℕ, ◌<◌, List, ◌++◌, length, sym, ap, subst, ◌∙◌, append_assoc, arith}
use Rattle.std.proofs.lemmas.Bool.{eqb-false}
use Rattle.spf_macros.specs.declared.piece.Piece.{Piece}
use Rattle.spf_macros.specs.Grammar.{SpellsMacroText}
use Rattle.spf_macros.proofs.MacroReading.{rest_spelled, more_spelled, no_piece}
use Rattle.spf_macros.proofs.read.read_macro_text.Goals as goal

pub returns-in_default : goal.returns-in_default
returns-in_default c = λ all s.
    let read = c.loop-rest.invariant in
    let left = rest_spelled read.0 c.loop-rest.rest.now c.loop-rest.pieces all read.1 (subst (λ (t : List ℕ). SpellsMacroText t all) read.2 s) in
    let some : 0 < length c.loop-rest.rest.now = omega (arith, eqb-false (length c.loop-rest.rest.now) 0 (sym c.is_empty.ensures ∙ c.loop-rest-test.true)) in
    no_piece c.loop-rest.rest.now some c.in_default.ensures left.0 left.1

pub loop-rest-preserved : goal.loop-rest-preserved
loop-rest-preserved c =
    let read = c.loop-rest.invariant in
    let part = c.in-Some.ensures in (
      read.0 ++ part.0,
      subst (λ (ps : List Piece). SpellsMacroText (read.0 ++ part.0) ps) (sym c.in_ok-push.ensures.ok) (more_spelled read.0 part.0 c.loop-rest.pieces c.in-Some.piece read.1 part.1),
      read.2 ∙ ap (λ (t : List ℕ). read.0 ++ t) part.2 ∙ sym (append_assoc read.0 part.0 c.in-Some.behind.now),
    )
