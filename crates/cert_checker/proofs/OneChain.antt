-- Records are one chain at most.
use Rattle.std.proofs.Common.{◌≡◌, ℕ, List, [], ◌∷◌, ◌++◌, refl, sym, ap, ap₂, ◌∙◌, Option, Some, None}
use Rattle.std.specs.Prelude.{decimal}
use Rattle.std.proofs.lemmas.List.{append_cancel_right}
use Rattle.master_reader.specs.declared.record.Body.{Body}
use Rattle.master_reader.specs.declared.record.Record.{Record}
use Rattle.spf_macros.specs.declared.piece.Piece.{Piece}
use Rattle.spf_grammar.specs.declared.flat.FlatTerm.{FlatTerm}
use Rattle.spf_model.specs.Chains.{directives_of, redirect_terms}
use Rattle.spf_model.specs.Judging.{Labels}
use Rattle.cert_checker.specs.Forms.{AreLinked, HaveOwners, IsFlat}
use Rattle.cert_checker.proofs.LinkLemmas.{flat_told, redirect_otherwise}

one_flat : (body : Body) (a b : List FlatTerm) (r s : Option (List Piece)) → IsFlat body a r → IsFlat body b s → a ≡ b
one_flat body a b r s x y = (flat_told body (record { terms = directives_of a (redirect_terms r) }) a (redirect_terms r) b s x refl (redirect_otherwise r) y).0

pub one_lists : (records : List Record) (a b : List (List FlatTerm)) → AreLinked records a → AreLinked records b → a ≡ b
one_lists [] a b x y = absurd x
one_lists (r ∷ []) [] b x y = absurd x
one_lists (r ∷ []) (t ∷ more ∷ a) b x y = absurd x
one_lists (r ∷ []) (t ∷ []) [] x y = absurd y
one_lists (r ∷ []) (t ∷ []) (u ∷ more ∷ b) x y = absurd y
one_lists (r ∷ []) (t ∷ []) (u ∷ []) x y = ap (λ (l : List FlatTerm). l ∷ []) (one_flat r.body t u None None x.flat y.flat)
one_lists (r ∷ next ∷ records) [] b x y = absurd x
one_lists (r ∷ next ∷ records) (t ∷ a) [] x y = absurd y
one_lists (r ∷ next ∷ records) (t ∷ a) (u ∷ b) x y =
    ap₂ (λ (l : List FlatTerm) (ls : List (List FlatTerm)). l ∷ ls) (one_flat r.body t u (Some x.0.spec) (Some y.0.spec) x.0.flat y.0.flat) (one_lists (next ∷ records) a b x.1 y.1)

-- two records or more have one label
pub one_label : (name : Labels) (r next : Record) (records : List Record) (a b : List ℕ) → HaveOwners name a 0 (r ∷ next ∷ records) → HaveOwners name b 0 (r ∷ next ∷ records) → a ≡ b
one_label name r next records a b x y = append_cancel_right a b (decimal 1) (heads (sym x.1.0 ∙ y.1.0))
  where
    heads : (a ++ decimal 1) ∷ name ≡ (b ++ decimal 1) ∷ name → a ++ decimal 1 ≡ b ++ decimal 1
    heads e = cc
