-- The policies that the texts of a generated zone spell.
use Rattle.std.proofs.Common.{◌≡◌, ℕ, true, List, [], ◌∷◌, ◌++◌, map, flat_map, decimal, inl, refl, sym, subst, arith, append_assoc, append-nil}
use Rattle.std.specs.Prelude.{codes}
use Rattle.std.specs.List.{range_with_len}
use Rattle.spf_text.specs.Version.{is_spf_text}
use Rattle.spf_macros.specs.declared.piece.Piece.{Piece}
use Rattle.spf_grammar.specs.Families.{HavePrefixes}
use Rattle.spf_grammar.specs.Grammar.{SpellsPolicy, SpellsTerms}
use Rattle.spf_grammar.specs.declared.flat.FlatTerm.{FlatTerm}
use Rattle.spf_grammar.specs.declared.flat.Net.TheVariants.{All}
use Rattle.spf_grammar.specs.declared.verdict.Verdict.TheVariants.{SoftFail}
use Rattle.spf_model.specs.Chains.{directives_of}
use Rattle.record_pack.specs.Records.{terms_text}
use Rattle.published_records.proofs.RecordTexts.{records_spell}
use Rattle.published_records.proofs.StandingTexts.{record_is_spf}
use Rattle.spf_gen.specs.Generated.{include_text, includes_text}
use Rattle.spf_gen.specs.Records.{trial_text}
use Rattle.spf_gen.proofs.Places.{ArePlaces, eight_places}
use Rattle.spf_gen.proofs.Reading.{includes_are}
use Rattle.policy_trial.proofs.Included.{includes_of}
use Rattle.policy_trial.proofs.Places.{leads_there, spec_at, target_at}

-- ---- a record of networks

pub terms_spell : (terms : List FlatTerm) → HavePrefixes terms → SpellsPolicy (terms_text terms) (record { terms = directives_of terms [] })
terms_spell terms prefixes =
    subst (λ (text : List ℕ). SpellsPolicy text (record { terms = directives_of terms [] })) (append-nil (terms_text terms))
    (records_spell trial_text (codes "_spf") terms 0 true refl refl (omega arith) prefixes)

pub terms_are_spf : (terms : List FlatTerm) → is_spf_text (terms_text terms) ≡ true
terms_are_spf terms = subst (λ (text : List ℕ). is_spf_text text ≡ true) (append-nil (terms_text terms)) (record_is_spf trial_text (codes "_spf") terms 0 true)

-- ---- the record at the top

-- what stands behind its includes
abbrev pub behind_includes : List FlatTerm
behind_includes = record { verdict = SoftFail; net = All } ∷ []

abbrev pub specs_of : (places : List ℕ) → List (List Piece)
specs_of places = map (λ k. spec_at (decimal k)) places

all_spelled : SpellsTerms (codes " ~all") (directives_of behind_includes [])
all_spelled = ([], codes "~all", [], refl, (codes "~", codes "all", refl, refl, refl), refl, refl)

includes_spelled : (places : List ℕ) → ArePlaces places → SpellsTerms (flat_map include_text places ++ codes " ~all") (includes_of (specs_of places) (directives_of behind_includes []))
unfolding include_text
includes_spelled [] h = all_spelled
includes_spelled (k ∷ places) h = (
  [],
  codes "include:" ++ target_at (decimal k),
  flat_map include_text places ++ codes " ~all",
  refl,
  ([], codes "include:" ++ target_at (decimal k), inl refl, (codes "include", 58 ∷ target_at (decimal k), refl, (target_at (decimal k), (leads_there k h.0).spelled, refl), refl), refl),
  includes_spelled places h.1,
  append_assoc (codes " include:n" ++ decimal k ++ codes ".trial.example") (flat_map include_text places) (codes " ~all"),
)

pub top_spells : SpellsPolicy includes_text (record { terms = includes_of (specs_of (range_with_len 0 8)) (directives_of behind_includes []) })
unfolding includes_text
top_spells = record {
  version = codes "v=spf1";
  rest = flat_map include_text (range_with_len 0 8) ++ codes " ~all";
  begins = refl;
  terms = includes_spelled (range_with_len 0 8) eight_places;
  one_redirect = omega arith;
  one_exp = omega arith;
  whole = append_assoc (codes "v=spf1") (flat_map include_text (range_with_len 0 8)) (codes " ~all");
}

pub top_is_spf : is_spf_text includes_text ≡ true
unfolding is_spf_text
top_is_spf = subst (λ (text : List ℕ). is_spf_text text ≡ true) (sym includes_are) refl
