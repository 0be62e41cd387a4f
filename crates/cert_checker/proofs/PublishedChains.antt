-- The records of a published list are a chain, of which each record fits.
use Rattle.std.proofs.Common.{◌≡◌, ℕ, ◌+◌, ◌<◌, ◌≤◌, ◌==◌, Bool, true, false, not, IsTrue, Ok, List, [], ◌∷◌, length, map, refl, sym, ap, subst, arith, Some}
use Rattle.std.specs.Prelude.{if◌then◌else◌}
use Rattle.std.specs.List.{concat, list_all}
use Rattle.dns_name.specs.Name.{name_of_text}
use Rattle.master_reader.specs.declared.record.Body.TheVariants.{Txt}
use Rattle.spf_macros.specs.Grammar.{is_expand}
use Rattle.spf_macros.specs.declared.piece.Piece.{Piece}
use Rattle.spf_macros.specs.declared.piece.Piece.TheVariants.{Literal}
use Rattle.spf_grammar.specs.Families.{HavePrefixes}
use Rattle.spf_grammar.specs.declared.flat.FlatTerm.{FlatTerm}
use Rattle.spf_model.specs.Check.{text_of}
use Rattle.spf_model.specs.Judging.{Labels}
use Rattle.record_pack.specs.Records.{HasFewest, IsFittingCut, RecordsFit, RiseTo, piece, pieces_from, record_name, record_text}
use Rattle.zone_writer.specs.Fragment.{strings_of}
use Rattle.zone_writer.specs.Written.{AreChainWords, record_owner, written_records}
use Rattle.zone_writer.proofs.Texts.{prefixes_piece}
use Rattle.published_records.specs.Chain.{next_redirect, next_spec}
use Rattle.published_records.proofs.RecordChains.{name_short, next_named, unfolded}
use Rattle.published_records.proofs.RecordTexts.{records_lead_on, records_spell}
use Rattle.published_records.proofs.StandingAlone.{length_pieces, length_written}
use Rattle.published_records.proofs.StandingTexts.{strings_join}
use Rattle.cert_checker.specs.Forms.{AreLinked, HasChainForm, HaveOwners, IsFlat, LeadsTo, TextsFit, has_all_last}
use Rattle.cert_checker.proofs.PublishedLists.{EndInside, ends_inside, piece_last, piece_other}

text_is : (text : List ℕ) → text_of (Txt (strings_of text)) ≡ Some text
text_is text = ap Some (strings_join text)

all_literal : (bytes : List ℕ) → IsTrue (list_all (λ (piece : Piece). not (is_expand piece)) (map Literal bytes))
all_literal [] = refl
all_literal (b ∷ bytes) = all_literal bytes

pub written_owners : (domain label : List ℕ) (name : Labels) (k : ℕ) (lists : List (List FlatTerm)) → HaveOwners name label k (written_records domain label name k lists)
written_owners domain label name k [] = tt
written_owners domain label name k (terms ∷ lists) = (refl, written_owners domain label name (k + 1) lists)

module _ (domain label : List ℕ) (name : Labels) (words : AreChainWords domain label) (named : name_of_text domain ≡ Ok name) where
  -- ---- each record leads to the next

  written_flat : (terms : List FlatTerm) (k : ℕ) (last : Bool) → k ≤ 10 → HavePrefixes terms
      → IsFlat (Txt (strings_of (record_text domain label terms k last))) terms (next_redirect domain label k last)
  written_flat terms k last few prefixes = record {
    text = record_text domain label terms k last;
    is_text = text_is (record_text domain label terms k last);
    spells = records_spell domain label terms k last words.domain_form words.label_form few prefixes;
  }

  written_leads : (k : ℕ) → k + 1 ≤ 10 → LeadsTo (next_spec domain label k) (record_owner name label (k + 1))
  written_leads k few = record {
    literal = all_literal (record_name domain label (k + 1));
    text = record_name domain label (k + 1);
    asks = λ family at. records_lead_on domain label k family at words.domain_form words.label_form (omega (arith, few)) (name_short domain label k words few);
    named = unfolded (record_name domain label (k + 1)) (record_owner name label (k + 1)) (next_named domain label name k words named few);
  }

  pub written_linked : (list : List FlatTerm) (k from : ℕ) (ends : List ℕ) → HavePrefixes list → IsTrue (has_all_last list) → k + length ends ≤ 11 → 1 ≤ length ends
      → RiseTo from (length list) ends → EndInside (length list) ends → AreLinked (written_records domain label name k (pieces_from list from ends)) (pieces_from list from ends)
  written_linked list k from [] prefixes last few some rise inside = absurd (omega (arith, some))
  written_linked list k from (to ∷ []) prefixes last few some rise inside = record {
    flat = written_flat (piece list from to) k true (omega (arith, few)) (prefixes_piece list from to prefixes);
    ends = piece_last list from to last;
  }
  written_linked list k from (to ∷ next ∷ ends) prefixes last few some rise inside = (
    record {
      spec = next_spec domain label k;
      flat = written_flat (piece list from to) k false (omega (arith, few)) (prefixes_piece list from to prefixes);
      goes_on = piece_other list from to last rise.0 inside.0;
      leads = written_leads k (omega (arith, few));
    },
    written_linked list (k + 1) to (next ∷ ends) prefixes last (omega (arith, few)) (omega arith) rise.2 inside.1,
  )

  -- ---- the whole chain

  pub written_form : (size others : ℕ) (list : List FlatTerm) (ends : List ℕ) → HavePrefixes list → IsTrue (has_all_last list) → IsFittingCut domain label size others list ends
      → HasFewest domain label size others list ends → HasChainForm name (written_records domain label name 0 (pieces_from list 0 ends)) label (pieces_from list 0 ends)
  written_form size others list ends prefixes last cut fewest = record {
    few = omega (arith, length_written domain label name 0 (pieces_from list 0 ends), length_pieces list 0 ends, cut.cut.few);
    labelled = words.label_form;
    owners = written_owners domain label name 0 (pieces_from list 0 ends);
    linked = written_linked list 0 0 ends prefixes last (omega (arith, cut.cut.few)) cut.cut.some cut.cut.rise (ends_inside domain label size others list ends cut fewest);
  }

-- ---- the texts fit

-- a text fits in its strings
joined_fits : (domain label : List ℕ) (size others k : ℕ) (text : List ℕ) → length (record_name domain label k) + length text + (if k == 0 then others else 0) < size
    → length (record_name domain label k) + length (concat (strings_of text)) + (if k == 0 then others else 0) < size
joined_fits domain label size others k text fits =
    subst (λ (t : List ℕ). length (record_name domain label k) + length t + (if k == 0 then others else 0) < size) (sym (strings_join text)) fits

pub written_fit : (domain label : List ℕ) (name : Labels) (size others : ℕ) (list : List FlatTerm) (k from : ℕ) (ends : List ℕ) → RecordsFit domain label size others list k from ends
    → TextsFit domain label size others k (written_records domain label name k (pieces_from list from ends))
written_fit domain label name size others list k from [] fit = tt
written_fit domain label name size others list k from (to ∷ []) fit = (joined_fits domain label size others k (record_text domain label (piece list from to) k true) fit, tt)
written_fit domain label name size others list k from (to ∷ next ∷ ends) fit = (
  joined_fits domain label size others k (record_text domain label (piece list from to) k false) fit.0,
  written_fit domain label name size others list (k + 1) to (next ∷ ends) fit.1,
)
