-- The lines of a fragment in front of its table belong to no table.
use Rattle.std.proofs.Common.{◌≡◌, ℕ, ◌+◌, ◌<◌, ◌≤◌, ◌^◌, ◌==◌, Bool, true, false, cond, IsTrue, inl, inr, List, [], ◌∷◌, ◌++◌, length, flat_map, decimal, refl, sym, ap, subst, ◌∙◌, arith, append_assoc}
use Rattle.std.specs.Prelude.{codes}
use Rattle.std.specs.List.{list_all, list_any}
use Rattle.std.proofs.lemmas.Bool.{and_parts, or_from}
use Rattle.spf_macros.specs.Words.{is_domain, is_label}
use Rattle.spf_grammar.specs.declared.flat.FlatTerm.{FlatTerm}
use Rattle.spf_grammar.proofs.OneTail.{all_both, keeps_out, weaker}
use Rattle.bound_table.specs.Laws.{EndsLine}
use Rattle.bound_table.specs.Parts.{is_other}
use Rattle.bound_table.specs.Reading.{is_table_line, lines_of}
use Rattle.bound_table.proofs.LineSplit.{ended, no_lines}
use Rattle.record_pack.specs.Records.{record_text}
use Rattle.zone_writer.specs.Fragment.{head_text, is_none, owner_text, quoted, record_line, record_lines, strings_of}
use Rattle.zone_writer.proofs.Domains.{decimal_words, domain_ends, label_parts, name_passes, owner_words, words_are_names}
use Rattle.zone_writer.proofs.Lines.{is_string_byte}
use Rattle.zone_writer.proofs.Texts.{strings_bytes, text_bytes}
use Rattle.published_records.specs.Chain.{AllHavePrefixes}

-- ---- whole lines, none of which belongs to a table

pub record AreOther (text : List ℕ) : Type 0 where
  pub ends : EndsLine text
  pub none : list_any is_table_line (lines_of text) ≡ false

no_line : AreOther []
no_line = record { ends = inl refl; none = ap (list_any is_table_line) (no_lines [] refl) }

ends_behind : (line rest : List ℕ) → EndsLine rest → EndsLine (line ++ 10 ∷ rest)
ends_behind line rest (inl e) = inr (line, ap (λ (r : List ℕ). line ++ 10 ∷ r) e)
ends_behind line rest (inr e) = inr (line ++ 10 ∷ e.0, ap (λ (r : List ℕ). line ++ 10 ∷ r) e.1 ∙ sym (append_assoc line (10 ∷ e.0) (10 ∷ [])))

one_more : (line rest : List ℕ) → list_all (is_other 10) line ≡ true → is_table_line line ≡ false → AreOther rest → AreOther (line ++ 10 ∷ rest)
one_more line rest plain other behind = record {
  ends = ends_behind line rest behind.ends;
  none = ap (list_any is_table_line) (ended line rest plain) ∙ or_from (is_table_line line) (list_any is_table_line (lines_of rest)) other behind.none;
}

-- ---- records

-- a text with which lines begin that belong to no table
record IsStart (text : List ℕ) : Type 0 where
  plain : list_all (is_other 10) text ≡ true
  other : (rest : List ℕ) → is_table_line (text ++ rest) ≡ false

owner_start : (label : List ℕ) (k : ℕ) → IsTrue (is_label label) → k ≤ 10 → IsStart (owner_text label k)
owner_start label k form few = by (k == 0)
  where
    fits : k < 2 ^ 64
    fits = omega (arith, few)

    by : (t : Bool) → IsStart (cond t (codes "@") (label ++ decimal k))
    by true = record { plain = refl; other = λ rest. refl }
    by false = record {
      plain = name_passes (is_other 10) refl (label ++ decimal k) (words_are_names (label ++ decimal k) (owner_words label k form fits));
      other = λ rest. ap (λ (l : List ℕ). is_table_line ((l ++ decimal k) ++ rest)) (label_parts label form).whole;
    }

string_plain : (bytes : List ℕ) → list_all is_string_byte bytes ≡ true → list_all (is_other 10) bytes ≡ true
string_plain = weaker is_string_byte (is_other 10) (keeps_out is_string_byte 10 refl)

strings_plain : (strings : List (List ℕ)) → list_all (list_all is_string_byte) strings ≡ true → list_all (is_other 10) (flat_map quoted strings) ≡ true
strings_plain [] h = refl
strings_plain (string ∷ strings) h =
    let parts = and_parts (list_all is_string_byte string) (list_all (list_all is_string_byte) strings) h in
    all_both (is_other 10) (quoted string) (flat_map quoted strings)
    (all_both (is_other 10) (32 ∷ 34 ∷ string) (34 ∷ []) (string_plain string parts.0) refl) (strings_plain strings parts.1)

record_other : (owner text rest : List ℕ) → IsStart owner → list_all is_string_byte text ≡ true → AreOther rest → AreOther (record_line owner text ++ rest)
record_other owner text rest start bytes behind =
    let strings : List ℕ = flat_map quoted (strings_of text) in
    subst AreOther (sym (append_assoc ((owner ++ codes " IN TXT") ++ strings) (10 ∷ []) rest))
    (one_more ((owner ++ codes " IN TXT") ++ strings) rest
    (all_both (is_other 10) (owner ++ codes " IN TXT") strings (all_both (is_other 10) owner (codes " IN TXT") start.plain refl)
    (strings_plain (strings_of text) (strings_bytes (length text) text bytes)))
    (ap is_table_line (append_assoc owner (codes " IN TXT") strings) ∙ start.other (codes " IN TXT" ++ strings)) behind)

records_other : (domain label : List ℕ) (k : ℕ) (lists : List (List FlatTerm)) → IsTrue (is_domain domain) → IsTrue (is_label label) → k + length lists ≤ 11 → AllHavePrefixes lists
    → AreOther (record_lines domain label k lists)
records_other domain label k [] form labelled few prefixes = no_line
records_other domain label k (terms ∷ lists) form labelled few prefixes =
    record_other (owner_text label k) (record_text domain label terms k (is_none lists)) (record_lines domain label (k + 1) lists)
    (owner_start label k labelled (omega (arith, few)))
    (text_bytes domain label terms k (is_none lists) form labelled (omega (arith, few)) prefixes.0)
    (records_other domain label (k + 1) lists form labelled (omega (arith, few)) prefixes.1)

-- ---- the head

head_lines : (origin domain point next number feed rest : List ℕ)
    → ((((origin ++ domain) ++ (point ++ (feed ++ next))) ++ number) ++ feed) ++ rest ≡ ((origin ++ domain) ++ point) ++ (feed ++ ((next ++ number) ++ (feed ++ rest)))
head_lines origin domain point next number feed rest = simp append_assoc

head_other : (domain : List ℕ) (ttl : ℕ) (rest : List ℕ) → IsTrue (is_domain domain) → ttl ≤ 2147483647 → AreOther rest → AreOther (head_text domain ttl ++ rest)
head_other domain ttl rest form few behind =
    let fits : ttl < 2 ^ 64 = omega (arith, few) in
    subst AreOther (sym (head_lines (codes "$ORIGIN ") domain (46 ∷ []) (codes "$TTL ") (decimal ttl) (10 ∷ []) rest))
    (one_more ((codes "$ORIGIN " ++ domain) ++ 46 ∷ []) ((codes "$TTL " ++ decimal ttl) ++ 10 ∷ rest)
    (all_both (is_other 10) (codes "$ORIGIN " ++ domain) (46 ∷ []) (all_both (is_other 10) (codes "$ORIGIN ") domain refl (name_passes (is_other 10) refl domain (domain_ends domain form).bytes)) refl) refl
    (one_more (codes "$TTL " ++ decimal ttl) rest
    (all_both (is_other 10) (codes "$TTL ") (decimal ttl) refl (name_passes (is_other 10) refl (decimal ttl) (words_are_names (decimal ttl) (decimal_words ttl fits)))) refl behind))

-- the lines in front of the table
pub front_other : (domain label : List ℕ) (ttl : ℕ) (lists : List (List FlatTerm)) → IsTrue (is_domain domain) → IsTrue (is_label label) → ttl ≤ 2147483647 → length lists ≤ 11
    → AllHavePrefixes lists → AreOther (head_text domain ttl ++ record_lines domain label 0 lists)
front_other domain label ttl lists form labelled lasting few prefixes =
    head_other domain ttl (record_lines domain label 0 lists) form lasting (records_other domain label 0 lists form labelled (omega (arith, few)) prefixes)
