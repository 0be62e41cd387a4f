-- The names that the words of a fragment stand for.
use Rattle.std.proofs.Common.{◌≡◌, ℕ, ◌+◌, ◌<◌, ◌≤◌, Bool, true, false, not, cond, List, [], ◌∷◌, ◌++◌, length, map, nat_lt, Ok, Err, Option, Some, None, refl, sym, ap, ap₂, subst, ◌∙◌, arith, length-append, decimal, le-ltb}
use Rattle.std.specs.List.{list_all, slice_split, onto_first}
use Rattle.std.specs.Char.{to_ascii_lowercase}
use Rattle.std.specs.Fmt.{digits}
use Rattle.std.specs.Str.{str_to_ascii_lowercase}
use Rattle.std.proofs.lemmas.Bool.{and_parts, not-true}
use Rattle.std.proofs.lemmas.Fmt.{decimal_nonempty, length-decimal-le}
use Rattle.std.proofs.lemmas.List.{map-append}
use Rattle.std.proofs.lemmas.List.Splits.{slice_split-cons_no}
use Rattle.dns_name.specs.declared.fault.NameFault.{NameFault}
use Rattle.dns_name.specs.declared.fault.NameFault.TheVariants.{NameLong}
use Rattle.dns_name.specs.Parts.{ends_so, without_final}
use Rattle.dns_name.specs.Wire.{wire_form}
use Rattle.dns_name.specs.Name.{IsLabel, earlier_fault, fault_or, first_fault, is_dot, lowercase_label, name_of_labels, name_of_text}
use Rattle.dns_name.proofs.Names.{no_fault_from_label}
use Rattle.dns_name.proofs.Splits.{without_final_yes}
use Rattle.spf_macros.specs.Grammar.{is_toplabel}
use Rattle.master_lex.specs.declared.entry.Octet.{Octet}
use Rattle.master_lex.specs.Items.{bare, octet_of}
use Rattle.master_reader.specs.Tokens.{bytes_in, is_unescaped, name_in, or_bad_name}
use Rattle.master_reader.proofs.Labels.{ends_so-last}
use Rattle.master_reader.proofs.Spelling.{bytes_differ}
use Rattle.record_pack.specs.Records.{record_name}
use Rattle.zone_writer.specs.Written.{AreChainWords}
use Rattle.zone_writer.proofs.Domains.{DomainEnds, decimal_lower, domain_ends, label_parts, next_name, no_dots, no_final_dot, owner_words}
use Rattle.dns_name.proofs.Texts.{split_lower, wire_length}
use Rattle.zone_writer.proofs.Lines.{plain_token, units_of}

-- ---- the name of a word without escapes

final_units : (bytes : List ℕ) → without_final (is_unescaped 46) (units_of bytes) ≡ units_of (without_final is_dot bytes)
final_units [] = refl
final_units (b ∷ []) = by (is_dot b)
  where
    by : (t : Bool) → cond t [] (octet_of (bare b) ∷ []) ≡ units_of (cond t [] (b ∷ []))
    by true = refl
    by false = refl
final_units (b ∷ c ∷ bytes) = ap (λ (us : List Octet). octet_of (bare b) ∷ us) (final_units (c ∷ bytes))

ends_units : (bytes : List ℕ) → ends_so (is_unescaped 46) (units_of bytes) ≡ ends_so is_dot bytes
ends_units [] = refl
ends_units (b ∷ []) = refl
ends_units (b ∷ c ∷ bytes) = ends_units (c ∷ bytes)

onto_units : (b : ℕ) (parts : List (List Octet)) → map bytes_in (onto_first (octet_of (bare b)) parts) ≡ onto_first b (map bytes_in parts)
onto_units b [] = refl
onto_units b (part ∷ parts) = refl

split_units : (bytes : List ℕ) → map bytes_in (slice_split (is_unescaped 46) (units_of bytes)) ≡ slice_split is_dot bytes
split_units [] = refl
split_units (b ∷ bytes) = by (is_dot b) (slice_split (is_unescaped 46) (units_of bytes)) (split_units bytes)
  where
    by : (t : Bool) (parts : List (List Octet)) → map bytes_in parts ≡ slice_split is_dot bytes
        → map bytes_in (cond t ([] ∷ parts) (onto_first (octet_of (bare b)) parts)) ≡ cond t ([] ∷ slice_split is_dot bytes) (onto_first b (slice_split is_dot bytes))
    by true parts e = ap (λ (ls : List (List ℕ)). [] ∷ ls) e
    by false parts e = onto_units b parts ∙ ap (onto_first b) e

-- the labels of a word, and of the origin where the word ends in no dot
abbrev labels_at : (origin : List (List ℕ)) → (ends : Bool) → (labels : List (List ℕ)) → List (List ℕ)
labels_at origin ends labels = cond ends labels (labels ++ origin)

word_name : (origin : List (List ℕ)) (bytes : List ℕ) → 2 ≤ length bytes
    → name_in origin (plain_token bytes) ≡ or_bad_name (name_of_labels (labels_at origin (ends_so is_dot bytes) (slice_split is_dot (without_final is_dot bytes))))
word_name origin [] some = absurd (omega (arith, some))
word_name origin (b ∷ []) some = absurd (omega (arith, some))
word_name origin (b ∷ c ∷ bytes) some =
    ap₂ (λ (t : Bool) (labels : List (List ℕ)). or_bad_name (name_of_labels (labels_at origin t labels))) (ends_units (b ∷ c ∷ bytes))
    (ap (λ (us : List Octet). map bytes_in (slice_split (is_unescaped 46) us)) (final_units (b ∷ c ∷ bytes)) ∙ split_units (without_final is_dot (b ∷ c ∷ bytes)))

-- ---- the domain

domain_some : (domain : List ℕ) → DomainEnds domain → 1 ≤ length domain
domain_some domain d = omega (arith, ap length d.whole, length-append d.front (46 ∷ d.top))

domain_labels : (domain : List ℕ) (name : List (List ℕ)) → DomainEnds domain → name_of_text domain ≡ Ok name → name_of_labels (slice_split is_dot domain) ≡ Ok name
domain_labels domain name d e =
    ap (λ (t : List ℕ). name_of_labels (slice_split is_dot t)) (sym (no_final_dot domain d))
    ∙ ap (λ (t : Bool). cond t (Ok []) (name_of_labels (slice_split is_dot (without_final is_dot domain)))) (bytes_differ domain (46 ∷ []) (no_dot_alone d.front d.top d.whole d.toplabel))
    ∙ e
  where
    no_dot_alone : (front top : List ℕ) → domain ≡ front ++ 46 ∷ top → is_toplabel top ≡ true → domain ≡ 46 ∷ [] → ⊥
    no_dot_alone front [] whole top same = absurd cc
    no_dot_alone front (b ∷ bs) whole top same = omega (arith, ap length whole, ap length same, length-append front (46 ∷ b ∷ bs))

-- `DOMAIN.` is the domain's name
pub origin_read : (origin : List (List ℕ)) (domain : List ℕ) (name : List (List ℕ)) → DomainEnds domain → name_of_text domain ≡ Ok name → name_in origin (plain_token (domain ++ 46 ∷ [])) ≡ Ok name
origin_read origin domain name d e =
    word_name origin (domain ++ 46 ∷ []) (omega (arith, length-append domain (46 ∷ []), domain_some domain d))
    ∙ ap₂ (λ (t : Bool) (text : List ℕ). or_bad_name (name_of_labels (labels_at origin t (slice_split is_dot text)))) (ends_so-last is_dot domain 46) (without_final_yes is_dot domain 46 refl)
    ∙ ap or_bad_name (domain_labels domain name d e)

-- ---- the owner of a record behind the first

-- a word without dots is one label
no_dot_ends : (bs : List ℕ) → list_all (λ b. not (is_dot b)) bs ≡ true → ends_so is_dot bs ≡ false
no_dot_ends [] h = refl
no_dot_ends (b ∷ []) h = not-true (is_dot b) (and_parts (not (is_dot b)) true h).0
no_dot_ends (b ∷ c ∷ bs) h = no_dot_ends (c ∷ bs) (and_parts (not (is_dot b)) (list_all (λ b. not (is_dot b)) (c ∷ bs)) h).1

no_dot_final : (bs : List ℕ) → list_all (λ b. not (is_dot b)) bs ≡ true → without_final is_dot bs ≡ bs
no_dot_final [] h = refl
no_dot_final (b ∷ []) h = ap (λ (t : Bool). cond t [] (b ∷ [])) (not-true (is_dot b) (and_parts (not (is_dot b)) true h).0)
no_dot_final (b ∷ c ∷ bs) h = ap (λ (t : List ℕ). b ∷ t) (no_dot_final (c ∷ bs) (and_parts (not (is_dot b)) (list_all (λ b. not (is_dot b)) (c ∷ bs)) h).1)

no_dot_split : (bs : List ℕ) → list_all (λ b. not (is_dot b)) bs ≡ true → slice_split is_dot bs ≡ bs ∷ []
no_dot_split [] h = refl
no_dot_split (b ∷ bs) h =
    let parts = and_parts (not (is_dot b)) (list_all (λ b. not (is_dot b)) bs) h in
    slice_split-cons_no is_dot b bs (not-true (is_dot b) parts.0) ∙ ap (onto_first b) (no_dot_split bs parts.1)

-- what a name of labels is
record Made (labels name : List (List ℕ)) : Type 0 where
  legal : first_fault labels ≡ None
  lower : map lowercase_label labels ≡ name

made : (labels name : List (List ℕ)) → name_of_labels labels ≡ Ok name → Made labels name
made labels name e = by (first_fault labels) (nat_lt 255 (length (wire_form labels))) refl e
  where
    by : (f : Option NameFault) (t : Bool) → first_fault labels ≡ f → fault_or f (cond t (Err NameLong) (Ok (map lowercase_label labels))) ≡ Ok name → Made labels name
    by (Some f) t is h = absurd cc
    by None true is h = absurd cc
    by None false is h = record { legal = is; lower = cc }

-- the labels of a domain in lower case are its name
lower_labels : (domain : List ℕ) (name : List (List ℕ)) → str_to_ascii_lowercase domain ≡ domain → Made (slice_split is_dot domain) name → slice_split is_dot domain ≡ name
lower_labels domain name lower m = ap (slice_split is_dot) (sym lower) ∙ split_lower domain ∙ m.lower

-- one more label in front of a name in lower case
named : (label : List ℕ) (name : List (List ℕ)) → IsLabel label → lowercase_label label ≡ label → first_fault name ≡ None → map lowercase_label name ≡ name → length (wire_form (label ∷ name)) ≤ 255
    → name_of_labels (label ∷ name) ≡ Ok (label ∷ name)
named label name is lower legal same fits =
    ap₂ (λ (f g : Option NameFault). fault_or (earlier_fault f g) (cond (nat_lt 255 (length (wire_form (label ∷ name)))) (Err NameLong) (Ok (map lowercase_label (label ∷ name))))) (no_fault_from_label label is) legal
    ∙ ap (λ (t : Bool). cond t (Err NameLong) (Ok (map lowercase_label (label ∷ name)))) (le-ltb 255 (length (wire_form (label ∷ name))) fits)
    ∙ ap₂ (λ (l : List ℕ) (ls : List (List ℕ)). Ok (l ∷ ls)) lower same

-- the label of a record has at most 63 octets, and its name at most 255
record OwnerSizes (domain label : List ℕ) (k : ℕ) : Type 0 where
  some : 2 ≤ length (label ++ decimal k)
  few : length (label ++ decimal k) ≤ 63
  short : length (label ++ decimal k) + length domain ≤ 252

ten_digits : length (decimal 10) ≡ 2
unfolding digits
ten_digits = refl

owner_sizes : (domain label : List ℕ) (k : ℕ) → AreChainWords domain label → k ≤ 10 → OwnerSizes domain label k
owner_sizes domain label k words few =
    let parts = label_parts label words.label_form in
    let front : length label ≡ length parts.behind + 1 = ap length parts.whole ∙ omega arith in
    let most : length parts.behind ≤ 60 = parts.short in
    let all : length (label ++ decimal k) ≡ length label + length (decimal k) = length-append label (decimal k) in
    let digits : length (decimal k) ≤ 2 = length-decimal-le 2 k (omega arith) (omega (arith, few)) (omega (arith, few)) in
    let digit : 0 < length (decimal k) = decimal_nonempty k (omega (arith, few)) in
    let name : length (record_name domain label 10) ≤ 253 = words.short in
    let whole : length (record_name domain label 10) ≡ length (label ++ decimal 10) + length (46 ∷ domain) = ap length (next_name domain label 9) ∙ length-append (label ++ decimal 10) (46 ∷ domain) in
    let ten : length (label ++ decimal 10) ≡ length label + length (decimal 10) = length-append label (decimal 10) in
    let two : length (decimal 10) ≡ 2 = ten_digits in
    record { some = omega arith; few = omega arith; short = omega arith }

-- `LABELk` is the label and k in front of the domain's name
pub owner_read : (domain label : List ℕ) (name : List (List ℕ)) (k : ℕ) → AreChainWords domain label → name_of_text domain ≡ Ok name → k ≤ 10
    → name_in name (plain_token (label ++ decimal k)) ≡ Ok ((label ++ decimal k) ∷ name)
owner_read domain label name k words e few =
    let owner : List ℕ = label ++ decimal k in
    let sizes = owner_sizes domain label k words few in
    let undotted : list_all (λ b. not (is_dot b)) owner ≡ true = no_dots owner (owner_words label k words.label_form (omega (arith, few))) in
    let m = made (slice_split is_dot domain) name (domain_labels domain name (domain_ends domain words.domain_form) e) in
    let same : slice_split is_dot domain ≡ name = lower_labels domain name words.domain_lower m in
    let lower : lowercase_label owner ≡ owner = map-append to_ascii_lowercase label (decimal k) ∙ ap₂ (λ (x y : List ℕ). x ++ y) words.label_lower (decimal_lower k (omega (arith, few))) in
    let wire : length (wire_form name) ≡ length domain + 2 = ap (λ (ls : List (List ℕ)). length (wire_form ls)) (sym same) ∙ wire_length domain in
    word_name name owner sizes.some
    ∙ ap₂ (λ (t : Bool) (text : List ℕ). or_bad_name (name_of_labels (labels_at name t (slice_split is_dot text)))) (no_dot_ends owner undotted) (no_dot_final owner undotted)
    ∙ ap (λ (labels : List (List ℕ)). or_bad_name (name_of_labels (labels ++ name))) (no_dot_split owner undotted)
    ∙ ap or_bad_name
    (named owner name (omega (arith, sizes.some), sizes.few) lower (subst (λ (ls : List (List ℕ)). first_fault ls ≡ None) same m.legal) (ap (map lowercase_label) (sym same) ∙ m.lower)
    (omega (arith, length-append owner (wire_form name), wire, sizes.short)))
