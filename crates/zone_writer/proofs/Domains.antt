-- The bytes of domains, labels and numbers, and the labels of a domain.
use Rattle.std.proofs.Common.{◌≡◌, ℕ, ◌+◌, ◌-◌, ◌<◌, ◌≤◌, ◌^◌, ◌==◌, Bool, true, false, not, cond, ◌&&◌, ◌||◌, IsTrue, ◌⊎◌, inl, inr, List, [], ◌∷◌, ◌++◌, length, nat_lt, refl, sym, ap, subst, ◌∙◌, arith, append_assoc, true≢false, ne_eqb, eqb-true}
use Rattle.std.specs.Prelude.{decimal, nat_le, slice_index}
use Rattle.std.specs.List.{list_all, list_any, slice_split, onto_first}
use Rattle.std.specs.Char.{is_ascii_alphabetic, is_ascii_digit}
use Rattle.std.specs.Int.{is_in_range}
use Rattle.std.specs.Str.{str_to_ascii_lowercase}
use Rattle.std.proofs.lemmas.Bool.{agree_below, agree_below_at, and_parts, and_from, cond-true, or_cases, or_left, or_right, leb-true, lt-ltb}
use Rattle.std.proofs.lemmas.List.Splits.{slice_split-cons_yes, slice_split-cons_no}
use Rattle.spf_macros.specs.Grammar.{is_let_dig_hyp, is_toplabel}
use Rattle.spf_macros.specs.Words.{is_domain, is_domain_label, is_label, is_word_byte, last_label}
use Rattle.spf_grammar.proofs.Numbers.{decimal_ascii}
use Rattle.spf_grammar.proofs.OneTail.{all_both, weaker}
use Rattle.dns_name.specs.Name.{is_dot}
use Rattle.dns_name.specs.Parts.{without_final}
use Rattle.record_pack.specs.Records.{record_name}

-- ---- bytes

pub in_range : (low high b : ℕ) → is_in_range low high b ≡ true → (low ≤ b) × (b ≤ high)
in_range low high b h = let parts = and_parts (nat_le low b) (nat_le b high) h in (leb-true low b parts.0, leb-true b high parts.1)

-- a byte of a domain
abbrev pub is_name_byte : ℕ → Bool
is_name_byte b = is_word_byte b || is_dot b

let_dig_hyp_small : (b : ℕ) → is_let_dig_hyp b ≡ true → b ≤ 122
let_dig_hyp_small b h = elim (or_cases (is_ascii_alphabetic b || is_ascii_digit b) (b == 45) h) [
  | inl g ↦ elim (or_cases (is_ascii_alphabetic b) (is_ascii_digit b) g) [
    | inl letter ↦ elim (or_cases (is_in_range 65 90 b) (is_in_range 97 122 b) letter) [
      | inl big ↦ omega (arith, (in_range 65 90 b big).1)
      | inr small ↦ (in_range 97 122 b small).1
    ]
    | inr digit ↦ omega (arith, (in_range 48 57 b digit).1)
  ]
  | inr e ↦ omega (arith, eqb-true b 45 e)
]

name_small : (b : ℕ) → is_name_byte b ≡ true → b ≤ 122
name_small b h = elim (or_cases (is_word_byte b) (is_dot b) h) [
  | inl word ↦ elim (or_cases (is_let_dig_hyp b) (b == 95) word) [
    | inl g ↦ let_dig_hyp_small b g
    | inr e ↦ omega (arith, eqb-true b 95 e)
  ]
  | inr e ↦ omega (arith, eqb-true b 46 e)
]

-- what each byte of a domain passes, as its numbers are few
pub passes : (p q : ℕ → Bool) → ((b : ℕ) → p b ≡ true → b ≤ 122) → agree_below (λ b. not (p b) || q b) (λ b. true) 123 ≡ true → (b : ℕ) → p b ≡ true → q b ≡ true
passes p q small all b h =
    let below : b ≤ 122 = small b h in
    ap (λ (t : Bool). not t || q b) (sym h) ∙ agree_below_at (λ b. not (p b) || q b) (λ b. true) 123 b all (omega (arith, below))

pub name_passes : (q : ℕ → Bool) → agree_below (λ b. not (is_name_byte b) || q b) (λ b. true) 123 ≡ true → (bs : List ℕ) → list_all is_name_byte bs ≡ true → list_all q bs ≡ true
name_passes q all = weaker is_name_byte q (passes is_name_byte q name_small all)

pub words_are_names : (bs : List ℕ) → list_all is_word_byte bs ≡ true → list_all is_name_byte bs ≡ true
words_are_names = weaker is_word_byte is_name_byte (λ b h. or_left (is_word_byte b) (is_dot b) h)

-- a word has no dot
pub no_dots : (bs : List ℕ) → list_all is_word_byte bs ≡ true → list_all (λ b. not (is_dot b)) bs ≡ true
no_dots = weaker is_word_byte (λ b. not (is_dot b)) (passes is_word_byte (λ b. not (is_dot b)) (λ b h. name_small b (or_left (is_word_byte b) (is_dot b) h)) refl)

digits_are_words : (bs : List ℕ) → list_all is_ascii_digit bs ≡ true → list_all is_word_byte bs ≡ true
digits_are_words = weaker is_ascii_digit is_word_byte (λ b h. or_left _ _ (or_left _ _ (or_right (is_ascii_alphabetic b) (is_ascii_digit b) h)))

pub decimal_words : (n : ℕ) → n < 2 ^ 64 → list_all is_word_byte (decimal n) ≡ true
decimal_words n fits = digits_are_words (decimal n) (decimal_ascii n fits)

digits_lower : (bs : List ℕ) → list_all is_ascii_digit bs ≡ true → str_to_ascii_lowercase bs ≡ bs
digits_lower [] h = refl
digits_lower (b ∷ bs) h =
    let parts = and_parts (is_ascii_digit b) (list_all is_ascii_digit bs) h in
    let small : b ≤ 57 = (in_range 48 57 b parts.0).1 in
    ap (λ (c : ℕ). c ∷ str_to_ascii_lowercase bs) (cond-true (nat_lt b 65) b (cond (nat_lt b 91) (b + 32) b) (lt-ltb b 65 (omega (arith, small)))) ∙ ap (λ (cs : List ℕ). b ∷ cs) (digits_lower bs parts.1)

pub decimal_lower : (n : ℕ) → n < 2 ^ 64 → str_to_ascii_lowercase (decimal n) ≡ decimal n
decimal_lower n fits = digits_lower (decimal n) (decimal_ascii n fits)

-- ---- the last label of a domain

-- a text with no dot, or one that ends in a dot and its last label
abbrev pub EndsInLabel : List ℕ → Type 0
EndsInLabel text =
    (slice_split is_dot text ≡ text ∷ [])
    ⊎ ((front label next : List ℕ) × (labels : List (List ℕ)) × (slice_split is_dot text ≡ label ∷ next ∷ labels) × (text ≡ front ++ 46 ∷ last_label (next ∷ labels)))

ends_in_label : (text : List ℕ) → EndsInLabel text
ends_in_label [] = inl refl
ends_in_label (b ∷ bs) = by (b == 46) refl (ends_in_label bs)
  where
    by : (t : Bool) → (b == 46) ≡ t → EndsInLabel bs → EndsInLabel (b ∷ bs)
    by true e (inl h) = inr ([], [], bs, [], slice_split-cons_yes is_dot b bs e ∙ ap (λ ls. [] ∷ ls) h, ap (λ x. x ∷ bs) (eqb-true b 46 e))
    by true e (inr h) = inr (b ∷ h.0, [], h.1, h.2 ∷ h.3, slice_split-cons_yes is_dot b bs e ∙ ap (λ ls. [] ∷ ls) h.4, ap (λ xs. b ∷ xs) h.5)
    by false e (inl h) = inl (slice_split-cons_no is_dot b bs e ∙ ap (onto_first b) h)
    by false e (inr h) = inr (b ∷ h.0, b ∷ h.1, h.2, h.3, slice_split-cons_no is_dot b bs e ∙ ap (onto_first b) h.4, ap (λ xs. b ∷ xs) h.5)

-- the bytes of a text whose labels are words
onto_words : (b : ℕ) (labels : List (List ℕ)) → list_all (list_all is_word_byte) (onto_first b labels) ≡ true → (labels ≡ [] → ⊥) → (is_word_byte b ≡ true) × (list_all (list_all is_word_byte) labels ≡ true)
onto_words b [] h some = absurd (some refl)
onto_words b (label ∷ labels) h some =
    let parts = and_parts (list_all is_word_byte (b ∷ label)) (list_all (list_all is_word_byte) labels) h in
    let inner = and_parts (is_word_byte b) (list_all is_word_byte label) parts.0 in
    (inner.0, and_from _ _ inner.1 parts.1)

split_some : (text : List ℕ) → slice_split is_dot text ≡ [] → ⊥
split_some text e = elim (ends_in_label text) [
  | inl h ↦ cons_nil (sym h ∙ e)
  | inr h ↦ cons_nil (sym h.4 ∙ e)
]
  where
    cons_nil : {l : List ℕ} {ls : List (List ℕ)} → (l ∷ ls) ≡ [] → ⊥
    cons_nil e = cc

labels_bytes : (text : List ℕ) → list_all (list_all is_word_byte) (slice_split is_dot text) ≡ true → list_all is_name_byte text ≡ true
labels_bytes [] h = refl
labels_bytes (b ∷ bs) h = by (b == 46) refl (labels_bytes bs)
  where
    by : (t : Bool) → (b == 46) ≡ t → (list_all (list_all is_word_byte) (slice_split is_dot bs) ≡ true → list_all is_name_byte bs ≡ true) → list_all is_name_byte (b ∷ bs) ≡ true
    by true e below =
        and_from (is_name_byte b) (list_all is_name_byte bs) (or_right (is_word_byte b) (is_dot b) e)
        (below (subst (λ ls. list_all (list_all is_word_byte) ls ≡ true) (slice_split-cons_yes is_dot b bs e) h))
    by false e below =
        let parts = onto_words b (slice_split is_dot bs) (subst (λ ls. list_all (list_all is_word_byte) ls ≡ true) (slice_split-cons_no is_dot b bs e) h) (split_some bs) in
        and_from (is_name_byte b) (list_all is_name_byte bs) (or_left (is_word_byte b) (is_dot b) parts.0) (below parts.1)

word_labels : (labels : List (List ℕ)) → list_all is_domain_label labels ≡ true → list_all (list_all is_word_byte) labels ≡ true
word_labels [] h = refl
word_labels (label ∷ labels) h =
    let parts = and_parts (is_domain_label label) (list_all is_domain_label labels) h in
    let heads = and_parts (nat_le 1 (length label) && nat_le (length label) 63 && list_all is_word_byte label) (not (slice_index label 0 == 45)) parts.0 in
    let bytes = and_parts (nat_le 1 (length label) && nat_le (length label) 63) (list_all is_word_byte label) heads.0 in
    and_from (list_all is_word_byte label) (list_all (list_all is_word_byte) labels) bytes.1 (word_labels labels parts.1)

-- what a domain is: bytes, a dot and a toplabel
pub record DomainEnds (domain : List ℕ) : Type 0 where
  pub front : List ℕ
  pub top : List ℕ
  pub whole : domain ≡ front ++ 46 ∷ top
  pub toplabel : is_toplabel top ≡ true
  pub bytes : list_all is_name_byte domain ≡ true

pub domain_ends : (domain : List ℕ) → IsTrue (is_domain domain) → DomainEnds domain
domain_ends domain h =
    let labels = slice_split is_dot domain in
    let parts = and_parts (nat_le 2 (length labels) && list_all is_domain_label labels && is_toplabel (last_label labels)) (nat_le (length domain) 253) h in
    let tops = and_parts (nat_le 2 (length labels) && list_all is_domain_label labels) (is_toplabel (last_label labels)) parts.0 in
    let sizes = and_parts (nat_le 2 (length labels)) (list_all is_domain_label labels) tops.0 in
    by (leb-true 2 (length (slice_split is_dot domain)) sizes.0) tops.1 (labels_bytes domain (word_labels (slice_split is_dot domain) sizes.1)) (ends_in_label domain)
  where
    by : 2 ≤ length (slice_split is_dot domain) → is_toplabel (last_label (slice_split is_dot domain)) ≡ true → list_all is_name_byte domain ≡ true → EndsInLabel domain → DomainEnds domain
    by two top bytes (inl e) = absurd (omega (arith, subst (λ ls. 2 ≤ length ls) e two))
    by two top bytes (inr e) = record {
      front = e.0;
      top = last_label (e.2 ∷ e.3);
      whole = e.5;
      toplabel = subst (λ ls. is_toplabel (last_label ls) ≡ true) e.4 top;
      bytes = bytes;
    }

-- ---- no final dot

not_dots : (bs : List ℕ) → list_all is_let_dig_hyp bs ≡ true → (b : ℕ) → is_let_dig_hyp b ≡ true → without_final is_dot (b ∷ bs) ≡ b ∷ bs
not_dots [] h b g = ap (λ t. cond t [] (b ∷ [])) (ne_eqb b 46 (λ (e : b ≡ 46). true≢false (sym (subst (λ x. is_let_dig_hyp x ≡ true) e g))))
not_dots (c ∷ bs) h b g = let parts = and_parts (is_let_dig_hyp c) (list_all is_let_dig_hyp bs) h in ap (λ t. b ∷ t) (not_dots bs parts.1 c parts.0)

dot_behind : (xs : List ℕ) (y z : ℕ) (zs : List ℕ) → without_final is_dot (z ∷ zs) ≡ z ∷ zs → without_final is_dot (xs ++ y ∷ z ∷ zs) ≡ xs ++ y ∷ z ∷ zs
dot_behind [] y z zs h = ap (λ t. y ∷ t) h
dot_behind (x ∷ []) y z zs h = ap (λ t. x ∷ y ∷ t) h
dot_behind (x ∷ w ∷ xs) y z zs h = ap (λ t. x ∷ t) (dot_behind (w ∷ xs) y z zs h)

toplabel_bytes : (top : List ℕ) → is_toplabel top ≡ true → list_all is_let_dig_hyp top ≡ true
toplabel_bytes top h =
    let front = and_parts (list_all is_let_dig_hyp top && not (slice_index top 0 == 45) && not (slice_index top (length top - 1) == 45)) (list_any (λ b. is_ascii_alphabetic b || b == 45) top) h in
    let heads = and_parts (list_all is_let_dig_hyp top && not (slice_index top 0 == 45)) (not (slice_index top (length top - 1) == 45)) front.0 in
    (and_parts (list_all is_let_dig_hyp top) (not (slice_index top 0 == 45)) heads.0).0

pub no_final_dot : (text : List ℕ) → DomainEnds text → without_final is_dot text ≡ text
no_final_dot text d = subst (λ t. without_final is_dot t ≡ t) (sym d.whole) (by d.top d.toplabel)
  where
    by : (top : List ℕ) → is_toplabel top ≡ true → without_final is_dot (d.front ++ 46 ∷ top) ≡ d.front ++ 46 ∷ top
    by [] h = absurd (true≢false (sym h))
    by (b ∷ bs) h = let parts = and_parts (is_let_dig_hyp b) (list_all is_let_dig_hyp bs) (toplabel_bytes (b ∷ bs) h) in
        dot_behind d.front 46 b bs (not_dots bs parts.1 b parts.0)

-- ---- labels

-- RFC 8552, section 1.1: a label is an underscore (95) and a word
pub record LabelParts (label : List ℕ) : Type 0 where
  pub behind : List ℕ
  pub whole : label ≡ 95 ∷ behind
  pub short : length behind ≤ 60
  pub words : list_all is_word_byte label ≡ true

pub label_parts : (label : List ℕ) → IsTrue (is_label label) → LabelParts label
label_parts [] h = absurd (true≢false (sym h))
label_parts (b ∷ bs) h =
    let parts = and_parts (b == 95 && nat_le (length bs) 60) (list_all is_word_byte bs) h in
    let start = and_parts (b == 95) (nat_le (length bs) 60) parts.0 in
    record {
      behind = bs;
      whole = ap (λ (x : ℕ). x ∷ bs) (eqb-true b 95 start.0);
      short = leb-true (length bs) 60 start.1;
      words = and_from (is_word_byte b) (list_all is_word_byte bs) (or_right (is_let_dig_hyp b) (b == 95) start.0) parts.1;
    }

-- ---- the name of a record behind the first

pub next_name : (domain label : List ℕ) (k : ℕ) → record_name domain label (k + 1) ≡ (label ++ decimal (k + 1)) ++ 46 ∷ domain
next_name domain label k =
    ap (λ b. cond b domain ((label ++ decimal (k + 1)) ++ 46 ∷ domain)) (ne_eqb (k + 1) 0 (λ (e : k + 1 ≡ 0). omega (arith, e)))

pub owner_words : (label : List ℕ) (k : ℕ) → IsTrue (is_label label) → k < 2 ^ 64 → list_all is_word_byte (label ++ decimal k) ≡ true
owner_words label k h fits = all_both is_word_byte label (decimal k) (label_parts label h).words (decimal_words k fits)

pub name_ends : (domain label : List ℕ) (k : ℕ) → IsTrue (is_domain domain) → IsTrue (is_label label) → k ≤ 10 → DomainEnds (record_name domain label (k + 1))
name_ends domain label k h g few = let d = domain_ends domain h in record {
  front = (label ++ decimal (k + 1)) ++ 46 ∷ d.front;
  top = d.top;
  whole = next_name domain label k ∙ ap (λ t. (label ++ decimal (k + 1)) ++ 46 ∷ t) d.whole ∙ sym (append_assoc (label ++ decimal (k + 1)) (46 ∷ d.front) (46 ∷ d.top));
  toplabel = d.toplabel;
  bytes =
      subst (λ t. list_all is_name_byte t ≡ true) (sym (next_name domain label k))
      (all_both is_name_byte (label ++ decimal (k + 1)) (46 ∷ domain) (words_are_names (label ++ decimal (k + 1)) (owner_words label (k + 1) g (omega (arith, few)))) d.bytes);
}
