-- The labels of a text: in lower case, on the wire, and as a name.
use Rattle.std.proofs.Common.{◌≡◌, ℕ, ◌+◌, ◌≤◌, ◌==◌, Bool, true, false, cond, nat_lt, IsOk, List, [], ◌∷◌, length, map, bytes_eq, Ok, Err, None, inl, inr, refl, sym, ap, subst, ◌∙◌, arith, le-ltb, ne_eqb}
use Rattle.std.specs.List.{slice_split, onto_first}
use Rattle.std.specs.Char.{is_ascii_alphabetic, to_ascii_lowercase}
use Rattle.std.specs.Int.{is_in_range}
use Rattle.std.specs.Prelude.{nat_le}
use Rattle.std.specs.Str.{str_to_ascii_lowercase}
use Rattle.std.proofs.lemmas.Bool.{and_from, or_left, or_right, le-leb, cases_lt, true≢false}
use Rattle.std.proofs.lemmas.Str.Ascii.{lowercase_is}
use Rattle.std.proofs.lemmas.Slice.Eq.{bytes_eq-Decides}
use Rattle.std.proofs.lemmas.List.Splits.{slice_split-cons_yes, slice_split-cons_no}
use Rattle.dns_name.specs.declared.fault.NameFault.TheVariants.{NameLong}
use Rattle.dns_name.specs.Parts.{without_final}
use Rattle.dns_name.specs.Wire.{wire_form}
use Rattle.dns_name.specs.Name.{lowercase_label, label_fault, first_fault, fault_or, name_of_labels, name_of_text, is_dot}
use Rattle.dns_name.proofs.Names.{parts_of}

-- ---- bytes in lower case
upper_is_letter : (b : ℕ) → 65 ≤ b → b ≤ 90 → is_ascii_alphabetic b ≡ true
upper_is_letter b low high = or_left (is_in_range 65 90 b) (is_in_range 97 122 b) (and_from (nat_le 65 b) (nat_le b 90) (le-leb 65 b low) (le-leb b 90 high))

lower_is_letter : (b : ℕ) → 97 ≤ b → b ≤ 122 → is_ascii_alphabetic b ≡ true
lower_is_letter b low high = or_right (is_in_range 65 90 b) (is_in_range 97 122 b) (and_from (nat_le 97 b) (nat_le b 122) (le-leb 97 b low) (le-leb b 122 high))

-- a test that tells no letter from another finds in lower case what it finds
pub test_lower : (p : ℕ → Bool) → ((a b : ℕ) → is_ascii_alphabetic a ≡ true → is_ascii_alphabetic b ≡ true → p a ≡ p b) → (b : ℕ) → p (to_ascii_lowercase b) ≡ p b
test_lower p same b = elim (cases_lt b 65) [
  | inl small ↦ ap p ((lowercase_is b).1 small)
  | inr from ↦ elim (cases_lt 90 b) [
    | inl large ↦ ap p ((lowercase_is b).2 large)
    | inr to ↦ ap p ((lowercase_is b).0 (from, to)) ∙ same (b + 32) b (lower_is_letter (b + 32) (omega (arith, from)) (omega (arith, to))) (upper_is_letter b from to)
  ]
]

-- lower case makes no byte that is not a letter, and takes none away
pub byte_lower : (n : ℕ) → is_ascii_alphabetic n ≡ false → (b : ℕ) → (to_ascii_lowercase b == n) ≡ (b == n)
byte_lower n other = test_lower (λ b. b == n) (λ a b x y. ne_eqb a n (differs a x) ∙ sym (ne_eqb b n (differs b y)))
  where
    differs : (a : ℕ) → is_ascii_alphabetic a ≡ true → a ≡ n → ⊥
    differs a letter e = true≢false (sym letter ∙ ap is_ascii_alphabetic e ∙ other)

dot_lower : (b : ℕ) → is_dot (to_ascii_lowercase b) ≡ is_dot b
dot_lower b = byte_lower 46 refl b

-- ---- labels in lower case
onto_lower : (b : ℕ) (labels : List (List ℕ)) → onto_first (to_ascii_lowercase b) (map lowercase_label labels) ≡ map lowercase_label (onto_first b labels)
onto_lower b [] = refl
onto_lower b (label ∷ labels) = refl

-- the labels of a text in lower case
pub split_lower : (text : List ℕ) → slice_split is_dot (str_to_ascii_lowercase text) ≡ map lowercase_label (slice_split is_dot text)
split_lower [] = refl
split_lower (b ∷ text) = by (is_dot b) refl (split_lower text)
  where
    by : (t : Bool) → is_dot b ≡ t → slice_split is_dot (str_to_ascii_lowercase text) ≡ map lowercase_label (slice_split is_dot text) → slice_split is_dot (str_to_ascii_lowercase (b ∷ text)) ≡ map lowercase_label (slice_split is_dot (b ∷ text))
    by true e rest =
        slice_split-cons_yes is_dot (to_ascii_lowercase b) (str_to_ascii_lowercase text) (dot_lower b ∙ e)
        ∙ ap (λ (ls : List (List ℕ)). [] ∷ ls) rest ∙ sym (ap (map lowercase_label) (slice_split-cons_yes is_dot b text e))
    by false e rest =
        slice_split-cons_no is_dot (to_ascii_lowercase b) (str_to_ascii_lowercase text) (dot_lower b ∙ e)
        ∙ ap (onto_first (to_ascii_lowercase b)) rest ∙ onto_lower b (slice_split is_dot text) ∙ sym (ap (map lowercase_label) (slice_split-cons_no is_dot b text e))

-- ---- the length on the wire
onto_length : (b : ℕ) (labels : List (List ℕ)) → 2 ≤ length (wire_form labels) → length (wire_form (onto_first b labels)) ≡ length (wire_form labels) + 1
onto_length b [] h = absurd (omega (arith, h))
onto_length b (label ∷ labels) h = omega arith

-- a length octet for each dot, one for the first label, and the root's
pub wire_length : (text : List ℕ) → length (wire_form (slice_split is_dot text)) ≡ length text + 2
wire_length [] = refl
wire_length (b ∷ text) = by (is_dot b) refl (wire_length text)
  where
    by : (t : Bool) → is_dot b ≡ t → length (wire_form (slice_split is_dot text)) ≡ length text + 2 → length (wire_form (slice_split is_dot (b ∷ text))) ≡ length (b ∷ text) + 2
    by true e rest = ap (λ ls. length (wire_form ls)) (slice_split-cons_yes is_dot b text e) ∙ omega (arith, rest)
    by false e rest = ap (λ ls. length (wire_form ls)) (slice_split-cons_no is_dot b text e) ∙ onto_length b (slice_split is_dot text) (omega (arith, rest)) ∙ omega (arith, rest)

-- ---- no final dot
abbrev behind : List (List ℕ) → List (List ℕ)
behind [] = []
behind (label ∷ labels) = labels

behind_onto : (b : ℕ) (labels : List (List ℕ)) → behind (onto_first b labels) ≡ behind labels
behind_onto b [] = refl
behind_onto b (label ∷ labels) = refl

behind_legal : (labels : List (List ℕ)) → first_fault labels ≡ None → first_fault (behind labels) ≡ None
behind_legal [] h = refl
behind_legal (label ∷ labels) h = (parts_of (label_fault label) (first_fault labels) h).1

-- a byte in front leaves the later labels
behind_next : (b : ℕ) (text : List ℕ) → first_fault (behind (slice_split is_dot (b ∷ text))) ≡ None → first_fault (behind (slice_split is_dot text)) ≡ None
behind_next b text h = by (is_dot b) refl
  where
    by : (t : Bool) → is_dot b ≡ t → first_fault (behind (slice_split is_dot text)) ≡ None
    by true e = behind_legal (slice_split is_dot text) (subst (λ ls. first_fault (behind ls) ≡ None) (slice_split-cons_yes is_dot b text e) h)
    by false e = ap first_fault (sym (behind_onto b (slice_split is_dot text))) ∙ subst (λ ls. first_fault (behind ls) ≡ None) (slice_split-cons_no is_dot b text e) h

-- where the labels behind the first are legal, the text ends in no dot
pub no_final_dot : (text : List ℕ) → first_fault (behind (slice_split is_dot text)) ≡ None → without_final is_dot text ≡ text
no_final_dot [] h = refl
no_final_dot (b ∷ []) h = by (is_dot b) refl
  where
    by : (t : Bool) → is_dot b ≡ t → cond t [] (b ∷ []) ≡ b ∷ []
    by true e = let none = subst (λ ls. first_fault (behind ls) ≡ None) (slice_split-cons_yes is_dot b [] e) h in absurd cc
    by false e = refl
no_final_dot (b ∷ c ∷ text) h = ap (λ (t : List ℕ). b ∷ t) (no_final_dot (c ∷ text) (behind_next b (c ∷ text) h))

-- ---- the name
-- a text of legal labels, with at most 253 characters, writes them in lower case
pub text_makes_name : (text : List ℕ) → first_fault (slice_split is_dot text) ≡ None → length text ≤ 253 → name_of_text text ≡ Ok (map lowercase_label (slice_split is_dot text))
text_makes_name text legal short = by (bytes_eq text (46 ∷ [])) refl
  where
    fits : nat_lt 255 (length (wire_form (slice_split is_dot text))) ≡ false
    fits = le-ltb 255 (length (wire_form (slice_split is_dot text))) (omega (arith, wire_length text))

    made : name_of_labels (slice_split is_dot text) ≡ Ok (map lowercase_label (slice_split is_dot text))
    made =
        ap (λ f. fault_or f (cond (nat_lt 255 (length (wire_form (slice_split is_dot text)))) (Err NameLong) (Ok (map lowercase_label (slice_split is_dot text))))) legal
        ∙ ap (λ t. cond t (Err NameLong) (Ok (map lowercase_label (slice_split is_dot text)))) fits

    whole : without_final is_dot text ≡ text
    whole = no_final_dot text (behind_legal (slice_split is_dot text) legal)

    empty_label : first_fault (slice_split is_dot (46 ∷ [])) ≡ None → ⊥
    empty_label h = cc

    by : (t : Bool) → bytes_eq text (46 ∷ []) ≡ t → name_of_text text ≡ Ok (map lowercase_label (slice_split is_dot text))
    by true e = absurd (empty_label (subst (λ t. first_fault (slice_split is_dot t) ≡ None) ((bytes_eq-Decides text (46 ∷ [])).0 e) legal))
    by false e =
        ap (λ t. cond t (Ok []) (name_of_labels (slice_split is_dot (without_final is_dot text)))) e
        ∙ ap (λ t. name_of_labels (slice_split is_dot t)) whole ∙ made

pub legal_text : (text : List ℕ) → first_fault (slice_split is_dot text) ≡ None → length text ≤ 253 → IsOk (name_of_text text)
legal_text text legal short = subst (λ r. IsOk r) (sym (text_makes_name text legal short)) refl
