-- Domains and labels, taken in lower case.
use Rattle.std.proofs.Common.{◌≡◌, ℕ, ◌-◌, zero, suc, ◌==◌, Bool, true, not, ◌&&◌, ◌||◌, List, [], ◌∷◌, length, map, refl, sym, ap, ap₂, ◌∙◌}
use Rattle.std.specs.Prelude.{nat_le, slice_index}
use Rattle.std.specs.List.{list_all, list_any, slice_split}
use Rattle.std.specs.Char.{is_ascii_alphabetic, is_ascii_digit, to_ascii_lowercase}
use Rattle.std.specs.Str.{str_to_ascii_lowercase}
use Rattle.std.proofs.lemmas.Bool.{or_left}
use Rattle.std.proofs.lemmas.List.{length-map}
use Rattle.dns_name.specs.Name.{lowercase_label, is_dot}
use Rattle.spf_macros.specs.Grammar.{is_let_dig_hyp, is_toplabel}
use Rattle.spf_macros.specs.Words.{is_word_byte, is_domain_label, last_label, is_domain, is_label}
use Rattle.dns_name.proofs.Texts.{byte_lower, split_lower, test_lower}

-- ---- tests of a text in lower case
-- a test that each letter passes
letters_lower : (p : ℕ → Bool) → ((b : ℕ) → is_ascii_alphabetic b ≡ true → p b ≡ true) → (b : ℕ) → p (to_ascii_lowercase b) ≡ p b
letters_lower p pass = test_lower p (λ a b x y. pass a x ∙ sym (pass b y))

let_dig_hyp_letter : (b : ℕ) → is_ascii_alphabetic b ≡ true → is_let_dig_hyp b ≡ true
let_dig_hyp_letter b h = or_left (is_ascii_alphabetic b || is_ascii_digit b) (b == 45) (or_left (is_ascii_alphabetic b) (is_ascii_digit b) h)

word_letter : (b : ℕ) → is_ascii_alphabetic b ≡ true → is_word_byte b ≡ true
word_letter b h = or_left (is_let_dig_hyp b) (b == 95) (let_dig_hyp_letter b h)

all_lower : {X : Type 0} (f : X → X) (p : X → Bool) → ((x : X) → p (f x) ≡ p x) → (xs : List X) → list_all p (map f xs) ≡ list_all p xs
all_lower f p same [] = refl
all_lower f p same (x ∷ xs) = ap₂ (λ a b. a && b) (same x) (all_lower f p same xs)

any_lower : {X : Type 0} (f : X → X) (p : X → Bool) → ((x : X) → p (f x) ≡ p x) → (xs : List X) → list_any p (map f xs) ≡ list_any p xs
any_lower f p same [] = refl
any_lower f p same (x ∷ xs) = ap₂ (λ a b. a || b) (same x) (any_lower f p same xs)

words_lower : (text : List ℕ) → list_all is_word_byte (str_to_ascii_lowercase text) ≡ list_all is_word_byte text
words_lower text = all_lower to_ascii_lowercase is_word_byte (letters_lower is_word_byte word_letter) text

length_lower : (text : List ℕ) → length (str_to_ascii_lowercase text) ≡ length text
length_lower text = length-map text to_ascii_lowercase

hyphen_at : (text : List ℕ) (k : ℕ) → (slice_index (str_to_ascii_lowercase text) k == 45) ≡ (slice_index text k == 45)
hyphen_at [] k = refl
hyphen_at (b ∷ text) zero = byte_lower 45 refl b
hyphen_at (b ∷ text) (suc k) = hyphen_at text k

-- ---- domains and labels in lower case
domain_label_lower : (label : List ℕ) → is_domain_label (lowercase_label label) ≡ is_domain_label label
domain_label_lower label = λ i. nat_le 1 (length_lower label i) && nat_le (length_lower label i) 63 && words_lower label i && not (hyphen_at label 0 i)

last_lower : (labels : List (List ℕ)) → last_label (map lowercase_label labels) ≡ lowercase_label (last_label labels)
last_lower [] = refl
last_lower (label ∷ []) = refl
last_lower (label ∷ next ∷ labels) = last_lower (next ∷ labels)

toplabel_lower : (label : List ℕ) → is_toplabel (lowercase_label label) ≡ is_toplabel label
toplabel_lower label = λ i. bytes i && not (hyphen_at label 0 i) && not (last i) && some i
  where
    bytes : list_all is_let_dig_hyp (lowercase_label label) ≡ list_all is_let_dig_hyp label
    bytes = all_lower to_ascii_lowercase is_let_dig_hyp (letters_lower is_let_dig_hyp let_dig_hyp_letter) label

    last : (slice_index (lowercase_label label) (length (lowercase_label label) - 1) == 45) ≡ (slice_index label (length label - 1) == 45)
    last = ap (λ n. slice_index (lowercase_label label) (n - 1) == 45) (length_lower label) ∙ hyphen_at label (length label - 1)

    some : list_any (λ b. is_ascii_alphabetic b || b == 45) (lowercase_label label) ≡ list_any (λ b. is_ascii_alphabetic b || b == 45) label
    some = any_lower to_ascii_lowercase (λ b. is_ascii_alphabetic b || b == 45)
        (letters_lower (λ b. is_ascii_alphabetic b || b == 45) (λ b h. or_left (is_ascii_alphabetic b) (b == 45) h)) label

pub is_domain_lower : (text : List ℕ) → is_domain (str_to_ascii_lowercase text) ≡ is_domain text
is_domain_lower text =
    let labels = slice_split is_dot text in
    let split : slice_split is_dot (str_to_ascii_lowercase text) ≡ map lowercase_label labels = split_lower text in
    let many : length (slice_split is_dot (str_to_ascii_lowercase text)) ≡ length labels = ap length split ∙ length-map labels lowercase_label in
    let each : list_all is_domain_label (slice_split is_dot (str_to_ascii_lowercase text)) ≡ list_all is_domain_label labels =
    ap (list_all is_domain_label) split ∙ all_lower lowercase_label is_domain_label domain_label_lower labels in
    let top : is_toplabel (last_label (slice_split is_dot (str_to_ascii_lowercase text))) ≡ is_toplabel (last_label labels) =
    ap (λ ls. is_toplabel (last_label ls)) split ∙ ap is_toplabel (last_lower labels) ∙ toplabel_lower (last_label labels) in
    λ i. nat_le 2 (many i) && each i && top i && nat_le (length_lower text i) 253

pub is_label_lower : (text : List ℕ) → is_label (str_to_ascii_lowercase text) ≡ is_label text
is_label_lower [] = refl
is_label_lower (b ∷ text) = λ i. byte_lower 95 refl b i && nat_le (length_lower text i) 60 && words_lower text i
