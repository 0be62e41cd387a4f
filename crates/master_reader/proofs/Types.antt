-- The types of records.
use Rattle.std.proofs.Common.{◌≡◌, ℕ, ◌-◌, ◌<◌, ◌^◌, min, Bool, true, false, ◌&&◌, ◌||◌, List, [], ◌∷◌, length, take, drop, refl, sym, ap, ap₂, ◌∙◌, arith, nat_lt, ◌==◌, ne_eqb, length-drop, lit<}
use Rattle.std.specs.Char.{is_ascii_alphabetic}
use Rattle.std.specs.List.{list_any, list_all, AllByRecursion}
use Rattle.std.specs.Str.Parse.{digits_value}
use Rattle.std.proofs.lemmas.Bool.{ltb-false}
use Rattle.std.proofs.Common.{ltb-true}
use Rattle.std.proofs.Math.Seq.{take_all}
use Rattle.std.proofs.lemmas.List.{drop-map}
use Rattle.std.proofs.lemmas.List.Folds.{list_all-map}
use Rattle.master_lex.specs.declared.entry.Octet.{Octet}
use Rattle.master_lex.specs.declared.entry.Token.{Token}
use Rattle.master_reader.specs.Tokens.{bytes_in, bytes_of, is_bare, is_numbered_word, number_behind}
use Rattle.master_reader.specs.Entry.{first_passes, is_type_byte, is_type, is_number_of_type}
use Rattle.std.specs.Prelude.{codes}

pub first_letter : (units : List Octet) → first_passes (λ (o : Octet). is_ascii_alphabetic o.byte) units ≡ first_passes is_ascii_alphabetic (bytes_in units)
first_letter [] = refl
first_letter (o ∷ units) = refl

pub type_bytes : (units : List Octet) → list_all (λ (o : Octet). is_type_byte o.byte) units ≡ list_all is_type_byte (bytes_in units)
type_bytes units = sym (list_all-map is_type_byte (λ (o : Octet). o.byte) units)

-- a held number is a small one where the number itself is
held_is : (n v cap : ℕ) → n < cap → (n == min v cap) ≡ (n == v)
held_is n v cap small = by (nat_lt v cap) refl
  where
    by : (t : Bool) → nat_lt v cap ≡ t → (n == min v cap) ≡ (n == v)
    by true is = let few = ltb-true v cap is in let same : min v cap ≡ v = omega arith in ap (λ m. n == m) same
    by false is = let many = ltb-false v cap is in ne_eqb n (min v cap) (λ e. omega arith) ∙ sym (ne_eqb n v (λ e. omega arith))

pub any_held : (numbers : List ℕ) (v cap : ℕ) → AllByRecursion (λ n. n < cap) numbers → list_any (λ n. n == min v cap) numbers ≡ list_any (λ n. n == v) numbers
any_held [] v cap h = refl
any_held (n ∷ numbers) v cap h = ap₂ (λ s t. s || t) (held_is n v cap h.0) (any_held numbers v cap h.1)

pub number_is : (token : Token) (digits : List Octet) → digits ≡ take (length token.units - 4) (drop 4 token.units) → digits_value 10 (bytes_in digits) ≡ number_behind (codes "type") token
number_is token digits e =
    ap (digits_value 10) (ap bytes_in (e ∙ take_all (length token.units - 4) (drop 4 token.units) (omega (arith, length-drop 4 token.units))) ∙ sym (drop-map (λ (o : Octet). o.byte) 4 token.units))

pub type_is : (token : Token) (units : List Octet) (bare first all : Bool) → units ≡ token.units → bare ≡ is_bare token → bare ≡ true → first ≡ first_passes (λ (o : Octet). is_ascii_alphabetic o.byte) units → first ≡ true → all ≡ list_all (λ (o : Octet). is_type_byte o.byte) units
    → all ≡ is_type token
type_is token units bare first all same b b-true f f-true a =
    a ∙ type_bytes units ∙ ap (λ (l : List Octet). list_all is_type_byte (bytes_in l)) same
    ∙ sym (ap₂ (λ s t. (s && t) && list_all is_type_byte (bytes_of token)) (sym b ∙ b-true) (ap (λ (l : List Octet). first_passes is_ascii_alphabetic (bytes_in l)) (sym same) ∙ sym (first_letter units) ∙ sym f ∙ f-true))

pub number_of_type_is : (token : Token) (digits : List Octet) (number : ℕ) (among : Bool) → is_numbered_word token (codes "type") ≡ true → digits ≡ take (length token.units - 4) (drop 4 token.units) → number ≡ min (digits_value 10 (bytes_in digits)) (2 ^ 32)
    → among ≡ list_any (λ n. n == number) (1 ∷ 2 ∷ 5 ∷ 15 ∷ 16 ∷ 28 ∷ 39 ∷ []) → among ≡ is_number_of_type token
number_of_type_is token digits number among word cut is a =
    a ∙ ap (λ m. list_any (λ n. n == m) (1 ∷ 2 ∷ 5 ∷ 15 ∷ 16 ∷ 28 ∷ 39 ∷ [])) is
    ∙ any_held (1 ∷ 2 ∷ 5 ∷ 15 ∷ 16 ∷ 28 ∷ 39 ∷ []) (digits_value 10 (bytes_in digits)) (2 ^ 32) (lit< tt, (lit< tt, (lit< tt, (lit< tt, (lit< tt, (lit< tt, (lit< tt, tt)))))))
    ∙ ap (λ m. list_any (λ n. n == m) (1 ∷ 2 ∷ 5 ∷ 15 ∷ 16 ∷ 28 ∷ 39 ∷ [])) (number_is token digits cut)
    ∙ sym (ap (λ t. t && list_any (λ n. n == number_behind (codes "type") token) (1 ∷ 2 ∷ 5 ∷ 15 ∷ 16 ∷ 28 ∷ 39 ∷ [])) word)
