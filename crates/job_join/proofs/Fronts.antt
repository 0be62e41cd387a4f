-- The domains in front of the other words.
use Rattle.std.proofs.Common.{◌≡◌, ◌≢◌, ◌<◌, ◌≤◌, ◌+◌, ◌-◌, ◌++◌, ◌∙◌, ℕ, not, Bool, true, false, bytes_eq, List, [], ◌∷◌, Option, Some, None, MatchOption, length, map, take, drop, cond, get_or, nat_lt, String, string_bytes, true≢false, append_assoc, refl, sym, ap, ap₂, subst, arith}
use Rattle.std.specs.List.{AllZip, list_any, position, position_or_len, take-map, drop-map}
use Rattle.std.specs.Cmp.Lexicographic.{bytes_decides}
use Rattle.std.specs.declared.alloc.Global.{Global}
use Rattle.std.proofs.Math.ListN.{get_or-append}
use Rattle.std.proofs.Math.Seq.{get_or-append_seam}
use Rattle.std.proofs.lemmas.Bool.{ltb-false}
use Rattle.std.proofs.lemmas.List.{take_all, length-drop, get_or_default, map_more}
use Rattle.std.proofs.lemmas.List.Sums.{prefix_len-le-length}
use Rattle.std.proofs.lemmas.List.Quantifiers.{all_pairs_push}
use Rattle.std.proofs.lemmas.List.Folds.{Any-from_list_any, list_any_at}
use Rattle.spfc_words.specs.Domains.{IsDomain}
use Rattle.spfc_words.specs.Words.{texts}
use Rattle.spfc_words.specs.declared.domain.Domain.{Domain}
use Rattle.spfc_words.proofs.Domains.{one_domain}
use Rattle.spfc_words.proofs.ZoneWords.{parts_at, zip_begins, zip_lacks, zip_push}
use Rattle.job_join.specs.Words.{HaveOwnTexts, behind_domains, domains_in, is_other}

-- ---- the first place
module _ {X Y : Type 0} (h : X → Y) (p : Y → Bool) where
  place_of_values : (xs : List X) → position_or_len p (map h xs) ≡ position_or_len (λ x. p (h x)) xs
  place_of_values [] = refl
  place_of_values (x ∷ xs) = ap (λ (n : ℕ). cond (not (p (h x))) (1 + n) 0) (place_of_values xs)

  pub front_of : (xs : List X) (n : ℕ) → n ≡ position_or_len (λ x. p (h x)) xs → map h (take n xs) ≡ take (position_or_len p (map h xs)) (map h xs)
  front_of xs n is = sym (take-map h n xs) ∙ ap (λ (k : ℕ). take k (map h xs)) (is ∙ sym (place_of_values xs))

  pub rest_of : (xs : List X) (n : ℕ) → n ≡ position_or_len (λ x. p (h x)) xs → map h (take (length xs - n) (drop n xs)) ≡ drop (position_or_len p (map h xs)) (map h xs)
  rest_of xs n is =
      ap (map h) (take_all (length xs - n) (drop n xs) (omega (arith, length-drop n xs)))
      ∙ (sym (drop-map h n xs) ∙ ap (λ (k : ℕ). drop k (map h xs)) (is ∙ sym (place_of_values xs)))

module _ {X : Type 0} (p : X → Bool) where
  found_by : (b : Bool) (n i : ℕ) → cond b (Some n) None ≡ Some i → i ≡ n
  found_by true n i e = cc
  found_by false n i e = absurd cc

  none_by : (b : Bool) (n : ℕ) → cond b (Some n) None ≡ None → b ≡ false
  none_by true n e = absurd cc
  none_by false n e = refl

  at_most : (xs : List X) → position_or_len p xs ≤ length xs
  at_most xs = prefix_len-le-length (λ x. not (p x)) xs

  pub counted_some : (xs : List X) (i : ℕ) → position p xs ≡ Some i → i ≡ position_or_len p xs
  counted_some xs i e = found_by (nat_lt (position_or_len p xs) (length xs)) (position_or_len p xs) i e

  pub counted_none : (xs : List X) → position p xs ≡ None → length xs ≡ position_or_len p xs
  counted_none xs e =
      let full : length xs ≤ position_or_len p xs =
      ltb-false (position_or_len p xs) (length xs) (none_by (nat_lt (position_or_len p xs) (length xs)) (position_or_len p xs) e) in
      omega (arith, full, at_most xs)

-- ---- domains in a row
same_domain : (word : List ℕ) (a b : Domain) → IsDomain word a → IsDomain word b → b ≡ a
same_domain word a b x y = one_domain word b a y x

-- a text that stands among the first domains stands twice
stands_twice : (seen more domains : List Domain) (domain : Domain) → list_any (λ d. bytes_eq d.text domain.text) seen ≡ true → domains ≡ seen ++ domain ∷ more → HaveOwnTexts domains → ⊥
stands_twice seen more domains domain found parts own =
    let place = Any-from_list_any (λ d. bytes_eq d.text domain.text) seen found in
    let early : get_or domains place.0 domain ≡ place.1 = ap (λ ds. get_or ds place.0 domain) parts ∙ get_or-append seen (domain ∷ more) domain place.0 place.2 ∙ get_or_default seen place.0 domain place.1 place.2 ∙ place.3 in
    let late : get_or domains (length seen) domain ≡ domain = ap (λ ds. get_or ds (length seen) domain) parts ∙ get_or-append_seam seen domain more domain in
    let same : place.1.text ≡ domain.text = (bytes_decides place.1.text domain.text).0 place.4 in
    own place.0 (length seen) domain place.2 (subst (λ ds. length seen < length ds) (sym parts) (omega (arith, length_more seen domain more)))
    (ap (λ (d : Domain). d.text) early ∙ same ∙ sym (ap (λ (d : Domain). d.text) late))
  where
    length_more : (xs : List Domain) (x : Domain) (ys : List Domain) → length xs < length (xs ++ x ∷ ys)
    length_more [] x ys = omega arith
    length_more (y ∷ xs) x ys = omega (arith, length_more xs x ys)

pub refused_at : (words : List (String Global)) (i : ℕ) (word : String Global) (text : List ℕ) (domains : List Domain) → i < length words → word ≡ get_or words i word → text ≡ string_bytes word
    → ((any : Domain) → ¬ IsDomain text any) → AllZip IsDomain (texts words) domains → ⊥
refused_at words i word text domains lt at same none each =
    let parts = parts_at string_bytes words i word lt in
    let whole : texts words ≡ texts (take i words) ++ string_bytes word ∷ parts.0 = parts.1 ∙ ap (λ (w : String Global). texts (take i words) ++ string_bytes w ∷ parts.0) (sym at) in
    zip_lacks IsDomain (texts (take i words)) parts.0 (string_bytes word) domains (λ any is. none any (subst (λ (t : List ℕ). IsDomain t any) (sym same) is))
    (subst (λ ws. AllZip IsDomain ws domains) whole each)

pub taken_at : (words : List (String Global)) (i : ℕ) (word : String Global) (text : List ℕ) (seen domains : List Domain) (domain : Domain) → i < length words → word ≡ get_or words i word → text ≡ string_bytes word
    → AllZip IsDomain (texts (take i words)) seen → IsDomain text domain → list_any (λ d. bytes_eq d.text domain.text) seen ≡ true
    → AllZip IsDomain (texts words) domains → HaveOwnTexts domains → ⊥
taken_at words i word text seen domains domain lt at same so_far is found each own =
    let parts = parts_at string_bytes words i word lt in
    let whole : texts words ≡ (texts (take i words) ++ string_bytes word ∷ []) ++ parts.0 =
    parts.1 ∙ ap (λ (w : String Global). texts (take i words) ++ string_bytes w ∷ parts.0) (sym at) ∙ sym (append_assoc (texts (take i words)) (string_bytes word ∷ []) parts.0) in
    let begins = zip_begins IsDomain same_domain (texts (take i words) ++ string_bytes word ∷ []) parts.0 (seen ++ domain ∷ []) domains
    (zip_push IsDomain (texts (take i words)) seen (string_bytes word) domain so_far (subst (λ (t : List ℕ). IsDomain t domain) same is))
    (subst (λ ws. AllZip IsDomain ws domains) whole each) in
    stands_twice seen begins.0 domains domain found (begins.1 ∙ append_assoc seen (domain ∷ []) begins.0) own

-- one more domain, whose text is new
pub one_more : (words : List (String Global)) (i : ℕ) (word : String Global) (text : List ℕ) (seen : List Domain) (domain : Domain) → i < length words → word ≡ get_or words i word → text ≡ string_bytes word
    → AllZip IsDomain (texts (take i words)) seen → IsDomain text domain → AllZip IsDomain (texts (take (i + 1) words)) (seen ++ domain ∷ [])
one_more words i word text seen domain lt at same so_far is =
    let more : texts (take (i + 1) words) ≡ texts (take i words) ++ string_bytes word ∷ [] =
    map_more string_bytes words i word lt ∙ ap (λ (w : String Global). texts (take i words) ++ string_bytes w ∷ []) (sym at) in
    subst (λ ws. AllZip IsDomain ws (seen ++ domain ∷ [])) (sym more)
    (zip_push IsDomain (texts (take i words)) seen (string_bytes word) domain so_far (subst (λ (t : List ℕ). IsDomain t domain) same is))

pub own_push : (seen : List Domain) (domain : Domain) → HaveOwnTexts seen → list_any (λ d. bytes_eq d.text domain.text) seen ≡ false → HaveOwnTexts (seen ++ domain ∷ [])
own_push seen domain own free =
    all_pairs_push (λ (a b : Domain). a.text ≢ b.text) seen domain own
    (λ k d lt same. true≢false (sym (list_any_at (λ e. bytes_eq e.text domain.text) seen k d lt
    ((bytes_decides (get_or seen k d).text domain.text).1 same)) ∙ free))
