-- Records that stand at their names are a chain.
use Rattle.std.proofs.Common.{◌≡◌, ℕ, suc, ◌+◌, ◌<◌, ◌≤◌, ◌==◌, Bool, true, false, cond, ◌&&◌, IsTrue, Ok, Err, Result, List, [], ◌∷◌, ◌++◌, length, map, bytes_eq, refl, sym, ap, subst, ◌∙◌, arith, Option, Some, None, ne_eqb, length-append, ap₂, true≢false}
use Rattle.std.specs.Prelude.{nat_le, decimal}
use Rattle.std.specs.List.{list_all, slice_split, All}
use Rattle.std.specs.Char.{to_ascii_lowercase, is_ascii_digit}
use Rattle.std.proofs.lemmas.Bool.{and_parts, and_from, or_left, or_right, leb-true}
use Rattle.std.proofs.lemmas.Str.Ascii.{lowercase_is}
use Rattle.std.proofs.lemmas.Slice.Eq.{bytes_eq-Decides}
use Rattle.std.proofs.lemmas.Fmt.{decimal_digit, decimal_step, length-decimal-le}
use Rattle.std.proofs.lemmas.List.{map-append}
use Rattle.std.proofs.lemmas.List.Elements.{All-nil, All-cons}
use Rattle.std.proofs.lemmas.List.Splits.{slice_split_at}
use Rattle.dns_name.proofs.Names.{no_fault_from_label}
use Rattle.dns_name.specs.declared.fault.NameFault.{NameFault}
use Rattle.dns_name.specs.Name.{name_of_text, name_of_labels, is_dot, fault_or, first_fault, lowercase_label, earlier_fault}
use Rattle.dns_name.specs.Parts.{without_final}
use Rattle.spf_macros.specs.Words.{is_domain, is_domain_label, is_label, is_word_byte, last_label}
use Rattle.spf_macros.specs.declared.piece.Piece.{Piece}
use Rattle.spf_macros.specs.Grammar.{is_toplabel}
use Rattle.spf_grammar.proofs.Numbers.{decimal_ascii}
use Rattle.spf_grammar.specs.Grammar.{SpellsPolicy}
use Rattle.spf_grammar.specs.declared.flat.FlatTerm.{FlatTerm}
use Rattle.spf_model.specs.Chains.{directives_of, redirect_terms, IsChain, StandsAt}
use Rattle.spf_model.specs.Judging.{name_of, legal}
use Rattle.spf_model.specs.Run.{Answering}
use Rattle.record_pack.specs.Records.{record_name, record_text}
use Rattle.zone_writer.specs.Written.{AreChainWords, record_owner}
use Rattle.zone_writer.proofs.Domains.{DomainEnds, domain_ends, in_range, next_name, no_final_dot}
use Rattle.dns_name.proofs.Texts.{text_makes_name}
use Rattle.published_records.specs.Chain.{next_spec, Holds, HoldRecords, AllHavePrefixes, RecordsAreChain}
use Rattle.published_records.proofs.RecordTexts.{records_spell, records_lead_on}

-- ---- the names of records

-- labels that make a name have no fault
no_fault : {A : Type 0} (f : Option NameFault) (r : Result A NameFault) (x : A) → fault_or f r ≡ Ok x → f ≡ None
no_fault None r x e = refl
no_fault (Some f) r x e = absurd (other e)
  where
    other : Err f ≡ Ok x → ⊥
    other e = cc

-- the labels of a domain that makes a name are legal, and the name is they
domain_legal : (domain label : List ℕ) (name : List (List ℕ)) → AreChainWords domain label → name_of_text domain ≡ Ok name → first_fault (slice_split is_dot domain) ≡ None
domain_legal domain label name words named = by (bytes_eq domain (46 ∷ [])) refl named
  where
    ends : DomainEnds domain
    ends = domain_ends domain words.domain_form

    long : domain ≡ 46 ∷ [] → ⊥
    long e = let none = subst (λ t. IsTrue (is_domain t)) e words.domain_form in true≢false (sym none)

    by : (t : Bool) → bytes_eq domain (46 ∷ []) ≡ t → cond t (Ok []) (name_of_labels (slice_split is_dot (without_final is_dot domain))) ≡ Ok name
        → first_fault (slice_split is_dot domain) ≡ None
    by true e is = absurd (long ((bytes_eq-Decides domain (46 ∷ [])).0 e))
    by false e is =
        no_fault (first_fault (slice_split is_dot domain)) _ name (sym (ap (λ t. name_of_labels (slice_split is_dot t)) (no_final_dot domain ends)) ∙ is)

domain_short : (domain : List ℕ) → IsTrue (is_domain domain) → length domain ≤ 253
domain_short domain h = leb-true (length domain) 253 (and_parts _ _ h).1

abbrev of_ok : Result (List (List ℕ)) NameFault → List (List ℕ)
of_ok (Ok name) = name
of_ok (Err fault) = []

pub name_is : (domain label : List ℕ) (name : List (List ℕ)) → AreChainWords domain label → name_of_text domain ≡ Ok name → name ≡ map lowercase_label (slice_split is_dot domain)
name_is domain label name words named = ap of_ok (sym named ∙ text_makes_name domain (domain_legal domain label name words named) (domain_short domain words.domain_form))

-- a name of two labels or more
abbrev pub HasTwoLabels : List (List ℕ) → Type 0
HasTwoLabels [] = ⊥
HasTwoLabels (label ∷ []) = ⊥
HasTwoLabels (label ∷ next ∷ labels) = Unit {0}

pub two_labels : (labels : List (List ℕ)) → 2 ≤ length labels → HasTwoLabels (map lowercase_label labels)
two_labels [] h = absurd (omega (arith, h))
two_labels (label ∷ []) h = absurd (omega (arith, h))
two_labels (label ∷ next ∷ labels) h = tt

name_has_two : (domain label : List ℕ) (name : List (List ℕ)) → AreChainWords domain label → name_of_text domain ≡ Ok name → HasTwoLabels name
name_has_two domain label name words named =
    let labels = slice_split (λ b. b == 46) domain in
    let parts = and_parts (nat_le 2 (length labels) && list_all is_domain_label labels && is_toplabel (last_label labels)) (nat_le (length domain) 253) words.domain_form in
    let tops = and_parts (nat_le 2 (length labels) && list_all is_domain_label labels) (is_toplabel (last_label labels)) parts.0 in
    let sizes = and_parts (nat_le 2 (length labels)) (list_all is_domain_label labels) tops.0 in
    subst HasTwoLabels (sym (name_is domain label name words named)) (two_labels (slice_split is_dot domain) (leb-true 2 (length labels) sizes.0))

pub owner_has_two : (name : List (List ℕ)) (label : List ℕ) (k : ℕ) → HasTwoLabels name → HasTwoLabels (record_owner name label k)
owner_has_two name label k h = by (k == 0) name h
  where
    by : (t : Bool) (n : List (List ℕ)) → HasTwoLabels n → HasTwoLabels (cond t n ((label ++ decimal k) ∷ n))
    by true n h = h
    by false [] h = absurd h
    by false (l ∷ n) h = tt

-- ---- the label of a record behind the first

-- letters, digits, hyphens and underscores
abbrev pub AreWordBytes : List ℕ → Type 0
AreWordBytes bs = list_all is_word_byte bs ≡ true

digits_word : (ds : List ℕ) → list_all is_ascii_digit ds ≡ true → AreWordBytes ds
digits_word [] h = refl
digits_word (d ∷ ds) h =
    let parts = and_parts (is_ascii_digit d) (list_all is_ascii_digit ds) h in
    and_from (is_word_byte d) (list_all is_word_byte ds) (or_left _ _ (or_left _ _ (or_right _ _ parts.0))) (digits_word ds parts.1)

digits_lower : (ds : List ℕ) → list_all is_ascii_digit ds ≡ true → map to_ascii_lowercase ds ≡ ds
digits_lower [] h = refl
digits_lower (d ∷ ds) h =
    let parts = and_parts (is_ascii_digit d) (list_all is_ascii_digit ds) h in
    let small : d < 65 = omega (arith, (in_range 48 57 d parts.0).1) in
    ap₂ (λ x xs. x ∷ xs) ((lowercase_is d).1 small) (digits_lower ds parts.1)

word_append : (xs ys : List ℕ) → AreWordBytes xs → AreWordBytes ys → AreWordBytes (xs ++ ys)
word_append [] ys h g = g
word_append (x ∷ xs) ys h g =
    let parts = and_parts (is_word_byte x) (list_all is_word_byte xs) h in
    and_from (is_word_byte x) (list_all is_word_byte (xs ++ ys)) parts.0 (word_append xs ys parts.1 g)

lower_append : (xs ys : List ℕ) → map to_ascii_lowercase xs ≡ xs → map to_ascii_lowercase ys ≡ ys → map to_ascii_lowercase (xs ++ ys) ≡ xs ++ ys
lower_append xs ys h g = map-append to_ascii_lowercase xs ys ∙ ap₂ (λ a b. a ++ b) h g

label_words : (label : List ℕ) → IsTrue (is_label label) → AreWordBytes label × (1 ≤ length label) × (length label ≤ 61)
label_words [] h = absurd (true≢false (sym h))
label_words (b ∷ bs) h =
    let parts = and_parts ((b == 95) && nat_le (length bs) 60) (list_all is_word_byte bs) h in
    let start = and_parts (b == 95) (nat_le (length bs) 60) parts.0 in
    (and_from (is_word_byte b) (list_all is_word_byte bs) (or_right _ _ start.0) parts.1, omega arith, omega (arith, leb-true (length bs) 60 start.1))

no_dot : (bs : List ℕ) → AreWordBytes bs → All (λ b. is_dot b ≡ false) bs
no_dot [] h = All-nil (λ b. is_dot b ≡ false)
no_dot (b ∷ bs) h =
    let parts = and_parts (is_word_byte b) (list_all is_word_byte bs) h in
    All-cons (λ b. is_dot b ≡ false) b bs (ne_eqb b 46 (λ (e : b ≡ 46). true≢false (sym (subst (λ x. is_word_byte x ≡ true) e parts.0)))) (no_dot bs parts.1)

-- what is known of the label of record k
pub record RecordLabel (label : List ℕ) (k : ℕ) : Type 0 where
  pub bytes : AreWordBytes (label ++ decimal k)
  pub some : 1 ≤ length (label ++ decimal k)
  pub few : length (label ++ decimal k) ≤ length label + 2
  pub long : length (label ++ decimal k) ≤ 63
  pub lower : map to_ascii_lowercase (label ++ decimal k) ≡ label ++ decimal k

record_label : (domain label : List ℕ) (k : ℕ) → AreChainWords domain label → k ≤ 10 → RecordLabel label k
record_label domain label k words few =
    let w = label_words label words.label_form in
    let digits = decimal_ascii k (omega (arith, few)) in
    let short : length (decimal k) ≤ 2 = length-decimal-le 2 k (omega arith) (omega (arith, few)) (omega (arith, few)) in
    let whole : length (label ++ decimal k) ≡ length label + length (decimal k) = length-append label (decimal k) in
    record {
      bytes = word_append label (decimal k) w.0 (digits_word (decimal k) digits);
      some = omega (arith, w.1, whole);
      few = omega (arith, short, whole);
      long = omega (arith, w.2, short, whole);
      lower = lower_append label (decimal k) words.label_lower (digits_lower (decimal k) digits);
    }

-- the name of record 10 is the longest
pub ten_long : length (decimal 10) ≡ 2
ten_long = ap length (decimal_step 10 (omega arith) (omega arith)) ∙ ap (λ ds. length (ds ++ 48 ∷ [])) (decimal_digit 1 (omega arith))

pub name_short : (domain label : List ℕ) (k : ℕ) → AreChainWords domain label → k + 1 ≤ 10 → length (record_name domain label (k + 1)) ≤ 253
name_short domain label k words few =
    let r = record_label domain label (k + 1) words few in
    let here : length (record_name domain label (k + 1)) ≡ length (label ++ decimal (k + 1)) + suc (length domain) =
    ap length (next_name domain label k) ∙ length-append (label ++ decimal (k + 1)) (46 ∷ domain) in
    let last : length ((label ++ decimal 10) ++ 46 ∷ domain) ≡ length label + 2 + suc (length domain) =
    length-append (label ++ decimal 10) (46 ∷ domain) ∙ ap (λ n. n + suc (length domain)) (length-append label (decimal 10) ∙ ap (λ n. length label + n) ten_long) in
    let short : length ((label ++ decimal 10) ++ 46 ∷ domain) ≤ 253 = words.short in
    omega (arith, here, r.few, last, short)

-- the name of a record is its label in front of the domain's
pub next_named : (domain label : List ℕ) (name : List (List ℕ)) (k : ℕ) → AreChainWords domain label → name_of_text domain ≡ Ok name → k + 1 ≤ 10
    → name_of_text (record_name domain label (k + 1)) ≡ Ok (record_owner name label (k + 1))
next_named domain label name k words named few =
    subst (λ t. name_of_text t ≡ Ok (record_owner name label (k + 1))) (sym (next_name domain label k))
    (text_makes_name (x ++ 46 ∷ domain) legal short ∙ ap Ok same)
  where
    x : List ℕ
    x = label ++ decimal (k + 1)

    about : RecordLabel label (k + 1)
    about = record_label domain label (k + 1) words few

    split : slice_split is_dot (x ++ 46 ∷ domain) ≡ x ∷ slice_split is_dot domain
    split = slice_split_at is_dot x 46 domain (no_dot x about.bytes) refl

    legal : first_fault (slice_split is_dot (x ++ 46 ∷ domain)) ≡ None
    legal = ap first_fault split ∙ ap (λ f. earlier_fault f (first_fault (slice_split is_dot domain))) (no_fault_from_label x (about.some, about.long)) ∙ domain_legal domain label name words named

    short : length (x ++ 46 ∷ domain) ≤ 253
    short = subst (λ t. length t ≤ 253) (next_name domain label k) (name_short domain label k words few)

    same : map lowercase_label (slice_split is_dot (x ++ 46 ∷ domain)) ≡ record_owner name label (k + 1)
    same = ap (map lowercase_label) split ∙ ap₂ (λ l ls. l ∷ ls) about.lower (sym (name_is domain label name words named))
        ∙ sym (ap (λ b. cond b name (x ∷ name)) (ne_eqb (k + 1) 0 (λ (e : k + 1 ≡ 0). omega (arith, e))))

-- the name of a legal text
pub unfolded : (text : List ℕ) (name : List (List ℕ)) → name_of_text text ≡ Ok name → name_of text ≡ Some name
unfolding Rattle.spf_model.specs.Judging.name_of
unfolded text name h = ap legal h

-- ---- a record that stands at its name
pub stands : (zones : Answering) (name : List (List ℕ)) (text : List ℕ) (terms : List FlatTerm) (redirect : Option (List Piece)) → HasTwoLabels name → Holds zones name text
    → SpellsPolicy text (record { terms = directives_of terms (redirect_terms redirect) }) → StandsAt zones name terms redirect
stands zones [] text terms redirect two holds spells = absurd two
stands zones (label ∷ []) text terms redirect two holds spells = absurd two
stands zones (label ∷ next ∷ labels) text terms redirect two holds spells = record {
  bodies = holds.bodies;
  text = text;
  policy = record { terms = directives_of terms (redirect_terms redirect) };
  is_found = holds.is_found;
  alone = holds.alone;
  spells = spells;
  is_flat = refl;
}

chain_from : (zones : Answering) (domain label : List ℕ) (name : List (List ℕ)) (k : ℕ) (terms : List FlatTerm) (lists : List (List FlatTerm))
    → AreChainWords domain label → name_of_text domain ≡ Ok name → k + length lists ≤ 10 → AllHavePrefixes (terms ∷ lists)
    → HoldRecords zones domain label name k (terms ∷ lists) → IsChain zones (record_name domain label k) (record_owner name label k) (terms ∷ lists)
chain_from zones domain label name k terms [] words named few prefixes hold =
    stands zones (record_owner name label k) (record_text domain label terms k true) terms None (owner_has_two name label k (name_has_two domain label name words named)) hold.0
    (records_spell domain label terms k true words.domain_form words.label_form (omega (arith, few)) prefixes.0)
chain_from zones domain label name k terms (next ∷ lists) words named few prefixes hold = (
  next_spec domain label k,
  record_name domain label (k + 1),
  record_owner name label (k + 1),
  stands zones (record_owner name label k) (record_text domain label terms k false) terms (Some (next_spec domain label k)) (owner_has_two name label k (name_has_two domain label name words named)) hold.0
      (records_spell domain label terms k false words.domain_form words.label_form (omega (arith, few)) prefixes.0),
  record {
    reached = λ family. records_lead_on domain label k family (record_name domain label k) words.domain_form words.label_form (omega (arith, few)) (name_short domain label k words (omega (arith, few)));
    named = unfolded (record_name domain label (k + 1)) (record_owner name label (k + 1)) (next_named domain label name k words named (omega (arith, few)));
  },
  chain_from zones domain label name (k + 1) next lists words named (omega (arith, few)) prefixes.1 hold.1,
)

pub records_are_chain : RecordsAreChain
records_are_chain zones domain label name terms lists words named few prefixes hold =
    chain_from zones domain label name 0 terms lists words named (omega (arith, few)) prefixes hold
