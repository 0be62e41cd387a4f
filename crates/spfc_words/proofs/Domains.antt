-- A domain, taken in lower case, is a legal name.
use Rattle.std.proofs.Common.{◌≡◌, ℕ, ◌≤◌, true, IsTrue, IsOk, Ok, List, [], ◌∷◌, length, map, None, refl, sym, ap, ◌∙◌, arith}
use Rattle.std.specs.List.{list_all, slice_split}
use Rattle.std.specs.Str.{str_to_ascii_lowercase}
use Rattle.std.proofs.lemmas.Bool.{and_parts, leb-true}
use Rattle.std.proofs.lemmas.List.{length-map}
use Rattle.dns_name.specs.Name.{IsLabel, lowercase_label, earlier_fault, first_fault, name_of_text, is_dot}
use Rattle.dns_name.proofs.Names.{no_fault_from_label}
use Rattle.dns_name.proofs.Texts.{legal_text, split_lower}
use Rattle.std.specs.Result.{result_unwrap_or}
use Rattle.spf_macros.specs.Words.{is_domain, is_domain_label}
use Rattle.spfc_words.specs.declared.domain.Domain.{Domain}
use Rattle.spfc_words.specs.Domains.{IsDomain}

-- ---- labels
legal_label : (label : List ℕ) → is_domain_label label ≡ true → IsLabel (lowercase_label label)
legal_label label h =
    let sizes = and_parts _ _ (and_parts _ _ (and_parts _ _ h).0).0 in
    let some : 1 ≤ length label = leb-true 1 (length label) sizes.0 in
    let few : length label ≤ 63 = leb-true (length label) 63 sizes.1 in
    let same : length (lowercase_label label) ≡ length label = simp length-map in
    (omega arith, omega arith)

legal_labels : (labels : List (List ℕ)) → list_all is_domain_label labels ≡ true → first_fault (map lowercase_label labels) ≡ None
legal_labels [] h = refl
legal_labels (label ∷ labels) h =
    let parts = and_parts (is_domain_label label) (list_all is_domain_label labels) h in
    ap (λ f. earlier_fault f (first_fault (map lowercase_label labels))) (no_fault_from_label (lowercase_label label) (legal_label label parts.0)) ∙ legal_labels labels parts.1

lower_short : (text : List ℕ) → length text ≤ 253 → length (str_to_ascii_lowercase text) ≤ 253
lower_short text short = let same : length (str_to_ascii_lowercase text) ≡ length text = simp length-map in omega arith

-- the labels of a domain in lower case are legal
pub domain_is_legal : (text : List ℕ) → IsTrue (is_domain text) → first_fault (slice_split is_dot (str_to_ascii_lowercase text)) ≡ None
domain_is_legal text h =
    let parts = and_parts _ _ h in
    ap first_fault (split_lower text) ∙ legal_labels (slice_split is_dot text) (and_parts _ _ (and_parts _ _ parts.0).0).1

pub domain_is_name : (text : List ℕ) → IsTrue (is_domain text) → IsOk (name_of_text (str_to_ascii_lowercase text))
domain_is_name text h =
    let short : length text ≤ 253 = leb-true (length text) 253 (and_parts _ _ h).1 in
    legal_text (str_to_ascii_lowercase text) (domain_is_legal text h) (lower_short text short)

-- a word is one domain at most
pub one_domain : (word : List ℕ) (a b : Domain) → IsDomain word a → IsDomain word b → a ≡ b
one_domain word a b x y =
    let text : a.text ≡ b.text = x.lower ∙ sym y.lower in
    let same : Ok a.name ≡ Ok b.name = sym x.named ∙ (ap (λ t. name_of_text t) text ∙ y.named) in
    let name : a.name ≡ b.name = ap (λ r. result_unwrap_or r []) same in
    λ i. record { text = text i; name = name i }
