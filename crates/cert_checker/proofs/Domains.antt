-- A domain is a legal name of two labels or more.
use Rattle.std.proofs.Common.{◌≡◌, ℕ, ◌≤◌, ◌==◌, ◌&&◌, true, IsTrue, IsOk, Ok, Result, List, [], ◌∷◌, length, map, None, refl, sym, ap, ◌∙◌, subst}
use Rattle.std.specs.Prelude.{nat_le}
use Rattle.std.specs.List.{list_all, slice_split}
use Rattle.std.proofs.lemmas.Bool.{and_parts, leb-true}
use Rattle.dns_name.specs.Name.{IsLabel, lowercase_label, earlier_fault, first_fault, name_of_text, is_dot}
use Rattle.dns_name.specs.declared.fault.NameFault.{NameFault}
use Rattle.dns_name.proofs.Names.{no_fault_from_label}
use Rattle.dns_name.proofs.Texts.{text_makes_name}
use Rattle.spf_macros.specs.Grammar.{is_toplabel}
use Rattle.spf_macros.specs.Words.{is_domain, is_domain_label, last_label}
use Rattle.published_records.proofs.RecordChains.{HasTwoLabels, two_labels}
use Rattle.cert_checker.specs.Forms.{name_at, or_root}

-- the parts of a domain
record Parts (domain : List ℕ) : Type 0 where
  many : 2 ≤ length (slice_split is_dot domain)
  legal : list_all is_domain_label (slice_split is_dot domain) ≡ true
  short : length domain ≤ 253

parts_of : (domain : List ℕ) → IsTrue (is_domain domain) → Parts domain
parts_of domain h =
    let labels = slice_split (λ b. b == 46) domain in
    let parts = and_parts (nat_le 2 (length labels) && list_all is_domain_label labels && is_toplabel (last_label labels)) (nat_le (length domain) 253) h in
    let tops = and_parts (nat_le 2 (length labels) && list_all is_domain_label labels) (is_toplabel (last_label labels)) parts.0 in
    let sizes = and_parts (nat_le 2 (length labels)) (list_all is_domain_label labels) tops.0 in
    record { many = leb-true 2 (length labels) sizes.0; legal = sizes.1; short = leb-true (length domain) 253 parts.1 }

legal_label : (label : List ℕ) → is_domain_label label ≡ true → IsLabel label
legal_label label h =
    let sizes = and_parts _ _ (and_parts _ _ (and_parts _ _ h).0).0 in
    (leb-true 1 (length label) sizes.0, leb-true (length label) 63 sizes.1)

legal_labels : (labels : List (List ℕ)) → list_all is_domain_label labels ≡ true → first_fault labels ≡ None
legal_labels [] h = refl
legal_labels (label ∷ labels) h =
    let parts = and_parts (is_domain_label label) (list_all is_domain_label labels) h in
    ap (λ f. earlier_fault f (first_fault labels)) (no_fault_from_label label (legal_label label parts.0)) ∙ legal_labels labels parts.1

made : (domain : List ℕ) → IsTrue (is_domain domain) → name_of_text domain ≡ Ok (map lowercase_label (slice_split is_dot domain))
made domain h =
    let parts : Parts domain = parts_of domain h in
    text_makes_name domain (legal_labels (slice_split is_dot domain) parts.legal) parts.short

pub named_at : (domain : List ℕ) → IsTrue (is_domain domain) → name_of_text domain ≡ Ok (name_at domain)
named_at domain h = made domain h ∙ sym (ap (λ r. Ok (or_root r)) (made domain h))

pub has_two : (domain : List ℕ) → IsTrue (is_domain domain) → HasTwoLabels (name_at domain)
has_two domain h = subst HasTwoLabels (sym (ap or_root (made domain h))) (two_labels (slice_split is_dot domain) (parts_of domain h).many)

pub is_name : (domain : List ℕ) → IsTrue (is_domain domain) → IsOk (name_of_text domain)
is_name domain h = subst IsOk (sym (named_at domain h)) refl

pub name_same : (domain : List ℕ) (name : List (List ℕ)) (r : Result (List (List ℕ)) NameFault) → r ≡ name_of_text domain → r ≡ Ok name → name ≡ name_at domain
name_same domain name r told is = ap or_root (sym is ∙ told)
