-- The names of the records of a chain, and what is left of them.
use Rattle.std.proofs.Common.{◌≡◌, ℕ, ◌+◌, ◌<◌, ◌≤◌, ◌==◌, Bool, true, false, IsTrue, List, [], ◌∷◌, ◌++◌, length, drop, get_or, refl, sym, ap, ◌∙◌, subst, arith, add-one, drop-cons, Some, None, ap₂, true≢false, bytes_eq, take, take-append-drop, ne_eqb}
use Rattle.std.specs.Prelude.{decimal}
use Rattle.std.proofs.Math.Seq.{take-append_seam}
use Rattle.std.proofs.lemmas.Fmt.{decimal_digit}
use Rattle.std.proofs.lemmas.List.{append_cancel_left}
use Rattle.dns_name.specs.Name.{first_label_of, parent_of}
use Rattle.master_reader.specs.declared.record.Record.{Record}
use Rattle.spf_macros.specs.Words.{is_label}
use Rattle.spf_grammar.specs.declared.flat.FlatTerm.{FlatTerm}
use Rattle.spf_model.specs.Chains.{all_terms}
use Rattle.spf_model.specs.Check.{text_of}
use Rattle.spf_model.specs.Judging.{Labels}
use Rattle.zone_writer.specs.Written.{record_owner}
use Rattle.std.proofs.lemmas.Slice.Eq.{bytes_eq-Decides}
use Rattle.zone_answers.specs.Same.{same_name}
use Rattle.zone_answers.proofs.Nodes.{same_self, same_true}
use Rattle.published_records.proofs.StandingRecords.{owner_first, owner_later}
use Rattle.cert_checker.specs.Judging.{front_of}
use Rattle.cert_checker.specs.Forms.{AreLinked, HasChainForm, HaveOwners, TextFits, TextsFit}

pub next_item : {X : Type 0} (xs : List X) (i : ℕ) (x : X) → i < length xs → x ≡ get_or xs i x → drop i xs ≡ x ∷ drop (i + 1) xs
next_item xs i x within e = rw (add-one, drop-cons xs i x within, ← e) refl

-- ---- owners

-- the names of all records are told by those from a number on
abbrev pub OwnersBy : (name : Labels) → (label : List ℕ) → List Record → (number : ℕ) → List Record → Type 0
OwnersBy name label records number rest =
    (HaveOwners name label 0 records → HaveOwners name label number rest) × (HaveOwners name label number rest → HaveOwners name label 0 records)

pub owners_next : (name : Labels) (label : List ℕ) (records rest behind : List Record) (r : Record) (number : ℕ) → rest ≡ r ∷ behind → r.owner ≡ record_owner name label number
    → OwnersBy name label records number rest → OwnersBy name label records (number + 1) behind
owners_next name label records rest behind r number is owner by =
    (λ all. (subst (HaveOwners name label number) is (by.0 all)).1, λ more. by.1 (subst (HaveOwners name label number) (sym is) (owner, more)))

pub owners_not : (name : Labels) (label : List ℕ) (records rest behind : List Record) (r : Record) (number : ℕ) → rest ≡ r ∷ behind → (r.owner ≡ record_owner name label number → ⊥)
    → OwnersBy name label records number rest → HaveOwners name label 0 records → ⊥
owners_not name label records rest behind r number is other by all = other (subst (HaveOwners name label number) is (by.0 all)).0

pub owners_all : (name : Labels) (label : List ℕ) (records rest : List Record) (number : ℕ) → rest ≡ [] → OwnersBy name label records number rest → HaveOwners name label 0 records
owners_all name label records rest number none by = by.1 (subst (HaveOwners name label number) (sym none) tt)

-- ---- the label

heads : {X : Type 0} {x y : X} {xs ys : List X} → x ∷ xs ≡ y ∷ ys → x ≡ y
heads e = cc

pub owner_second : (name : Labels) (label : List ℕ) (r second : Record) (records : List Record) → HaveOwners name label 0 (r ∷ second ∷ records) → second.owner ≡ (label ++ decimal 1) ∷ name
owner_second name label r second records own = own.1.0

-- ---- sizes

-- the fit of all records is told by those from a number on
abbrev pub FitBy : (domain label : List ℕ) → (size others : ℕ) → List Record → (number : ℕ) → List Record → Type 0
FitBy domain label size others records number rest =
    (TextsFit domain label size others 0 records → TextsFit domain label size others number rest)
    × (TextsFit domain label size others number rest → TextsFit domain label size others 0 records)

pub fit_next : (domain label : List ℕ) (size others : ℕ) (records rest behind : List Record) (r : Record) (number : ℕ) → rest ≡ r ∷ behind → TextFits domain label size others number (text_of r.body)
    → FitBy domain label size others records number rest → FitBy domain label size others records (number + 1) behind
fit_next domain label size others records rest behind r number is fits by =
    (λ all. (subst (TextsFit domain label size others number) is (by.0 all)).1, λ more. by.1 (subst (TextsFit domain label size others number) (sym is) (fits, more)))

pub fit_not : (domain label : List ℕ) (size others : ℕ) (records rest behind : List Record) (r : Record) (number : ℕ) → rest ≡ r ∷ behind
    → (TextFits domain label size others number (text_of r.body) → ⊥) → FitBy domain label size others records number rest → TextsFit domain label size others 0 records → ⊥
fit_not domain label size others records rest behind r number is none by all = none (subst (TextsFit domain label size others number) is (by.0 all)).0

pub fit_all : (domain label : List ℕ) (size others : ℕ) (records rest : List Record) (number : ℕ) → rest ≡ [] → FitBy domain label size others records number rest → TextsFit domain label size others 0 records
fit_all domain label size others records rest number none by = by.1 (subst (TextsFit domain label size others number) (sym none) tt)

-- ---- labels

some_same : {X : Type 0} {x y : X} → Some x ≡ Some y → x ≡ y
some_same e = cc

some_none : {X : Type 0} {x : X} → Some x ≡ None → ⊥
some_none e = cc

one_is : decimal 1 ≡ 49 ∷ []
one_is = decimal_digit 1 (omega arith)

second_label : (name : Labels) (label : List ℕ) (records : List Record) (second : Record) → 1 < length records → second ≡ get_or records 1 second → HaveOwners name label 0 records
    → first_label_of second.owner ≡ Some (label ++ 49 ∷ [])
second_label name label [] second many is own = absurd (omega (arith, many))
second_label name label (r ∷ []) second many is own = absurd (omega (arith, many))
second_label name label (r ∷ s ∷ records) second many is own =
    ap (λ (x : Record). first_label_of x.owner) is ∙ ap first_label_of own.1.0 ∙ ap (λ ds. Some (label ++ ds)) one_is

pub label_single : (name : Labels) (records : List Record) → length records ≤ 1 → (label : List ℕ) → IsTrue (is_label label) → HaveOwners name label 0 records
    → IsTrue (is_label (95 ∷ [])) × HaveOwners name (95 ∷ []) 0 records
label_single name [] few label form own = (refl, tt)
label_single name (r ∷ []) few label form own = (refl, (own.0, tt))
label_single name (r ∷ s ∷ records) few label form own = absurd (omega (arith, few))

pub front_is : (xs : List ℕ) (x : ℕ) → front_of (xs ++ x ∷ []) ≡ xs
front_is [] x = refl
front_is (y ∷ []) x = refl
front_is (y ∷ z ∷ xs) x = ap (λ l. y ∷ l) (front_is (z ∷ xs) x)

pub label_second : (name : Labels) (records : List Record) (second : Record) (first : List ℕ) → 1 < length records → second ≡ get_or records 1 second
    → first_label_of second.owner ≡ Some first → (label : List ℕ) → IsTrue (is_label label) → HaveOwners name label 0 records
    → IsTrue (is_label (front_of first)) × HaveOwners name (front_of first) 0 records
label_second name records second first many is told label form own =
    let same : label ≡ front_of first =
    sym (front_is label 49) ∙ ap front_of (some_same (sym (second_label name label records second many is own) ∙ told)) in
    (subst (λ l. IsTrue (is_label l)) same form, subst (λ l. HaveOwners name l 0 records) same own)

pub no_first : (name : Labels) (records : List Record) (second : Record) → 1 < length records → second ≡ get_or records 1 second → first_label_of second.owner ≡ None → (label : List ℕ)
    → HaveOwners name label 0 records → ⊥
no_first name records second many is told label own = some_none (sym (second_label name label records second many is own) ∙ told)

-- ---- one name

pub numbered_so : (first label rest digits : List ℕ) (number : ℕ) (b : Bool) → first ≡ label ++ rest → digits ≡ decimal number → b ≡ bytes_eq rest digits
    → (IsTrue b → first ≡ label ++ decimal number) × (first ≡ label ++ decimal number → IsTrue b)
numbered_so first label rest digits number b whole is same = (
  λ t. whole ∙ ap (λ l. label ++ l) ((bytes_eq-Decides rest digits).0 (sym same ∙ t) ∙ is),
  λ e. same ∙ (bytes_eq-Decides rest digits).1 (append_cancel_left label rest digits (sym whole ∙ e ∙ ap (λ l. label ++ l) (sym is))),
)

-- what is left where a text begins with a label
pub begins_with : (first label rest : List ℕ) → bytes_eq (take (length label) first) label ≡ true → rest ≡ drop (length label) first → first ≡ label ++ rest
begins_with first label rest begins is =
    sym (take-append-drop (length label) first) ∙ ap₂ (λ (a b : List ℕ). a ++ b) ((bytes_eq-Decides (take (length label) first) label).0 begins) (sym is)

pub numbered_not : (first label : List ℕ) (number : ℕ) → bytes_eq (take (length label) first) label ≡ false
    → (IsTrue false → first ≡ label ++ decimal number) × (first ≡ label ++ decimal number → IsTrue false)
numbered_not first label number begins = (
  λ f. absurd (true≢false (sym f)),
  λ e. sym begins ∙ (bytes_eq-Decides (take (length label) first) label).1 (ap (take (length label)) e ∙ take-append_seam label (decimal number)),
)

pub owner_zero : (owner name : Labels) (label : List ℕ) (number : ℕ) (b : Bool) → number ≡ 0 → b ≡ same_name owner name
    → (IsTrue b → owner ≡ record_owner name label number) × (owner ≡ record_owner name label number → IsTrue b)
owner_zero owner name label number b is same =
    let zero : (number == 0) ≡ true = ap (λ n. n == 0) is in
    (λ t. same_true owner name (sym same ∙ t) ∙ sym (owner_first name label number zero), λ e. same ∙ same_self owner name (e ∙ owner_first name label number zero))

owner_is : (owner above : Labels) (first : List ℕ) → first_label_of owner ≡ Some first → parent_of owner ≡ Some above → owner ≡ first ∷ above
owner_is [] above first f p = absurd (some_none (sym f))
owner_is (l ∷ n) above first f p = ap₂ (λ (x : List ℕ) (xs : Labels). x ∷ xs) (some_same f) (some_same p)

tails : {X : Type 0} {x y : X} {xs ys : List X} → x ∷ xs ≡ y ∷ ys → xs ≡ ys
tails e = cc

pub owner_parts : (owner name above : Labels) (label first : List ℕ) (number : ℕ) (b : Bool) → (number ≡ 0 → ⊥) → first_label_of owner ≡ Some first → parent_of owner ≡ Some above → above ≡ name
    → (IsTrue b → first ≡ label ++ decimal number) × (first ≡ label ++ decimal number → IsTrue b)
    → (IsTrue b → owner ≡ record_owner name label number) × (owner ≡ record_owner name label number → IsTrue b)
owner_parts owner name above label first number b behind f p same both =
    let some : (number == 0) ≡ false = ne_eqb number 0 behind in
    let whole : owner ≡ first ∷ above = owner_is owner above first f p in (
      λ t. whole ∙ ap₂ (λ (x : List ℕ) (xs : Labels). x ∷ xs) (both.0 t) same ∙ sym (owner_later name label number some),
      λ e. both.1 (heads (sym whole ∙ e ∙ owner_later name label number some)),
    )

pub owner_other : (owner name above : Labels) (label first : List ℕ) (number : ℕ) (b : Bool) → (number ≡ 0 → ⊥) → first_label_of owner ≡ Some first → parent_of owner ≡ Some above
    → b ≡ same_name above name → b ≡ false → (IsTrue b → owner ≡ record_owner name label number) × (owner ≡ record_owner name label number → IsTrue b)
owner_other owner name above label first number b behind f p same denied =
    let some : (number == 0) ≡ false = ne_eqb number 0 behind in
    let whole : owner ≡ first ∷ above = owner_is owner above first f p in
    (λ t. absurd (true≢false (sym t ∙ denied)), λ e. same ∙ same_self above name (tails (sym whole ∙ e ∙ owner_later name label number some)))

-- ---- the whole

pub chain_so : (name : Labels) (records : List Record) (label : List ℕ) (lists : List (List FlatTerm)) (list : List FlatTerm) → length records ≤ 11 → IsTrue (is_label label)
    → HaveOwners name label 0 records → AreLinked records lists → list ≡ all_terms lists
    → (found : List (List FlatTerm)) × HasChainForm name records label found × (list ≡ all_terms found)
chain_so name records label lists list few form owners linked is = (lists, record { few = few; labelled = form; owners = owners; linked = linked }, is)
