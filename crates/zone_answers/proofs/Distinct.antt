-- Records that come again.
use Rattle.std.proofs.Common.{◌≡◌, ℕ, Bool, true, false, refl, ◌||◌, ◌&&◌, not, cond, List, [], ◌∷◌, ◌++◌, filter, sym, ap, ap₂, ◌∙◌, if◌then◌else◌, ◌==◌, true≢false}
use Rattle.std.specs.List.{list_any, AllByRecursion}
use Rattle.std.proofs.lemmas.Bool.Decides.{Decides-eqb}
use Rattle.std.proofs.lemmas.List.Elements.{filter-append}
use Rattle.master_reader.specs.declared.record.Body.{Body}
use Rattle.master_reader.specs.declared.record.Body.TheVariants.{A, Aaaa, Mx, Txt, Cname, Ns, Other}
use Rattle.master_reader.specs.declared.record.Record.{Record}
use Rattle.master_reader.specs.contracts.record.RecordPartialEq.TheImpl as derived
use Rattle.master_reader.specs.contracts.record.BodyPartialEq.TheImpl as derived_body
use Rattle.dns_name.proofs.Names.{same_name_decides}
use Rattle.zone_answers.specs.Same.{same_name, same_body, same_record, distinct_records}

-- what the derived equalities compute
body_is : (a b : Body) → derived_body.eq-value.it a b ≡ same_body a b
body_is (A m) (A n) = refl
body_is (A m) (Aaaa n) = refl
body_is (A m) (Mx q y) = refl
body_is (A m) (Txt y) = refl
body_is (A m) (Cname y) = refl
body_is (A m) (Ns y) = refl
body_is (A m) Other = refl
body_is (Aaaa m) (A n) = refl
body_is (Aaaa m) (Aaaa n) = refl
body_is (Aaaa m) (Mx q y) = refl
body_is (Aaaa m) (Txt y) = refl
body_is (Aaaa m) (Cname y) = refl
body_is (Aaaa m) (Ns y) = refl
body_is (Aaaa m) Other = refl
body_is (Mx p x) (A n) = refl
body_is (Mx p x) (Aaaa n) = refl
body_is (Mx p x) (Mx q y) = refl
body_is (Mx p x) (Txt y) = refl
body_is (Mx p x) (Cname y) = refl
body_is (Mx p x) (Ns y) = refl
body_is (Mx p x) Other = refl
body_is (Txt x) (A n) = refl
body_is (Txt x) (Aaaa n) = refl
body_is (Txt x) (Mx q y) = refl
body_is (Txt x) (Txt y) = refl
body_is (Txt x) (Cname y) = refl
body_is (Txt x) (Ns y) = refl
body_is (Txt x) Other = refl
body_is (Cname x) (A n) = refl
body_is (Cname x) (Aaaa n) = refl
body_is (Cname x) (Mx q y) = refl
body_is (Cname x) (Txt y) = refl
body_is (Cname x) (Cname y) = refl
body_is (Cname x) (Ns y) = refl
body_is (Cname x) Other = refl
body_is (Ns x) (A n) = refl
body_is (Ns x) (Aaaa n) = refl
body_is (Ns x) (Mx q y) = refl
body_is (Ns x) (Txt y) = refl
body_is (Ns x) (Cname y) = refl
body_is (Ns x) (Ns y) = refl
body_is (Ns x) Other = refl
body_is Other (A n) = refl
body_is Other (Aaaa n) = refl
body_is Other (Mx q y) = refl
body_is Other (Txt y) = refl
body_is Other (Cname y) = refl
body_is Other (Ns y) = refl
body_is Other Other = refl

pub eq_is : (r s : Record) → derived.eq-value.it r s ≡ same_record r s
eq_is r s = ap (λ t. same_name r.owner s.owner && t) (body_is r.body s.body)

-- ---- equal records are the same

both : (s t : Bool) → s && t ≡ true → (s ≡ true) × (t ≡ true)
both true t h = (refl, h)
both false t h = absurd (true≢false (sym h))

body_same : (a b : Body) → same_body a b ≡ true → a ≡ b
body_same (A m) (A n) h = ap A ((Decides-eqb m n).0 h)
body_same (A m) (Aaaa n) h = absurd (true≢false (sym h))
body_same (A m) (Mx q y) h = absurd (true≢false (sym h))
body_same (A m) (Txt y) h = absurd (true≢false (sym h))
body_same (A m) (Cname y) h = absurd (true≢false (sym h))
body_same (A m) (Ns y) h = absurd (true≢false (sym h))
body_same (A m) Other h = absurd (true≢false (sym h))
body_same (Aaaa m) (A n) h = absurd (true≢false (sym h))
body_same (Aaaa m) (Aaaa n) h = ap Aaaa ((Decides-eqb m n).0 h)
body_same (Aaaa m) (Mx q y) h = absurd (true≢false (sym h))
body_same (Aaaa m) (Txt y) h = absurd (true≢false (sym h))
body_same (Aaaa m) (Cname y) h = absurd (true≢false (sym h))
body_same (Aaaa m) (Ns y) h = absurd (true≢false (sym h))
body_same (Aaaa m) Other h = absurd (true≢false (sym h))
body_same (Mx p x) (A n) h = absurd (true≢false (sym h))
body_same (Mx p x) (Aaaa n) h = absurd (true≢false (sym h))
body_same (Mx p x) (Mx q y) h = let e = both (p == q) (same_name x y) h in ap₂ Mx ((Decides-eqb p q).0 e.0) ((same_name_decides x y).0 e.1)
body_same (Mx p x) (Txt y) h = absurd (true≢false (sym h))
body_same (Mx p x) (Cname y) h = absurd (true≢false (sym h))
body_same (Mx p x) (Ns y) h = absurd (true≢false (sym h))
body_same (Mx p x) Other h = absurd (true≢false (sym h))
body_same (Txt x) (A n) h = absurd (true≢false (sym h))
body_same (Txt x) (Aaaa n) h = absurd (true≢false (sym h))
body_same (Txt x) (Mx q y) h = absurd (true≢false (sym h))
body_same (Txt x) (Txt y) h = ap Txt ((same_name_decides x y).0 h)
body_same (Txt x) (Cname y) h = absurd (true≢false (sym h))
body_same (Txt x) (Ns y) h = absurd (true≢false (sym h))
body_same (Txt x) Other h = absurd (true≢false (sym h))
body_same (Cname x) (A n) h = absurd (true≢false (sym h))
body_same (Cname x) (Aaaa n) h = absurd (true≢false (sym h))
body_same (Cname x) (Mx q y) h = absurd (true≢false (sym h))
body_same (Cname x) (Txt y) h = absurd (true≢false (sym h))
body_same (Cname x) (Cname y) h = ap Cname ((same_name_decides x y).0 h)
body_same (Cname x) (Ns y) h = absurd (true≢false (sym h))
body_same (Cname x) Other h = absurd (true≢false (sym h))
body_same (Ns x) (A n) h = absurd (true≢false (sym h))
body_same (Ns x) (Aaaa n) h = absurd (true≢false (sym h))
body_same (Ns x) (Mx q y) h = absurd (true≢false (sym h))
body_same (Ns x) (Txt y) h = absurd (true≢false (sym h))
body_same (Ns x) (Cname y) h = absurd (true≢false (sym h))
body_same (Ns x) (Ns y) h = ap Ns ((same_name_decides x y).0 h)
body_same (Ns x) Other h = absurd (true≢false (sym h))
body_same Other (A n) h = absurd (true≢false (sym h))
body_same Other (Aaaa n) h = absurd (true≢false (sym h))
body_same Other (Mx q y) h = absurd (true≢false (sym h))
body_same Other (Txt y) h = absurd (true≢false (sym h))
body_same Other (Cname y) h = absurd (true≢false (sym h))
body_same Other (Ns y) h = absurd (true≢false (sym h))
body_same Other Other h = refl

body_self : (a : Body) → same_body a a ≡ true
body_self (A m) = (Decides-eqb m m).1 refl
body_self (Aaaa m) = (Decides-eqb m m).1 refl
body_self (Mx p x) = ap₂ (λ (s t : Bool). s && t) ((Decides-eqb p p).1 refl) ((same_name_decides x x).1 refl)
body_self (Txt x) = (same_name_decides x x).1 refl
body_self (Cname x) = (same_name_decides x x).1 refl
body_self (Ns x) = (same_name_decides x x).1 refl
body_self Other = refl

pub record_same : (r s : Record) → same_record r s ≡ true → r ≡ s
record_same r s h =
    let e = both (same_name r.owner s.owner) (same_body r.body s.body) h in
    ap₂ (λ (o : List (List ℕ)) (b : Body). let q : Record = record { owner = o; body = b } in q) ((same_name_decides r.owner s.owner).0 e.0) (body_same r.body s.body e.1)

pub record_self : (r s : Record) → r ≡ s → same_record r s ≡ true
record_self r s e =
    let own : same_record r r ≡ true = ap₂ (λ (a b : Bool). a && b) ((same_name_decides r.owner r.owner).1 refl) (body_self r.body) in
    ap (same_record r) (sym e) ∙ own

record_apart : (r s : Record) → same_record r s ≡ false → same_record s r ≡ false
record_apart r s h = by (same_record s r) refl
  where
    by : (t : Bool) → same_record s r ≡ t → t ≡ false
    by false e = refl
    by true e = absurd (true≢false (sym (record_self r s (sym (record_same s r e))) ∙ h))

-- ---- one more record

abbrev others : Record → List Record → List Record
others x records = filter (λ s. not (same_record x s)) records

abbrev with_record : Bool → List Record → Record → List Record
with_record had records r = if had then records else records ++ r ∷ []

any_others-one : (x r d : Record) (rest more : Bool) → same_record r x ≡ false → (t u : Bool) → same_record x d ≡ t → same_record r d ≡ u → rest ≡ more
    → list_any (same_record r) (if not t then d ∷ [] else []) || rest ≡ u || more
any_others-one x r d rest more apart true true et eu e = absurd (true≢false (sym (record_self r x (record_same r d eu ∙ sym (record_same x d et))) ∙ apart))
any_others-one x r d rest more apart true false et eu e = e
any_others-one x r d rest more apart false true et eu e = ap (λ b. (b || false) || rest) eu
any_others-one x r d rest more apart false false et eu e = ap (λ b. (b || false) || rest) eu ∙ e

any_cons : (r d : Record) (t : Bool) (rest : List Record) → list_any (same_record r) (cond t (d ∷ rest) rest) ≡ list_any (same_record r) (if t then d ∷ [] else []) || list_any (same_record r) rest
any_cons r d true rest = or_nil (same_record r d) (list_any (same_record r) rest)
  where
    or_nil : (b c : Bool) → b || c ≡ (b || false) || c
    or_nil true c = refl
    or_nil false c = refl
any_cons r d false rest = refl

any_others : (x r : Record) (records : List Record) → same_record r x ≡ false → list_any (same_record r) (others x records) ≡ list_any (same_record r) records
any_others x r [] apart = refl
any_others x r (d ∷ records) apart =
    any_cons r d (not (same_record x d)) (others x records)
    ∙ any_others-one x r d (list_any (same_record r) (others x records)) (list_any (same_record r) records) apart (same_record x d) (same_record r d) refl refl (any_others x r records apart)

others_push : (x r : Record) (records : List Record) (had : Bool) → others x (with_record had records r) ≡ (if had then others x records else others x records ++ others x (r ∷ []))
others_push x r records true = refl
others_push x r records false = filter-append (λ s. not (same_record x s)) records (r ∷ [])

append_none : (l : List Record) → l ++ [] ≡ l
append_none [] = refl
append_none (x ∷ xs) = ap (λ l. x ∷ l) (append_none xs)

push_one : (x r : Record) (records : List Record) (had t : Bool) → had ≡ list_any (same_record r) records → same_record r x ≡ t
    → x ∷ others x (with_record had records r) ≡ with_record (t || list_any (same_record r) (others x records)) (x ∷ others x records) r
push_one x r records had true e et = ap (λ l. x ∷ l) (others_push x r records had ∙ by had)
  where
    gone : others x (r ∷ []) ≡ []
    gone = ap (λ b. cond (not b) (r ∷ []) []) (record_self x r (sym (record_same r x et)))

    by : (h : Bool) → (if h then others x records else others x records ++ others x (r ∷ [])) ≡ others x records
    by true = refl
    by false = ap (λ l. others x records ++ l) gone ∙ append_none (others x records)
push_one x r records had false e et =
    ap (λ l. x ∷ l) (others_push x r records had) ∙ by had ∙ ap (λ b. with_record b (x ∷ others x records) r) (e ∙ sym (any_others x r records et))
  where
    kept : others x (r ∷ []) ≡ r ∷ []
    kept = ap (λ b. cond (not b) (r ∷ []) []) (record_apart r x et)

    by : (h : Bool) → x ∷ (if h then others x records else others x records ++ others x (r ∷ [])) ≡ with_record h (x ∷ others x records) r
    by true = refl
    by false = ap (λ l. x ∷ (others x records ++ l)) kept

distinct_push : (records : List Record) (r : Record) → distinct_records (records ++ r ∷ []) ≡ with_record (list_any (same_record r) (distinct_records records)) (distinct_records records) r
distinct_push [] r = refl
distinct_push (x ∷ records) r =
    ap (λ l. x ∷ others x l) (distinct_push records r)
    ∙ push_one x r (distinct_records records) (list_any (same_record r) (distinct_records records)) (same_record r x) refl refl

any_agrees : (p q : Record → Bool) (records : List Record) → ((s : Record) → p s ≡ q s) → list_any p records ≡ list_any q records
any_agrees p q [] e = refl
any_agrees p q (s ∷ records) e = ap₂ (λ (a b : Bool). a || b) (e s) (any_agrees p q records e)

-- what the set holds after one more record
pub distinct_more : (keys more records : List Record) (r : Record) → keys ≡ distinct_records records
    → more ≡ (if list_any (derived.eq-value.it r) keys then keys else keys ++ r ∷ []) → more ≡ distinct_records (records ++ r ∷ [])
distinct_more keys more records r k m =
    m ∙ ap (λ b. with_record b keys r) (any_agrees (derived.eq-value.it r) (same_record r) keys (eq_is r))
    ∙ ap (λ l. with_record (list_any (same_record r) l) l r) k ∙ sym (distinct_push records r)

-- ---- records that are different stay

all_cond : {X : Type 0} (P : X → Type 0) (x : X) (xs : List X) (t : Bool) → (t ≡ true → P x) → AllByRecursion P xs → AllByRecursion P (cond t (x ∷ xs) xs)
all_cond P x xs true h rest = (h refl, rest)
all_cond P x xs false h rest = rest

-- what holds of each holds of each that is left
pub all_filter : {X : Type 0} (P : X → Type 0) (p : X → Bool) (xs : List X) → AllByRecursion P xs → AllByRecursion P (filter p xs)
all_filter P p [] h = tt
all_filter P p (x ∷ xs) h = all_cond P x (filter p xs) (p x) (λ _. h.0) (all_filter P p xs h.1)

pub all_distinct : (P : Record → Type 0) (records : List Record) → AllByRecursion P records → AllByRecursion P (distinct_records records)
all_distinct P [] h = tt
all_distinct P (r ∷ records) h = (h.0, all_filter P (λ s. not (same_record r s)) (distinct_records records) (all_distinct P records h.1))

abbrev AreApart : List Record → Type 0
AreApart [] = Unit {0}
AreApart (r ∷ records) = AllByRecursion (λ s. same_record r s ≡ false) records × AreApart records

not_true : (b : Bool) → not b ≡ true → b ≡ false
not_true true h = absurd (true≢false (sym h))
not_true false h = refl

others_apart : (r : Record) (records : List Record) → AllByRecursion (λ s. same_record r s ≡ false) (others r records)
others_apart r [] = tt
others_apart r (s ∷ records) = all_cond (λ x. same_record r x ≡ false) s (others r records) (not (same_record r s)) (not_true (same_record r s)) (others_apart r records)

apart_cond : (x : Record) (records : List Record) (t : Bool) → AllByRecursion (λ s. same_record x s ≡ false) records → AreApart records → AreApart (cond t (x ∷ records) records)
apart_cond x records true h rest = (h, rest)
apart_cond x records false h rest = rest

apart_filter : (p : Record → Bool) (records : List Record) → AreApart records → AreApart (filter p records)
apart_filter p [] h = tt
apart_filter p (x ∷ records) h = apart_cond x (filter p records) (p x) (all_filter (λ s. same_record x s ≡ false) p records h.0) (apart_filter p records h.1)

distinct_apart : (records : List Record) → AreApart (distinct_records records)
distinct_apart [] = tt
distinct_apart (r ∷ records) = (others_apart r (distinct_records records), apart_filter (λ s. not (same_record r s)) (distinct_records records) (distinct_apart records))

others_all : (r : Record) (records : List Record) → AllByRecursion (λ s. same_record r s ≡ false) records → others r records ≡ records
others_all r [] h = refl
others_all r (s ∷ records) h = ap (λ b. cond (not b) (s ∷ others r records) (others r records)) h.0 ∙ ap (λ l. s ∷ l) (others_all r records h.1)

apart_same : (records : List Record) → AreApart records → distinct_records records ≡ records
apart_same [] h = refl
apart_same (r ∷ records) h = ap (λ l. r ∷ l) (ap (others r) (apart_same records h.1) ∙ others_all r records h.0)

pub distinct_twice : (records : List Record) → distinct_records (distinct_records records) ≡ distinct_records records
distinct_twice records = apart_same (distinct_records records) (distinct_apart records)
