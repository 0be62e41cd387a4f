-- Questions by their keys.
use Rattle.std.proofs.Common.{◌≡◌, ℕ, ◌<◌, ◌↔◌, ◌⊎◌, inl, inr, List, [], ◌∷◌, ◌++◌, refl, sym, ap, ap₂, subst, ◌∙◌, Contains, arith}
use Rattle.std.proofs.lemmas.Cmp.{ranked}
use Rattle.std.proofs.lemmas.List.Elements.{Contains-push, Contains-push_cases, Contains-append_left, Contains-append_right, Contains-append_cases}
use Rattle.std.proofs.lemmas.Map.Keys.{sorted_head, sorted_tail}
use Rattle.std.proofs.lemmas.Map.Text.{is_eq-slice_cmp}
use Rattle.std.proofs.lemmas.Slice.Eq.{bytes_eq-Decides}
use Rattle.std.specs.Cmp.Lexicographic.{slice_cmp}
use Rattle.std.specs.declared.cmp.Ordering.{Ordering}
use Rattle.std.specs.declared.cmp.Ordering.TheVariants.{Less, Equal, Greater}
use Rattle.std.specs.List.Sorted.{IsStrictlySortedBy}
use Rattle.std.specs.Map.{keys_of, values_of}
use Rattle.std.specs.Ordering.{nat_cmp, ordering_then, match_ordering, is_eq}
use Rattle.std.specs.BTreeMap.{insert_entry}
use Rattle.dns_name.proofs.Printing.{names_differ}
use Rattle.zone_answers.specs.declared.ask_kind.AskKind.{AskKind}
use Rattle.zone_answers.specs.declared.ask_kind.AskKind.TheVariants.{A, Aaaa, Mx, Txt, Reverse4, Reverse6}
use Rattle.zone_answers.specs.declared.answer.Question.{Question}
use Rattle.spf_model.specs.Result.{kind_number, IsBefore, IsInOrder}
use Rattle.symbolic_check.specs.declared.asked.Key.{Key}
use Rattle.symbolic_check.specs.contracts.asked.KeyOrd.TheImpl as key_order
use Rattle.symbolic_check.specs.Keyed.{IsKeyOf, AreKeyed}

-- ---- keys in order

then_equal : (a b : Ordering) → ordering_then a b ≡ Equal → (a ≡ Equal) × (b ≡ Equal)
then_equal Less b h = absurd cc
then_equal Equal b h = (refl, h)
then_equal Greater b h = absurd cc

then_less : (a b : Ordering) → ordering_then a b ≡ Less → (a ≡ Less) ⊎ ((a ≡ Equal) × (b ≡ Less))
then_less Less b h = inl refl
then_less Equal b h = inr (refl, h)
then_less Greater b h = absurd cc

texts_equal : (xs ys : List ℕ) → slice_cmp nat_cmp xs ys ≡ Equal → xs ≡ ys
texts_equal xs ys h = (bytes_eq-Decides xs ys).0 (sym (is_eq-slice_cmp xs ys) ∙ ap is_eq h)

kinds_equal : (k l : AskKind) → kind_number k ≡ kind_number l → k ≡ l
kinds_equal A A h = refl
kinds_equal A Aaaa h = absurd (omega (arith, h))
kinds_equal A Mx h = absurd (omega (arith, h))
kinds_equal A Txt h = absurd (omega (arith, h))
kinds_equal A Reverse4 h = absurd (omega (arith, h))
kinds_equal A Reverse6 h = absurd (omega (arith, h))
kinds_equal Aaaa A h = absurd (omega (arith, h))
kinds_equal Aaaa Aaaa h = refl
kinds_equal Aaaa Mx h = absurd (omega (arith, h))
kinds_equal Aaaa Txt h = absurd (omega (arith, h))
kinds_equal Aaaa Reverse4 h = absurd (omega (arith, h))
kinds_equal Aaaa Reverse6 h = absurd (omega (arith, h))
kinds_equal Mx A h = absurd (omega (arith, h))
kinds_equal Mx Aaaa h = absurd (omega (arith, h))
kinds_equal Mx Mx h = refl
kinds_equal Mx Txt h = absurd (omega (arith, h))
kinds_equal Mx Reverse4 h = absurd (omega (arith, h))
kinds_equal Mx Reverse6 h = absurd (omega (arith, h))
kinds_equal Txt A h = absurd (omega (arith, h))
kinds_equal Txt Aaaa h = absurd (omega (arith, h))
kinds_equal Txt Mx h = absurd (omega (arith, h))
kinds_equal Txt Txt h = refl
kinds_equal Txt Reverse4 h = absurd (omega (arith, h))
kinds_equal Txt Reverse6 h = absurd (omega (arith, h))
kinds_equal Reverse4 A h = absurd (omega (arith, h))
kinds_equal Reverse4 Aaaa h = absurd (omega (arith, h))
kinds_equal Reverse4 Mx h = absurd (omega (arith, h))
kinds_equal Reverse4 Txt h = absurd (omega (arith, h))
kinds_equal Reverse4 Reverse4 h = refl
kinds_equal Reverse4 Reverse6 h = absurd (omega (arith, h))
kinds_equal Reverse6 A h = absurd (omega (arith, h))
kinds_equal Reverse6 Aaaa h = absurd (omega (arith, h))
kinds_equal Reverse6 Mx h = absurd (omega (arith, h))
kinds_equal Reverse6 Txt h = absurd (omega (arith, h))
kinds_equal Reverse6 Reverse4 h = absurd (omega (arith, h))
kinds_equal Reverse6 Reverse6 h = refl

-- equal texts are those of one name
one_name : (p q : Question) (k l : Key) → IsKeyOf p k → IsKeyOf q l → k.text.items ≡ l.text.items → p.name ≡ q.name
one_name p q k l h g e = names_differ p.name q.name h.legal g.legal (sym h.text ∙ e ∙ g.text)

-- equal keys are those of one question
one_question : (p q : Question) (k l : Key) → IsKeyOf p k → IsKeyOf q l → key_order.cmp-value.it k l ≡ Equal → p ≡ q
one_question p q k l h g e =
    let both = then_equal (slice_cmp nat_cmp k.text.items l.text.items) (nat_cmp k.kind l.kind) e in
    let name : p.name ≡ q.name = one_name p q k l h g (texts_equal k.text.items l.text.items both.0) in
    let kind : p.kind ≡ q.kind = kinds_equal p.kind q.kind (sym h.kind ∙ ranked k.kind l.kind Equal (sym both.1) ∙ g.kind) in
    ap₂ (λ (n : List (List ℕ)) (t : AskKind). let question : Question = record { name = n; kind = t } in question) name kind

-- a lesser key is that of a question that stands before
stands_before : (p q : Question) (k l : Key) → IsKeyOf p k → IsKeyOf q l → key_order.cmp-value.it k l ≡ Less → IsBefore p q
stands_before p q k l h g e = elim (then_less (slice_cmp nat_cmp k.text.items l.text.items) (nat_cmp k.kind l.kind) e) [
  | inl less ↦ inl (ap₂ (λ x y. slice_cmp nat_cmp x y) (sym h.text) (sym g.text) ∙ less)
  | inr both ↦ inr (
    one_name p q k l h g (texts_equal k.text.items l.text.items both.0),
    subst (λ n. n < kind_number q.kind) h.kind (subst (λ n. k.kind < n) g.kind (ranked k.kind l.kind Less (sym both.1))),
  )
]

-- so questions by rising key are in order
pub rising : (entries : List (Key × Question)) → AreKeyed entries → IsStrictlySortedBy key_order.cmp-value.it (keys_of entries) → IsInOrder (values_of entries)
rising [] h sorted = tt
rising (e ∷ []) h sorted = tt
rising (e ∷ f ∷ entries) h sorted = (
  stands_before e.1 f.1 e.0 f.0 h.0 h.1.0 (sorted_head key_order.cmp-value.it e.0 (keys_of (f ∷ entries)) sorted).0,
  rising (f ∷ entries) h.1 (sorted_tail key_order.cmp-value.it e.0 (keys_of (f ∷ entries)) sorted),
)

-- ---- one more question

pub in_one : {X : Type 0} (x y : X) → Contains (x ∷ []) y → x ≡ y
in_one x y h = elim (Contains-push_cases [] x y h) [ inl none ↦ absurd (omega (arith, none.1)) | inr same ↦ same ]

pub in_cons : {X : Type 0} (x y : X) (xs : List X) → Contains (x ∷ xs) y → (x ≡ y) ⊎ Contains xs y
in_cons x y xs h = elim (Contains-append_cases (x ∷ []) xs y h) [ inl here ↦ inl (in_one x y here) | inr there ↦ inr there ]

pub at_front : {X : Type 0} (x y : X) (xs : List X) → x ≡ y → Contains (x ∷ xs) y
at_front x y xs e = Contains-append_left (x ∷ []) xs y (subst (λ z. Contains (x ∷ []) z) e (Contains-push [] x))

pub behind : {X : Type 0} (x y : X) (xs : List X) → Contains xs y → Contains (x ∷ xs) y
behind x y xs h = Contains-append_right (x ∷ []) xs y h

-- where the keys are equal the question is the same, wherever the new one goes
placed : (o : Ordering) (k : Key) (q : Question) (e : Key × Question) (es rest : List (Key × Question)) → IsKeyOf q k → AreKeyed (e ∷ es)
    → (o ≡ Equal → e.1 ≡ q) → AreKeyed rest → ((x : Question) → Contains (values_of rest) x ↔ (Contains (values_of es) x ⊎ (q ≡ x)))
    → AreKeyed (match_ordering o ((k, q) ∷ e ∷ es) ((e.0, q) ∷ es) (e ∷ rest))
    × ((x : Question) → Contains (values_of (match_ordering o ((k, q) ∷ e ∷ es) ((e.0, q) ∷ es) (e ∷ rest))) x ↔ (Contains (values_of (e ∷ es)) x ⊎ (q ≡ x)))
placed Less k q e es rest key keyed same below more = (
  (key, keyed),
  λ x. (
    λ h. elim (in_cons q x (values_of (e ∷ es)) h) [ inl new ↦ inr new | inr old ↦ inl old ],
    λ h. elim h [ inl old ↦ behind q x (values_of (e ∷ es)) old | inr new ↦ at_front q x (values_of (e ∷ es)) new ],
  ),
)
placed Equal k q e es rest key keyed same below more = (
  (subst (λ p. IsKeyOf p e.0) (same refl) keyed.0, keyed.1),
  λ x. (
    λ h. elim (in_cons q x (values_of es) h) [ inl new ↦ inr new | inr old ↦ inl (behind e.1 x (values_of es) old) ],
    λ h. elim h [
      | inl old ↦ elim (in_cons e.1 x (values_of es) old) [ inl first ↦ at_front q x (values_of es) (sym (same refl) ∙ first) | inr later ↦ behind q x (values_of es) later ]
      | inr new ↦ at_front q x (values_of es) new
    ],
  ),
)
placed Greater k q e es rest key keyed same below more = (
  (keyed.0, below),
  λ x. (
    λ h. elim (in_cons e.1 x (values_of rest) h) [
      | inl first ↦ inl (at_front e.1 x (values_of es) first)
      | inr later ↦ elim ((more x).0 later) [ inl old ↦ inl (behind e.1 x (values_of es) old) | inr new ↦ inr new ]
    ],
    λ h. elim h [
      | inl old ↦ elim (in_cons e.1 x (values_of es) old) [ inl first ↦ at_front e.1 x (values_of rest) first | inr later ↦ behind e.1 x (values_of rest) ((more x).1 (inl later)) ]
      | inr new ↦ behind e.1 x (values_of rest) ((more x).1 (inr new))
    ],
  ),
)

pub inserted : (es : List (Key × Question)) (k : Key) (q : Question) → IsKeyOf q k → AreKeyed es
    → AreKeyed (insert_entry key_order.cmp-value.it es k q)
    × ((x : Question) → Contains (values_of (insert_entry key_order.cmp-value.it es k q)) x ↔ (Contains (values_of es) x ⊎ (q ≡ x)))
inserted [] k q key keyed = (
  (key, tt),
  λ x. (λ h. inr (in_one q x h), λ h. elim h [ inl none ↦ absurd (omega (arith, none.1)) | inr new ↦ at_front q x [] new ]),
)
inserted (e ∷ es) k q key keyed =
    let below = inserted es k q key keyed.1 in
    placed (key_order.cmp-value.it k e.0) k q e es (insert_entry key_order.cmp-value.it es k q) key keyed
    (λ equal. sym (one_question q e.1 k e.0 key keyed.0 equal)) below.0 below.1

-- one more of the questions is taken up
pub put_more : (old new : List (Key × Question)) (k : Key) (q : Question) (taken : List Question)
    → new ≡ insert_entry key_order.cmp-value.it old k q → IsKeyOf q k → AreKeyed old
    → ((x : Question) → Contains (values_of old) x ↔ Contains taken x)
    → AreKeyed new × ((x : Question) → Contains (values_of new) x ↔ Contains (taken ++ q ∷ []) x)
put_more old new k q taken made key keyed so_far =
    let put = inserted old k q key keyed in (
      subst AreKeyed (sym made) put.0,
      λ x. subst (λ entries. Contains (values_of entries) x ↔ Contains (taken ++ q ∷ []) x) (sym made) (
        λ h. elim ((put.1 x).0 h) [
          | inl before ↦ Contains-append_left taken (q ∷ []) x ((so_far x).0 before)
          | inr new ↦ subst (λ y. Contains (taken ++ q ∷ []) y) new (Contains-push taken q)
        ],
        λ h. (put.1 x).1 (elim (Contains-push_cases taken q x h) [ inl before ↦ inl ((so_far x).1 before) | inr same ↦ inr same ]),
      ),
    )
