-- The parts that `rsplit` gives: those of `split`, the last one first.
use Rattle.std.proofs.Common.{◌≡◌, ℕ, suc, ◌+◌, ◌-◌, ◌<◌, Bool, true, false, cond, List, [], ◌∷◌, ◌++◌, length, get_or, refl, sym, ap, subst, ◌∙◌, arith, Option, Some, None, Bor, MatchOption, MatchBool, reverse, ap₂, length-append, map, drop, take-append-drop, append_assoc}
use Rattle.std.proofs.lemmas.List.{reverse-append, reverse-reverse, get_or-append-add}
use Rattle.std.proofs.lemmas.List.Splits.{slice_split-cons_yes, slice_split-cons_no, slice_split_none, length-slice_split}
use Rattle.std.proofs.lemmas.Iterator.{YieldsList}
use Rattle.std.proofs.lemmas.Iterator.Splits.{YieldsList-from_shown_while, YieldsList-from_slice_split}
use Rattle.std.proofs.lemmas.Iterator.Consumers.{YieldsList-so_far, YieldsList-turn, YieldsList-end}
use Rattle.std.proofs.Math.Seq.{drop-cons}
use Rattle.std.specs.Iterator.{Yields}
use Rattle.std.proofs.lemmas.Fn.{always_returns_same}
use Rattle.std.specs.Fn.{ComputesKey, CalledAt}
use Rattle.std.specs.List.{All, slice_split, onto_first, IsAfterLastMatch}
use Rattle.std.specs.Slice.Iter.{split_rest, split_done, split_callee, split_steps, rsplit_parts}
use Rattle.std.specs.declared.slice.Split.{Split}
use Rattle.std.specs.declared.slice.RSplit.{RSplit}
use Rattle.dns_name.specs.Parts.{without_final}
use denote.Param.Members.{Mut}

onto_first-append : {A : Type 0} (x : A) (parts more : List (List A)) → 0 < length parts → onto_first x (parts ++ more) ≡ onto_first x parts ++ more
onto_first-append x [] more h = absurd (omega arith)
onto_first-append x (part ∷ parts) more h = refl

-- the last part stands behind the last element that passes
pub slice_split_last : {A : Type 0} (p : A → Bool) (xs : List A) (y : A) (ys : List A) → All (λ z. p z ≡ false) ys → p y ≡ true → slice_split p (xs ++ y ∷ ys) ≡ slice_split p xs ++ ys ∷ []
slice_split_last p [] y ys h k = slice_split-cons_yes p y ys k ∙ ap (λ t. [] ∷ t) (slice_split_none p ys h)
slice_split_last {A} p (x ∷ xs) y ys h k = by (p x) refl (slice_split_last p xs y ys h k)
  where
    by : (t : Bool) → p x ≡ t → slice_split p (xs ++ y ∷ ys) ≡ slice_split p xs ++ ys ∷ [] → slice_split p (x ∷ (xs ++ y ∷ ys)) ≡ slice_split p (x ∷ xs) ++ ys ∷ []
    by true is rest = slice_split-cons_yes p x (xs ++ y ∷ ys) is ∙ ap (λ (t : List (List A)). [] ∷ t) rest ∙ ap (λ (t : List (List A)). t ++ ys ∷ []) (sym (slice_split-cons_yes p x xs is))
    by false is rest =
        slice_split-cons_no p x (xs ++ y ∷ ys) is ∙ ap (onto_first x) rest
        ∙ onto_first-append x (slice_split p xs) (ys ∷ []) (omega (arith, length-slice_split p xs))
        ∙ ap (λ (t : List (List A)). t ++ ys ∷ []) (sym (slice_split-cons_no p x xs is))

-- what `next` of an `RSplit` gives
abbrev pub rsplit_steps : {A F : Type 0} → Mut F (Bor A × Unit {0}) Bool → RSplit A F → Option (Bor (List A)) → RSplit A F → Type 0
rsplit_steps {A} g s r t = MatchOption r ((split_done (rsplit_parts s) ≡ true) × (rsplit_parts t ≡ rsplit_parts s))
    (λ x. (split_done (rsplit_parts s) ≡ false) × MatchBool (split_done (rsplit_parts t)) (split_rest (rsplit_parts s) ≡ x.now) ((y : A) × (split_rest (rsplit_parts s) ≡ split_rest (rsplit_parts t) ++ (y ∷ x.now)))
    × ((p : A → Bool) → ComputesKey g p (split_callee (rsplit_parts s)) → ComputesKey g p (split_callee (rsplit_parts t)) × IsAfterLastMatch p (split_rest (rsplit_parts s)) (length (split_rest (rsplit_parts s)) - length x.now)))

slice_split_part : {A : Type 0} (p : A → Bool) (xs x rest : List A) (done : Bool) → MatchBool done (xs ≡ x) ((y : A) × (xs ≡ rest ++ (y ∷ x))) → IsAfterLastMatch p xs (length xs - length x)
    → reverse (slice_split p xs) ≡ x ∷ cond done [] (reverse (slice_split p rest))
slice_split_part p xs x rest true e h = ap (λ l. reverse (slice_split p l)) e ∙ ap reverse (slice_split_none p x (λ k d l. subst (λ ys. p (get_or ys k d) ≡ false) e (h.0 k d (omega (arith, ap length e)) (omega (arith, ap length e)))))
slice_split_part {A} p xs x rest false e h =
    let len : length xs ≡ length rest + suc (length x) = ap length e.1 ∙ length-append rest (e.0 ∷ x) in
    let back : All (λ z. p z ≡ false) x = λ k d l. turned k d (h.0 (length rest + suc k) d (omega (arith, len)) (omega (arith, len))) in
    let at : get_or xs (length xs - length x - 1) e.0 ≡ e.0 = ap₂ (λ (l : List A) (n : ℕ). get_or l n e.0) e.1 (omega (arith, len)) ∙ get_or-append-add rest (e.0 ∷ x) 0 e.0 in
    let hit : p e.0 ≡ true = ap p (sym at) ∙ h.1 (omega (arith, len)) e.0 in
    ap (λ l. reverse (slice_split p l)) e.1 ∙ ap reverse (slice_split_last p rest e.0 x back hit) ∙ reverse-append (slice_split p rest) (x ∷ [])
  where
    turned : (k : ℕ) (d : A) → p (get_or xs (length rest + suc k) d) ≡ false → p (get_or x k d) ≡ false
    turned k d hit = ap p (sym (ap (λ (l : List A). get_or l (length rest + suc k) d) e.1 ∙ get_or-append-add rest (e.0 ∷ x) (suc k) d)) ∙ hit

-- a slice that is cut, from its end, at each element where a closure returns true, with p the test that it computes
pub YieldsList-from_slice_rsplit : {A F : Type 0} {s : RSplit A F} (g : Mut F (Bor A × Unit {0}) Bool) (p : A → Bool) {f : F} (xs : List A) → split_rest (rsplit_parts s) ≡ xs → split_done (rsplit_parts s) ≡ false → split_callee (rsplit_parts s) ≡ f
    → ((x : A) (b : Bool) (q : F) → CalledAt g f x b q → (q ≡ f) × (b ≡ p x)) → YieldsList (rsplit_steps g) (λ x. x.now) s (reverse (slice_split p xs))
YieldsList-from_slice_rsplit {s = s} g p {f} xs rest done closure tests =
    let shown = λ (t : _). cond (split_done (rsplit_parts t)) [] (reverse (slice_split p (split_rest (rsplit_parts t)))) in
    subst (YieldsList (rsplit_steps g) (λ x. x.now) s) (λ i. cond (done i) [] (reverse (slice_split p (rest i))))
    (YieldsList-from_shown_while (rsplit_steps g) (λ x. x.now) shown (λ t. ComputesKey g p (split_callee (rsplit_parts t)))
    (λ t u h k. ap (λ b. length (cond b [] (reverse (slice_split p (split_rest (rsplit_parts t)))))) k.0)
    (λ t x u h k. ((k.2 p h).0, ap (λ b. cond b [] (reverse (slice_split p (split_rest (rsplit_parts t))))) k.0 ∙ slice_split_part p _ x.now _ (split_done (rsplit_parts u)) k.1 (k.2 p h).1))
    s (subst (ComputesKey g p) (sym closure) (always_returns_same g (λ a r. r ≡ p a.0.now) f (λ a r q k. let m = tests a.0.now r q (record { shown = a.0; shows = refl; called = k }) in (m.1, m.0)))))

-- ---- a loop over the parts

-- the items so far, this one, and those to come
so_far_and_more : {S A B : Type 0} {steps : S → Option A → S → Type 0} {v : A → B} {s : S} {all : List B} (e : YieldsList steps v s all) (ys : List A) (t : S) (k : Yields steps s ys t) (r : Option A) (u : S) (x : A) → r ≡ Some x → steps t r u
    → all ≡ map v ys ++ v x ∷ drop (suc (length ys)) all
so_far_and_more {v = v} {all = all} e ys t k r u x is step =
    let at = YieldsList-turn e ys t k r u x is step in
    sym (take-append-drop (length ys) all)
    ∙ ap₂ (λ (a b : List _). a ++ b) (sym (YieldsList-so_far e ys t k)) (drop-cons all (length ys) (v x) at.0 ∙ ap (λ (y : _). y ∷ drop (suc (length ys)) all) (sym at.1))

pub split_turn : {A F : Type 0} {g : Mut F (Bor A × Unit {0}) Bool} {f : F} (s : Split A F) (p : A → Bool) (xs : List A) (ys : List (Bor (List A))) (t : Split A F) → Yields (split_steps g) s ys t → (r : Option (Bor (List A))) (u : Split A F) (x : Bor (List A)) → r ≡ Some x → split_steps g t r u
    → split_rest s ≡ xs → split_done s ≡ false → split_callee s ≡ f → ((x : A) (b : Bool) (q : F) → CalledAt g f x b q → (q ≡ f) × (b ≡ p x)) → (more : List (List A)) × (slice_split p xs ≡ map (λ y. y.now) ys ++ x.now ∷ more)
split_turn {g = g} s p xs ys t k r u x is step rest done closure tests =
    (drop (suc (length ys)) (slice_split p xs), so_far_and_more (YieldsList-from_slice_split g p xs rest done closure tests) ys t k r u x is step)

pub split_end : {A F : Type 0} {g : Mut F (Bor A × Unit {0}) Bool} {f : F} (s : Split A F) (p : A → Bool) (xs : List A) (ys : List (Bor (List A))) (t : Split A F) → Yields (split_steps g) s ys t → (r : Option (Bor (List A))) (u : Split A F) → r ≡ None → split_steps g t r u
    → split_rest s ≡ xs → split_done s ≡ false → split_callee s ≡ f → ((x : A) (b : Bool) (q : F) → CalledAt g f x b q → (q ≡ f) × (b ≡ p x)) → map (λ y. y.now) ys ≡ slice_split p xs
split_end {g = g} s p xs ys t k r u is step rest done closure tests =
    (YieldsList-end (YieldsList-from_slice_split g p xs rest done closure tests) ys t k r u is step).0

pub rsplit_turn : {A F : Type 0} {g : Mut F (Bor A × Unit {0}) Bool} {f : F} (s : RSplit A F) (p : A → Bool) (xs : List A) (ys : List (Bor (List A))) (t : RSplit A F) → Yields (rsplit_steps g) s ys t → (r : Option (Bor (List A))) (u : RSplit A F) (x : Bor (List A)) → r ≡ Some x → rsplit_steps g t r u
    → split_rest (rsplit_parts s) ≡ xs → split_done (rsplit_parts s) ≡ false → split_callee (rsplit_parts s) ≡ f → ((x : A) (b : Bool) (q : F) → CalledAt g f x b q → (q ≡ f) × (b ≡ p x))
    → (front : List (List A)) × (slice_split p xs ≡ front ++ x.now ∷ reverse (map (λ y. y.now) ys))
rsplit_turn {A} {g = g} s p xs ys t k r u x is step rest done closure tests =
    let all = reverse (slice_split p xs) in
    let seen = map (λ (y : Bor (List A)). y.now) ys in
    let more = drop (suc (length ys)) all in
    let cut = so_far_and_more (YieldsList-from_slice_rsplit g p xs rest done closure tests) ys t k r u x is step in (
      reverse more,
      sym (reverse-reverse (slice_split p xs)) ∙ ap reverse cut ∙ reverse-append seen (x.now ∷ more) ∙ ap (λ (l : List (List A)). l ++ reverse seen) (reverse-append (x.now ∷ []) more) ∙ append_assoc (reverse more) (x.now ∷ []) (reverse seen),
    )

pub rsplit_end : {A F : Type 0} {g : Mut F (Bor A × Unit {0}) Bool} {f : F} (s : RSplit A F) (p : A → Bool) (xs : List A) (ys : List (Bor (List A))) (t : RSplit A F) → Yields (rsplit_steps g) s ys t → (r : Option (Bor (List A))) (u : RSplit A F) → r ≡ None → rsplit_steps g t r u
    → split_rest (rsplit_parts s) ≡ xs → split_done (rsplit_parts s) ≡ false → split_callee (rsplit_parts s) ≡ f → ((x : A) (b : Bool) (q : F) → CalledAt g f x b q → (q ≡ f) × (b ≡ p x)) → reverse (map (λ y. y.now) ys) ≡ slice_split p xs
rsplit_end {g = g} s p xs ys t k r u is step rest done closure tests =
    ap reverse (YieldsList-end (YieldsList-from_slice_rsplit g p xs rest done closure tests) ys t k r u is step).0 ∙ reverse-reverse (slice_split p xs)

-- ---- a final element

pub without_final_yes : {A : Type 0} (test : A → Bool) (xs : List A) (y : A) → test y ≡ true → without_final test (xs ++ y ∷ []) ≡ xs
without_final_yes test [] y h = ap (λ t. cond t [] (y ∷ [])) h
without_final_yes test (x ∷ []) y h = ap (λ t. x ∷ cond t [] (y ∷ [])) h
without_final_yes test (x ∷ z ∷ xs) y h = ap (λ t. x ∷ t) (without_final_yes test (z ∷ xs) y h)

pub without_final_no : {A : Type 0} (test : A → Bool) (xs : List A) (y : A) → test y ≡ false → without_final test (xs ++ y ∷ []) ≡ xs ++ y ∷ []
without_final_no test [] y h = ap (λ t. cond t [] (y ∷ [])) h
without_final_no test (x ∷ []) y h = ap (λ t. x ∷ cond t [] (y ∷ [])) h
without_final_no test (x ∷ z ∷ xs) y h = ap (λ t. x ∷ t) (without_final_no test (z ∷ xs) y h)
