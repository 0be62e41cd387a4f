-- Collecting what a list gives, item by item.
use Rattle.std.proofs.Common.{◌≡◌, ℕ, ◌+◌, ◌<◌, List, [], ◌∷◌, ◌++◌, length, take, get_or, map, append-nil, refl, sym, ap, ◌∙◌, Option, Some, None, add-one}
use Rattle.std.specs.Prelude.{filter_map}
use Rattle.std.proofs.lemmas.List.{map-append}
use Rattle.std.proofs.Math.Seq.{take-suc}
use Rattle.std.proofs.lemmas.List.Elements.{filter_map-append}

-- what one more item gives
pub one_more : {B L : Type 0} (h : B → Option L) (s : List B) (i : ℕ) (x : B) → i < length s → x ≡ get_or s i x
    → filter_map h (take (i + 1) s) ≡ filter_map h (take i s) ++ filter_map h (x ∷ [])
one_more h s i x within e = rw (add-one, take-suc s i x within, ← e) (filter_map-append h (take i s) (x ∷ []))

only_some : {B L : Type 0} (h : B → Option L) (x : B) (y : L) → Some y ≡ h x → filter_map h (x ∷ []) ≡ y ∷ []
only_some h x y e = rw (← e) refl

only_none : {B L : Type 0} (h : B → Option L) (x : B) → None ≡ h x → filter_map h (x ∷ []) ≡ []
only_none h x e = rw (← e) refl

-- an item that gives something
pub kept : {B E L : Type 0} (h : B → Option L) (f : E → L) (s : List B) (i : ℕ) (x : B) (es new : List E) (e : E) → i < length s → x ≡ get_or s i x
    → map f es ≡ filter_map h (take i s) → Some (f e) ≡ h x → new ≡ es ++ e ∷ [] → map f new ≡ filter_map h (take (i + 1) s)
kept {L = L} h f s i x es new e within is so_far gives is_new =
    ap (map f) is_new ∙ map-append f es (e ∷ []) ∙ ap (λ (l : List L). l ++ f e ∷ []) so_far
    ∙ sym (one_more h s i x within is ∙ ap (λ (l : List L). filter_map h (take i s) ++ l) (only_some h x (f e) gives))

-- one that gives nothing
pub passed : {B E L : Type 0} (h : B → Option L) (f : E → L) (s : List B) (i : ℕ) (x : B) (es : List E) → i < length s → x ≡ get_or s i x
    → map f es ≡ filter_map h (take i s) → None ≡ h x → map f es ≡ filter_map h (take (i + 1) s)
passed {L = L} h f s i x es within is so_far gives =
    so_far ∙ sym (one_more h s i x within is ∙ ap (λ (l : List L). filter_map h (take i s) ++ l) (only_none h x gives) ∙ append-nil (filter_map h (take i s)))

-- the same of a list as it is
pub kept_as_is : {B L : Type 0} (h : B → Option L) (s : List B) (i : ℕ) (x : B) (ys new : List L) (y : L) → i < length s → x ≡ get_or s i x
    → ys ≡ filter_map h (take i s) → Some y ≡ h x → new ≡ ys ++ y ∷ [] → new ≡ filter_map h (take (i + 1) s)
kept_as_is {L = L} h s i x ys new y within is so_far gives is_new =
    is_new ∙ ap (λ (l : List L). l ++ y ∷ []) so_far
    ∙ sym (one_more h s i x within is ∙ ap (λ (l : List L). filter_map h (take i s) ++ l) (only_some h x y gives))

pub passed_as_is : {B L : Type 0} (h : B → Option L) (s : List B) (i : ℕ) (x : B) (ys : List L) → i < length s → x ≡ get_or s i x
    → ys ≡ filter_map h (take i s) → None ≡ h x → ys ≡ filter_map h (take (i + 1) s)
passed_as_is {L = L} h s i x ys within is so_far gives =
    so_far ∙ sym (one_more h s i x within is ∙ ap (λ (l : List L). filter_map h (take i s) ++ l) (only_none h x gives) ∙ append-nil (filter_map h (take i s)))
