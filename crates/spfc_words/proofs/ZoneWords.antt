-- Zone words in a row, and the zones that they name.
use Rattle.std.proofs.Common.{◌≡◌, ◌≢◌, ℕ, zero, suc, ◌+◌, ◌<◌, true, false, bytes_eq, List, [], ◌∷◌, ◌++◌, length, length-append, map, take, get_or, Ok, Option, Some, None, MatchOption, String, string_bytes, true≢false, append_assoc, refl, sym, ap, ap₂, ◌∙◌, subst, arith}
use Rattle.std.specs.List.{AllZip, list_any}
use Rattle.std.specs.Result.{result_unwrap_or}
use Rattle.std.specs.Cmp.Lexicographic.{pointwise, pointwise_decides, bytes_decides}
use Rattle.std.proofs.Math.ListN.{get_or-append}
use Rattle.std.proofs.Math.Seq.{get_or-append_seam}
use Rattle.std.specs.declared.alloc.Global.{Global}
use Rattle.std.proofs.lemmas.List.{get_or_default, map_more}
use Rattle.std.proofs.lemmas.List.Quantifiers.{all_pairs_push}
use Rattle.std.proofs.lemmas.List.Folds.{Any-from_list_any, list_any_at}
use Rattle.spfc_words.specs.declared.zone_word.ZoneWord.{ZoneWord}
use Rattle.spfc_words.specs.Words.{texts}
use Rattle.spfc_words.specs.ZoneWords.{IsZoneWord, HaveOwnOrigins}

-- ---- lists place by place
pub zip_push : {A B : Type 0} (R : A → B → Type 0) (xs : List A) (ys : List B) (x : A) (y : B) → AllZip R xs ys → R x y → AllZip R (xs ++ x ∷ []) (ys ++ y ∷ [])
zip_push R [] [] x y h r = (r, tt)
zip_push R [] (b ∷ ys) x y h r = absurd h
zip_push R (a ∷ xs) [] x y h r = absurd h
zip_push R (a ∷ xs) (b ∷ ys) x y h r = (h.0, zip_push R xs ys x y h.1 r)

-- an element with no partner
pub zip_lacks : {A B : Type 0} (R : A → B → Type 0) (xs rest : List A) (x : A) (ys : List B) → ((y : B) → ¬ R x y) → AllZip R (xs ++ x ∷ rest) ys → ⊥
zip_lacks R [] rest x [] none h = absurd h
zip_lacks R [] rest x (b ∷ ys) none h = none b h.0
zip_lacks R (a ∷ xs) rest x [] none h = absurd h
zip_lacks R (a ∷ xs) rest x (b ∷ ys) none h = zip_lacks R xs rest x ys none h.1

-- where each element has one partner at most, the partners of the first elements stand first
pub zip_begins : {A B : Type 0} (R : A → B → Type 0) (one : (x : A) (a b : B) → R x a → R x b → b ≡ a) (xs rest : List A) (seen ys : List B) → AllZip R xs seen → AllZip R (xs ++ rest) ys → (more : List B) × (ys ≡ seen ++ more)
zip_begins R one [] rest [] ys h k = (ys, refl)
zip_begins R one [] rest (b ∷ seen) ys h k = absurd h
zip_begins R one (a ∷ xs) rest [] ys h k = absurd h
zip_begins R one (a ∷ xs) rest (b ∷ seen) [] h k = absurd k
zip_begins R one (a ∷ xs) rest (b ∷ seen) (y ∷ ys) h k =
    let behind = zip_begins R one xs rest seen ys h.1 k.1 in
    (behind.0, ap₂ (λ (z : _) (zs : List _). z ∷ zs) (one a b y h.0 k.0) behind.1)

-- what stands behind an element
pub parts_at : {A B : Type 0} (f : A → B) (xs : List A) (i : ℕ) (d : A) → i < length xs → (rest : List B) × (map f xs ≡ map f (take i xs) ++ f (get_or xs i d) ∷ rest)
parts_at f [] i d lt = absurd (omega (arith, lt))
parts_at f (x ∷ xs) zero d lt = (map f xs, refl)
parts_at f (x ∷ xs) (suc i) d lt = let behind = parts_at f xs i d (omega (arith, lt)) in (behind.0, ap (λ (ys : List _). f x ∷ ys) behind.1)

-- ---- zone words
pub one_zone : (word : List ℕ) (a b : ZoneWord) → IsZoneWord word a → IsZoneWord word b → b ≡ a
one_zone word a b x y =
    let same : Ok b.origin ≡ Ok a.origin = sym y.named.written ∙ x.named.written in
    ap₂ (λ (o : List (List ℕ)) (f : List ℕ). record { origin = o; file = f }) (ap (λ r. result_unwrap_or r []) same) (y.kept ∙ sym x.kept)

-- an origin that stands among the first zones stands twice
pub stands_twice : (seen more zones : List ZoneWord) (zone : ZoneWord) → list_any (λ z. pointwise bytes_eq z.origin zone.origin) seen ≡ true → zones ≡ seen ++ zone ∷ more → HaveOwnOrigins zones → ⊥
stands_twice seen more zones zone found parts own =
    let place = Any-from_list_any (λ z. pointwise bytes_eq z.origin zone.origin) seen found in
    let early : get_or zones place.0 zone ≡ place.1 = ap (λ zs. get_or zs place.0 zone) parts ∙ get_or-append seen (zone ∷ more) zone place.0 place.2 ∙ get_or_default seen place.0 zone place.1 place.2 ∙ place.3 in
    let late : get_or zones (length seen) zone ≡ zone = ap (λ zs. get_or zs (length seen) zone) parts ∙ get_or-append_seam seen zone more zone in
    let same : place.1.origin ≡ zone.origin = (pointwise_decides bytes_decides place.1.origin zone.origin).0 place.4 in
    own place.0 (length seen) zone place.2 (subst (λ zs. length seen < length zs) (sym parts) (omega (arith, length-append seen (zone ∷ more))))
    (ap (λ (z : ZoneWord). z.origin) early ∙ same ∙ sym (ap (λ (z : ZoneWord). z.origin) late))

-- ---- the word at a place
pub refused_at : (words : List (String Global)) (i : ℕ) (word : String Global) (zones : List ZoneWord) → i < length words → word ≡ get_or words i word → ((zone : ZoneWord) → ¬ IsZoneWord (string_bytes word) zone)
    → AllZip IsZoneWord (texts words) zones → ⊥
refused_at words i word zones lt at none each =
    let parts = parts_at string_bytes words i word lt in
    let whole : texts words ≡ texts (take i words) ++ string_bytes word ∷ parts.0 = parts.1 ∙ ap (λ (w : String Global). texts (take i words) ++ string_bytes w ∷ parts.0) (sym at) in
    zip_lacks IsZoneWord (texts (take i words)) parts.0 (string_bytes word) zones none (subst (λ ws. AllZip IsZoneWord ws zones) whole each)

pub taken_at : (words : List (String Global)) (i : ℕ) (word : String Global) (seen zones : List ZoneWord) (zone : ZoneWord) → i < length words → word ≡ get_or words i word
    → AllZip IsZoneWord (texts (take i words)) seen → IsZoneWord (string_bytes word) zone
    → list_any (λ z. pointwise bytes_eq z.origin zone.origin) seen ≡ true
    → AllZip IsZoneWord (texts words) zones → HaveOwnOrigins zones → ⊥
taken_at words i word seen zones zone lt at so_far is_zone found each own =
    let parts = parts_at string_bytes words i word lt in
    let whole : texts words ≡ (texts (take i words) ++ string_bytes word ∷ []) ++ parts.0 =
    parts.1 ∙ ap (λ (w : String Global). texts (take i words) ++ string_bytes w ∷ parts.0) (sym at) ∙ sym (append_assoc (texts (take i words)) (string_bytes word ∷ []) parts.0) in
    let begins = zip_begins IsZoneWord one_zone (texts (take i words) ++ string_bytes word ∷ []) parts.0 (seen ++ zone ∷ []) zones
    (zip_push IsZoneWord (texts (take i words)) seen (string_bytes word) zone so_far is_zone)
    (subst (λ ws. AllZip IsZoneWord ws zones) whole each) in
    stands_twice seen begins.0 zones zone found (begins.1 ∙ append_assoc seen (zone ∷ []) begins.0) own

-- one more zone word, whose origin is new
pub one_more : (words : List (String Global)) (i : ℕ) (word : String Global) (seen : List ZoneWord) (zone : ZoneWord) → i < length words → word ≡ get_or words i word
    → AllZip IsZoneWord (texts (take i words)) seen → IsZoneWord (string_bytes word) zone → AllZip IsZoneWord (texts (take (i + 1) words)) (seen ++ zone ∷ [])
one_more words i word seen zone lt at so_far is_zone =
    let more : texts (take (i + 1) words) ≡ texts (take i words) ++ string_bytes word ∷ [] =
    map_more string_bytes words i word lt ∙ ap (λ (w : String Global). texts (take i words) ++ string_bytes w ∷ []) (sym at) in
    subst (λ ws. AllZip IsZoneWord ws (seen ++ zone ∷ [])) (sym more) (zip_push IsZoneWord (texts (take i words)) seen (string_bytes word) zone so_far is_zone)

pub own_push : (seen : List ZoneWord) (zone : ZoneWord) → HaveOwnOrigins seen → list_any (λ z. pointwise bytes_eq z.origin zone.origin) seen ≡ false → HaveOwnOrigins (seen ++ zone ∷ [])
own_push seen zone own free =
    all_pairs_push (λ (a b : ZoneWord). a.origin ≢ b.origin) seen zone own
    (λ k d lt same. true≢false (sym (list_any_at (λ z. pointwise bytes_eq z.origin zone.origin) seen k d lt
    ((pointwise_decides bytes_decides (get_or seen k d).origin zone.origin).1 same)) ∙ free))

-- words name one row of zones at most
pub one_row : (words : List (List ℕ)) (a b : List ZoneWord) → AllZip IsZoneWord words a → AllZip IsZoneWord words b → a ≡ b
one_row [] [] [] x y = refl
one_row [] [] (z ∷ b) x y = absurd y
one_row [] (z ∷ a) b x y = absurd x
one_row (word ∷ words) [] b x y = absurd x
one_row (word ∷ words) (z ∷ a) [] x y = absurd y
one_row (word ∷ words) (z ∷ a) (u ∷ b) x y = ap₂ (λ (v : ZoneWord) (zs : List ZoneWord). v ∷ zs) (one_zone word u z y.0 x.0) (one_row words a b x.1 y.1)

-- ---- what the reader of one word found
pub none_found : (word text : List ℕ) (found : Option ZoneWord) → text ≡ word → found ≡ None → MatchOption found ((zone : ZoneWord) → ¬ IsZoneWord text zone) (IsZoneWord text) → (zone : ZoneWord) → ¬ IsZoneWord word zone
none_found word text found same is told zone h =
    let none : (zone : ZoneWord) → ¬ IsZoneWord text zone = subst (λ f. MatchOption f ((zone : ZoneWord) → ¬ IsZoneWord text zone) (IsZoneWord text)) is told in
    none zone (subst (λ t. IsZoneWord t zone) (sym same) h)

pub zone_found : (word text : List ℕ) (found : Option ZoneWord) (zone : ZoneWord) → text ≡ word → found ≡ Some zone → MatchOption found ((zone : ZoneWord) → ¬ IsZoneWord text zone) (IsZoneWord text) → IsZoneWord word zone
zone_found word text found zone same is told =
    let some : IsZoneWord text zone = subst (λ f. MatchOption f ((zone : ZoneWord) → ¬ IsZoneWord text zone) (IsZoneWord text)) is told in
    subst (λ t. IsZoneWord t zone) same some
