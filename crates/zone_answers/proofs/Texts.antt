-- The joined strings of TXT records.
use Rattle.std.proofs.Common.{◌≡◌, ℕ, zero, suc, ◌+◌, ◌<◌, ◌≤◌, Bool, true, false, cond, ◌&&◌, List, [], ◌∷◌, ◌++◌, length, take, drop, get_or, filter, sum_by, None, Some, refl, sym, ap, ap₂, subst, ◌∙◌, arith, length-append, append_assoc, take-append-drop, if◌then◌else◌}
use Rattle.std.specs.List.{concat}
use Rattle.std.proofs.lemmas.List.{take_all, take_more, append-nil}
use Rattle.std.proofs.lemmas.List.Sums.{sum_by-append, sum_by-cons, sum_by-take-le}
use Rattle.std.proofs.lemmas.List.Folds.{concat-append}
use Rattle.spf_text.specs.Version.{is_spf_text}
use Rattle.master_reader.specs.declared.record.Body.{Body}
use Rattle.master_reader.specs.declared.record.Body.TheVariants.{A, Aaaa, Mx, Txt, Cname, Ns, Other}
use Rattle.master_reader.specs.declared.record.Record.{Record}
use Rattle.zone_answers.specs.declared.answer.QKind.TheVariants as kinds
use Rattle.zone_answers.specs.declared.node.Chosen.{Chosen}
use Rattle.zone_answers.specs.declared.node.Chosen.TheVariants.{Asked}
use Rattle.zone_answers.specs.Zone.{Zone}
use Rattle.zone_answers.specs.Same.{same_name}
use Rattle.zone_answers.specs.Answers.{bodies_at, is_of}
use Rattle.zone_answers.specs.Names.{other_len}
use Rattle.zone_answers.specs.Lend.{AreLendable, IsBodyFit}
use Rattle.zone_answers.specs.Index.{is_chosen, body_at, bodies_at_places, places_of}
use Rattle.zone_answers.proofs.Places.{bodies_by_places, bodies_more, bodies_all}

abbrev lengths_of : List (List ℕ) → ℕ
lengths_of strings = sum_by (λ s. length s) strings

sum_more : (strings : List (List ℕ)) (i : ℕ) (s : List ℕ) → i < length strings → s ≡ get_or strings i s → lengths_of (take (i + 1) strings) ≡ lengths_of (take i strings) + length s
sum_more strings i s lt e =
    let cut = ap lengths_of (take_more strings i s lt) ∙ sum_by-append (λ (x : List ℕ). length x) (take i strings) (get_or strings i s ∷ [])
    ∙ ap (λ (x : List ℕ). lengths_of (take i strings) + lengths_of (x ∷ [])) (sym e) in
    omega (arith, cut)

less_without : (strings : List (List ℕ)) → lengths_of strings ≤ sum_by (λ s. length s + 1) strings
less_without [] = omega arith
less_without (s ∷ strings) = omega (arith, less_without strings, sum_by-cons (λ (x : List ℕ). length x) s strings, sum_by-cons (λ (x : List ℕ). length x + 1) s strings)

pub joined_fits : (strings items : List (List ℕ)) (i : ℕ) (s : List ℕ) (octets : ℕ) → items ≡ strings → i < length items → s ≡ get_or items i s → sum_by (λ x. length x + 1) strings ≤ 65535 → octets ≡ lengths_of (take i items) → octets + length s ≤ 65535
joined_fits strings items i s octets is lt e h o =
    omega (arith, o, sum_more items i s lt e, sum_by-take-le (λ (x : List ℕ). length x) items (i + 1), less_without items, ap (sum_by (λ (x : List ℕ). length x + 1)) is, h)

joined_length : (strings : List (List ℕ)) → lengths_of strings ≡ length (concat strings)
joined_length [] = refl
joined_length (s ∷ strings) =
    let cut = ap length (concat-append (s ∷ []) strings) in
    omega (arith, sum_by-cons (λ (x : List ℕ). length x) s strings, joined_length strings, cut, length-append (concat (s ∷ [])) (concat strings), length-append s [])

pub joined_all : (strings items : List (List ℕ)) (i octets : ℕ) → items ≡ strings → length items ≤ i → octets ≡ lengths_of (take i items) → octets ≡ length (concat strings)
joined_all strings items i octets is le o = o ∙ ap lengths_of (take_all i items le ∙ is) ∙ joined_length strings

pub joined_small : (strings : List (List ℕ)) (octets : ℕ) → octets ≡ length (concat strings) → sum_by (λ x. length x + 1) strings ≤ 65535 → octets ≤ 65535
joined_small strings octets e h = omega (arith, e, joined_length strings, less_without strings, h)

-- ---- the first octets

take_front : (n : ℕ) (a b : List ℕ) → length a ≡ n → take n (a ++ b) ≡ a
take_front n [] b e = ap (λ k. take k b) (sym e)
take_front n (x ∷ a) b e = ap (λ k. take k (x ∷ (a ++ b))) (sym e) ∙ ap (λ l. x ∷ l) (take_front (length a) a b refl)

pub push_full : (old string items : List ℕ) (i : ℕ) → items ≡ old ++ take i string → length items ≡ 7 → items ≡ take 7 (old ++ string)
push_full old string items i e h =
    sym (ap (take 7) (ap (λ (l : List ℕ). old ++ l) (sym (take-append-drop i string)) ∙ sym (append_assoc old (take i string) (drop i string)) ∙ ap (λ (l : List ℕ). l ++ drop i string) (sym e))
    ∙ take_front 7 items (drop i string) h)

pub push_whole : (old string items : List ℕ) (i : ℕ) → items ≡ old ++ take i string → length string ≤ i → length items ≤ 7 → items ≡ take 7 (old ++ string)
push_whole old string items i e le h =
    let whole : items ≡ old ++ string = e ∙ ap (λ (l : List ℕ). old ++ l) (take_all i string le) in
    sym (ap (take 7) (sym whole) ∙ take_all 7 items h)

take_twice : (n : ℕ) (a s : List ℕ) → take n (take n a ++ s) ≡ take n (a ++ s)
take_twice zero a s = refl
take_twice (suc n) [] s = refl
take_twice (suc n) (x ∷ a) s = ap (λ l. x ∷ l) (take_twice n a s)

pub first_more : (items : List (List ℕ)) (i : ℕ) (s octets more : List ℕ) → i < length items → s ≡ get_or items i s → octets ≡ take 7 (concat (take i items)) → more ≡ take 7 (octets ++ s) → more ≡ take 7 (concat (take (i + 1) items))
first_more items i s octets more lt e o m =
    m ∙ ap (λ (l : List ℕ). take 7 (l ++ s)) o ∙ take_twice 7 (concat (take i items)) s
    ∙ sym (ap (λ (l : List (List ℕ)). take 7 (concat l)) (take_more items i s lt)
    ∙ ap (take 7) (concat-append (take i items) (get_or items i s ∷ []) ∙ ap (λ (x : List ℕ). concat (take i items) ++ concat (x ∷ [])) (sym e) ∙ ap (λ (l : List ℕ). concat (take i items) ++ l) (alone s)))
  where
    alone : (x : List ℕ) → concat (x ∷ []) ≡ x
    alone x = append-nil x

pub spf_seven : (text : List ℕ) → is_spf_text (take 7 text) ≡ is_spf_text text
unfolding is_spf_text
spf_seven [] = refl
spf_seven (a ∷ []) = refl
spf_seven (a ∷ b ∷ []) = refl
spf_seven (a ∷ b ∷ c ∷ []) = refl
spf_seven (a ∷ b ∷ c ∷ d ∷ []) = refl
spf_seven (a ∷ b ∷ c ∷ d ∷ e ∷ []) = refl
spf_seven (a ∷ b ∷ c ∷ d ∷ e ∷ f ∷ []) = refl
spf_seven (a ∷ b ∷ c ∷ d ∷ e ∷ f ∷ g ∷ rest) = refl

pub other_spf : (body : Body) (strings : List (List ℕ)) (n : ℕ) (t : Bool) → body ≡ Txt strings → is_spf_text (concat strings) ≡ t → n ≡ (if t then 0 else length (concat strings)) → n ≡ other_len body
other_spf body strings n t e is h = h ∙ ap (λ b. if b then 0 else length (concat strings)) (sym is) ∙ ap other_len (sym e)

-- ---- the records of a name

fit_at : (origin : List (List ℕ)) (records : List Record) (place : ℕ) (body : Body) → AreLendable origin records → Some body ≡ body_at records place → IsBodyFit body
fit_at origin [] place body h e = absurd cc
fit_at origin (r ∷ records) zero body h e = let same : r.body ≡ body = cc in subst IsBodyFit same h.0.1
fit_at origin (r ∷ records) (suc place) body h e = fit_at origin records place body h.1 e

pub body_fit : (zone : Zone) (held : Zone) (place : ℕ) (body : Body) → AreLendable held.origin held.records → Some body ≡ body_at held.records place → IsBodyFit body
body_fit zone held place body h e = fit_at held.origin held.records place body h e

places_few-one : (place : ℕ) (t : Bool) (rest : List ℕ) (n : ℕ) → length rest ≤ n → length (if t then place ∷ rest else rest) ≤ n + 1
places_few-one place true rest n h = omega (arith, h)
places_few-one place false rest n h = omega (arith, h)

pub places_few : (chosen : Chosen) (place : ℕ) (records : List Record) (name : List (List ℕ)) → length (places_of chosen place records name) ≤ length records
places_few chosen place [] name = omega arith
places_few chosen place (r ∷ records) name =
    let h = places_few-one place (same_name r.owner name && is_chosen chosen r.body) (places_of chosen (suc place) records name) (length records) (places_few chosen (suc place) records name) in omega (arith, h)

-- ---- the sum of their lengths

pub octets_some : (records : List Record) (places : List ℕ) (i : ℕ) (body : Body) (octets more : ℕ) → i < length places → Some body ≡ body_at records (get_or places i 0) → more ≡ octets + other_len body
    → octets ≡ sum_by other_len (bodies_at_places records (take i places)) → more ≡ sum_by other_len (bodies_at_places records (take (i + 1) places))
octets_some records places i body octets more lt e m h =
    let cut = ap (sum_by other_len) (bodies_more records places i (Some body) lt e) ∙ sum_by-append other_len (bodies_at_places records (take i places)) (body ∷ []) in
    let one : sum_by other_len (body ∷ []) ≡ other_len body = sum_by-cons other_len body [] ∙ omega arith in
    m ∙ ap₂ (λ (a b : ℕ). a + b) h (sym one) ∙ sym cut

pub octets_none : (records : List Record) (places : List ℕ) (i : ℕ) (octets : ℕ) → i < length places → None ≡ body_at records (get_or places i 0)
    → octets ≡ sum_by other_len (bodies_at_places records (take i places)) → octets ≡ sum_by other_len (bodies_at_places records (take (i + 1) places))
octets_none records places i octets lt e h =
    h ∙ sym (ap (sum_by other_len) (bodies_more records places i None lt e ∙ append-nil (bodies_at_places records (take i places))))

-- no other body has such a length
none_more : (body : Body) (bodies : List Body) → other_len body ≡ 0 → sum_by other_len bodies ≡ sum_by other_len (body ∷ bodies)
none_more body bodies z = sym (sum_by-cons other_len body bodies ∙ omega (arith, z))

texts_one : (body : Body) (texts bodies : List Body) → sum_by other_len texts ≡ sum_by other_len bodies → sum_by other_len (cond (is_of kinds.Txt body) (body ∷ texts) texts) ≡ sum_by other_len (body ∷ bodies)
texts_one (A n) texts bodies e = e ∙ none_more (A n) bodies refl
texts_one (Aaaa n) texts bodies e = e ∙ none_more (Aaaa n) bodies refl
texts_one (Mx p x) texts bodies e = e ∙ none_more (Mx p x) bodies refl
texts_one (Txt s) texts bodies e = sum_by-cons other_len (Txt s) texts ∙ ap (λ n. other_len (Txt s) + n) e ∙ sym (sum_by-cons other_len (Txt s) bodies)
texts_one (Cname x) texts bodies e = e ∙ none_more (Cname x) bodies refl
texts_one (Ns x) texts bodies e = e ∙ none_more (Ns x) bodies refl
texts_one Other texts bodies e = e ∙ none_more Other bodies refl

texts_alone : (bodies : List Body) → sum_by other_len (filter (is_of kinds.Txt) bodies) ≡ sum_by other_len bodies
texts_alone [] = refl
texts_alone (body ∷ bodies) = texts_one body (filter (is_of kinds.Txt) bodies) bodies (texts_alone bodies)

pub octets_all : (zone : Zone) (name : List (List ℕ)) (places : List ℕ) (i octets : ℕ) → places ≡ places_of (Asked kinds.Txt) 0 zone.records name → length places ≤ i
    → octets ≡ sum_by other_len (bodies_at_places zone.records (take i places)) → octets ≡ sum_by other_len (bodies_at zone name)
octets_all zone name places i octets is le h =
    h ∙ ap (sum_by other_len) (bodies_all zone.records places i le ∙ bodies_by_places (Asked kinds.Txt) zone places name is) ∙ texts_alone (bodies_at zone name)
