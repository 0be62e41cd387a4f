-- Printed forms, and that they differ.
use Rattle.std.proofs.Common.{◌≡◌, ◌≢◌, ℕ, ◌+◌, ◌/◌, ◌%◌, ◌<◌, ◌≤◌, Bool, true, false, cond, List, [], ◌∷◌, ◌++◌, length, map, flat_map, refl, sym, ap, ap₂, subst, ◌∙◌, arith, append_assoc, append-nil, true≢false, ◌==◌, ne_eqb, eqb-true, bytes_eq, length-append}
use Rattle.std.proofs.lemmas.Grind.{flat_map-append}
use Rattle.std.proofs.lemmas.List.{map-append}
use Rattle.std.specs.Char.{to_ascii_lowercase}
use Rattle.std.proofs.lemmas.List.Splits.{slice_split_none, slice_split_at, length-slice_split, join_with_byte-slice_split}
use Rattle.std.proofs.lemmas.List.Elements.{All-nil, All-cons}
use Rattle.std.specs.List.{AllByRecursion, All, slice_split, join_with_byte}
use Rattle.dns_name.proofs.Octets.{all_append, all_back, lower_back}
use Rattle.dns_name.proofs.Names.{tail_name, child_ok}
use Rattle.std.specs.Cmp.Lexicographic.{bytes_decides}
use Rattle.std.specs.Result.{is_ok}
use Rattle.dns_name.specs.Name.{IsName, IsLabel, is_dot, child_of, lowercase_label}
use Rattle.dns_name.specs.Printed.{is_plain, escaped_byte, printed_byte, printed_name, ArePrintable, IsPrinted}

-- ---- one byte

-- a byte has one printed form, and what follows it is no part of it
pub byte_first : (a b : ℕ) (xs ys : List ℕ) → a < 256 → b < 256 → printed_byte a ++ xs ≡ printed_byte b ++ ys → (a ≡ b) × (xs ≡ ys)
byte_first a b xs ys h k e = by (is_plain a) (is_plain b) refl refl e
  where
    no_slash : (x : ℕ) (t : List ℕ) (y : ℕ) (u : List ℕ) → is_plain x ≡ true → x ∷ t ≡ 92 ∷ u → ⊥
    no_slash x t y u plain e = let s : x ≡ 92 = cc in true≢false (sym plain ∙ ap is_plain s)

    by : (s t : Bool) → is_plain a ≡ s → is_plain b ≡ t → cond s (a ∷ []) (escaped_byte a) ++ xs ≡ cond t (b ∷ []) (escaped_byte b) ++ ys → (a ≡ b) × (xs ≡ ys)
    by true true p q e = (cc, cc)
    by true false p q e = absurd (no_slash a xs a ((48 + b / 100) ∷ (48 + b / 10 % 10) ∷ (48 + b % 10) ∷ ys) p e)
    by false true p q e = absurd (no_slash b ys b ((48 + a / 100) ∷ (48 + a / 10 % 10) ∷ (48 + a % 10) ∷ xs) q (sym e))
    by false false p q e =
        let e1 : 48 + a / 100 ≡ 48 + b / 100 = cc in
        let e2 : 48 + a / 10 % 10 ≡ 48 + b / 10 % 10 = cc in
        let e3 : 48 + a % 10 ≡ 48 + b % 10 = cc in
        let e4 : xs ≡ ys = cc in (omega arith, e4)

printed_some : (b : ℕ) (xs : List ℕ) → printed_byte b ++ xs ≢ []
printed_some b xs e = by (is_plain b) e
  where
    by : (t : Bool) → cond t (b ∷ []) (escaped_byte b) ++ xs ≡ [] → ⊥
    by true e = cc
    by false e = cc

-- ---- octets in a row

abbrev pub Octets : List ℕ → Type 0
Octets label = AllByRecursion (λ b. b < 256) label

-- what the octets printed so far leave of a printed label
pub rest_printed : (done label rest : List ℕ) → Octets done → Octets label → flat_map printed_byte done ++ rest ≡ flat_map printed_byte label
    → (more : List ℕ) × (label ≡ done ++ more) × (rest ≡ flat_map printed_byte more)
rest_printed [] label rest h k e = (label, refl, e)
rest_printed (b ∷ done) [] rest h k e = absurd (printed_some b (flat_map printed_byte done ++ rest) (sym (append_assoc (printed_byte b) (flat_map printed_byte done) rest) ∙ e))
rest_printed (b ∷ done) (c ∷ label) rest h k e =
    let f = byte_first b c (flat_map printed_byte done ++ rest) (flat_map printed_byte label) h.0 k.0 (sym (append_assoc (printed_byte b) (flat_map printed_byte done) rest) ∙ e) in
    let m = rest_printed done label rest h.1 k.1 f.1 in (m.0, ap₂ (λ (x : ℕ) (l : List ℕ). x ∷ l) (sym f.0) m.1, m.2)

-- printed labels differ
pub label_printed : (a b : List ℕ) → Octets a → Octets b → flat_map printed_byte a ≡ flat_map printed_byte b → a ≡ b
label_printed [] [] h k e = refl
label_printed [] (b ∷ bs) h k e = absurd (printed_some b (flat_map printed_byte bs) (sym e))
label_printed (a ∷ rest) [] h k e = absurd (printed_some a (flat_map printed_byte rest) e)
label_printed (a ∷ rest) (b ∷ bs) h k e =
    let f = byte_first a b (flat_map printed_byte rest) (flat_map printed_byte bs) h.0 k.0 e in
    ap₂ (λ (x : ℕ) (l : List ℕ). x ∷ l) f.0 (label_printed rest bs h.1 k.1 f.1)

-- ---- dots

no_dot_byte : (b : ℕ) → b < 256 → AllByRecursion (λ x. is_dot x ≡ false) (printed_byte b)
no_dot_byte b h = by (is_plain b) refl
  where
    digit : (n : ℕ) → is_dot (48 + n) ≡ false
    digit n = ne_eqb (48 + n) 46 (λ e. omega arith)

    dot : (t : Bool) → (b == 46) ≡ t → is_plain b ≡ true → t ≡ false
    dot false e p = refl
    dot true e p = absurd (true≢false (sym p ∙ ap is_plain (eqb-true b 46 e)))

    by : (t : Bool) → is_plain b ≡ t → AllByRecursion (λ x. is_dot x ≡ false) (cond t (b ∷ []) (escaped_byte b))
    by true p = (dot (b == 46) refl p, tt)
    by false p = (refl, (digit (b / 100), (digit (b / 10 % 10), (digit (b % 10), tt))))

no_dots : (label : List ℕ) → Octets label → AllByRecursion (λ x. is_dot x ≡ false) (flat_map printed_byte label)
no_dots [] h = tt
no_dots (b ∷ label) h = all_append (λ x. is_dot x ≡ false) (printed_byte b) (flat_map printed_byte label) (no_dot_byte b h.0) (no_dots label h.1)

all_from : (xs : List ℕ) → AllByRecursion (λ x. is_dot x ≡ false) xs → All (λ x. is_dot x ≡ false) xs
all_from [] h = All-nil (λ x. is_dot x ≡ false)
all_from (x ∷ xs) h = All-cons (λ x. is_dot x ≡ false) x xs h.0 (all_from xs h.1)

-- ---- names

abbrev pub pieces : List (List ℕ) → List (List ℕ)
pieces name = map (λ l. flat_map printed_byte l) name

-- a printed name is cut into its printed labels
pub split_printed : (label : List ℕ) (name : List (List ℕ)) → AllByRecursion Octets (label ∷ name) → slice_split is_dot (printed_name (label ∷ name)) ≡ pieces (label ∷ name)
split_printed label [] h = slice_split_none is_dot (flat_map printed_byte label) (all_from _ (no_dots label h.0))
split_printed label (next ∷ name) h =
    slice_split_at is_dot (flat_map printed_byte label) 46 (printed_name (next ∷ name)) (all_from _ (no_dots label h.0)) refl
    ∙ ap (λ (l : List (List ℕ)). flat_map printed_byte label ∷ l) (split_printed next name h.1)

-- names with the same printed labels are the same
pub pieces_differ : (a b : List (List ℕ)) → AllByRecursion Octets a → AllByRecursion Octets b → pieces a ≡ pieces b → a ≡ b
pieces_differ [] [] h k e = refl
pieces_differ [] (l ∷ b) h k e = absurd cc
pieces_differ (l ∷ a) [] h k e = absurd cc
pieces_differ (l ∷ a) (m ∷ b) h k e =
    let first : flat_map printed_byte l ≡ flat_map printed_byte m = cc in
    let rest : pieces a ≡ pieces b = cc in
    ap₂ (λ (x : List ℕ) (n : List (List ℕ)). x ∷ n) (label_printed l m h.0 k.0 first) (pieces_differ a b h.1 k.1 rest)

-- the root is printed as no other name
pub not_root : (label : List ℕ) (name : List (List ℕ)) → IsName (label ∷ name) → printed_name (label ∷ name) ≢ 46 ∷ []
not_root label name n e = some label n.labels.0 (ap (λ (t : List ℕ). slice_split is_dot t) (sym e) ∙ split_printed label name n.octets)
  where
    some : (l : List ℕ) → IsLabel l → [] ∷ [] ∷ [] ≡ flat_map printed_byte l ∷ pieces name → ⊥
    some [] h e = omega (arith, h.0)
    some (b ∷ l) h e = let none : flat_map printed_byte (b ∷ l) ≡ [] = cc in printed_some b (flat_map printed_byte l) none

pub names_differ : (a b : List (List ℕ)) → IsName a → IsName b → printed_name a ≡ printed_name b → a ≡ b
names_differ [] [] h k e = refl
names_differ [] (l ∷ b) h k e = absurd (not_root l b k (sym e))
names_differ (l ∷ a) [] h k e = absurd (not_root l a h e)
names_differ (l ∷ a) (m ∷ b) h k e =
    pieces_differ (l ∷ a) (m ∷ b) h.octets k.octets (sym (split_printed l a h.octets) ∙ ap (slice_split is_dot) e ∙ split_printed m b k.octets)

-- the first label, and each other one behind a dot
pub printed-cons : (label : List ℕ) (name : List (List ℕ)) → printed_name (label ∷ name) ≡ flat_map printed_byte label ++ flat_map (λ l. 46 ∷ flat_map printed_byte l) name
printed-cons label [] = sym (append-nil (flat_map printed_byte label))
printed-cons label (next ∷ name) = ap (λ (t : List ℕ). flat_map printed_byte label ++ (46 ∷ t)) (printed-cons next name)

-- ---- reading a label back

-- the text of a label, of which these octets are read
pub record IsRead (text done rest : List ℕ) : Type 0 where
  pub spelled : text ≡ flat_map printed_byte done ++ rest
  pub printable : ArePrintable done

-- no label goes on with what no octet is printed as
pub none_further : (text done rest : List ℕ) → IsRead text done rest → rest ≢ [] → ((b : ℕ) (behind : List ℕ) → b < 256 → to_ascii_lowercase b ≡ b → ¬ (rest ≡ printed_byte b ++ behind))
    → (label : List ℕ) → ArePrintable label → ¬ (text ≡ flat_map printed_byte label)
none_further text done rest r some none label p is =
    let m = rest_printed done label rest r.printable.octets p.octets (sym r.spelled ∙ is) in
    by m.0 (all_back (λ b. b < 256) done m.0 (subst Octets m.1 p.octets)) (lower_back done m.0 (subst (λ (l : List ℕ). map to_ascii_lowercase l ≡ l) m.1 p.lower)) m.2
  where
    by : (more : List ℕ) → Octets more → map to_ascii_lowercase more ≡ more → rest ≡ flat_map printed_byte more → ⊥
    by [] o l e = some e
    by (b ∷ more) o l e = let low : to_ascii_lowercase b ≡ b = cc in none b (flat_map printed_byte more) o.0 low e

-- a label is not longer than 63 octets
pub none_longer : (text done rest behind : List ℕ) (b : ℕ) → IsRead text done rest → rest ≡ printed_byte b ++ behind → length done ≡ 63
    → (label : List ℕ) → ArePrintable label → ¬ (text ≡ flat_map printed_byte label)
none_longer text done rest behind b r next full label p is =
    let m = rest_printed done label rest r.printable.octets p.octets (sym r.spelled ∙ is) in
    by m.0 (omega (arith, p.short, ap length m.1, length-append done m.0)) m.2
  where
    by : (more : List ℕ) → length more ≤ 0 → rest ≡ flat_map printed_byte more → ⊥
    by [] few e = printed_some b behind (sym next ∙ e)
    by (c ∷ more) few e = omega arith

-- one octet more
pub read_more : (text done rest behind : List ℕ) (b : ℕ) → IsRead text done rest → rest ≡ printed_byte b ++ behind → length done < 63 → b < 256 → to_ascii_lowercase b ≡ b → IsRead text (done ++ b ∷ []) behind
read_more text done rest behind b r next room small low = record {
  spelled = r.spelled ∙ ap (λ (t : List ℕ). flat_map printed_byte done ++ t) next ∙ sym (append_assoc (flat_map printed_byte done) (printed_byte b) behind)
      ∙ ap (λ (t : List ℕ). t ++ behind) (ap (λ (t : List ℕ). flat_map printed_byte done ++ t) (sym (append-nil (printed_byte b))) ∙ sym (flat_map-append printed_byte done (b ∷ [])));
  printable = record {
    octets = all_append (λ b. b < 256) done (b ∷ []) r.printable.octets (small, tt);
    lower = map-append to_ascii_lowercase done (b ∷ []) ∙ ap₂ (λ (x : List ℕ) (y : ℕ). x ++ y ∷ []) r.printable.lower low;
    short = omega (arith, length-append done (b ∷ []));
  };
}

-- ---- reading a name back

-- a text that is not that of the root is cut into the printed labels
printed_parts : (text : List ℕ) (name : List (List ℕ)) → bytes_eq text (46 ∷ []) ≡ false → IsPrinted text name → slice_split is_dot text ≡ pieces name
printed_parts text [] ne p = absurd (true≢false (sym ((bytes_decides text (46 ∷ [])).1 p.1) ∙ ne))
printed_parts text (label ∷ name) ne p = ap (slice_split is_dot) p.1 ∙ split_printed label name p.0.octets

-- the label in front of the labels read so far
pub record Next (whole : List (List ℕ)) (part : List ℕ) (name : List (List ℕ)) : Type 0 where
  pub label : List ℕ
  pub legal : IsName (label ∷ name)
  pub printed : part ≡ flat_map printed_byte label

next_of : (whole front : List (List ℕ)) (part : List ℕ) (name : List (List ℕ)) → IsName whole → IsName name → pieces whole ≡ front ++ part ∷ pieces name → Next whole part name
next_of [] [] part name w n e = absurd cc
next_of [] (f ∷ front) part name w n e = absurd cc
next_of (label ∷ whole) [] part name w n e =
    let first : flat_map printed_byte label ≡ part = cc in
    let rest : pieces whole ≡ pieces name = cc in
    let same = pieces_differ whole name w.octets.1 n.octets rest in
    record { label = label; legal = subst (λ (l : List (List ℕ)). IsName (label ∷ l)) same w; printed = sym first }
next_of (label ∷ whole) (f ∷ front) part name w n e =
    let rest : pieces whole ≡ front ++ part ∷ pieces name = cc in
    let m = next_of whole front part name (tail_name label whole w) n rest in
    record { label = m.label; legal = m.legal; printed = m.printed }

printable : (label : List ℕ) (name : List (List ℕ)) → IsName (label ∷ name) → ArePrintable label
printable label name n = record {
  octets = n.octets.0;
  lower = head_of (lowercase_label label) label (map lowercase_label name) name n.lower;
  short = n.labels.0.1;
}
  where
    head_of : (a b : List ℕ) (x y : List (List ℕ)) → a ∷ x ≡ b ∷ y → a ≡ b
    head_of a b x y e = cc

-- no name is printed so, where a part is no label
pub no_label : (text : List ℕ) (front : List (List ℕ)) (part : List ℕ) (behind name : List (List ℕ)) → bytes_eq text (46 ∷ []) ≡ false → slice_split is_dot text ≡ front ++ part ∷ behind → behind ≡ pieces name → IsName name
    → ((label : List ℕ) → ArePrintable label → ¬ (part ≡ flat_map printed_byte label)) → (whole : List (List ℕ)) → IsPrinted text whole → ⊥
no_label text front part behind name ne cut read n none whole p =
    let m = next_of whole front part name p.0 n (sym (printed_parts text whole ne p) ∙ cut ∙ ap (λ (l : List (List ℕ)). front ++ part ∷ l) read) in
    none m.label (printable m.label name m.legal) m.printed

-- no name is printed so, where the name would be too long
pub no_child : (text : List ℕ) (front : List (List ℕ)) (part : List ℕ) (behind name : List (List ℕ)) (label : List ℕ) → bytes_eq text (46 ∷ []) ≡ false → slice_split is_dot text ≡ front ++ part ∷ behind → behind ≡ pieces name → IsName name
    → part ≡ flat_map printed_byte label → ArePrintable label → is_ok (child_of label name) ≡ false → (whole : List (List ℕ)) → IsPrinted text whole → ⊥
no_child text front part behind name label ne cut read n is own fails whole p =
    let m = next_of whole front part name p.0 n (sym (printed_parts text whole ne p) ∙ cut ∙ ap (λ (l : List (List ℕ)). front ++ part ∷ l) read) in
    let same = label_printed label m.label own.octets m.legal.octets.0 (sym is ∙ m.printed) in
    true≢false (sym (ap (λ l. is_ok (child_of l name)) same ∙ ap is_ok (child_ok m.label name m.legal)) ∙ fails)

-- the parts of the text are the printed labels
pub name_read : (text : List ℕ) (parts name : List (List ℕ)) → parts ≡ slice_split is_dot text → parts ≡ pieces name → IsName name → IsPrinted text name
name_read text parts [] cut read n = let none : length (slice_split is_dot text) ≡ 0 = ap length (sym cut ∙ read) in absurd (omega (arith, length-slice_split is_dot text))
name_read text parts (label ∷ name) cut read n = (n, sym (join_with_byte-slice_split 46 text) ∙ ap (join_with_byte 46) (sym cut ∙ read))
