-- The bytes of the texts of records, and the strings that they are cut into.
use Rattle.std.proofs.Common.{◌≡◌, ℕ, zero, suc, ◌+◌, ◌-◌, ◌*◌, ◌<◌, ◌≤◌, ◌^◌, ◌==◌, Bool, true, false, cond, IsTrue, List, [], ◌∷◌, ◌++◌, length, take, drop, decimal, nat_lt, refl, arith, le-ltb, ltb-true, length-drop, length-take}
use Rattle.std.specs.Prelude.{codes}
use Rattle.std.specs.Char.{is_ascii_digit}
use Rattle.std.specs.List.{list_all, list_any, fold}
use Rattle.std.proofs.lemmas.Bool.{and_parts, and_from, or_from}
use Rattle.addr_bits.specs.declared.address.Family.{Family}
use Rattle.addr_bits.specs.declared.address.Family.TheVariants.{V4, V6}
use Rattle.addr_bits.specs.Address.{bits_of, text_in}
use Rattle.addr_bits.specs.Prefix.{Cidr, IsCidr}
use Rattle.addr_bits.proofs.Families.{few_bits}
use Rattle.addr_bits.specs.Laws.{is_address_byte}
use Rattle.addr_bits.proofs.Texts.{one_address, written_address}
use Rattle.spf_macros.specs.Words.{is_domain, is_label}
use Rattle.spf_grammar.proofs.Numbers.{decimal_ascii}
use Rattle.spf_grammar.proofs.OneTail.{all_both, keeps_out, weaker}
use Rattle.spf_grammar.specs.Families.{HasPrefix, HavePrefixes}
use Rattle.spf_grammar.specs.Written.{network_word, written_flat, written_len, written_net, written_network, written_qualifier}
use Rattle.spf_grammar.specs.declared.flat.FlatTerm.{FlatTerm}
use Rattle.spf_grammar.specs.declared.flat.Net.{Net}
use Rattle.spf_grammar.specs.declared.flat.Net.TheVariants as net
use Rattle.spf_grammar.specs.declared.verdict.Verdict.{Verdict}
use Rattle.spf_grammar.specs.declared.verdict.Verdict.TheVariants.{Fail, SoftFail, Pass, Neutral}
use Rattle.record_pack.specs.Records.{piece, record_name, record_text, redirect_text, spaced, terms_text}
use Rattle.master_reader.specs.Data.{is_long_text}
use Rattle.zone_writer.specs.Fragment.{strings_of, strings_within}
use Rattle.zone_writer.proofs.Domains.{name_ends, name_passes}
use Rattle.zone_writer.proofs.Lines.{is_string_byte}

-- ---- terms

abbrev pub HasStringBytes : List ℕ → Type 0
HasStringBytes bytes = list_all is_string_byte bytes ≡ true

-- bytes of a test that refuses the quote, the backslash and the line feed
strings_of_test : (p : ℕ → Bool) → p 34 ≡ false → p 92 ≡ false → p 10 ≡ false → (bytes : List ℕ) → list_all p bytes ≡ true → HasStringBytes bytes
strings_of_test p quote slash feed = weaker p is_string_byte (λ b h. and_from _ _ (and_from _ _ (keeps_out p 34 quote b h) (keeps_out p 92 slash b h)) (keeps_out p 10 feed b h))

pub both : (xs ys : List ℕ) → HasStringBytes xs → HasStringBytes ys → HasStringBytes (xs ++ ys)
both = all_both is_string_byte

decimal_bytes : (n : ℕ) → n < 2 ^ 64 → HasStringBytes (decimal n)
decimal_bytes n fits = strings_of_test is_ascii_digit refl refl refl (decimal n) (decimal_ascii n fits)

address_bytes : (bytes : List ℕ) → IsTrue (list_all is_address_byte bytes) → HasStringBytes bytes
address_bytes = strings_of_test is_address_byte refl refl refl

len_bytes : (most len : ℕ) → len ≤ 128 → HasStringBytes (written_len (codes "/") most len)
len_bytes most len few = by (len == most)
  where
    by : (t : Bool) → HasStringBytes (cond t [] (codes "/" ++ decimal len))
    by true = refl
    by false = both (codes "/") (decimal len) refl (decimal_bytes len (omega (arith, few)))

network_bytes : (f : Family) (p : Cidr) → IsCidr (bits_of f) p → HasStringBytes (written_network f p)
network_bytes f p h =
    let text : List ℕ = text_in f p.start in
    both (network_word f ++ text) (written_len (codes "/") (bits_of f) p.len)
    (both (network_word f) text (word f) (address_bytes text (one_address.bytes f text p.start (written_address.written f p.start h.within))))
    (len_bytes (bits_of f) p.len (omega (arith, h.short, few_bits f)))
  where
    word : (f : Family) → HasStringBytes (network_word f)
    word V4 = refl
    word V6 = refl

net_bytes : (n : Net) → HasPrefix n → HasStringBytes (written_net n)
net_bytes (net.V4 p) h = network_bytes V4 p h
net_bytes (net.V6 p) h = network_bytes V6 p h
net_bytes net.All h = refl

qualifier_bytes : (v : Verdict) → HasStringBytes (written_qualifier v)
qualifier_bytes Fail = refl
qualifier_bytes SoftFail = refl
qualifier_bytes Pass = refl
qualifier_bytes Neutral = refl

flat_bytes : (term : FlatTerm) → HasPrefix term.net → HasStringBytes (written_flat term)
unfolding written_flat
flat_bytes term h = both (written_qualifier term.verdict) (written_net term.net) (qualifier_bytes term.verdict) (net_bytes term.net h)

pub spaced_bytes : (terms : List FlatTerm) → HavePrefixes terms → HasStringBytes (spaced terms)
spaced_bytes [] h = refl
spaced_bytes (term ∷ terms) h = both (32 ∷ written_flat term) (spaced terms) (flat_bytes term h.0) (spaced_bytes terms h.1)

redirect_bytes : (domain label : List ℕ) (k : ℕ) (last : Bool) → IsTrue (is_domain domain) → IsTrue (is_label label) → k ≤ 10 → HasStringBytes (redirect_text last (record_name domain label (k + 1)))
redirect_bytes domain label k true h g few = refl
redirect_bytes domain label k false h g few =
    both (codes " redirect=") (record_name domain label (k + 1)) refl (name_passes is_string_byte refl (record_name domain label (k + 1)) (name_ends domain label k h g few).bytes)

-- the text of a record has no quote, no backslash and no line feed
pub text_bytes : (domain label : List ℕ) (terms : List FlatTerm) (k : ℕ) (last : Bool) → IsTrue (is_domain domain) → IsTrue (is_label label) → k ≤ 10 → HavePrefixes terms → HasStringBytes (record_text domain label terms k last)
text_bytes domain label terms k last h g few prefixes =
    both (terms_text terms) (redirect_text last (record_name domain label (k + 1))) (both (codes "v=spf1") (spaced terms) refl (spaced_bytes terms prefixes)) (redirect_bytes domain label k last h g few)

-- ---- pieces

-- what some terms have, a part of them has
pub prefixes_take : (n : ℕ) (terms : List FlatTerm) → HavePrefixes terms → HavePrefixes (take n terms)
prefixes_take zero terms h = tt
prefixes_take (suc n) [] h = tt
prefixes_take (suc n) (term ∷ terms) h = (h.0, prefixes_take n terms h.1)

pub prefixes_drop : (n : ℕ) (terms : List FlatTerm) → HavePrefixes terms → HavePrefixes (drop n terms)
prefixes_drop zero terms h = h
prefixes_drop (suc n) [] h = tt
prefixes_drop (suc n) (term ∷ terms) h = prefixes_drop n terms h.1

pub prefixes_piece : (list : List FlatTerm) (from to : ℕ) → HavePrefixes list → HavePrefixes (piece list from to)
prefixes_piece list from to h = prefixes_take (to - from) (drop from list) (prefixes_drop from list h)

-- ---- strings

bytes_take : (n : ℕ) (bytes : List ℕ) → HasStringBytes bytes → HasStringBytes (take n bytes)
bytes_take zero bytes h = refl
bytes_take (suc n) [] h = refl
bytes_take (suc n) (b ∷ bytes) h =
    let parts = and_parts (is_string_byte b) (list_all is_string_byte bytes) h in
    and_from (is_string_byte b) (list_all is_string_byte (take n bytes)) parts.0 (bytes_take n bytes parts.1)

bytes_drop : (n : ℕ) (bytes : List ℕ) → HasStringBytes bytes → HasStringBytes (drop n bytes)
bytes_drop zero bytes h = h
bytes_drop (suc n) [] h = refl
bytes_drop (suc n) (b ∷ bytes) h = bytes_drop n bytes (and_parts (is_string_byte b) (list_all is_string_byte bytes) h).1

pub strings_bytes : (n : ℕ) (text : List ℕ) → HasStringBytes text → list_all (list_all is_string_byte) (strings_within n text) ≡ true
strings_bytes zero text h = and_from (list_all is_string_byte text) true h refl
strings_bytes (suc n) text h = by (nat_lt 255 (length text)) (strings_bytes n (drop 255 text) (bytes_drop 255 text h))
  where
    by : (t : Bool) → list_all (list_all is_string_byte) (strings_within n (drop 255 text)) ≡ true
        → list_all (list_all is_string_byte) (cond t (take 255 text ∷ strings_within n (drop 255 text)) (text ∷ [])) ≡ true
    by true rest = and_from (list_all is_string_byte (take 255 text)) (list_all (list_all is_string_byte) (strings_within n (drop 255 text))) (bytes_take 255 text h) rest
    by false rest = and_from (list_all is_string_byte text) true h refl

abbrev is_long : List ℕ → Bool
is_long string = nat_lt 255 (length string)

strings_short : (n : ℕ) (text : List ℕ) → length text ≤ 255 * (n + 1) → list_any is_long (strings_within n text) ≡ false
strings_short zero text h = or_from (is_long text) false (le-ltb 255 (length text) (omega (arith, h))) refl
strings_short (suc n) text h = by (nat_lt 255 (length text)) refl (strings_short n (drop 255 text) (omega (arith, h, length-drop 255 text)))
  where
    by : (t : Bool) → nat_lt 255 (length text) ≡ t → list_any is_long (strings_within n (drop 255 text)) ≡ false → list_any is_long (cond t (take 255 text ∷ strings_within n (drop 255 text)) (text ∷ [])) ≡ false
    by true e rest = or_from (is_long (take 255 text)) (list_any is_long (strings_within n (drop 255 text))) (le-ltb 255 (length (take 255 text)) (omega (arith, length-take 255 text))) rest
    by false e rest = or_from (is_long text) false e refl

-- the octets of the strings, with a length octet each: one for each 255 octets of the text, and one more
octets_below : (n : ℕ) (text : List ℕ) (start : ℕ) → 255 * fold (λ (a : ℕ) (s : List ℕ). a + (length s + 1)) start (strings_within n text) ≤ 255 * start + 256 * length text + 255
octets_below zero text start = omega arith
octets_below (suc n) text start = by (nat_lt 255 (length text)) refl (octets_below n (drop 255 text) (start + (length (take 255 text) + 1)))
  where
    by : (t : Bool) → nat_lt 255 (length text) ≡ t
        → 255 * fold (λ (a : ℕ) (s : List ℕ). a + (length s + 1)) (start + (length (take 255 text) + 1)) (strings_within n (drop 255 text)) ≤ 255 * (start + (length (take 255 text) + 1)) + 256 * length (drop 255 text) + 255
        → 255 * fold (λ (a : ℕ) (s : List ℕ). a + (length s + 1)) start (cond t (take 255 text ∷ strings_within n (drop 255 text)) (text ∷ [])) ≤ 255 * start + 256 * length text + 255
    by true e rest = omega (arith, rest, length-take 255 text, length-drop 255 text, ltb-true 255 (length text) e)
    by false e rest = omega arith

-- the strings of a text of so many octets are not too long
pub strings_fit : (text : List ℕ) → length text ≤ 65278 → is_long_text (strings_of text) ≡ false
strings_fit text short =
    let octets = octets_below (length text) text 0 in
    or_from (list_any is_long (strings_of text)) _ (strings_short (length text) text (omega arith)) (le-ltb 65535 _ (omega (arith, octets, short)))

-- a text has a string
pub some_string : (n : ℕ) (text : List ℕ) → (string : List ℕ) × (strings : List (List ℕ)) × (strings_within n text ≡ string ∷ strings)
some_string zero text = (text, [], refl)
some_string (suc n) text = by (nat_lt 255 (length text))
  where
    by : (t : Bool) → (string : List ℕ) × (strings : List (List ℕ)) × (cond t (take 255 text ∷ strings_within n (drop 255 text)) (text ∷ []) ≡ string ∷ strings)
    by true = (take 255 text, strings_within n (drop 255 text), refl)
    by false = (text, [], refl)
