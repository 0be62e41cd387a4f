-- The texts of the records: their networks, their bytes and how long they are.
use Rattle.std.proofs.Common.{ℕ, zero, suc, ◌≡◌, ◌+◌, ◌*◌, ◌/◌, ◌%◌, ◌<◌, ◌≤◌, ◌^◌, ◌==◌, nat_lt, Bool, true, false, cond, List, [], ◌∷◌, ◌++◌, length, take, drop, map, decimal, refl, sym, ap, ◌∙◌, add-one, arith, length-append, length-take, length-drop, eqb-true}
use Rattle.std.specs.Prelude.{codes}
use Rattle.std.specs.Char.{digit_char}
use Rattle.std.specs.List.{filter, join_with_byte, range_with_len}
use Rattle.std.proofs.lemmas.Fmt.{length-decimal-le}
use Rattle.addr_bits.specs.declared.address.Family.{Family}
use Rattle.addr_bits.specs.declared.address.Family.TheVariants.{V4, V6}
use Rattle.addr_bits.specs.Address.{bits_of, text_in}
use Rattle.addr_bits.specs.Ip4.{ip4_text}
use Rattle.addr_bits.specs.Ip6.{group_text, groups_of, groups_text, ip6_text, leading_zeros_of, longest_run, written_groups}
use Rattle.addr_bits.specs.Prefix.{Cidr, IsCidr, cidr_of}
use Rattle.addr_bits.proofs.Families.{few_bits}
use Rattle.addr_bits.proofs.Texts.{written_address}
use Rattle.spf_grammar.specs.Families.{HasPrefix, HavePrefixes}
use Rattle.spf_grammar.specs.Written.{network_word, written_flat, written_len, written_net, written_network, written_qualifier}
use Rattle.spf_grammar.specs.declared.flat.FlatTerm.{FlatTerm}
use Rattle.spf_grammar.specs.declared.flat.Net.{Net}
use Rattle.spf_grammar.specs.declared.flat.Net.TheVariants as net
use Rattle.spf_grammar.specs.declared.verdict.Verdict.{Verdict}
use Rattle.spf_grammar.specs.declared.verdict.Verdict.TheVariants.{Fail, SoftFail, Pass, Neutral}
use Rattle.record_pack.specs.Records.{spaced, terms_text}
use Rattle.zone_writer.proofs.Texts.{HasStringBytes, both, spaced_bytes}
use Rattle.spf_gen.specs.Draws.{draw}
use Rattle.spf_gen.specs.Networks.{network, networks_in, term, terms_in}
use Rattle.spf_gen.proofs.Drawing.{networks_more}

-- ---- the networks are prefixes of their families

draw_below : (start steps : ℕ) → draw start steps < 2 ^ 64
unfolding draw
draw_below start steps = omega arith

high_below : (drawn : ℕ) → drawn < 2 ^ 64 → drawn / 2 ^ 32 < 2 ^ 32
high_below drawn below = omega (arith, below)

network_has : (drawn i : ℕ) → drawn < 2 ^ 64 → HasPrefix (network drawn i)
unfolding network
network_has drawn i below = by (i % 4 == 3)
  where
    high : drawn / 2 ^ 32 < 2 ^ 32
    high = high_below drawn below

    by : (t : Bool)
        → HasPrefix (cond t (net.V6 (cidr_of 128 (36 + 4 * (drawn / 2 ^ 16 % 8)) (536939960 * 2 ^ 96 + drawn / 2 ^ 32 * 2 ^ 64))) (net.V4 (cidr_of 32 (20 + drawn / 2 ^ 16 % 8) (drawn / 2 ^ 32))))
    by true = written_address.prefix_is 128 (36 + 4 * (drawn / 2 ^ 16 % 8)) (536939960 * 2 ^ 96 + drawn / 2 ^ 32 * 2 ^ 64) (omega arith) (omega (arith, high))
    by false = written_address.prefix_is 32 (20 + drawn / 2 ^ 16 % 8) (drawn / 2 ^ 32) (omega arith) high

places_have : (start : ℕ) (places : List ℕ) → HavePrefixes (map (term start) places)
places_have start [] = tt
places_have start (i ∷ places) = (network_has (draw start (i + 1)) i (draw_below start (i + 1)), places_have start places)

both_have : (xs ys : List FlatTerm) → HavePrefixes xs → HavePrefixes ys → HavePrefixes (xs ++ ys)
both_have [] ys h g = g
both_have (x ∷ xs) ys h g = (h.0, both_have xs ys h.1 g)

pub terms_have : (start n k : ℕ) → HavePrefixes (terms_in start n k)
terms_have start n k =
    both_have (networks_in start n k) (record { verdict = Neutral; net = net.All } ∷ []) (places_have start (filter (λ i. i % 8 == k) (range_with_len 0 n))) (tt, tt)

-- ---- how many networks a record has

one_of : (n k : ℕ) (start : ℕ) (t : Bool) → length (cond t (term start n ∷ []) []) ≡ cond t 1 0
one_of n k start true = refl
one_of n k start false = refl

count_step : (n k few more : ℕ) (t : Bool) → (n % 8 == k) ≡ t → 8 * few + k ≤ n + 7 → more ≡ few + cond t 1 0 → 8 * more + k ≤ suc n + 7
count_step n k few more true here below is = omega (arith, eqb-true (n % 8) k here, below, is)
count_step n k few more false here below is = omega (arith, below, is)

networks_few : (start n k : ℕ) → k < 8 → 8 * length (networks_in start n k) + k ≤ n + 7
networks_few start zero k place = omega (arith, place)
networks_few start (suc n) k place =
    count_step n k (length (networks_in start n k)) (length (networks_in start (suc n) k)) (n % 8 == k) refl (networks_few start n k place)
    (ap (λ (m : ℕ). length (networks_in start m k)) (sym (add-one n))
    ∙ ap (λ (ts : List FlatTerm). length ts) (networks_more start n k)
    ∙ length-append (networks_in start n k) (cond (n % 8 == k) (term start n ∷ []) [])
    ∙ ap (λ (m : ℕ). length (networks_in start n k) + m) (one_of n k start (n % 8 == k)))

-- ---- how long a term is

drop_short : (n : ℕ) (xs : List ℕ) → length (drop n xs) ≤ length xs
drop_short n xs = omega (arith, length-drop n xs)

group_short : (g : ℕ) → length (group_text g) ≤ 4
group_short g = drop_short (leading_zeros_of g) (digit_char (g / 0x1000) ∷ digit_char (g / 0x100 % 16) ∷ digit_char (g / 0x10 % 16) ∷ digit_char (g % 16) ∷ [])

groups_short : (groups : List ℕ) → length (groups_text groups) ≤ 5 * length groups
groups_short [] = omega arith
groups_short (g ∷ []) = omega (arith, group_short g)
groups_short (g ∷ h ∷ groups) =
    let first = group_short g in
    let rest = groups_short (h ∷ groups) in
    omega (arith, first, rest, length-append (group_text g) (58 ∷ groups_text (h ∷ groups)))

run_short : (groups : List ℕ) (from to : ℕ) → from ≤ to → length (groups_text (take from groups) ++ codes "::" ++ groups_text (drop to groups)) ≤ 5 * length groups + 2
run_short groups from to within =
    let before = groups_short (take from groups) in
    let after = groups_short (drop to groups) in
    omega (
      arith,
      within,
      before,
      after,
      length-take from groups,
      length-drop to groups,
      length-append (groups_text (take from groups) ++ codes "::") (groups_text (drop to groups)),
      length-append (groups_text (take from groups)) (codes "::"),
    )

written_short : (groups : List ℕ) → length (written_groups groups) ≤ 5 * length groups + 2
written_short groups = by (nat_lt 1 (longest_run groups).1)
  where
    by : (t : Bool)
        → length (cond t (groups_text (take (longest_run groups).0 groups) ++ codes "::" ++ groups_text (drop ((longest_run groups).0 + (longest_run groups).1) groups)) (groups_text groups)) ≤ 5 * length groups + 2
    by true = run_short groups (longest_run groups).0 ((longest_run groups).0 + (longest_run groups).1) (omega arith)
    by false = let whole = groups_short groups in omega (arith, whole)

ip6_short : (a : ℕ) → length (ip6_text a) ≤ 42
unfolding ip6_text
ip6_short a = written_short (groups_of a)

octet_short : (b : ℕ) → b < 256 → length (decimal b) ≤ 3
octet_short b small = length-decimal-le 3 b (omega arith) (omega (arith, small)) (omega (arith, small))

ip4_short : (a : ℕ) → a < 2 ^ 32 → length (ip4_text a) ≤ 42
ip4_short a below = four (a / 2 ^ 24) (a / 2 ^ 16 % 256) (a / 2 ^ 8 % 256) (a % 256) (omega (arith, below)) (omega arith) (omega arith) (omega arith)
  where
    four : (b c d e : ℕ) → b < 256 → c < 256 → d < 256 → e < 256 → length (join_with_byte 46 (decimal b ∷ decimal c ∷ decimal d ∷ decimal e ∷ [])) ≤ 42
    four b c d e hb hc hd he = omega (
      arith,
      octet_short b hb,
      octet_short c hc,
      octet_short d hd,
      octet_short e he,
      length-append (decimal b) (46 ∷ (decimal c ++ 46 ∷ (decimal d ++ 46 ∷ decimal e))),
      length-append (decimal c) (46 ∷ (decimal d ++ 46 ∷ decimal e)),
      length-append (decimal d) (46 ∷ decimal e),
    )

address_short : (f : Family) (a : ℕ) → a < 2 ^ bits_of f → length (text_in f a) ≤ 42
address_short V4 a below = ip4_short a below
address_short V6 a below = ip6_short a

len_short : (most len : ℕ) → len ≤ 128 → length (written_len (codes "/") most len) ≤ 4
len_short most len few = by (len == most)
  where
    digits : length (decimal len) ≤ 3
    digits = length-decimal-le 3 len (omega arith) (omega (arith, few)) (omega (arith, few))

    by : (t : Bool) → length (cond t [] (codes "/" ++ decimal len)) ≤ 4
    by true = omega arith
    by false = omega (arith, digits)

network_short : (f : Family) (p : Cidr) → IsCidr (bits_of f) p → length (written_network f p) ≤ 50
network_short f p h =
    let address = address_short f p.start h.within in
    let len = len_short (bits_of f) p.len (omega (arith, h.short, few_bits f)) in
    let word = word_short f in
    omega (arith, address, len, word, length-append (network_word f ++ text_in f p.start) (written_len (codes "/") (bits_of f) p.len), length-append (network_word f) (text_in f p.start))
  where
    word_short : (f : Family) → length (network_word f) ≤ 4
    word_short V4 = omega arith
    word_short V6 = omega arith

net_short : (n : Net) → HasPrefix n → length (written_net n) ≤ 50
net_short (net.V4 p) h = network_short V4 p h
net_short (net.V6 p) h = network_short V6 p h
net_short net.All h = omega arith

qualifier_short : (v : Verdict) → length (written_qualifier v) ≤ 1
qualifier_short Fail = omega arith
qualifier_short SoftFail = omega arith
qualifier_short Pass = omega arith
qualifier_short Neutral = omega arith

flat_short : (t : FlatTerm) → HasPrefix t.net → length (written_flat t) ≤ 51
unfolding written_flat
flat_short t h =
    let qualifier = qualifier_short t.verdict in
    let network = net_short t.net h in
    omega (arith, qualifier, network, length-append (written_qualifier t.verdict) (written_net t.net))

spaced_short : (terms : List FlatTerm) → HavePrefixes terms → length (spaced terms) ≤ 52 * length terms
spaced_short [] h = omega arith
spaced_short (t ∷ terms) h =
    let first = flat_short t h.0 in
    let rest = spaced_short terms h.1 in
    omega (arith, first, rest, length-append (32 ∷ written_flat t) (spaced terms))

-- ---- the texts

-- no text is too long for the strings of a TXT record
pub text_short : (start n k : ℕ) → n ≤ 10000 → k < 8 → length (terms_text (terms_in start n k)) ≤ 65278
text_short start n k few place =
    let networks = networks_few start n k place in
    let terms = length-append (networks_in start n k) (record { verdict = Neutral; net = net.All } ∷ []) in
    let each = spaced_short (terms_in start n k) (terms_have start n k) in
    omega (arith, few, place, networks, terms, each, length-append (codes "v=spf1") (spaced (terms_in start n k)))

-- no text has a quote, a backslash or a line feed
pub text_bytes : (start n k : ℕ) → HasStringBytes (terms_text (terms_in start n k))
text_bytes start n k = both (codes "v=spf1") (spaced (terms_in start n k)) refl (spaced_bytes (terms_in start n k) (terms_have start n k))
