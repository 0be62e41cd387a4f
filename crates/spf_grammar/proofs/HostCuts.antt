-- A text is cut into a domain-spec and lengths in one way, and a network into an address and a length.
use Rattle.std.proofs.Common.{◌≡◌, ◌≢◌, ℕ, ◌+◌, ◌<◌, ◌≤◌, nat_lt, true, false, ◌&&◌, ◌||◌, ◌⊎◌, List, [], ◌∷◌, ◌++◌, length, take, drop, get_or, refl, sym, ◌∙◌, ap, subst, inl, inr, append_assoc, append-nil, length-append, length-take-le, take_at, drop_at, arith, lit≤, Option, Some, None, if◌then◌else◌}
use Rattle.std.proofs.lemmas.Bool.{and_parts, and_from, and_left, or_left, or_right, or_from, or_cases, cases_Bool, both_ways, eqb-true, ltb-true, ltb-false, cond_both, false_from_ne_true}
use Rattle.std.proofs.lemmas.List.{take_more}
use Rattle.std.specs.Prelude.{◌==◌, codes}
use Rattle.std.specs.Char.{is_ascii_digit}
use Rattle.std.specs.List.{list_all}
use Rattle.spf_macros.specs.declared.piece.Piece.{Piece}
use Rattle.spf_macros.specs.Grammar.{SpellsDomainSpec}
use Rattle.spf_macros.specs.Reading.{Reads, Pauses, IsSpan}
use Rattle.spf_macros.proofs.OneReading.{tails}
use Rattle.spf_macros.proofs.Spans.{one_span}
use Rattle.addr_bits.specs.declared.address.Family.{Family}
use Rattle.addr_bits.specs.Address.{bits_of, SpellsIn}
use Rattle.addr_bits.proofs.Texts.{one_address}
use Rattle.addr_bits.specs.Prefix.{Cidr, cidr_of}
use Rattle.addr_bits.specs.Laws.{is_address_byte}
use Rattle.spf_grammar.specs.declared.hosts.Hosts.{Hosts}
use Rattle.spf_grammar.specs.Grammar.{SpellsLen, SpellsTarget, SpellsHosts, SpellsNetwork}
use Rattle.spf_grammar.specs.Reading.{is_len_byte, ends_in_len, IsSlashed, SplitsLens, SpellsRequired, SpellsAsHosts, SpellsDual, is_no_slash}
use Rattle.spf_grammar.proofs.OneTail.{all_both, weaker, keeps_out, ends_in_len-append, slashed, lens_bytes, target_end, fronts}

-- ---- where lengths begin

-- one more digit or slash of lengths
longer : (text front lens : List ℕ) (b : ℕ) → SplitsLens text front lens → is_len_byte b ≡ true → (b ≡ 47) ⊎ (0 < length lens) → SplitsLens (text ++ b ∷ []) front (lens ++ b ∷ [])
longer text front lens b s byte begins = record {
  whole = ap (λ t. t ++ b ∷ []) s.whole ∙ append_assoc front lens (b ∷ []);
  ends = s.ends;
  bytes = all_both is_len_byte lens (b ∷ []) s.bytes (and_from (is_len_byte b) true byte refl);
  slashes = first lens s.slashes begins;
}
  where
    first : (lens : List ℕ) → IsSlashed lens → (b ≡ 47) ⊎ (0 < length lens) → IsSlashed (lens ++ b ∷ [])
    first [] s (inl e) = e
    first [] s (inr some) = absurd (omega (arith, some))
    first (x ∷ xs) s h = s

-- a digit behind a text that ends in no length
digit_ends : (front : List ℕ) (d : ℕ) → (d == 47) ≡ false → ends_in_len front ≡ false → ends_in_len (front ++ d ∷ []) ≡ false
digit_ends [] d other h = or_from (d == 47 && true) false (and_left (d == 47) true other) refl
digit_ends (b ∷ bs) d other h = false_from_ne_true (ends_in_len (b ∷ (bs ++ d ∷ []))) (λ t. elim (or_cases (b == 47 && list_all is_len_byte (bs ++ d ∷ [])) (ends_in_len (bs ++ d ∷ [])) t) [
  | inl k ↦
      let parts = and_parts (b == 47) (list_all is_len_byte (bs ++ d ∷ [])) k in
      both_ways (ends_in_len (b ∷ bs)) h (or_left (b == 47 && list_all is_len_byte bs) (ends_in_len bs) (and_from (b == 47) (list_all is_len_byte bs) parts.0 (front_of bs parts.1)))
  | inr k ↦ both_ways (ends_in_len (bs ++ d ∷ [])) (digit_ends bs d other (false_from_ne_true (ends_in_len bs) (λ e. both_ways (ends_in_len (b ∷ bs)) h (or_right (b == 47 && list_all is_len_byte bs) (ends_in_len bs) e)))) k
])
  where
    front_of : (bs : List ℕ) → list_all is_len_byte (bs ++ d ∷ []) ≡ true → list_all is_len_byte bs ≡ true
    front_of [] h = refl
    front_of (x ∷ xs) h = let parts = and_parts (is_len_byte x) (list_all is_len_byte (xs ++ d ∷ [])) h in and_from (is_len_byte x) (list_all is_len_byte xs) parts.0 (front_of xs parts.1)

-- a byte that is none of lengths
other_ends : (front : List ℕ) (b : ℕ) → is_len_byte b ≡ false → ends_in_len (front ++ b ∷ []) ≡ false
other_ends front b other =
    let no_slash : (b == 47) ≡ false = false_from_ne_true (b == 47) (λ e. both_ways (is_len_byte b) other (or_right (is_ascii_digit b) (b == 47) e)) in
    ends_in_len-append front (b ∷ []) (and_left (is_len_byte b) true other) ∙ or_from (b == 47 && true) false (and_left (b == 47) true no_slash) refl

fresh : (text : List ℕ) (b : ℕ) → ends_in_len (text ++ b ∷ []) ≡ false → SplitsLens (text ++ b ∷ []) (text ++ b ∷ []) []
fresh text b ends = record { whole = sym (append-nil (text ++ b ∷ [])); ends = ends; bytes = refl; slashes = tt }

-- a text with a place where its lengths begin
unfoldable pub StartsAt : List ℕ → ℕ → Type 0
StartsAt text start = (front lens : List ℕ) × SplitsLens text front lens × (length front ≡ start)

ended : (text : List ℕ) (start b : ℕ) → StartsAt text start → (b == 47) ≡ false → (is_ascii_digit b && nat_lt start (length text)) ≡ false → ends_in_len (text ++ b ∷ []) ≡ false
unfolding StartsAt
ended text start b (front, lens, s, at) other stops = elim (cases_Bool (is_ascii_digit b)) [
  | inl digit ↦
      let past : length text ≤ start = ltb-false start (length text) (false_from_ne_true (nat_lt start (length text)) (λ e. both_ways (is_ascii_digit b && nat_lt start (length text)) stops (and_from (is_ascii_digit b) (nat_lt start (length text)) digit e))) in
      let none : lens ≡ [] = empty lens (omega (arith, ap length s.whole, length-append front lens, at, past)) in
      subst (λ t. ends_in_len (t ++ b ∷ []) ≡ false) (sym (s.whole ∙ ap (λ t. front ++ t) none ∙ append-nil front)) (digit_ends front b other s.ends)
  | inr none ↦ other_ends text b (or_from (is_ascii_digit b) (b == 47) none other)
]
  where
    empty : (lens : List ℕ) → length lens ≤ 0 → lens ≡ []
    empty [] h = refl
    empty (x ∷ xs) h = absurd (omega (arith, h))

kept : (text : List ℕ) (start b : ℕ) → StartsAt text start → (b == 47 || (is_ascii_digit b && nat_lt start (length text))) ≡ true → StartsAt (text ++ b ∷ []) start
unfolding StartsAt
kept text start b (front, lens, s, at) h = elim (or_cases (b == 47) (is_ascii_digit b && nat_lt start (length text)) h) [
  | inl slash ↦ (front, lens ++ b ∷ [], longer text front lens b s (or_right (is_ascii_digit b) (b == 47) slash) (inl (eqb-true b 47 slash)), at)
  | inr digit ↦
      let parts = and_parts (is_ascii_digit b) (nat_lt start (length text)) digit in
      let some : 0 < length lens = omega (arith, ltb-true start (length text) parts.1, ap length s.whole, length-append front lens, at) in
      (front, lens ++ b ∷ [], longer text front lens b s (or_left (is_ascii_digit b) (b == 47) parts.0) (inr some), at)
]

-- the place behind one more byte
pub next_place : (text : List ℕ) (i start next : ℕ) → i < length text → StartsAt (take i text) start
    → next ≡ (if get_or text i 0 == 47 || (is_ascii_digit (get_or text i 0) && nat_lt start i) then start else i + 1) → StartsAt (take (i + 1) text) next
unfolding StartsAt
next_place text i start next within s is =
    let b : ℕ = get_or text i 0 in
    let len : length (take i text) ≡ i = length-take-le i text (omega (arith, within)) in
    subst (λ t. StartsAt t next) (sym (take_more text i 0 within)) (subst (λ n. StartsAt (take i text ++ b ∷ []) n) (sym is)
    (cond_both (b == 47 || (is_ascii_digit b && nat_lt start i)) start (i + 1) (λ n. StartsAt (take i text ++ b ∷ []) n)
    (λ on. kept (take i text) start b s (subst (λ n. (b == 47 || (is_ascii_digit b && nat_lt start n)) ≡ true) (sym len) on))
    (λ off. (
      take i text ++ b ∷ [],
      [],
      fresh (take i text) b
          (ended (take i text) start b s
          (false_from_ne_true (b == 47) (λ e. both_ways (b == 47 || (is_ascii_digit b && nat_lt start i)) off (or_left (b == 47) (is_ascii_digit b && nat_lt start i) e)))
          (subst (λ n. (is_ascii_digit b && nat_lt start n) ≡ false) (sym len)
          (false_from_ne_true (is_ascii_digit b && nat_lt start i) (λ e. both_ways (b == 47 || (is_ascii_digit b && nat_lt start i)) off (or_right (b == 47) (is_ascii_digit b && nat_lt start i) e))))),
      length-append (take i text) (b ∷ []) ∙ ap (λ n. n + 1) len,
    ))))

pub starts_at_nothing : StartsAt [] 0
unfolding StartsAt
starts_at_nothing = ([], [], record { whole = refl; ends = refl; bytes = refl; slashes = tt }, refl)

-- ---- a domain-spec and lengths

dual_bytes : (x y : List ℕ) (l m : ℕ) → SpellsLen (codes "/") 32 x l → SpellsLen (codes "//") 128 y m → list_all is_len_byte (x ++ y) ≡ true
dual_bytes x y l m s u = all_both is_len_byte x y (lens_bytes (codes "/") 32 x l (lit≤ tt) refl s) (lens_bytes (codes "//") 128 y m (lit≤ tt) refl u)

dual_slashed : (x y : List ℕ) (l m : ℕ) → SpellsLen (codes "/") 32 x l → SpellsLen (codes "//") 128 y m → IsSlashed (x ++ y)
dual_slashed x y l m s u = slashed [] 32 x y l s (subst IsSlashed (append-nil y) (slashed (codes "/") 128 y [] m u tt))

hosts_cut : (text front lens : List ℕ) (spec : Option (List Piece)) (l m : ℕ) → SplitsLens text front lens → (h : SpellsHosts spec l m text) → (h.target ≡ front) × (h.after4 ++ h.after6 ≡ lens)
hosts_cut text front lens spec l m s h =
    fronts h.target front (h.after4 ++ h.after6) lens (target_end h.target spec h.hosts) s.ends (dual_bytes h.after4 h.after6 l m h.short4 h.short6) s.bytes
    (dual_slashed h.after4 h.after6 l m h.short4 h.short6) s.slashes (sym h.whole ∙ s.whole)

pub no_lens : (text front lens : List ℕ) → SplitsLens text front lens → ((p : ℕ × ℕ) → ¬ SpellsDual lens p) → (hosts : Hosts) → SpellsAsHosts text hosts → ⊥
no_lens text front lens s none hosts h =
    let same = hosts_cut text front lens hosts.target hosts.len4 hosts.len6 s h in
    none (hosts.len4, hosts.len6) (h.after4, h.after6, h.short4, h.short6, sym same.1)

pub no_target : (text front lens : List ℕ) → SplitsLens text front lens → ((spec : Option (List Piece)) → ¬ SpellsTarget front spec) → (hosts : Hosts) → SpellsAsHosts text hosts → ⊥
no_target text front lens s none hosts h =
    none hosts.target (subst (λ t. SpellsTarget t hosts.target) (hosts_cut text front lens hosts.target hosts.len4 hosts.len6 s h).0 h.hosts)

pub hosts_read : (text front lens : List ℕ) (spec : Option (List Piece)) (p : ℕ × ℕ) (l m : ℕ) → SplitsLens text front lens → SpellsTarget front spec → SpellsDual lens p → l ≡ p.0 → m ≡ p.1 → SpellsHosts spec l m text
hosts_read text front lens spec p l m s target (after4, after6, short4, short6, e) is4 is6 = record {
  target = front;
  after4 = after4;
  after6 = after6;
  hosts = target;
  short4 = subst (λ n. SpellsLen (codes "/") 32 after4 n) (sym is4) short4;
  short6 = subst (λ n. SpellsLen (codes "//") 128 after6 n) (sym is6) short6;
  whole = s.whole ∙ ap (λ t. front ++ t) e;
}

-- ---- domain-specs behind a colon

pub target_read : (text rest : List ℕ) (o : Option (List Piece)) → text ≡ 58 ∷ rest → Reads (SpellsDomainSpec false) rest o → Reads SpellsRequired text o
target_read text rest (Some spec) e s = (rest, s, e)
target_read text rest None e none = λ spec s. none spec (subst (λ t. SpellsDomainSpec false t spec) (tails (sym s.2 ∙ e)) s.1)

pub no_optional : (text : List ℕ) → text ≢ [] → ((spec : List Piece) → ¬ SpellsRequired text spec) → (spec : Option (List Piece)) → SpellsTarget text spec → ⊥
no_optional text some none None h = some h
no_optional text some none (Some spec) h = none spec h

-- ---- networks

network_cut : (f : Family) (p : Cidr) (text rest address after : List ℕ) → text ≡ 58 ∷ rest → IsSpan is_no_slash rest address after
    → (h : SpellsNetwork f p text) → (h.network ≡ address) × (h.after ≡ after)
network_cut f p text rest address after e s h =
    one_span is_no_slash h.network address h.after after
    (weaker is_address_byte is_no_slash (keeps_out is_address_byte 47 refl) h.network (one_address.bytes f h.network h.address h.spells)) s.passes (pauses h.after h.short) s.pauses
    (tails (sym h.whole ∙ e) ∙ s.whole)
  where
    pauses : (t : List ℕ) → SpellsLen (codes "/") (bits_of f) t h.len → Pauses is_no_slash t
    pauses t (inl k) = subst (λ x. Pauses is_no_slash x) (sym k.0) tt
    pauses t (inr k) = subst (λ x. Pauses is_no_slash x) (sym k.1) refl

pub no_address : (f : Family) (text rest address after : List ℕ) → text ≡ 58 ∷ rest → IsSpan is_no_slash rest address after
    → ((a : ℕ) → ¬ SpellsIn f address a) → (p : Cidr) → SpellsNetwork f p text → ⊥
no_address f text rest address after e s none p h =
    none h.address (subst (λ t. SpellsIn f t h.address) (network_cut f p text rest address after e s h).0 h.spells)

pub no_network_len : (f : Family) (text rest address after : List ℕ) → text ≡ 58 ∷ rest → IsSpan is_no_slash rest address after
    → ((len : ℕ) → ¬ SpellsLen (codes "/") (bits_of f) after len) → (p : Cidr) → SpellsNetwork f p text → ⊥
no_network_len f text rest address after e s none p h =
    none h.len (subst (λ t. SpellsLen (codes "/") (bits_of f) t h.len) (network_cut f p text rest address after e s h).1 h.short)

pub network_read : (f : Family) (p : Cidr) (text rest address after : List ℕ) (a len : ℕ) → text ≡ 58 ∷ rest → IsSpan is_no_slash rest address after
    → SpellsIn f address a → SpellsLen (codes "/") (bits_of f) after len → p ≡ cidr_of (bits_of f) len a → SpellsNetwork f p text
network_read f p text rest address after a len e s spells short is = record {
  network = address;
  after = after;
  address = a;
  len = len;
  spells = spells;
  short = short;
  is_prefix = is;
  whole = e ∙ ap (λ t. 58 ∷ t) s.whole;
}

-- ---- a text cut at a place

-- a text cut behind a front is the front and the rest
pub split_there : (text : List ℕ) (n : ℕ) (front back : List ℕ) → ((f l : List ℕ) × SplitsLens text f l × (length f ≡ n)) → front ≡ take n text → back ≡ drop n text → SplitsLens text front back
split_there text n front back (f, l, s, at) is rest =
    let first : front ≡ f = is ∙ ap (λ t. take n t) s.whole ∙ take_at f l n at in
    let last : back ≡ l = rest ∙ ap (λ t. drop n t) s.whole ∙ drop_at f l n at in
    subst (λ t. SplitsLens text t back) (sym first) (subst (λ t. SplitsLens text f t) (sym last) s)
