-- The parts of a mechanism are read in one way: its domain-spec, its lengths, its network.
use Rattle.std.proofs.Common.{◌≡◌, ℕ, suc-ne-zero, ◌<◌, ◌≤◌, ◌^◌, Bool, true, false, not, ◌&&◌, ◌||◌, ◌⊎◌, List, [], ◌∷◌, ◌++◌, length, refl, sym, ◌∙◌, ap, subst, inl, inr, append_assoc, append-nil, arith, lit≤, Option, Some, None}
use Rattle.std.proofs.lemmas.Bool.{and_parts, and_from, and_left, and_right, or_from, or_left, or_right, not-true, eqb-true, both_ways}
use Rattle.std.proofs.lemmas.Fmt.{decimal_is_IsNumeral}
use Rattle.std.proofs.lemmas.List.Folds.{list_all-append}
use Rattle.std.specs.Prelude.{◌==◌, codes, decimal}
use Rattle.std.specs.Char.{is_ascii_digit}
use Rattle.std.specs.List.{list_all}
use Rattle.std.specs.Str.Parse.{digits_value}
use Rattle.addr_bits.specs.declared.address.Family.{Family}
use Rattle.addr_bits.specs.Address.{bits_of, SpellsIn}
use Rattle.addr_bits.proofs.Families.{few_bits}
use Rattle.addr_bits.specs.Prefix.{Cidr, cidr_of}
use Rattle.addr_bits.specs.Laws.{OneAddress, is_address_byte}
use Rattle.spf_macros.specs.declared.piece.Macro.{Macro}
use Rattle.spf_macros.specs.declared.piece.Piece.{Piece}
use Rattle.spf_macros.specs.declared.piece.Piece.TheVariants.{Literal, Percent, Space, Percent20, Expand}
use Rattle.spf_macros.specs.Grammar.{is_let_dig_hyp, is_expand, letter_byte, SpellsMacro, SpellsPiece, SpellsDomainEnd, SpellsDomainSpec}
use Rattle.spf_macros.specs.Reading.{Pauses}
use Rattle.spf_macros.proofs.DomainSpecs.{spec_spelled, top_bytes}
use Rattle.spf_macros.proofs.Digits.{same_digit}
use Rattle.spf_macros.proofs.Spans.{one_span}
use Rattle.spf_macros.proofs.OneReading.{heads, tails, head_or, is_digit, all_digits, one_macro_text}
use Rattle.spf_grammar.specs.Reading.{is_len_byte, ends_in_len, IsSlashed}
use Rattle.spf_grammar.specs.Grammar.{SpellsLen, SpellsTarget, SpellsHosts, SpellsNetwork}

-- ---- lists

-- where all bytes pass one test, they all pass a weaker one
pub weaker : (p q : ℕ → Bool) → ((b : ℕ) → p b ≡ true → q b ≡ true) → (bs : List ℕ) → list_all p bs ≡ true → list_all q bs ≡ true
weaker p q le [] h = refl
weaker p q le (b ∷ bs) h = let split = and_parts (p b) (list_all p bs) h in
    and_from (q b) (list_all q bs) (le b split.0) (weaker p q le bs split.1)

-- a test that a byte fails keeps it out
pub keeps_out : (p : ℕ → Bool) (c : ℕ) → p c ≡ false → (b : ℕ) → p b ≡ true → not (b == c) ≡ true
keeps_out p c fails b holds = by_test (b == c) refl
  where
    by_test : (t : Bool) → (b == c) ≡ t → not (b == c) ≡ true
    by_test true e = absurd (both_ways (p c) fails (subst (λ x. p x ≡ true) (eqb-true b c e) holds))
    by_test false e = ap not e

pub all_both : (p : ℕ → Bool) (xs ys : List ℕ) → list_all p xs ≡ true → list_all p ys ≡ true → list_all p (xs ++ ys) ≡ true
all_both p xs ys hx hy = list_all-append p xs ys ∙ and_from (list_all p xs) (list_all p ys) hx hy

pub all_second : (p : ℕ → Bool) (xs ys : List ℕ) → list_all p ys ≡ false → list_all p (xs ++ ys) ≡ false
all_second p xs ys h = list_all-append p xs ys ∙ and_right (list_all p xs) (list_all p ys) h

-- an empty text has no first byte
pub no_first_byte : {b : ℕ} {bs : List ℕ} → [] ≡ b ∷ bs → ⊥
no_first_byte {b} {bs} e = suc-ne-zero (length bs) (sym (ap length e))

-- ---- decimal numbers

pub decimal_digits : (n : ℕ) → n < 2 ^ 64 → list_all is_digit (decimal n) ≡ true
decimal_digits n h = all_digits (decimal n) (decimal_is_IsNumeral n h).0.1

pub decimal_once : (m n : ℕ) → m < 2 ^ 64 → n < 2 ^ 64 → decimal m ≡ decimal n → m ≡ n
decimal_once m n h g e = sym (decimal_is_IsNumeral m h).1 ∙ ap (digits_value 10) e ∙ (decimal_is_IsNumeral n g).1

-- a number begins with a digit
pub decimal_head : (n : ℕ) (rest : List ℕ) → n < 2 ^ 64 → is_digit (head_or 0 (decimal n ++ rest)) ≡ true
decimal_head n rest h = first (decimal n) (decimal_is_IsNumeral n h).0.0 (decimal_digits n h)
  where
    first : (ds : List ℕ) → 0 < length ds → list_all is_digit ds ≡ true → is_digit (head_or 0 (ds ++ rest)) ≡ true
    first [] some all = absurd (omega (arith, some))
    first (d ∷ ds) some all = (and_parts (is_digit d) (list_all is_digit ds) all).0

-- a length of at most 128 is a number of the machine
pub len_fits : (n : ℕ) → n ≤ 128 → n < 2 ^ 64
len_fits n h = omega (arith, h)

-- ---- domain-specs

-- one final dot passes what a dot passes
dot_passes : (p : ℕ → Bool) → p 46 ≡ true → (dot : List ℕ) → (dot ≡ []) ⊎ (dot ≡ codes ".") → list_all p dot ≡ true
dot_passes p one dot (inl e) = ap (list_all p) e
dot_passes p one dot (inr e) = ap (list_all p) e ∙ and_from (p 46) true one refl

pub one_spec : (explain : Bool) (text : List ℕ) (a b : List Piece) → SpellsDomainSpec explain text a → SpellsDomainSpec explain text b → a ≡ b
one_spec explain text a b h g = one_macro_text text a b (spec_spelled explain text a h) (spec_spelled explain text b g)

-- ---- no domain-spec ends as lengths do

ends_in_len_at : (front rest : List ℕ) → list_all is_len_byte rest ≡ true → ends_in_len (front ++ 47 ∷ rest) ≡ true
ends_in_len_at [] rest h = or_left (true && list_all is_len_byte rest) (ends_in_len rest) h
ends_in_len_at (b ∷ bs) rest h = or_right (b == 47 && list_all is_len_byte (bs ++ 47 ∷ rest)) (ends_in_len (bs ++ 47 ∷ rest)) (ends_in_len_at bs rest h)

-- only the part from the last other byte on decides
pub ends_in_len-append : (front end : List ℕ) → list_all is_len_byte end ≡ false → ends_in_len (front ++ end) ≡ ends_in_len end
ends_in_len-append [] end h = refl
ends_in_len-append (b ∷ bs) end h =
    ap (λ t. t || ends_in_len (bs ++ end)) (and_right (b == 47) (list_all is_len_byte (bs ++ end)) (all_second is_len_byte bs end h))
    ∙ ends_in_len-append bs end h

pub no_slash : (bs : List ℕ) → list_all (λ b. not (b == 47)) bs ≡ true → ends_in_len bs ≡ false
no_slash [] h = refl
no_slash (b ∷ bs) h = let split = and_parts (not (b == 47)) (list_all (λ b. not (b == 47)) bs) h in
    or_from (b == 47 && list_all is_len_byte bs) (ends_in_len bs) (and_left (b == 47) (list_all is_len_byte bs) (not-true (b == 47) split.0)) (no_slash bs split.1)

-- a macro ends in a brace
macro_end : (text : List ℕ) (m : Macro) → SpellsMacro text m → (ends_in_len text ≡ false) × (list_all is_len_byte text ≡ false)
macro_end text m h =
    let front : List ℕ = 37 ∷ 123 ∷ letter_byte m.letter m.upper ∷ ((h.digits ++ h.turn) ++ h.delims) in
    let same : text ≡ front ++ (125 ∷ []) = h.whole ∙ ap (λ l. 37 ∷ 123 ∷ letter_byte m.letter m.upper ∷ l)
    (sym (append_assoc (h.digits ++ h.turn) h.delims (125 ∷ []) ∙ append_assoc h.digits h.turn (h.delims ++ (125 ∷ [])))) in
    (ap ends_in_len same ∙ ends_in_len-append front (125 ∷ []) refl, ap (list_all is_len_byte) same)

expand_end : (text : List ℕ) (p : Piece) → SpellsPiece text p → is_expand p ≡ true → (ends_in_len text ≡ false) × (list_all is_len_byte text ≡ false)
expand_end text (Literal b) h e = absurd (both_ways false refl e)
expand_end text Percent h e = (ap ends_in_len h, ap (list_all is_len_byte) h)
expand_end text Space h e = (ap ends_in_len h, ap (list_all is_len_byte) h)
expand_end text Percent20 h e = (ap ends_in_len h, ap (list_all is_len_byte) h)
expand_end text (Expand m) h e = macro_end text m h

domain_end : (text : List ℕ) (pieces : List Piece) → SpellsDomainEnd text pieces → (ends_in_len text ≡ false) × (list_all is_len_byte text ≡ false)
domain_end text pieces (inl h) = (
  ap ends_in_len h.4 ∙ no_slash (h.0 ++ h.1) (all_both (λ b. not (b == 47)) h.0 h.1
      (weaker is_let_dig_hyp (λ b. not (b == 47)) (keeps_out is_let_dig_hyp 47 refl) h.0 (top_bytes h.0 h.2)) (dot_passes (λ b. not (b == 47)) refl h.1 h.3)),
  ap (list_all is_len_byte) h.4,
)
domain_end text pieces (inr h) = expand_end text h.0 h.1 h.2

pub target_end : (text : List ℕ) (spec : Option (List Piece)) → SpellsTarget text spec → ends_in_len text ≡ false
target_end text None h = ap ends_in_len h
target_end text (Some spec) h =
    let end = domain_end h.1.end h.1.ends h.1.last in
    ap ends_in_len (h.2 ∙ ap (λ t. 58 ∷ t) h.1.whole) ∙ ends_in_len-append h.1.front h.1.end end.1 ∙ end.0

-- ---- lengths

-- what the lengths are spelled by
pub lens_bytes : (s : List ℕ) (most : ℕ) (text : List ℕ) (len : ℕ) → most ≤ 128 → list_all is_len_byte s ≡ true → SpellsLen s most text len → list_all is_len_byte text ≡ true
lens_bytes s most text len small slash (inl h) = ap (list_all is_len_byte) h.0
lens_bytes s most text len small slash (inr h) = ap (list_all is_len_byte) h.1 ∙ all_both is_len_byte s (decimal len) slash
    (weaker is_digit is_len_byte (λ b d. or_left (is_ascii_digit b) (b == 47) (sym (same_digit b) ∙ d)) (decimal len) (decimal_digits len (len_fits len (omega (arith, small, h.0)))))

pub slashed : (more : List ℕ) (most : ℕ) (text rest : List ℕ) (len : ℕ) → SpellsLen (47 ∷ more) most text len → IsSlashed rest → IsSlashed (text ++ rest)
slashed more most text rest len (inl h) r = subst IsSlashed (ap (λ t. t ++ rest) (sym h.0)) r
slashed more most text rest len (inr h) r = subst IsSlashed (ap (λ t. t ++ rest) (sym h.1)) refl

-- where a text is cut twice, one front begins the other
cut_twice : (a b x y : List ℕ) → a ++ x ≡ b ++ y → ((z : List ℕ) × (b ≡ a ++ z) × (x ≡ z ++ y)) ⊎ ((z : List ℕ) × (a ≡ b ++ z) × (y ≡ z ++ x))
cut_twice [] b x y h = inl (b, refl, h)
cut_twice (c ∷ cs) [] x y h = inr (c ∷ cs, refl, sym h)
cut_twice (c ∷ cs) (d ∷ ds) x y h = elim (cut_twice cs ds x y (tails h)) [
  | inl r ↦ inl (r.0, ap (λ l. d ∷ l) r.1 ∙ ap (λ e. e ∷ (cs ++ r.0)) (sym (heads h)), r.2)
  | inr r ↦ inr (r.0, ap (λ l. c ∷ l) r.1 ∙ ap (λ e. e ∷ (ds ++ r.0)) (heads h), r.2)
]

-- a front that doesn't end as lengths do takes nothing from lengths
nothing_between : (a b z x y : List ℕ) → ends_in_len b ≡ false → list_all is_len_byte x ≡ true → IsSlashed x → b ≡ a ++ z → x ≡ z ++ y → z ≡ []
nothing_between a b [] x y ends bytes slash e f = refl
nothing_between a b (c ∷ cs) x y ends bytes slash e f =
    let at_slash : c ≡ 47 = subst IsSlashed f slash in
    let all : list_all is_len_byte cs ≡ true = (and_parts (list_all is_len_byte cs) (list_all is_len_byte y)
    (sym (list_all-append is_len_byte cs y) ∙ (and_parts (is_len_byte c) (list_all is_len_byte (cs ++ y)) (ap (list_all is_len_byte) (sym f) ∙ bytes)).1)).0 in
    absurd (both_ways (ends_in_len b) ends (ap ends_in_len (e ∙ ap (λ d. a ++ d ∷ cs) at_slash) ∙ ends_in_len_at a cs all))

pub fronts : (a b x y : List ℕ) → ends_in_len a ≡ false → ends_in_len b ≡ false → list_all is_len_byte x ≡ true → list_all is_len_byte y ≡ true
    → IsSlashed x → IsSlashed y → a ++ x ≡ b ++ y → (a ≡ b) × (x ≡ y)
fronts a b x y ea eb bx by_ sx sy h = elim (cut_twice a b x y h) [
  | inl r ↦ let none = nothing_between a b r.0 x y eb bx sx r.1 r.2 in
      (sym (r.1 ∙ ap (λ z. a ++ z) none ∙ append-nil a), r.2 ∙ ap (λ z. z ++ y) none)
  | inr r ↦ let none = nothing_between b a r.0 y x ea by_ sy r.1 r.2 in
      (r.1 ∙ ap (λ z. b ++ z) none ∙ append-nil b, sym (r.2 ∙ ap (λ z. z ++ x) none))
]

-- a second slash is no number
no_number : (text rest : List ℕ) (len n : ℕ) → n ≤ 128 → SpellsLen (codes "//") 128 text len → text ≡ 47 ∷ (decimal n ++ rest) → ⊥
no_number text rest len n small (inl h) e = no_first_byte (sym h.0 ∙ e)
no_number text rest len n small (inr h) e =
    both_ways (is_digit 47) refl (ap (λ t. is_digit (head_or 0 t)) (tails (sym h.1 ∙ e)) ∙ decimal_head n rest (len_fits n small))

one_len6 : (text : List ℕ) (m n : ℕ) → SpellsLen (codes "//") 128 text m → SpellsLen (codes "//") 128 text n → m ≡ n
one_len6 text m n (inl h) (inl g) = h.1 ∙ sym g.1
one_len6 text m n (inl h) (inr g) = absurd (no_first_byte (sym h.0 ∙ g.1))
one_len6 text m n (inr h) (inl g) = absurd (no_first_byte (sym g.0 ∙ h.1))
one_len6 text m n (inr h) (inr g) = decimal_once m n (len_fits m h.0) (len_fits n g.0) (tails (tails (sym h.1 ∙ g.1)))

pub pauses6 : (text : List ℕ) (len : ℕ) → SpellsLen (codes "//") 128 text len → Pauses is_digit text
pauses6 text len (inl h) = subst (λ t. Pauses is_digit t) (sym h.0) tt
pauses6 text len (inr h) = subst (λ t. Pauses is_digit t) (sym h.1) refl

one_lens : (a b a' b' : List ℕ) (l m l' m' : ℕ) → SpellsLen (codes "/") 32 a l → SpellsLen (codes "//") 128 b m → SpellsLen (codes "/") 32 a' l' → SpellsLen (codes "//") 128 b' m'
    → a ++ b ≡ a' ++ b' → (l ≡ l') × (m ≡ m')
one_lens a b a' b' l m l' m' (inl h) s (inl g) u e =
    (h.1 ∙ sym g.1, one_len6 b m m' s (subst (λ t. SpellsLen (codes "//") 128 t m') (sym (ap (λ t. t ++ b) (sym h.0) ∙ e ∙ ap (λ t. t ++ b') g.0)) u))
one_lens a b a' b' l m l' m' (inl h) s (inr g) u e =
    absurd (no_number b b' m l' (omega (arith, g.0)) s (ap (λ t. t ++ b) (sym h.0) ∙ e ∙ ap (λ t. t ++ b') g.1))
one_lens a b a' b' l m l' m' (inr h) s (inl g) u e =
    absurd (no_number b' b m' l (omega (arith, h.0)) u (ap (λ t. t ++ b') (sym g.0) ∙ sym e ∙ ap (λ t. t ++ b) h.1))
one_lens a b a' b' l m l' m' (inr h) s (inr g) u e =
    let l_fits : l ≤ 128 = omega (arith, h.0) in
    let l'_fits : l' ≤ 128 = omega (arith, g.0) in
    let parts = one_span is_digit (decimal l) (decimal l') b b' (decimal_digits l (len_fits l l_fits)) (decimal_digits l' (len_fits l' l'_fits))
    (pauses6 b m s) (pauses6 b' m' u) (tails (ap (λ t. t ++ b) (sym h.1) ∙ e ∙ ap (λ t. t ++ b') g.1)) in
    (decimal_once l l' (len_fits l l_fits) (len_fits l' l'_fits) parts.0, one_len6 b m m' s (subst (λ t. SpellsLen (codes "//") 128 t m') (sym parts.1) u))

-- ---- the parts of mechanisms

pub one_target : (text : List ℕ) (a b : Option (List Piece)) → SpellsTarget text a → SpellsTarget text b → a ≡ b
one_target text None None h g = refl
one_target text None (Some b) h g = absurd (no_first_byte (sym h ∙ g.2))
one_target text (Some a) None h g = absurd (no_first_byte (sym g ∙ h.2))
one_target text (Some a) (Some b) h g =
    ap Some (one_spec false h.0 a b h.1 (subst (λ t. SpellsDomainSpec false t b) (sym (tails (sym h.2 ∙ g.2))) g.1))

-- the hosts of a term are read in one way
pub one_hosts : (text : List ℕ) (a b : Option (List Piece)) (l m l' m' : ℕ) → SpellsHosts a l m text → SpellsHosts b l' m' text → (a ≡ b) × (l ≡ l') × (m ≡ m')
one_hosts text a b l m l' m' h g =
    let lens : (x y : List ℕ) (k n : ℕ) → SpellsLen (codes "/") 32 x k → SpellsLen (codes "//") 128 y n → list_all is_len_byte (x ++ y) ≡ true =
    λ x y k n s u. all_both is_len_byte x y (lens_bytes (codes "/") 32 x k (lit≤ tt) refl s) (lens_bytes (codes "//") 128 y n (lit≤ tt) refl u) in
    let begins : (x y : List ℕ) (k n : ℕ) → SpellsLen (codes "/") 32 x k → SpellsLen (codes "//") 128 y n → IsSlashed (x ++ y) =
    λ x y k n s u. slashed [] 32 x y k s (subst IsSlashed (append-nil y) (slashed (codes "/") 128 y [] n u tt)) in
    let parts = fronts h.target g.target (h.after4 ++ h.after6) (g.after4 ++ g.after6) (target_end h.target a h.hosts) (target_end g.target b g.hosts)
    (lens h.after4 h.after6 l m h.short4 h.short6) (lens g.after4 g.after6 l' m' g.short4 g.short6)
    (begins h.after4 h.after6 l m h.short4 h.short6) (begins g.after4 g.after6 l' m' g.short4 g.short6) (sym h.whole ∙ g.whole) in
    let both = one_lens h.after4 h.after6 g.after4 g.after6 l m l' m' h.short4 h.short6 g.short4 g.short6 parts.1 in
    (one_target h.target a b h.hosts (subst (λ t. SpellsTarget t b) (sym parts.0) g.hosts), both.0, both.1)

one_len : (most : ℕ) (text : List ℕ) (m n : ℕ) → most ≤ 128 → SpellsLen (codes "/") most text m → SpellsLen (codes "/") most text n → m ≡ n
one_len most text m n small (inl h) (inl g) = h.1 ∙ sym g.1
one_len most text m n small (inl h) (inr g) = absurd (no_first_byte (sym h.0 ∙ g.1))
one_len most text m n small (inr h) (inl g) = absurd (no_first_byte (sym g.0 ∙ h.1))
one_len most text m n small (inr h) (inr g) =
    decimal_once m n (len_fits m (omega (arith, small, h.0))) (len_fits n (omega (arith, small, g.0))) (tails (sym h.1 ∙ g.1))

-- a network is read in one way
pub one_network : OneAddress → (f : Family) (text : List ℕ) (p q : Cidr) → SpellsNetwork f p text → SpellsNetwork f q text → p ≡ q
one_network law f text p q h g =
    let pauses : (t : List ℕ) (len : ℕ) → SpellsLen (codes "/") (bits_of f) t len → Pauses is_address_byte t =
    λ t len s. elim s [ inl e ↦ subst (λ x. Pauses is_address_byte x) (sym e.0) tt | inr e ↦ subst (λ x. Pauses is_address_byte x) (sym e.1) refl ] in
    let parts = one_span is_address_byte h.network g.network h.after g.after (law.bytes f h.network h.address h.spells) (law.bytes f g.network g.address g.spells)
    (pauses h.after h.len h.short) (pauses g.after g.len g.short) (tails (sym h.whole ∙ g.whole)) in
    let address : h.address ≡ g.address = law.one f g.network h.address g.address (subst (λ t. SpellsIn f t h.address) parts.0 h.spells) g.spells in
    let len : h.len ≡ g.len = one_len (bits_of f) g.after h.len g.len (few_bits f) (subst (λ t. SpellsLen (codes "/") (bits_of f) t h.len) parts.1 h.short) g.short in
    h.is_prefix ∙ ap (λ a. cidr_of (bits_of f) h.len a) address ∙ ap (λ l. cidr_of (bits_of f) l g.address) len ∙ sym g.is_prefix
