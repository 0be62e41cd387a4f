-- The numbers and lengths that texts spell.
use Rattle.std.proofs.Common.{◌≡◌, ◌≢◌, ℕ, ◌+◌, ◌<◌, ◌≤◌, ◌^◌, min, true, false, List, [], ◌∷◌, ◌++◌, take, drop, refl, sym, ◌∙◌, ap, subst, inl, inr, one-add, arith, Option, Some, None}
use Rattle.std.proofs.lemmas.Bool.{eqb-true, both_ways, false_from_ne_true}
use Rattle.std.proofs.lemmas.Fmt.{decimal_is_IsNumeral}
use Rattle.std.specs.Prelude.{◌==◌, codes, decimal}
use Rattle.std.specs.Char.{is_ascii_digit}
use Rattle.std.specs.List.{list_all, prefix_len}
use Rattle.std.specs.Str.Parse.{digits_value}
use Rattle.spf_macros.specs.Reading.{Reads, Pauses}
use Rattle.spf_macros.proofs.Digits.{all_ascii}
use Rattle.spf_macros.proofs.OneReading.{heads, tails, head_or, is_digit}
use Rattle.spf_macros.proofs.Spans.{span_at, one_span}
use Rattle.spf_grammar.specs.Grammar.{SpellsLen}
use Rattle.spf_grammar.specs.Reading.{SpellsNumber, is_slash, HasNoFirst, SplitsDual, SpellsDual}
use Rattle.spf_grammar.proofs.OneTail.{decimal_digits, decimal_head, len_fits, no_first_byte}

-- ---- numbers

pub decimal_ascii : (n : ℕ) → n < 2 ^ 64 → list_all is_ascii_digit (decimal n) ≡ true
decimal_ascii n h = all_ascii (decimal n) (decimal_digits n h)

fits : (n most : ℕ) → n ≤ most → most < 256 → n < 2 ^ 64
fits n most h small = omega arith

-- what is not of digits is no number
pub not_digits : (most : ℕ) (text : List ℕ) → most < 256 → list_all is_ascii_digit text ≡ false → (n : ℕ) → SpellsNumber most text n → ⊥
not_digits most text small none n s = both_ways (list_all is_ascii_digit text) none (ap (list_all is_ascii_digit) s.1 ∙ decimal_ascii n (fits n most s.0 small))

-- the number of a text is the value of its digits
pub same_number : (most : ℕ) (text : List ℕ) (n number : ℕ) → most < 256 → number ≡ min (digits_value 10 text) 255 → SpellsNumber most text n → number ≡ n
same_number most text n number small held s =
    let value : digits_value 10 text ≡ n = ap (digits_value 10) s.1 ∙ (decimal_is_IsNumeral n (fits n most s.0 small)).1 in
    let below : n ≤ most = s.0 in
    omega arith

-- ---- lengths

behind_same : (front a b : List ℕ) → front ++ a ≡ front ++ b → a ≡ b
behind_same [] a b e = e
behind_same (x ∷ front) a b e = behind_same front a b (tails e)

-- a length behind its slashes is the number there
pub len_read : (slash text digits : List ℕ) (most : ℕ) (o : Option ℕ) → text ≢ [] → text ≡ slash ++ digits → Reads (SpellsNumber most) digits o → Reads (SpellsLen slash most) text o
len_read slash text digits most (Some n) some e s = inr (s.0, e ∙ ap (λ t. slash ++ t) s.1)
len_read slash text digits most None some e none = λ len s. elim s [
  | inl h ↦ some h.0
  | inr h ↦ none len (h.0, behind_same slash digits (decimal len) (sym e ∙ h.1))
]

-- without the slashes there is no length
pub len_refused : (slash text : List ℕ) (most : ℕ) → text ≢ [] → ((rest : List ℕ) → text ≢ slash ++ rest) → (len : ℕ) → SpellsLen slash most text len → ⊥
len_refused slash text most some none len (inl h) = some h.0
len_refused slash text most some none len (inr h) = none (decimal len) h.1

-- ---- two lengths

pub no_slash_first : (lens : List ℕ) → ((rest : List ℕ) → lens ≢ 47 ∷ rest) → HasNoFirst lens
no_slash_first [] none = tt
no_slash_first (b ∷ bs) none = inl (false_from_ne_true (b == 47) (λ e. none bs (ap (λ x. x ∷ bs) (eqb-true b 47 e))))

pub two_slashes_first : (lens rest more : List ℕ) → lens ≡ 47 ∷ rest → rest ≡ 47 ∷ more → HasNoFirst lens
two_slashes_first lens rest more e f = subst HasNoFirst (sym e) (inr (more, f))

slash_pauses : (rest : List ℕ) → ((more : List ℕ) → rest ≢ 47 ∷ more) → Pauses is_slash rest
slash_pauses [] none = tt
slash_pauses (b ∷ bs) none = false_from_ne_true (b == 47) (λ e. none bs (ap (λ x. x ∷ bs) (eqb-true b 47 e)))

pub first_split : (lens rest front back : List ℕ) (count : ℕ) → lens ≡ 47 ∷ rest → ((more : List ℕ) → rest ≢ 47 ∷ more) → count ≡ prefix_len is_ascii_digit rest
    → front ≡ take (1 + count) lens → back ≡ drop (1 + count) lens → SplitsDual lens front back
first_split lens rest front back count e none is at behind =
    let digits : List ℕ = take count rest in
    let span = span_at is_ascii_digit rest digits back count is refl (behind ∙ ap (λ t. drop (1 + count) t) e ∙ ap (λ n. drop n (47 ∷ rest)) (one-add count)) in
    inr (
      digits,
      at ∙ ap (λ t. take (1 + count) t) e ∙ ap (λ n. take n (47 ∷ rest)) (one-add count),
      span.passes,
      span.pauses,
      subst (λ t. Pauses is_slash t) span.whole (slash_pauses rest none),
      e ∙ ap (λ t. 47 ∷ t) span.whole,
    )

-- a number begins with a digit, which is no slash
no_digit_slash : (n : ℕ) (rest more : List ℕ) → n ≤ 128 → decimal n ++ rest ≡ 47 ∷ more → ⊥
no_digit_slash n rest more small e = both_ways (is_digit 47) refl (ap (λ t. is_digit (head_or 0 t)) (sym e) ∙ decimal_head n rest (len_fits n small))

-- where a text begins with two slashes, there is no first length
no_first : (lens : List ℕ) (n : ℕ) (rest : List ℕ) → n ≤ 128 → HasNoFirst lens → lens ≡ 47 ∷ (decimal n ++ rest) → ⊥
no_first [] n rest small h e = no_first_byte e
no_first (b ∷ bs) n rest small (inl h) e = both_ways (is_slash b) h (ap is_slash (heads e))
no_first (b ∷ bs) n rest small (inr h) e = no_digit_slash n rest h.0 small (sym (tails e) ∙ h.1)

empty_second : (digits after : List ℕ) (m : ℕ) → Pauses is_slash (digits ++ after) → SpellsLen (codes "//") 128 (47 ∷ (digits ++ after)) m → ⊥
empty_second digits after m pauses (inl h) = no_first_byte (sym h.0)
empty_second digits after m pauses (inr h) = both_ways (is_slash 47) (subst (λ t. Pauses is_slash t) (tails h.1) pauses) refl

ascii_pauses6 : (text : List ℕ) (m : ℕ) → SpellsLen (codes "//") 128 text m → Pauses is_ascii_digit text
ascii_pauses6 text m (inl h) = subst (λ t. Pauses is_ascii_digit t) (sym h.0) tt
ascii_pauses6 text m (inr h) = subst (λ t. Pauses is_ascii_digit t) (sym h.1) refl

-- two lengths are cut in one way
pub one_cut : (lens a b x y : List ℕ) (l m : ℕ) → SplitsDual lens a b → SpellsLen (codes "/") 32 x l → SpellsLen (codes "//") 128 y m → lens ≡ x ++ y → (x ≡ a) × (y ≡ b)
one_cut lens a b x y l m (inl s) (inl h) g e = (h.0 ∙ sym s.0, sym (s.1 ∙ e ∙ ap (λ t. t ++ y) h.0))
one_cut lens a b x y l m (inl s) (inr h) g e = absurd (no_first lens l y (omega (arith, h.0)) s.2 (e ∙ ap (λ t. t ++ y) h.1))
one_cut lens a b x y l m (inr s) (inl h) g e =
    absurd (empty_second s.0 b m s.4 (subst (λ t. SpellsLen (codes "//") 128 t m) (sym (ap (λ t. t ++ y) h.0) ∙ sym e ∙ s.5) g))
one_cut lens a b x y l m (inr s) (inr h) g e =
    let small : l ≤ 128 = omega (arith, h.0) in
    let parts = one_span is_ascii_digit (decimal l) s.0 y b (decimal_ascii l (len_fits l small)) s.2 (ascii_pauses6 y m g) s.3 (tails (sym (e ∙ ap (λ t. t ++ y) h.1) ∙ s.5)) in
    (h.1 ∙ ap (λ t. 47 ∷ t) parts.0 ∙ sym s.1, parts.1)

-- the parts of two lengths, where a part spells nothing
pub no_first_len : (lens a b : List ℕ) → SplitsDual lens a b → ((len : ℕ) → ¬ SpellsLen (codes "/") 32 a len) → (p : ℕ × ℕ) → SpellsDual lens p → ⊥
no_first_len lens a b s none p h =
    let same = one_cut lens a b h.0 h.1 p.0 p.1 s h.2 h.3 h.4 in
    none p.0 (subst (λ t. SpellsLen (codes "/") 32 t p.0) same.0 h.2)

pub no_second_len : (lens a b : List ℕ) → SplitsDual lens a b → ((len : ℕ) → ¬ SpellsLen (codes "//") 128 b len) → (p : ℕ × ℕ) → SpellsDual lens p → ⊥
no_second_len lens a b s none p h =
    let same = one_cut lens a b h.0 h.1 p.0 p.1 s h.2 h.3 h.4 in
    none p.1 (subst (λ t. SpellsLen (codes "//") 128 t p.1) same.1 h.3)

pub dual_whole : (lens a b : List ℕ) → SplitsDual lens a b → lens ≡ a ++ b
dual_whole lens a b (inl s) = sym s.1 ∙ ap (λ t. t ++ b) (sym s.0)
dual_whole lens a b (inr s) = s.5 ∙ ap (λ t. t ++ b) (sym s.1)
