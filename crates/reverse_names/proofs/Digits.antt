-- The digits of a number, each as a label, below a suffix.
use Rattle.std.proofs.Common.{◌≡◌, ℕ, zero, suc, ◌+◌, ◌-◌, ◌*◌, ◌/◌, ◌%◌, ◌^◌, ◌<◌, ◌≤◌, List, ◌∷◌, length, refl, sym, ap, ap₂, ◌∙◌, subst, arith, length-append}
use Rattle.std.proofs.lemmas.Nat.{pow_pos, pow-add, shr_below, shr_split, mod_below, mod_low, shr_high, shr-shr}
use Rattle.std.proofs.lemmas.List.{append_cancel_right}
use Rattle.std.proofs.lemmas.Fmt.{decimal_injective}
use Rattle.std.proofs.lemmas.Str.{digit_value-digit_char}
use Rattle.std.specs.Char.{digit_char, digit_value}
use Rattle.addr_bits.specs.declared.address.Family.{Family}
use Rattle.addr_bits.specs.declared.address.Family.TheVariants.{V4, V6}
use Rattle.zone_answers.specs.Reversed.{last_digits, label_bits, label_of, digits_name}

-- ---- labels

pub one_label : (f : Family) (m n : ℕ) → m < 2 ^ label_bits f → n < 2 ^ label_bits f → label_of f m ≡ label_of f n → m ≡ n
one_label V4 m n h k e = decimal_injective m n (omega arith) (omega arith) e
one_label V6 m n h k e =
    let c : digit_char m ≡ digit_char n = cc in
    sym (digit_value-digit_char m (omega arith)) ∙ ap digit_value c ∙ digit_value-digit_char n (omega arith)

-- ---- lengths

digits_len : (b : ℕ) (label : ℕ → List ℕ) (d t : ℕ) → length (last_digits b label d t) ≡ d
digits_len b label zero t = refl
digits_len b label (suc d) t = omega (arith, digits_len b label d (t / 2 ^ b))

pub name_len : (f : Family) (d t : ℕ) (suffix : List (List ℕ)) → length (digits_name f d t suffix) ≡ d + length suffix
name_len f d t suffix = omega (arith, length-append (last_digits (label_bits f) (label_of f) d t) suffix, digits_len (label_bits f) (label_of f) d t)

-- ---- powers

pub wider : (d b : ℕ) → 2 ^ (suc d * b) ≡ 2 ^ (d * b + b)
wider d b = ap (λ (k : ℕ). 2 ^ k) (omega arith)

pub shorter : (t d b : ℕ) → t < 2 ^ (suc d * b) → t / 2 ^ b < 2 ^ (d * b)
shorter t d b h = shr_below t (d * b) b (subst (λ (k : ℕ). t < k) (wider d b) h)

pub longer : (t d b digit : ℕ) → t < 2 ^ (d * b) → digit < 2 ^ b → t * 2 ^ b + digit < 2 ^ (suc d * b)
longer t d b digit h k = rw (wider d b, pow-add 2 (d * b) b) (room t (2 ^ (d * b)) (2 ^ b) digit h k)
  where
    room : (t m p digit : ℕ) → t < m → digit < p → t * p + digit < m * p
    room t m p digit h k = grind arith

pub none_below_one : (t b : ℕ) → t < 2 ^ (zero * b) → t ≡ 0
none_below_one t b h =
    let e : zero * b ≡ 0 = omega arith in
    let k : t < 2 ^ 0 = subst (λ (n : ℕ). t < 2 ^ n) e h in
    omega (arith, k)

-- ---- different numbers have different digits

heads : (a b : List ℕ) (x y : List (List ℕ)) → a ∷ x ≡ b ∷ y → a ≡ b
heads a b x y e = cc

tails : (a b : List ℕ) (x y : List (List ℕ)) → a ∷ x ≡ b ∷ y → x ≡ y
tails a b x y e = cc

one_number : (b : ℕ) (label : ℕ → List ℕ) → ((m n : ℕ) → m < 2 ^ b → n < 2 ^ b → label m ≡ label n → m ≡ n)
    → (d t u : ℕ) → t < 2 ^ (d * b) → u < 2 ^ (d * b) → last_digits b label d t ≡ last_digits b label d u → t ≡ u
one_number b label one zero t u h k e = none_below_one t b h ∙ sym (none_below_one u b k)
one_number b label one (suc d) t u h k e =
    let low : t % 2 ^ b ≡ u % 2 ^ b = one (t % 2 ^ b) (u % 2 ^ b) (mod_below t (2 ^ b) (pow_pos b)) (mod_below u (2 ^ b) (pow_pos b)) (heads _ _ _ _ e) in
    let high : t / 2 ^ b ≡ u / 2 ^ b = one_number b label one d (t / 2 ^ b) (u / 2 ^ b) (shorter t d b h) (shorter u d b k) (tails _ _ _ _ e) in
    sym (shr_split t b) ∙ ap₂ (λ (x y : ℕ). x * 2 ^ b + y) high low ∙ shr_split u b

pub one_name : (f : Family) (d t u : ℕ) (suffix : List (List ℕ)) → t < 2 ^ (d * label_bits f) → u < 2 ^ (d * label_bits f)
    → digits_name f d t suffix ≡ digits_name f d u suffix → t ≡ u
one_name f d t u suffix h k e = one_number (label_bits f) (label_of f) (one_label f) d t u h k (append_cancel_right _ _ suffix e)

-- ---- one label more

pub name_more : (f : Family) (d t digit : ℕ) (suffix : List (List ℕ)) → digit < 2 ^ label_bits f
    → digits_name f (suc d) (t * 2 ^ label_bits f + digit) suffix ≡ label_of f digit ∷ digits_name f d t suffix
name_more f d t digit suffix h = ap₂ (λ (x y : ℕ). label_of f x ∷ digits_name f d y suffix) (mod_low t (label_bits f) digit h) (shr_high t (label_bits f) digit h)

pub cut_more : (f : Family) (d k t digit : ℕ) → digit < 2 ^ label_bits f → d ≤ k
    → (t * 2 ^ label_bits f + digit) / 2 ^ ((suc k - d) * label_bits f) ≡ t / 2 ^ ((k - d) * label_bits f)
cut_more f d k t digit h le =
    let e : (suc k - d) * label_bits f ≡ label_bits f + (k - d) * label_bits f = far d k (label_bits f) le in
    ap (λ (n : ℕ). (t * 2 ^ label_bits f + digit) / 2 ^ n) e
    ∙ sym (shr-shr (t * 2 ^ label_bits f + digit) (label_bits f) ((k - d) * label_bits f))
    ∙ ap (λ (n : ℕ). n / 2 ^ ((k - d) * label_bits f)) (shr_high t (label_bits f) digit h)
  where
    far : (d k b : ℕ) → d ≤ k → (suc k - d) * b ≡ b + (k - d) * b
    far d k b le = let e : suc k - d ≡ suc (k - d) = omega arith in rw e (omega arith)

pub cut_none : (f : Family) (k t : ℕ) → t / 2 ^ ((k - k) * label_bits f) ≡ t
cut_none f k t =
    let e : (k - k) * label_bits f ≡ 0 = none k (label_bits f) in
    ap (λ (n : ℕ). t / 2 ^ n) e ∙ whole t
  where
    none : (k b : ℕ) → (k - k) * b ≡ 0
    none k b = let e : k - k ≡ 0 = omega arith in rw e (omega arith)

    whole : (t : ℕ) → t / 2 ^ 0 ≡ t
    whole t = omega arith
