-- What is read of a name's labels, one label more at a time.
use Rattle.std.proofs.Common.{◌≡◌, ◌≢◌, ℕ, zero, suc, ◌+◌, ◌-◌, ◌*◌, ◌/◌, ◌%◌, ◌^◌, ◌<◌, ◌≤◌, ◌⊎◌, inl, inr, Bool, true}
use Rattle.std.proofs.Common.{false, IsTrue, List, [], ◌∷◌, length, refl, sym, ap, ap₂, ◌∙◌, subst, arith}
use Rattle.std.proofs.Common.{length-append, true≢false}
use Rattle.std.proofs.lemmas.Nat.{pow_pos, mod_below}
use Rattle.addr_bits.specs.declared.address.Family.{Family}
use Rattle.dns_name.specs.Name.{IsUnder}
use Rattle.zone_answers.specs.Reversed.{label_bits, label_count, label_of, digits_name}
use Rattle.reverse_names.specs.declared.path.Reading.{Reading}
use Rattle.reverse_names.specs.Tree.{IsRead}
use Rattle.reverse_names.proofs.Nodes.{shifted}
use Rattle.reverse_names.proofs.Digits.{name_len, one_name, name_more, cut_more, cut_none, longer, shorter}
use Rattle.reverse_names.proofs.Digits.{none_below_one}

under_len : (name top : List (List ℕ)) → IsUnder name top → length top ≤ length name
under_len name top (front, e) = omega (arith, ap length e, length-append front top)

-- what stands at or below the name is it, or stands at or below the name above it
under_cases : (label : List ℕ) (above top : List (List ℕ)) → IsUnder (label ∷ above) top → (label ∷ above ≡ top) ⊎ IsUnder above top
under_cases label above top ([], e) = inl e
under_cases label above top (x ∷ front, e) = inr (front, cc)

under_more : (label : List ℕ) (above top : List (List ℕ)) → IsUnder above top → IsUnder (label ∷ above) top
under_more label above top (front, e) = (label ∷ front, ap (λ (n : List (List ℕ)). label ∷ n) e)

split_last : (d k : ℕ) → d ≤ suc k → (d ≡ suc k) ⊎ (d ≤ k)
split_last d k h = cases d k h
  where
    cases : (d k : ℕ) → d ≤ suc k → (d ≡ suc k) ⊎ (d ≤ k)
    cases zero k h = inr (omega arith)
    cases (suc d) zero h = inl (omega arith)
    cases (suc d) (suc k) h = elim (cases d k (omega arith)) [ inl e ↦ inl (omega arith) | inr l ↦ inr (omega arith) ]

-- ---- the suffix itself

pub read_none : (f : Family) (suffix name : List (List ℕ)) → name ≡ suffix → IsRead f suffix name (record { digits = 0; depth = 0; whole = true })
read_none f suffix name same = record {
  depth = omega arith;
  digits = one (label_bits f);
  below = λ d h. here d (0 / 2 ^ ((0 - d) * label_bits f)) (omega arith);
  alone = λ d t h k under.
      let none : d ≡ 0 = omega (arith, under_len name (digits_name f d t suffix) under, name_len f d t suffix, ap length same) in
      (omega arith, small d t none k);
  whole = λ w. same;
  other = λ w. absurd (true≢false w);
}
  where
    one : (b : ℕ) → 0 < 2 ^ (0 * b)
    one b = pow_pos (0 * b)

    here : (d t : ℕ) → d ≡ 0 → IsUnder name (digits_name f d t suffix)
    here zero t e = ([], same)
    here (suc d) t e = absurd (omega arith)

    zero_over : (m : ℕ) → 0 < m → 0 / m ≡ 0
    zero_over m h = omega arith

    small : (d t : ℕ) → d ≡ 0 → t < 2 ^ (d * label_bits f) → t ≡ 0 / 2 ^ ((0 - d) * label_bits f)
    small zero t e k = none_below_one t (label_bits f) k ∙ sym (zero_over (2 ^ ((0 - 0) * label_bits f)) (pow_pos ((0 - 0) * label_bits f)))
    small (suc d) t e k = absurd (omega arith)

-- ---- a label that is a digit

pub read_digit : (f : Family) (suffix above : List (List ℕ)) (label : List ℕ) (digit : ℕ) (read : Reading) → IsRead f suffix above read → read.whole ≡ true
    → read.depth < label_count f → digit < 2 ^ label_bits f → label ≡ label_of f digit
    → IsRead f suffix (label ∷ above) (record { digits = read.digits * 2 ^ label_bits f + digit; depth = suc read.depth; whole = true })
read_digit f suffix above label digit read r w room small is = record {
  depth = omega arith;
  digits = longer read.digits read.depth (label_bits f) digit r.digits small;
  below = λ d h. elim (split_last d read.depth h) [
    | inl e ↦ (
      [],
      subst (λ (n : ℕ). label ∷ above ≡ digits_name f n (more / 2 ^ ((suc read.depth - n) * label_bits f)) suffix) (sym e)
          (all ∙ ap (λ (t : ℕ). digits_name f (suc read.depth) t suffix) (sym (cut_none f (suc read.depth) more))),
    )
    | inr l ↦ subst (λ (t : ℕ). IsUnder (label ∷ above) (digits_name f d t suffix)) (sym (cut_more f d read.depth read.digits digit small l))
        (under_more label above _ (r.below d l))
  ];
  alone = λ d t h k under. elim (under_cases label above (digits_name f d t suffix) under) [
    | inl e ↦ let last : d ≡ suc read.depth = omega (arith, ap length (sym e ∙ all), name_len f d t suffix, name_len f (suc read.depth) more suffix) in
        (omega arith, at_last d t last k (sym e ∙ all))
    | inr u ↦ let p = r.alone d t h k u in (omega (arith, p.0), p.1 ∙ sym (cut_more f d read.depth read.digits digit small p.0))
  ];
  whole = λ _. all;
  other = λ no. absurd (true≢false no);
}
  where
    more : ℕ
    more = read.digits * 2 ^ label_bits f + digit

    all : label ∷ above ≡ digits_name f (suc read.depth) more suffix
    all = ap₂ (λ (l : List ℕ) (n : List (List ℕ)). l ∷ n) is (r.whole w) ∙ sym (name_more f read.depth read.digits digit suffix small)

    at_last : (d t : ℕ) → d ≡ suc read.depth → t < 2 ^ (d * label_bits f) → digits_name f d t suffix ≡ digits_name f (suc read.depth) more suffix → t ≡ more / 2 ^ ((suc read.depth - d) * label_bits f)
    at_last d t e k same =
        let k' : t < 2 ^ (suc read.depth * label_bits f) = subst (λ (n : ℕ). t < 2 ^ (n * label_bits f)) e k in
        let same' : digits_name f (suc read.depth) t suffix ≡ digits_name f (suc read.depth) more suffix = subst (λ (n : ℕ). digits_name f n t suffix ≡ digits_name f (suc read.depth) more suffix) e same in
        one_name f (suc read.depth) t more suffix k' (longer read.digits read.depth (label_bits f) digit r.digits small) same'
        ∙ subst (λ (n : ℕ). more ≡ more / 2 ^ ((suc read.depth - n) * label_bits f)) (sym e) (sym (cut_none f (suc read.depth) more))

-- ---- any other label

pub read_other : (f : Family) (suffix above : List (List ℕ)) (label : List ℕ) (read : Reading) → IsRead f suffix above read
    → (read.whole ≡ true → read.depth < label_count f → (digit : ℕ) → digit < 2 ^ label_bits f → label ≢ label_of f digit)
    → IsRead f suffix (label ∷ above) (record { digits = read.digits; depth = read.depth; whole = false })
read_other f suffix above label read r stops = record {
  depth = r.depth;
  digits = r.digits;
  below = λ d h. under_more label above _ (r.below d h);
  alone = λ d t h k under. elim (under_cases label above (digits_name f d t suffix) under) [
    | inl e ↦ absurd (none d t h k e)
    | inr u ↦ r.alone d t h k u
  ];
  whole = λ w. absurd (true≢false (sym w));
  other = λ _. none;
}
  where
    is_under_suffix : IsUnder above suffix
    is_under_suffix = r.below 0 (omega arith)

    at : (d t : ℕ) → suc d ≤ label_count f → t < 2 ^ (suc d * label_bits f) → label ≡ label_of f (t % 2 ^ label_bits f)
        → above ≡ digits_name f d (t / 2 ^ label_bits f) suffix → (whole : Bool) → read.whole ≡ whole → ⊥
    at d t h k l a false w = r.other w d (t / 2 ^ label_bits f) (omega arith) (shorter t d (label_bits f) k) a
    at d t h k l a true w =
        let e : d ≡ read.depth = omega (arith, ap length (sym a ∙ r.whole w), name_len f d (t / 2 ^ label_bits f) suffix, name_len f read.depth read.digits suffix) in
        stops w (omega arith) (t % 2 ^ label_bits f) (mod_below t (2 ^ label_bits f) (pow_pos (label_bits f))) l

    none : (d t : ℕ) → d ≤ label_count f → t < 2 ^ (d * label_bits f) → label ∷ above ≢ digits_name f d t suffix
    none zero t h k e = omega (arith, ap length e, under_len above suffix is_under_suffix)
    none (suc d) t h k e = at d t h k (cc) (cc) read.whole refl

-- ---- as the code reads a label

pub digit_read : (f : Family) (suffix name above : List (List ℕ)) (label : List ℕ) (read : Reading)
    (digit digits bits : ℕ) → name ≡ label ∷ above → label ≡ label_of f digit → IsRead f suffix above read
    → read.whole ≡ true → read.depth < label_count f → digit < 2 ^ label_bits f → bits ≡ label_bits f
    → digits ≡ read.digits * 2 ^ bits % 2 ^ 128 + digit
    → IsRead f suffix name (record { digits = digits; depth = read.depth + 1; whole = true })
digit_read f suffix name above label read digit digits bits cut l r w room small b is =
    let more : ℕ = read.digits * 2 ^ label_bits f + digit in
    let sum : digits ≡ more =
    is ∙ ap (λ (n : ℕ). read.digits * 2 ^ n % 2 ^ 128 + digit) b
    ∙ ap (λ (n : ℕ). n + digit) (shifted f read.digits read.depth room r.digits) in
    subst (λ (n : List (List ℕ)).
    IsRead f suffix n (record { digits = digits; depth = read.depth + 1; whole = true })) (sym cut)
    (subst (λ (n : ℕ).
    IsRead f suffix (label ∷ above) (record { digits = n; depth = read.depth + 1; whole = true })) (sym sum)
    (subst (λ (n : ℕ). IsRead f suffix (label ∷ above) (record { digits = more; depth = n; whole = true }))
    (omega arith) (read_digit f suffix above label digit read r w room small l)))

pub other_read : (f : Family) (suffix name above : List (List ℕ)) (label : List ℕ) (read : Reading)
    → name ≡ label ∷ above → IsRead f suffix above read
    → (IsTrue read.whole → read.depth < label_count f → (digit : ℕ) → digit < 2 ^ label_bits f
    → label ≢ label_of f digit)
    → IsRead f suffix name (record { digits = read.digits; depth = read.depth; whole = false })
other_read f suffix name above label read cut r stops =
    subst (λ (n : List (List ℕ)).
    IsRead f suffix n (record { digits = read.digits; depth = read.depth; whole = false })) (sym cut)
    (read_other f suffix above label read r stops)
