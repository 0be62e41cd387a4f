-- Lines are one table at most: a row is written in one way, and no text is the address of both families.
use Rattle.std.proofs.Common.{◌≡◌, ℕ, ◌+◌, ◌/◌, ◌%◌, ◌<◌, ◌^◌, true, false, List, [], ◌∷◌, ◌++◌, refl, sym, ◌∙◌, ap, ap₂, subst, inl, inr, append_assoc, arith}
use Rattle.std.proofs.lemmas.Bool.{both_ways}
use Rattle.std.proofs.lemmas.Fmt.{decimal_injective}
use Rattle.std.proofs.lemmas.List.{append_cancel_left, append_cancel_right}
use Rattle.std.specs.List.{list_all, join_with_byte}
use Rattle.std.specs.Prelude.{codes, decimal}
use Rattle.addr_bits.specs.Address.{bits_of, text_in, SpellsIn}
use Rattle.addr_bits.specs.Ip4.{SpellsIp4}
use Rattle.addr_bits.specs.Ip6.{SpellGroups, SpellsIp6}
use Rattle.addr_bits.specs.Prefix.{Cidr, IsCidr}
use Rattle.addr_bits.specs.declared.address.Family.{Family}
use Rattle.addr_bits.specs.declared.address.Family.TheVariants.{V4, V6}
use Rattle.addr_bits.proofs.StdGrammar.{each_behind, join-cons}
use Rattle.addr_bits.proofs.Texts.{one_address, written_address}
use Rattle.spf_grammar.proofs.OneTail.{all_both}
use Rattle.spf_grammar.specs.declared.verdict.Verdict.TheVariants.{Fail, SoftFail, Pass, Neutral}
use Rattle.fewest_terms.specs.declared.needs.Needs.{Needs}
use Rattle.fewest_terms.specs.Row.{NeedRow}
use Rattle.bound_table.specs.Laws.{OneTable}
use Rattle.bound_table.specs.Parts.{is_other, IsCut, SpellsNeeds, SpellsPrefix}
use Rattle.bound_table.specs.Placed.{PlacedRow}
use Rattle.bound_table.specs.Reading.{is_table_line, HaveRows, SpellsRow, SpellsTotal}
use Rattle.bound_table.proofs.LineLemmas.{address_others, cut_same, decimal_others, fits, has_byte, len_small, needs_tail, prefix_parts, row_begins, row_parts, row_whole, total_whole}
use Rattle.bound_table.proofs.OneRound.{all_go, same_stop, total_stops}

-- ---- no text is the address of both families: that of IPv6 has a colon

octet_others : (n : ℕ) → n < 256 → list_all (is_other 58) (decimal n) ≡ true
octet_others n h = decimal_others 58 n refl (omega arith)

no_colon : (text : List ℕ) (a : ℕ) → SpellsIp4 text a → list_all (is_other 58) text ≡ true
no_colon text a h =
    let w = octet_others (a / 2 ^ 24) (omega (arith, h.0)) in
    let x = octet_others (a / 2 ^ 16 % 256) (omega arith) in
    let y = octet_others (a / 2 ^ 8 % 256) (omega arith) in
    let z = octet_others (a % 256) (omega arith) in
    rw h.1 (all_both (is_other 58) (decimal (a / 2 ^ 24)) _ w (all_both (is_other 58) (decimal (a / 2 ^ 16 % 256)) _ x (all_both (is_other 58) (decimal (a / 2 ^ 8 % 256)) _ y z)))

-- a text with a colon
abbrev HasColon : List ℕ → Type 0
HasColon text = (front : List ℕ) × (rest : List ℕ) × (text ≡ front ++ 58 ∷ rest)

many_groups : (pieces : List (List ℕ)) (a b c : ℕ) (groups : List ℕ) → SpellGroups true pieces (a ∷ b ∷ c ∷ groups) → HasColon (join_with_byte 58 pieces)
many_groups [] a b c groups h = cc
many_groups (p ∷ []) a b c groups (inl h) = let e : b ∷ c ∷ groups ≡ [] = h.1 in cc
many_groups (p ∷ []) a b c groups (inr h) = let e : b ∷ c ∷ groups ≡ h.2.0 ∷ [] = h.2.2 in cc
many_groups (p ∷ q ∷ pieces) a b c groups h = (p, q ++ each_behind pieces, join-cons p (q ∷ pieces))

has_colon : (text : List ℕ) (a : ℕ) → SpellsIp6 text a → HasColon text
has_colon text a (small, inl s) =
    let c = many_groups s.pieces _ _ _ _ s.each in
    (c.0, c.1, s.spelled ∙ c.2)
has_colon text a (small, inr s) =
    (join_with_byte 58 s.before, 58 ∷ join_with_byte 58 s.after, s.spelled ∙ append_assoc (join_with_byte 58 s.before) (58 ∷ 58 ∷ []) (join_with_byte 58 s.after))

not_both : (text : List ℕ) (a b : ℕ) → SpellsIp4 text a → SpellsIp6 text b → ⊥
not_both text a b four six =
    let c = has_colon text b six in
    has_byte 58 c.0 c.1 (subst (λ t. list_all (is_other 58) t ≡ true) c.2 (no_colon text a four))

one_family : (f g : Family) (a b : ℕ) → a < 2 ^ bits_of f → b < 2 ^ bits_of g → text_in f a ≡ text_in g b → f ≡ g
one_family V4 V4 a b ha hb e = refl
one_family V6 V6 a b ha hb e = refl
one_family V4 V6 a b ha hb e = absurd (not_both (text_in V4 a) a b (written_address.written V4 a ha) (subst (λ t. SpellsIn V6 t b) (sym e) (written_address.written V6 b hb)))
one_family V6 V4 a b ha hb e = absurd (not_both (text_in V4 b) b a (written_address.written V4 b hb) (subst (λ t. SpellsIn V6 t a) e (written_address.written V6 a ha)))

one_start : (f g : Family) (a b : ℕ) → f ≡ g → a < 2 ^ bits_of f → b < 2 ^ bits_of g → text_in f a ≡ text_in g b → a ≡ b
one_start f g a b s ha hb e =
    one_address.one f (text_in f a) a b (written_address.written f a ha)
    (subst (λ h. SpellsIn h (text_in f a) b) (sym s) (subst (λ t. SpellsIn g t b) (sym e) (written_address.written g b hb)))

-- ---- a row is written in one way

prefix_cut : (f : Family) (p : Cidr) → IsCidr (bits_of f) p → IsCut 47 (text_in f p.start ++ 47 ∷ decimal p.len) (text_in f p.start) (decimal p.len)
prefix_cut f p h = record { whole = refl; others = address_others 47 f p refl h }

one_prefix : (f g : Family) (p q : Cidr) → SpellsPrefix f (text_in f p.start ++ 47 ∷ decimal p.len) p → SpellsPrefix g (text_in f p.start ++ 47 ∷ decimal p.len) q → (f ≡ g) × (p ≡ q)
one_prefix f g p q sp sq =
    let parts = prefix_parts g q (text_in f p.start ++ 47 ∷ decimal p.len) (text_in f p.start) (decimal p.len) (prefix_cut f p sp.prefix) sq in
    let family : f ≡ g = one_family f g p.start q.start sp.prefix.within sq.prefix.within (sym parts.0) in
    let start : p.start ≡ q.start = one_start f g p.start q.start family sp.prefix.within sq.prefix.within (sym parts.0) in
    let len : p.len ≡ q.len = decimal_injective p.len q.len (fits p.len (len_small f p.len sp.prefix.short)) (fits q.len (len_small g q.len sq.prefix.short)) (sym parts.1) in
    (family, λ i. record { start = start i; len = len i })

first_same : (m n : ℕ) (a b : List ℕ) → m < 2 ^ 32 → n < 2 ^ 32 → decimal m ++ 32 ∷ a ≡ decimal n ++ 32 ∷ b → (m ≡ n) × (a ≡ b)
first_same m n a b hm hn e =
    let parts = cut_same 32 (decimal n ++ 32 ∷ b) (decimal n) b (decimal m) a (record { whole = refl; others = decimal_others 32 n refl hn }) (decimal_others 32 m refl hm) (sym e) in
    (decimal_injective m n (fits m hm) (fits n hn) parts.0, parts.1)

one_needs : (text : List ℕ) (a b : Needs) → SpellsNeeds text a → SpellsNeeds text b → a ≡ b
one_needs text a b sa sb =
    let whole = sym sa.written ∙ sb.written in
    let fail = first_same a.fail b.fail (decimal a.softfail ++ 32 ∷ (decimal a.pass ++ 32 ∷ decimal a.neutral)) (decimal b.softfail ++ 32 ∷ (decimal b.pass ++ 32 ∷ decimal b.neutral)) (sa.small Fail) (sb.small Fail) whole in
    let softfail = first_same a.softfail b.softfail (decimal a.pass ++ 32 ∷ decimal a.neutral) (decimal b.pass ++ 32 ∷ decimal b.neutral) (sa.small SoftFail) (sb.small SoftFail) fail.1 in
    let pass = first_same a.pass b.pass (decimal a.neutral) (decimal b.neutral) (sa.small Pass) (sb.small Pass) softfail.1 in
    let neutral = decimal_injective a.neutral b.neutral (fits a.neutral (sa.small Neutral)) (fits b.neutral (sb.small Neutral)) pass.1 in
    λ i. record { fail = fail.0 i; softfail = softfail.0 i; pass = pass.0 i; neutral = neutral i }

-- a line is that of one row at most
one_row : (f g : Family) (line : List ℕ) (r s : NeedRow) → SpellsRow f line r → SpellsRow g line s → (f ≡ g) × (r ≡ s)
one_row f g line r s a b =
    let front : List ℕ = text_in f r.prefix.start ++ 47 ∷ decimal r.prefix.len in
    let back : List ℕ = needs_tail r.needs in
    let rest : List ℕ = front ++ 32 ∷ back in
    let whole : line ≡ codes "; row " ++ rest = row_whole f line r a in
    let others : list_all (is_other 32) front ≡ true =
    all_both (is_other 32) (text_in f r.prefix.start) (47 ∷ decimal r.prefix.len) (address_others 32 f r.prefix refl a.prefix) (decimal_others 32 r.prefix.len refl (len_small f r.prefix.len a.prefix.short)) in
    let cut : IsCut 32 rest front back = record { whole = refl; others = others } in
    let x = row_parts f line rest front back r whole cut a in
    let y = row_parts g line rest front back s whole cut b in
    let prefix = one_prefix f g r.prefix s.prefix x.0 y.0 in
    let needs = one_needs back r.needs s.needs x.1 y.1 in
    (prefix.0, λ i. record { prefix = prefix.1 i; needs = needs i })

abbrev tag : Family → ℕ
tag V4 = 0
tag V6 = 1

not_other : (line : List ℕ) (r s : NeedRow) → SpellsRow V4 line r → SpellsRow V6 line s → ⊥
not_other line r s a b = absurd (let n : 0 ≡ 1 = ap tag (one_row V4 V6 line r s a b).0 in omega arith)

row_of_table : (f : Family) (line : List ℕ) (r : NeedRow) → SpellsRow f line r → is_table_line line ≡ false → ⊥
row_of_table f line r s h = let b = row_begins f line r s in both_ways (is_table_line line) h (subst (λ t. is_table_line t ≡ true) (sym b.1) refl)

-- ---- all lines

row_same : (from : ℕ) (r s : NeedRow) (xs ys more others : List PlacedRow) → xs ≡ record { line = from; row = r } ∷ more → ys ≡ record { line = from; row = s } ∷ others → r ≡ s → more ≡ others → xs ≡ ys
row_same from r s xs ys more others ea eb e f = ea ∙ ap₂ (λ (row : NeedRow) (rows : List PlacedRow). record { line = from; row = row } ∷ rows) e f ∙ sym eb

one_list : (from : ℕ) (lines : List (List ℕ)) (a4 a6 b4 b6 : List PlacedRow) → HaveRows from lines a4 a6 → HaveRows from lines b4 b6 → (a4 ≡ b4) × (a6 ≡ b6)
one_list from [] a4 a6 b4 b6 a b = (a.0 ∙ sym b.0, a.1 ∙ sym b.1)
one_list from (x ∷ xs) a4 a6 b4 b6 (inl a) (inl b) = one_list (from + 1) xs a4 a6 b4 b6 a.1 b.1
one_list from (x ∷ xs) a4 a6 b4 b6 (inl a) (inr (inl b)) = absurd (row_of_table V4 x b.0 b.2 a.0)
one_list from (x ∷ xs) a4 a6 b4 b6 (inl a) (inr (inr b)) = absurd (row_of_table V6 x b.0 b.2 a.0)
one_list from (x ∷ xs) a4 a6 b4 b6 (inr (inl a)) (inl b) = absurd (row_of_table V4 x a.0 a.2 b.0)
one_list from (x ∷ xs) a4 a6 b4 b6 (inr (inl a)) (inr (inl b)) =
    let below = one_list (from + 1) xs a.1 a6 b.1 b6 a.4 b.4 in
    (row_same from a.0 b.0 a4 b4 a.1 b.1 a.3 b.3 (one_row V4 V4 x a.0 b.0 a.2 b.2).1 below.0, below.1)
one_list from (x ∷ xs) a4 a6 b4 b6 (inr (inl a)) (inr (inr b)) = absurd (not_other x a.0 b.0 a.2 b.2)
one_list from (x ∷ xs) a4 a6 b4 b6 (inr (inr a)) (inl b) = absurd (row_of_table V6 x a.0 a.2 b.0)
one_list from (x ∷ xs) a4 a6 b4 b6 (inr (inr a)) (inr (inl b)) = absurd (not_other x b.0 a.0 b.2 a.2)
one_list from (x ∷ xs) a4 a6 b4 b6 (inr (inr a)) (inr (inr b)) =
    let below = one_list (from + 1) xs a4 a.1 b4 b.1 a.4 b.4 in
    (below.0, row_same from a.0 b.0 a6 b6 a.1 b.1 a.3 b.3 (one_row V6 V6 x a.0 b.0 a.2 b.2).1 below.1)

one_total : (line : List ℕ) (t u : ℕ) → SpellsTotal line t → SpellsTotal line u → t ≡ u
one_total line t u a b =
    decimal_injective t u (fits t a.0) (fits u b.0) (append_cancel_left (codes "; fewest ") (decimal t) (decimal u) (sym (total_whole line t a) ∙ total_whole line u b))

pub one_table : OneTable
one_table lines a4 a6 b4 b6 t u l m a b =
    let same = same_stop a.front b.front a.line b.line a.back b.back (all_go 1 a.front a4 a6 a.rows) (all_go 1 b.front b4 b6 b.rows) (total_stops a.line t a.spells) (total_stops b.line u b.spells) (sym a.whole ∙ b.whole) in
    let fronts : a.front ≡ b.front = append_cancel_right a.front b.front (a.line ∷ a.back) (sym a.whole ∙ b.whole ∙ ap₂ (λ x xs. b.front ++ x ∷ xs) (sym same.1) (sym same.2)) in
    let rows = one_list 1 a.front a4 a6 b4 b6 a.rows (subst (λ f. HaveRows 1 f b4 b6) (sym fronts) b.rows) in
    (rows.0, rows.1, one_total a.line t u a.spells (subst (λ x. SpellsTotal x u) (sym same.1) b.spells), a.place ∙ ap (λ n. n + 1) same.0 ∙ sym b.place)
