-- The parts of a table's line are read in one way.
use Rattle.std.proofs.Common.{◌≡◌, ℕ, ◌<◌, ◌≤◌, ◌^◌, true, false, List, [], ◌∷◌, ◌++◌, length, refl, sym, ◌∙◌, ap, ap₂, subst, append_assoc, append-nil, arith, Option, Some, Result}
use Rattle.std.proofs.lemmas.Bool.{and_parts}
use Rattle.std.proofs.lemmas.Fmt.{IsAscii-decimal, parse-decimal, decimal_injective}
use Rattle.std.proofs.lemmas.List.{append_cancel_left, append_cancel_right}
use Rattle.std.proofs.lemmas.Str.{IsUtf8-from_ascii}
use Rattle.std.specs.List.{list_all}
use Rattle.std.specs.Str.{IsUtf8}
use Rattle.std.specs.Str.Parse.{ParsesUnsigned}
use Rattle.std.specs.Result.{result_ok}
use Rattle.std.specs.Prelude.{codes, decimal}
use Rattle.addr_bits.specs.Address.{bits_of, text_in, SpellsIn}
use Rattle.addr_bits.specs.Laws.{is_address_byte}
use Rattle.addr_bits.specs.Prefix.{Cidr, IsCidr, cidr_of}
use Rattle.addr_bits.specs.Width.{cut_of}
use Rattle.addr_bits.specs.declared.address.Family.TheVariants.{V4, V6}
use Rattle.addr_bits.specs.declared.address.Family.{Family}
use Rattle.addr_bits.proofs.Texts.{one_address, written_address}
use Rattle.spf_macros.specs.Reading.{Pauses, IsSpan}
use Rattle.spf_macros.proofs.OneReading.{is_digit, tails}
use Rattle.spf_macros.proofs.Spans.{one_span}
use Rattle.spf_grammar.proofs.OneTail.{weaker, keeps_out, decimal_digits, all_both}
use Rattle.fewest_terms.specs.declared.needs.Needs.{Needs}
use Rattle.fewest_terms.specs.Row.{NeedRow}
use Rattle.bound_table.specs.Lines.{needs_text}
use Rattle.bound_table.specs.Reading.{SpellsRow, SpellsTotal}
use Rattle.bound_table.specs.Parts.{is_other, IsCut, SpellsNumber, SpellsNeeds, SpellsPrefix}

-- ---- numbers

pub fits : (n : ℕ) → n < 2 ^ 32 → n < 2 ^ 64
fits n h = omega arith

pub not_utf8 : (text : List ℕ) (n : ℕ) → ¬ IsUtf8 text → SpellsNumber text n → ⊥
not_utf8 text n bad s = bad (subst IsUtf8 (sym s.1) (IsUtf8-from_ascii (decimal n) (IsAscii-decimal n (fits n s.0))))

pub parsed : {E : Type 0} (n : ℕ) (text : List ℕ) (read : Result ℕ E) (found : Option ℕ) → ParsesUnsigned 32 10 text read → found ≡ result_ok read → SpellsNumber text n → found ≡ Some n
parsed n text read found parses is s = is ∙ ap (λ r. result_ok r) (parse-decimal 32 n text read s.0 (fits n s.0) s.1 parses)

-- ---- cuts

itself : (byte : ℕ) → is_other byte byte ≡ true → ⊥
itself byte h = grind arith

pub pauses : (byte : ℕ) (rest : List ℕ) → Pauses (is_other byte) (byte ∷ rest)
pauses byte rest = grind arith

pub cut_is : (byte b : ℕ) (text front rest behind : List ℕ) → IsSpan (is_other byte) text front rest → rest ≡ b ∷ behind → IsCut byte text front behind
cut_is byte b text front rest behind s e =
    let stops : is_other byte b ≡ false = subst (λ r. Pauses (is_other byte) r) e s.pauses in
    let same : b ≡ byte = same_byte stops in
    record {
      whole = s.whole ∙ ap (λ r. front ++ r) (e ∙ ap (λ x. x ∷ behind) same);
      others = s.passes;
    }
  where
    same_byte : is_other byte b ≡ false → b ≡ byte
    same_byte h = grind arith

pub has_byte : (byte : ℕ) (front rest : List ℕ) → list_all (is_other byte) (front ++ byte ∷ rest) ≡ true → ⊥
has_byte byte [] rest h = itself byte (and_parts (is_other byte byte) (list_all (is_other byte) rest) h).0
has_byte byte (x ∷ front) rest h = has_byte byte front rest (and_parts (is_other byte x) (list_all (is_other byte) (front ++ byte ∷ rest)) h).1

pub no_cut : (byte : ℕ) (text front rest : List ℕ) → IsSpan (is_other byte) text front rest → length rest ≡ 0 → (a b : List ℕ) → text ≡ a ++ byte ∷ b → ⊥
no_cut byte text front [] s none a b e =
    has_byte byte a b (subst (λ t. list_all (is_other byte) t ≡ true) (sym (append-nil front) ∙ sym s.whole ∙ e) s.passes)
no_cut byte text front (x ∷ rest) s none a b e = absurd (omega arith)

-- a text is cut in one way
pub cut_same : (byte : ℕ) (text front rest a b : List ℕ) → IsCut byte text front rest → list_all (is_other byte) a ≡ true → text ≡ a ++ byte ∷ b → (a ≡ front) × (b ≡ rest)
cut_same byte text front rest a b c h e =
    let both = one_span (is_other byte) a front (byte ∷ b) (byte ∷ rest) h c.others (pauses byte b) (pauses byte rest) (sym e ∙ c.whole) in
    (both.0, tails both.1)

pub decimal_others : (byte n : ℕ) → is_digit byte ≡ false → n < 2 ^ 32 → list_all (is_other byte) (decimal n) ≡ true
decimal_others byte n fails h = weaker is_digit (is_other byte) (keeps_out is_digit byte fails) (decimal n) (decimal_digits n (fits n h))

-- ---- the four numbers

pub first_none : (text front rest : List ℕ) → IsCut 32 text front rest → ((n : ℕ) → ¬ SpellsNumber front n) → (n : ℕ) (b : List ℕ) → n < 2 ^ 32 → text ≡ decimal n ++ 32 ∷ b → ⊥
first_none text front rest c none n b small e =
    none n (small, sym (cut_same 32 text front rest (decimal n) b c (decimal_others 32 n refl small) e).0)

pub one_first : (m n : ℕ) (a b : List ℕ) → m < 2 ^ 32 → n < 2 ^ 32 → decimal m ++ 32 ∷ a ≡ decimal n ++ 32 ∷ b → a ≡ b
one_first m n a b hm hn e =
    (cut_same 32 (decimal n ++ 32 ∷ b) (decimal n) b (decimal m) a (record { whole = refl; others = decimal_others 32 n refl hn }) (decimal_others 32 m refl hm) (sym e)).1

pub after : (text : List ℕ) (m : ℕ) (rest : List ℕ) (n : ℕ) (b : List ℕ) → m < 2 ^ 32 → n < 2 ^ 32 → text ≡ decimal m ++ 32 ∷ rest → text ≡ decimal n ++ 32 ∷ b → rest ≡ b
after text m rest n b hm hn e g = one_first m n rest b hm hn (sym e ∙ g)

-- ---- prefixes

pub len_small : (f : Family) (n : ℕ) → n ≤ bits_of f → n < 2 ^ 32
len_small V4 n h = omega arith
len_small V6 n h = omega arith

spelled : (f : Family) (p : Cidr) → IsCidr (bits_of f) p → SpellsIn f (text_in f p.start) p.start
spelled f p h = written_address.written f p.start h.within

pub address_others : (byte : ℕ) (f : Family) (p : Cidr) → is_address_byte byte ≡ false → IsCidr (bits_of f) p → list_all (is_other byte) (text_in f p.start) ≡ true
address_others byte f p fails h =
    weaker is_address_byte (is_other byte) (keeps_out is_address_byte byte fails) (text_in f p.start) (one_address.bytes f (text_in f p.start) p.start (spelled f p h))

pub prefix_parts : (f : Family) (p : Cidr) (text address len : List ℕ) → IsCut 47 text address len → SpellsPrefix f text p → (text_in f p.start ≡ address) × (decimal p.len ≡ len)
prefix_parts f p text address len c s = cut_same 47 text address len (text_in f p.start) (decimal p.len) c (address_others 47 f p refl s.prefix) s.written

pub no_prefix_address : (f : Family) (text address len : List ℕ) → IsCut 47 text address len → ((n : ℕ) → ¬ SpellsIn f address n) → (p : Cidr) → SpellsPrefix f text p → ⊥
no_prefix_address f text address len c none p s = none p.start (subst (λ t. SpellsIn f t p.start) (prefix_parts f p text address len c s).0 (spelled f p s.prefix))

pub no_prefix_len : (f : Family) (text address len : List ℕ) → IsCut 47 text address len → ((n : ℕ) → ¬ SpellsNumber len n) → (p : Cidr) → SpellsPrefix f text p → ⊥
no_prefix_len f text address len c none p s = none p.len (len_small f p.len s.prefix.short, sym (prefix_parts f p text address len c s).1)

same_len : (f : Family) (p : Cidr) (n : ℕ) (text address len : List ℕ) → IsCut 47 text address len → SpellsNumber len n → SpellsPrefix f text p → p.len ≡ n
same_len f p n text address len c h s =
    decimal_injective p.len n (fits p.len (len_small f p.len s.prefix.short)) (fits n h.0) ((prefix_parts f p text address len c s).1 ∙ h.1)

pub long_prefix : (f : Family) (n : ℕ) (text address len : List ℕ) → IsCut 47 text address len → SpellsNumber len n → bits_of f < n → (p : Cidr) → SpellsPrefix f text p → ⊥
long_prefix f n text address len c h long p s =
    let same : p.len ≡ n = same_len f p n text address len c h s in
    let short : p.len ≤ bits_of f = s.prefix.short in
    omega (arith, same, short, long)

pub prefix_read : (f : Family) (bits start n : ℕ) (q : Cidr) (text address len written : List ℕ) → bits ≡ bits_of f → IsCut 47 text address len → SpellsNumber len n
    → q ≡ cidr_of bits n start → IsCidr bits q → written ≡ text_in f q.start → written ≡ address → SpellsPrefix f text q
prefix_read f bits start n q text address len written e c h is valid w same = record {
  prefix = subst (λ b. IsCidr b q) e valid;
  written = c.whole ∙ ap₂ (λ (a l : List ℕ). a ++ 47 ∷ l) (sym same ∙ w) (h.1 ∙ ap (λ (r : Cidr). decimal r.len) (sym is));
}

pub prefix_other : (f : Family) (bits start n : ℕ) (q : Cidr) (text address len written : List ℕ) → bits ≡ bits_of f → IsCut 47 text address len → SpellsIn f address start → SpellsNumber len n
    → q ≡ cidr_of bits n start → written ≡ text_in f q.start → ¬ (written ≡ address) → (p : Cidr) → SpellsPrefix f text p → ⊥
prefix_other f bits start n q text address len written e c spells h is w differs p s =
    let parts = prefix_parts f p text address len c s in
    let same : p.start ≡ start = one_address.one f address p.start start (subst (λ t. SpellsIn f t p.start) parts.0 (spelled f p s.prefix)) spells in
    let lens : p.len ≡ n = same_len f p n text address len c h s in
    let at : q.start ≡ p.start = ap (λ (r : Cidr). r.start) is ∙ ap (λ (b : ℕ). cut_of b start n) e ∙ ap₂ (λ (a l : ℕ). cut_of (bits_of f) a l) (sym same) (sym lens) ∙ s.prefix.cut in
    differs (w ∙ ap (text_in f) at ∙ parts.0)

-- ---- rows

abbrev pub needs_tail : Needs → List ℕ
needs_tail n = decimal n.fail ++ 32 ∷ (decimal n.softfail ++ 32 ∷ (decimal n.pass ++ 32 ∷ decimal n.neutral))

pub regroup : (w a l f s p n : List ℕ) → ((w ++ a) ++ 47 ∷ l) ++ ((((32 ∷ f) ++ 32 ∷ s) ++ 32 ∷ p) ++ 32 ∷ n) ≡ w ++ ((a ++ 47 ∷ l) ++ 32 ∷ (f ++ 32 ∷ (s ++ 32 ∷ (p ++ 32 ∷ n))))
regroup w a l f s p n = simp append_assoc

pub row_whole : (f : Family) (line : List ℕ) (row : NeedRow) → SpellsRow f line row → line ≡ codes "; row " ++ ((text_in f row.prefix.start ++ 47 ∷ decimal row.prefix.len) ++ 32 ∷ needs_tail row.needs)
row_whole f line row s =
    append_cancel_right line (((codes "; row " ++ text_in f row.prefix.start) ++ 47 ∷ decimal row.prefix.len) ++ needs_text row.needs) (10 ∷ []) s.written
    ∙ regroup (codes "; row ") (text_in f row.prefix.start) (decimal row.prefix.len) (decimal row.needs.fail) (decimal row.needs.softfail) (decimal row.needs.pass) (decimal row.needs.neutral)

pub row_begins : (f : Family) (line : List ℕ) (row : NeedRow) → SpellsRow f line row → (rest : List ℕ) × (line ≡ codes "; row " ++ rest)
row_begins f line row s = ((text_in f row.prefix.start ++ 47 ∷ decimal row.prefix.len) ++ 32 ∷ needs_tail row.needs, row_whole f line row s)

pub no_row_word : (f : Family) (line : List ℕ) → ((rest : List ℕ) → ¬ (line ≡ codes "; row " ++ rest)) → (row : NeedRow) → SpellsRow f line row → ⊥
no_row_word f line none row s = none ((text_in f row.prefix.start ++ 47 ∷ decimal row.prefix.len) ++ 32 ∷ needs_tail row.needs) (row_whole f line row s)

pub row_parts : (f : Family) (line rest front needs : List ℕ) (row : NeedRow) → line ≡ codes "; row " ++ rest → IsCut 32 rest front needs → SpellsRow f line row → SpellsPrefix f front row.prefix × SpellsNeeds needs row.needs
row_parts f line rest front needs row e c s =
    let prefix : List ℕ = text_in f row.prefix.start ++ 47 ∷ decimal row.prefix.len in
    let same : rest ≡ prefix ++ 32 ∷ needs_tail row.needs = append_cancel_left (codes "; row ") rest (prefix ++ 32 ∷ needs_tail row.needs) (sym e ∙ row_whole f line row s) in
    let others : list_all (is_other 32) prefix ≡ true =
    all_both (is_other 32) (text_in f row.prefix.start) (47 ∷ decimal row.prefix.len) (address_others 32 f row.prefix refl s.prefix) (decimal_others 32 row.prefix.len refl (len_small f row.prefix.len s.prefix.short)) in
    let parts = cut_same 32 rest front needs prefix (needs_tail row.needs) c others same in
    (record { prefix = s.prefix; written = sym parts.0 }, record { small = s.small; written = sym parts.1 })

pub no_row_prefix : (f : Family) (line rest front needs : List ℕ) → line ≡ codes "; row " ++ rest → IsCut 32 rest front needs → ((p : Cidr) → ¬ SpellsPrefix f front p) → (row : NeedRow) → SpellsRow f line row → ⊥
no_row_prefix f line rest front needs e c none row s = none row.prefix (row_parts f line rest front needs row e c s).0

pub no_row_needs : (f : Family) (line rest front needs : List ℕ) → line ≡ codes "; row " ++ rest → IsCut 32 rest front needs → ((n : Needs) → ¬ SpellsNeeds needs n) → (row : NeedRow) → SpellsRow f line row → ⊥
no_row_needs f line rest front needs e c none row s = none row.needs (row_parts f line rest front needs row e c s).1

pub row_read : (f : Family) (line rest front text : List ℕ) (row : NeedRow) → line ≡ codes "; row " ++ rest → IsCut 32 rest front text → SpellsPrefix f front row.prefix → SpellsNeeds text row.needs → SpellsRow f line row
row_read f line rest front text row e c p n = record {
  prefix = p.prefix;
  small = n.small;
  written = ap (λ t. t ++ 10 ∷ []) (e ∙ ap (λ t. codes "; row " ++ t) (c.whole ∙ ap₂ (λ (a b : List ℕ). a ++ 32 ∷ b) p.written n.written)
      ∙ sym (regroup (codes "; row ") (text_in f row.prefix.start) (decimal row.prefix.len) (decimal row.needs.fail) (decimal row.needs.softfail) (decimal row.needs.pass) (decimal row.needs.neutral)));
}

-- ---- the total

pub total_whole : (line : List ℕ) (total : ℕ) → SpellsTotal line total → line ≡ codes "; fewest " ++ decimal total
total_whole line total s = append_cancel_right line (codes "; fewest " ++ decimal total) (10 ∷ []) s.1

pub no_total_word : (line : List ℕ) → ((rest : List ℕ) → ¬ (line ≡ codes "; fewest " ++ rest)) → (total : ℕ) → SpellsTotal line total → ⊥
no_total_word line none total s = none (decimal total) (total_whole line total s)

pub no_total_number : (line rest : List ℕ) → line ≡ codes "; fewest " ++ rest → ((n : ℕ) → ¬ SpellsNumber rest n) → (total : ℕ) → SpellsTotal line total → ⊥
no_total_number line rest e none total s = none total (s.0, append_cancel_left (codes "; fewest ") rest (decimal total) (sym e ∙ total_whole line total s))

pub total_read : (line rest : List ℕ) (n total : ℕ) → line ≡ codes "; fewest " ++ rest → SpellsNumber rest n → total ≡ n → SpellsTotal line total
total_read line rest n total e h same = subst (λ t. SpellsTotal line t) (sym same) (h.0, ap (λ t. t ++ 10 ∷ []) (e ∙ ap (λ t. codes "; fewest " ++ t) h.1))

-- ---- a line

pub no_line : (line : List ℕ) → ((row : NeedRow) → ¬ SpellsRow V4 line row) → ((row : NeedRow) → ¬ SpellsRow V6 line row) → (f : Family) (row : NeedRow) → SpellsRow f line row → ⊥
no_line line four six V4 row s = four row s
no_line line four six V6 row s = six row s
