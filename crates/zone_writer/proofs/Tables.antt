-- The lines of a table are comments, which a reader passes over.
use Rattle.std.proofs.Common.{◌≡◌, ℕ, zero, suc, ◌+◌, ◌/◌, ◌%◌, ◌==◌, Bool, true, false, cond, List, [], ◌∷◌, ◌++◌, map, take, drop, decimal, refl, sym, subst, ◌∙◌, arith, append_assoc, append-nil, ne_eqb, nat_lt}
use Rattle.std.specs.Prelude.{codes}
use Rattle.std.specs.Char.{digit_char}
use Rattle.std.specs.Fmt.{digits, digits_onto}
use Rattle.std.specs.List.{list_any, join_with_byte}
use Rattle.std.proofs.lemmas.Bool.{or_parts, or_from}
use Rattle.std.proofs.lemmas.List.Folds.{list_any-append}
use Rattle.addr_bits.specs.declared.address.Family.{Family}
use Rattle.addr_bits.specs.declared.address.Family.TheVariants.{V4, V6}
use Rattle.addr_bits.specs.Address.{text_in}
use Rattle.addr_bits.specs.Ip4.{octets_of, ip4_text}
use Rattle.addr_bits.specs.Ip6.{groups_of, group_text, groups_text, ip6_text, leading_zeros_of, longest_run, written_groups}
use Rattle.master_lex.specs.Items.{is_feed}
use Rattle.master_reader.specs.declared.record.Record.{Record}
use Rattle.master_reader.specs.Entry.{Context}
use Rattle.fewest_terms.specs.declared.needs.Needs.{Needs}
use Rattle.fewest_terms.specs.Row.{NeedRow}
use Rattle.bound_table.specs.Lines.{needs_text, row_line, row_lines, table_text}
use Rattle.zone_writer.proofs.Lines.{ReadsOn, comment_on, comment_text, nothing_on}

-- ---- bytes other than a line feed

abbrev HasNoFeed : List ℕ → Type 0
HasNoFeed bytes = list_any is_feed bytes ≡ false

both : (xs ys : List ℕ) → HasNoFeed xs → HasNoFeed ys → HasNoFeed (xs ++ ys)
both xs ys h k = list_any-append is_feed xs ys ∙ or_from (list_any is_feed xs) (list_any is_feed ys) h k

more : (b : ℕ) (bytes : List ℕ) → is_feed b ≡ false → HasNoFeed bytes → HasNoFeed (b ∷ bytes)
more b bytes h k = or_from (is_feed b) (list_any is_feed bytes) h k

dropped : (n : ℕ) (bytes : List ℕ) → HasNoFeed bytes → HasNoFeed (drop n bytes)
dropped zero bytes h = h
dropped (suc n) [] h = refl
dropped (suc n) (b ∷ bytes) h = dropped n bytes (or_parts (is_feed b) (list_any is_feed bytes) h).1

joined : (c : ℕ) (pieces : List (List ℕ)) → is_feed c ≡ false → list_any (list_any is_feed) pieces ≡ false → HasNoFeed (join_with_byte c pieces)
joined c [] h k = refl
joined c (piece ∷ []) h k = (or_parts (list_any is_feed piece) false k).0
joined c (piece ∷ next ∷ pieces) h k =
    let parts = or_parts (list_any is_feed piece) (list_any (list_any is_feed) (next ∷ pieces)) k in
    both piece (c ∷ join_with_byte c (next ∷ pieces)) parts.0 (more c (join_with_byte c (next ∷ pieces)) h (joined c (next ∷ pieces) h parts.1))

each : (f : ℕ → List ℕ) (numbers : List ℕ) → ((n : ℕ) → HasNoFeed (f n)) → list_any (list_any is_feed) (map f numbers) ≡ false
each f [] h = refl
each f (n ∷ numbers) h = or_from (list_any is_feed (f n)) (list_any (list_any is_feed) (map f numbers)) (h n) (each f numbers h)

-- ---- numbers and addresses

digit_no_feed : (d : ℕ) → is_feed (digit_char d) ≡ false
digit_no_feed d = by (nat_lt d 10)
  where
    by : (t : Bool) → is_feed (cond t (48 + d) (87 + d)) ≡ false
    by true = ne_eqb (48 + d) 10 (λ (e : 48 + d ≡ 10). omega (arith, e))
    by false = ne_eqb (87 + d) 10 (λ (e : 87 + d ≡ 10). omega (arith, e))

onto_no_feed : (k n : ℕ) (behind : List ℕ) → HasNoFeed behind → HasNoFeed (digits_onto k 10 false n behind)
onto_no_feed zero n behind h = h
onto_no_feed (suc k) n behind h =
    let now : HasNoFeed (digit_char (n % 10) ∷ behind) = more (digit_char (n % 10)) behind (digit_no_feed (n % 10)) h in
    by (n / 10 == 0) now (onto_no_feed k (n / 10) (digit_char (n % 10) ∷ behind) now)
  where
    by : (t : Bool) → HasNoFeed (digit_char (n % 10) ∷ behind) → HasNoFeed (digits_onto k 10 false (n / 10) (digit_char (n % 10) ∷ behind))
        → HasNoFeed (cond t (digit_char (n % 10) ∷ behind) (digits_onto k 10 false (n / 10) (digit_char (n % 10) ∷ behind)))
    by true now rest = now
    by false now rest = rest

decimal_no_feed : (n : ℕ) → HasNoFeed (decimal n)
unfolding digits
decimal_no_feed n = onto_no_feed 64 n [] refl

ip4_no_feed : (n : ℕ) → HasNoFeed (ip4_text n)
ip4_no_feed n = joined 46 (map decimal (octets_of n)) refl (each decimal (octets_of n) decimal_no_feed)

digits_no_feed : (ds : List ℕ) → HasNoFeed (map digit_char ds)
digits_no_feed [] = refl
digits_no_feed (d ∷ ds) = more (digit_char d) (map digit_char ds) (digit_no_feed d) (digits_no_feed ds)

group_no_feed : (g : ℕ) → HasNoFeed (group_text g)
group_no_feed g =
    let ds : List ℕ = g / 0x1000 ∷ g / 0x100 % 16 ∷ g / 0x10 % 16 ∷ g % 16 ∷ [] in
    dropped (leading_zeros_of g) (map digit_char ds) (digits_no_feed ds)

groups_no_feed : (groups : List ℕ) → HasNoFeed (groups_text groups)
groups_no_feed groups = joined 58 (map group_text groups) refl (each group_text groups group_no_feed)

written_no_feed : (groups : List ℕ) → HasNoFeed (written_groups groups)
written_no_feed groups =
    let run : ℕ × ℕ = longest_run groups in
    by (nat_lt 1 run.1) (take run.0 groups) (drop (run.0 + run.1) groups)
  where
    by : (t : Bool) (front back : List ℕ) → HasNoFeed (cond t ((groups_text front ++ codes "::") ++ groups_text back) (groups_text groups))
    by true front back = both (groups_text front ++ codes "::") (groups_text back) (both (groups_text front) (codes "::") (groups_no_feed front) refl) (groups_no_feed back)
    by false front back = groups_no_feed groups

ip6_no_feed : (n : ℕ) → HasNoFeed (ip6_text n)
unfolding ip6_text
ip6_no_feed n = written_no_feed (groups_of n)

-- ---- lines

spaced_no_feed : (n : ℕ) → HasNoFeed (32 ∷ decimal n)
spaced_no_feed n = more 32 (decimal n) refl (decimal_no_feed n)

needs_no_feed : (needs : Needs) → HasNoFeed (needs_text needs)
needs_no_feed needs =
    let fail : List ℕ = 32 ∷ decimal needs.fail in
    let softfail : List ℕ = 32 ∷ decimal needs.softfail in
    let pass : List ℕ = 32 ∷ decimal needs.pass in
    both (fail ++ softfail ++ pass) (32 ∷ decimal needs.neutral)
    (both (fail ++ softfail) pass (both fail softfail (spaced_no_feed needs.fail) (spaced_no_feed needs.softfail)) (spaced_no_feed needs.pass))
    (spaced_no_feed needs.neutral)

-- what stands behind the semicolon of a row
abbrev row_body : (address : List ℕ) → (len : ℕ) → Needs → List ℕ
row_body address len needs = codes " row " ++ address ++ 47 ∷ decimal len ++ needs_text needs

row_no_feed : (address : List ℕ) (len : ℕ) (needs : Needs) → HasNoFeed address → HasNoFeed (row_body address len needs)
row_no_feed address len needs h =
    both (codes " row " ++ address ++ 47 ∷ decimal len) (needs_text needs)
    (both (codes " row " ++ address) (47 ∷ decimal len) (both (codes " row ") address refl h) (more 47 (decimal len) refl (decimal_no_feed len)))
    (needs_no_feed needs)

address_no_feed : (f : Family) (n : ℕ) → HasNoFeed (text_in f n)
address_no_feed V4 n = ip4_no_feed n
address_no_feed V6 n = ip6_no_feed n

rows_on : (zone : List (List ℕ)) (context : Context) (rest : List ℕ) (records : List Record) (f : Family) (rows : List NeedRow)
    → ((n : ℕ) → ReadsOn zone context n rest records) → (line : ℕ) → ReadsOn zone context line (row_lines f rows ++ rest) records
rows_on zone context rest records f [] on line = on line
rows_on zone context rest records f (row ∷ rows) on line =
    let address : List ℕ = text_in f row.prefix.start in
    subst (λ (bytes : List ℕ). ReadsOn zone context line bytes records) (sym (append_assoc (row_line address row.prefix.len row.needs) (row_lines f rows) rest))
    (comment_on zone context line (row_body address row.prefix.len row.needs) (row_lines f rows ++ rest) records (row_no_feed address row.prefix.len row.needs (address_no_feed f row.prefix.start))
    (rows_on zone context rest records f rows on))

table_parts : (rows4 rows6 number : List ℕ) → (((rows4 ++ rows6) ++ codes "; fewest ") ++ number) ++ 10 ∷ [] ≡ rows4 ++ (rows6 ++ (comment_text (codes " fewest " ++ number) ++ []))
table_parts rows4 rows6 number = simp (append_assoc, append-nil)

-- a table adds no record
pub table_on : (zone : List (List ℕ)) (context : Context) (rows4 rows6 : List NeedRow) (total line : ℕ) → ReadsOn zone context line (table_text rows4 rows6 total) []
table_on zone context rows4 rows6 total line =
    let number : HasNoFeed (codes " fewest " ++ decimal total) = both (codes " fewest ") (decimal total) refl (decimal_no_feed total) in
    subst (λ (bytes : List ℕ). ReadsOn zone context line bytes []) (sym (table_parts (row_lines V4 rows4) (row_lines V6 rows6) (decimal total)))
    (rows_on zone context _ [] V4 rows4
    (rows_on zone context _ [] V6 rows6
    (λ n. comment_on zone context n (codes " fewest " ++ decimal total) [] [] number (nothing_on zone context))) line)
