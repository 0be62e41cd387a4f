-- Entries in order: that they go on, and that bytes are cut into them in one way.
use Rattle.std.proofs.Common.{◌≡◌, ◌≢◌, ℕ, ◌+◌, ◌≤◌, List, [], ◌∷◌, ◌++◌, length, refl, sym, ap, ap₂, subst, ◌∙◌, append_assoc, inl, inr, ◌⊎◌, arith, length-append}
use Rattle.std.proofs.lemmas.List.{append_cancel_right, nil_from_length}
use Rattle.std.proofs.lemmas.List.Sums.{count_by-le-length}
use Rattle.master_lex.specs.declared.entry.Entry.{Entry}
use Rattle.master_lex.specs.Items.{items_text, is_feed}
use Rattle.master_lex.specs.Entries.{Spells, AreEntries, lines_in, starts_blank}
use Rattle.master_lex.proofs.Readings.{one_reading}

-- entries, and entries behind them
pub entries_append : (line : ℕ) (bytes : List ℕ) (entries : List Entry) (mid : ℕ) (rest : List ℕ) (more : List Entry) (last : ℕ) (behind : List ℕ) → AreEntries line bytes entries mid rest → AreEntries mid rest more last behind
    → AreEntries line bytes (entries ++ more) last behind
entries_append line bytes [] mid rest more last behind h k =
    subst (λ (l : ℕ). AreEntries l bytes more last behind) (sym h.0) (subst (λ (b : List ℕ). AreEntries mid b more last behind) (sym h.1) k)
entries_append line bytes (entry ∷ entries) mid rest more last behind h k =
    (h.0, h.1, h.2, h.3, h.4, entries_append (line + lines_in h.0) h.1 entries mid rest more last behind h.5 k)

-- what is left of the bytes, and the lines
pub entries_left : (line : ℕ) (bytes : List ℕ) (entries : List Entry) (last : ℕ) (rest : List ℕ) → AreEntries line bytes entries last rest → (length rest ≤ length bytes) × (last + length rest ≤ line + length bytes)
entries_left line bytes [] last rest h = (omega (arith, ap length h.1), omega (arith, h.0, ap length h.1))
entries_left line bytes (entry ∷ entries) last rest h =
    let k = entries_left (line + lines_in h.0) h.1 entries last rest h.5 in
    let lines = count_by-le-length is_feed h.0 in
    (omega (arith, k.0, ap length h.2, length-append h.0 h.1), omega (arith, k.1, lines, ap length h.2, length-append h.0 h.1))

-- an entry has bytes
pub spelled_some : (text after : List ℕ) (entry : Entry) → Spells text after entry → text ≢ []
spelled_some text after entry s e = by s.spelled
  where
    by : ((text ≡ items_text s.items ++ 10 ∷ []) ⊎ ((text ≡ items_text s.items) × (text ≢ []) × (after ≡ []))) → ⊥
    by (inl is) = let n : length text ≡ length (items_text s.items) + 1 = ap length is ∙ length-append (items_text s.items) (10 ∷ []) in omega (arith, n, ap length e)
    by (inr is) = is.1 e

entry_is : (a b : Entry) → a.line ≡ b.line → a.blank ≡ b.blank → a.tokens ≡ b.tokens → a ≡ b
entry_is a b l k t = λ i. record { line = l i; blank = k i; tokens = t i }

-- bytes are cut into entries in one way, up to how far
pub compared : (line : ℕ) (bytes : List ℕ) (entries : List Entry) (last : ℕ) (rest : List ℕ) (others : List Entry) (end : ℕ) (left : List ℕ) → AreEntries line bytes entries last rest → AreEntries line bytes others end left
    → ((more : List Entry) × (others ≡ entries ++ more) × AreEntries last rest more end left) ⊎ ((more : List Entry) × (entries ≡ others ++ more) × AreEntries end left more last rest)
compared line bytes [] last rest others end left h k =
    inl (others, refl, subst (λ (l : ℕ). AreEntries l rest others end left) h.0 (subst (λ (b : List ℕ). AreEntries line b others end left) h.1 k))
compared line bytes (entry ∷ entries) last rest [] end left h k =
    inr (entry ∷ entries, refl, subst (λ (l : ℕ). AreEntries l left (entry ∷ entries) last rest) k.0 (subst (λ (b : List ℕ). AreEntries line b (entry ∷ entries) last rest) k.1 h))
compared line bytes (entry ∷ entries) last rest (other ∷ others) end left h k =
    let one = one_reading h.0 h.1 k.0 k.1 entry other h.3 k.3 (sym h.2 ∙ k.2) in
    let text : h.0 ≡ k.0 = append_cancel_right h.0 k.0 h.1 (sym h.2 ∙ k.2 ∙ ap (λ (a : List ℕ). k.0 ++ a) (sym one.1)) in
    let same : entry ≡ other = entry_is entry other (h.4 ∙ sym k.4) (h.3.led ∙ ap starts_blank text ∙ sym k.3.led) one.0 in
    let behind = subst (λ (a : List ℕ). AreEntries (line + lines_in h.0) a others end left) (sym one.1) (subst (λ (t : List ℕ). AreEntries (line + lines_in t) k.1 others end left) (sym text) k.5) in
    joined entry other same (compared (line + lines_in h.0) h.1 entries last rest others end left h.5 behind)
  where
    joined : (e f : Entry) → e ≡ f → (((more : List Entry) × (others ≡ entries ++ more) × AreEntries last rest more end left) ⊎ ((more : List Entry) × (entries ≡ others ++ more) × AreEntries end left more last rest))
        → ((more : List Entry) × (f ∷ others ≡ e ∷ (entries ++ more)) × AreEntries last rest more end left) ⊎ ((more : List Entry) × (e ∷ entries ≡ f ∷ (others ++ more)) × AreEntries end left more last rest)
    joined e f same (inl m) = inl (m.0, ap₂ (λ (x : Entry) (xs : List Entry). x ∷ xs) (sym same) m.1, m.2)
    joined e f same (inr m) = inr (m.0, ap₂ (λ (x : Entry) (xs : List Entry). x ∷ xs) same m.1, m.2)

-- the lines rise
pub entries_rise : (line : ℕ) (bytes : List ℕ) (entries : List Entry) (last : ℕ) (rest : List ℕ) → AreEntries line bytes entries last rest → line ≤ last
entries_rise line bytes [] last rest h = omega (arith, h.0)
entries_rise line bytes (entry ∷ entries) last rest h = omega (arith, entries_rise (line + lines_in h.0) h.1 entries last rest h.5)

-- entries that do not end the file stay, however the bytes go on
pub entries_more : (line : ℕ) (bytes : List ℕ) (entries : List Entry) (last : ℕ) (rest more : List ℕ) → AreEntries line bytes entries last rest → rest ≢ [] → AreEntries line (bytes ++ more) entries last (rest ++ more)
entries_more line bytes [] last rest more h some = (h.0, ap (λ (b : List ℕ). b ++ more) h.1)
entries_more line bytes (entry ∷ entries) last rest more h some =
    (h.0, h.1 ++ more, ap (λ (b : List ℕ). b ++ more) h.2 ∙ append_assoc h.0 h.1 more, spells h.3, h.4, entries_more (line + lines_in h.0) h.1 entries last rest more h.5 some)
  where
    after_some : h.1 ≢ []
    after_some e = some (nil_from_length rest (by rest refl))
      where
        by : (r : List ℕ) → rest ≡ r → length rest ≡ 0
        by r is = let left = (entries_left (line + lines_in h.0) h.1 entries last rest h.5).0 in omega (arith, left, ap length e)

    spells : Spells h.0 h.1 entry → Spells h.0 (h.1 ++ more) entry
    spells s = record { items = s.items; in_place = s.in_place; spelled = spelled s.spelled; tokens = s.tokens; led = s.led }
      where
        spelled : ((h.0 ≡ items_text s.items ++ 10 ∷ []) ⊎ ((h.0 ≡ items_text s.items) × (h.0 ≢ []) × (h.1 ≡ []))) → (h.0 ≡ items_text s.items ++ 10 ∷ []) ⊎ ((h.0 ≡ items_text s.items) × (h.0 ≢ []) × (h.1 ++ more ≡ []))
        spelled (inl is) = inl is
        spelled (inr is) = absurd (after_some is.2)
