-- Options in a row, and their numbers.
use Rattle.std.proofs.Common.{◌++◌, option_map, map, MatchOption, ◌≡◌, ℕ, ◌-◌, Bool, true, false, String, string_bytes, length, take, drop, get_or, ap₂, ◌<◌, ◌≤◌, ◌^◌, List, [], ◌∷◌, Some, None, Result, refl, sym, ap, ◌∙◌, arith, ◌||◌, subst}
use Rattle.std.specs.declared.option.Option.{Option}
use Rattle.std.specs.List.{list_any}
use Rattle.std.specs.Result.{result_ok}
use Rattle.std.specs.Str.Parse.{ParsesUnsigned}
use Rattle.std.proofs.lemmas.Fmt.{parse-decimal, decimal_injective}
use Rattle.std.proofs.lemmas.List.{take_rest}
use Rattle.std.specs.declared.alloc.Global.{Global}
use Rattle.spfc_words.specs.Rows.{OptionRow, NumberOption, TextOption, FlagOption, is_flag, is_valued}
use Rattle.spfc_words.specs.Options.{IsNumber, IsText, IsFlag, IsOption, settings_in, values_of, NumberIs, TextIs, FlagIs, Splits, HasNone}
use Rattle.spfc_words.specs.Words.{texts}

-- ---- tables
pub any_mapped : {A B : Type 0} (f : A → B) (p : B → Bool) (xs : List A) → list_any (λ x. p (f x)) xs ≡ list_any p (map f xs)
any_mapped f p [] = refl
any_mapped f p (x ∷ xs) = ap (λ b. p (f x) || b) (any_mapped f p xs)

-- ---- one value
number_fits : (low high n : ℕ) (text : List ℕ) → high < 2 ^ 64 → IsNumber low high text n → n < 2 ^ 64
number_fits low high n text small is = let most : n ≤ high = is.most in omega (arith, most, small)

-- what std's `parse` reads, where the text is a number
pub parsed : {E : Type 0} (low high n : ℕ) (text : List ℕ) (read : Result ℕ E) (found : Option ℕ) → high < 2 ^ 64 → ParsesUnsigned 64 10 text read → found ≡ result_ok read → IsNumber low high text n → found ≡ Some n
parsed low high n text read found small parses is number =
    is ∙ ap (λ r. result_ok r) (parse-decimal 64 n text read (number_fits low high n text small number) (number_fits low high n text small number) number.written parses)

pub one_number : (low high m n : ℕ) (text : List ℕ) → high < 2 ^ 64 → IsNumber low high text m → IsNumber low high text n → m ≡ n
one_number low high m n text small a b =
    decimal_injective m n (number_fits low high m text small a) (number_fits low high n text small b) (sym a.written ∙ b.written)

-- ---- values in a row
abbrev pub as_list : Option (List ℕ) → List (List ℕ)
as_list None = []
as_list (Some value) = value ∷ []

-- what was found is all, where nothing is left
pub found_all : {A : Type 0} (text : A → List ℕ) (found : Option A) (values : List (List ℕ)) → values ≡ as_list (option_map text found) ++ [] → MatchOption found (values ≡ []) (λ value. values ≡ text value ∷ [])
found_all text None values all = all
found_all text (Some value) values all = all

pub several : {A : Type 0} (Spells : List ℕ → A → Type 0) (by_default : A) (values : List (List ℕ)) → 2 ≤ length values → (a : A) → ¬ IsOption Spells by_default values a
several Spells by_default [] long a is = omega (arith, long)
several Spells by_default (value ∷ []) long a is = omega (arith, long)
several Spells by_default (value ∷ again ∷ values) long a is = is

pub one_option : {A : Type 0} (Spells : List ℕ → A → Type 0) (one : (text : List ℕ) (a b : A) → Spells text a → Spells text b → a ≡ b) (by_default : A) (values : List (List ℕ)) (a b : A)
    → IsOption Spells by_default values a → IsOption Spells by_default values b → a ≡ b
one_option Spells one by_default [] a b x y = x ∙ sym y
one_option Spells one by_default (value ∷ []) a b x y = one value a b x y
one_option Spells one by_default (value ∷ again ∷ values) a b x y = absurd x

pub one_value : (low high by_default : ℕ) (values : List (List ℕ)) (m n : ℕ) → high < 2 ^ 64 → IsOption (IsNumber low high) by_default values m → IsOption (IsNumber low high) by_default values n → m ≡ n
one_value low high by_default values m n small a b = one_option (IsNumber low high) (λ text m n. one_number low high m n text small) by_default values m n a b

-- a flag that is written twice
pub two_flags : (values : List (List ℕ)) → 2 ≤ length values → (b : Bool) → ¬ IsOption IsFlag false values b
two_flags values long b = several IsFlag false values long b

pub one_flag : (values : List (List ℕ)) (a b : Bool) → IsOption IsFlag false values a → IsOption IsFlag false values b → a ≡ b
one_flag values a b x y = one_option IsFlag (λ text c d e f. e ∙ sym f) false values a b x y

-- ---- what the words in front say is one thing
pub one_number_is : (table : List OptionRow) (words : List (List ℕ)) (name : List ℕ) (low high by_default m n : ℕ) → high < 2 ^ 64
    → NumberIs table words (NumberOption name low high by_default) m → NumberIs table words (NumberOption name low high by_default) n → m ≡ n
one_number_is table words name low high by_default m n small x y = one_value low high by_default (values_of name (settings_in table words)) m n small x y

pub one_flag_is : (table : List OptionRow) (words : List (List ℕ)) (name : List ℕ) (a b : Bool)
    → FlagIs table words (FlagOption name) a → FlagIs table words (FlagOption name) b → a ≡ b
one_flag_is table words name a b x y = one_flag (values_of name (settings_in table words)) a b x y

pub one_text_is : (table : List OptionRow) (words : List (List ℕ)) (name by_default a b : List ℕ)
    → TextIs table words (TextOption name by_default) a → TextIs table words (TextOption name by_default) b → a ≡ b
one_text_is table words name by_default a b x y =
    one_option IsText (λ value c d e f. e ∙ sym f) by_default (values_of name (settings_in table words)) a b x y

-- the bounds of a number
pub number_most : (table : List OptionRow) (words : List (List ℕ)) (name : List ℕ) (low high by_default n : ℕ) → by_default ≤ high
    → NumberIs table words (NumberOption name low high by_default) n → n ≤ high
number_most table words name low high by_default n fits is = most (values_of name (settings_in table words)) is
  where
    most : (values : List (List ℕ)) → IsOption (IsNumber low high) by_default values n → n ≤ high
    most [] is = omega (arith, fits, is)
    most (value ∷ []) is = is.most
    most (value ∷ again ∷ values) is = absurd is

-- ---- the first of the words
abbrev Words : Type 0
Words = List (String Global)

abbrev behind_first : Words → Words
behind_first words = take (length words - 1) (drop 1 words)

flag_at : (table : List OptionRow) (word : String Global) (words : Words) → is_flag table (string_bytes word) ≡ true → Splits table (word ∷ words) (string_bytes word) [] words
flag_at table word [] is = record { first = rw is refl; rest = rw is refl; fewer = omega arith }
flag_at table word (next ∷ words) is = record { first = rw is refl; rest = rw is refl; fewer = omega arith }

valued_at : (table : List OptionRow) (word value : String Global) (words : Words) → is_flag table (string_bytes word) ≡ false → is_valued table (string_bytes word) ≡ true
    → Splits table (word ∷ value ∷ words) (string_bytes word) (string_bytes value) words
valued_at table word value words other is = record { first = rw (other, is) refl; rest = rw (other, is) refl; fewer = omega arith }

pub flag_here : (table : List OptionRow) (words : Words) (name : String Global) (text : List ℕ) → 1 ≤ length words → name ≡ get_or words 0 name → text ≡ string_bytes name → is_flag table text ≡ true
    → Splits table words text [] (behind_first words)
flag_here table [] name text long at same is = absurd (omega (arith, long))
flag_here table (word ∷ words) name text long at same is =
    let t : text ≡ string_bytes word = same ∙ ap (λ (w : String Global). string_bytes w) at in
    subst (λ b. Splits table (word ∷ words) text [] b) (sym (take_rest (word ∷ words) 1))
    (subst (λ s. Splits table (word ∷ words) s [] words) (sym t) (flag_at table word words (ap (is_flag table) (sym t) ∙ is)))

pub valued_here : (table : List OptionRow) (words : Words) (name value : String Global) (text written : List ℕ) → 1 ≤ length words → name ≡ get_or words 0 name → text ≡ string_bytes name → is_flag table text ≡ false
    → 1 ≤ length (behind_first words) → value ≡ get_or (behind_first words) 0 value → written ≡ string_bytes value → is_valued table text ≡ true
    → Splits table words text written (behind_first (behind_first words))
valued_here table [] name value text written long at same other more at' same' is = absurd (omega (arith, long))
valued_here table (word ∷ []) name value text written long at same other more at' same' is = absurd (omega (arith, more))
valued_here table (word ∷ next ∷ words) name value text written long at same other more at' same' is =
    let behind : behind_first (word ∷ next ∷ words) ≡ next ∷ words = take_rest (word ∷ next ∷ words) 1 in
    let t : text ≡ string_bytes word = same ∙ ap (λ (w : String Global). string_bytes w) at in
    let v : written ≡ string_bytes next = same' ∙ ap (λ (w : String Global). string_bytes w) (at' ∙ ap (λ (ws : Words). get_or ws 0 value) behind) in
    let rest : behind_first (behind_first (word ∷ next ∷ words)) ≡ words = ap behind_first behind ∙ take_rest (next ∷ words) 1 in
    subst (λ b. Splits table (word ∷ next ∷ words) text written b) (sym rest)
    (subst (λ s. Splits table (word ∷ next ∷ words) text s words) (sym v)
    (subst (λ s. Splits table (word ∷ next ∷ words) s (string_bytes next) words) (sym t)
    (valued_at table word next words (ap (is_flag table) (sym t) ∙ other) (ap (is_valued table) (sym t) ∙ is))))

pub lone_here : (table : List OptionRow) (words : Words) (name : String Global) (text : List ℕ) → 1 ≤ length words → name ≡ get_or words 0 name → text ≡ string_bytes name → is_flag table text ≡ false
    → length (behind_first words) < 1 → HasNone table words
lone_here table [] name text long at same other few = absurd (omega (arith, long))
lone_here table (word ∷ []) name text long at same other few =
    let f : is_flag table (string_bytes word) ≡ false = ap (is_flag table) (sym (same ∙ ap (λ (w : String Global). string_bytes w) at)) ∙ other in
    record { none = rw f refl; all = rw f refl }
lone_here table (word ∷ next ∷ words) name text long at same other few = absurd (omega (arith, few, ap (λ (ws : Words). length ws) (take_rest (word ∷ next ∷ words) 1)))

pub other_here : (table : List OptionRow) (words : Words) (name : String Global) (text : List ℕ) → 1 ≤ length words → name ≡ get_or words 0 name → text ≡ string_bytes name → is_flag table text ≡ false
    → is_valued table text ≡ false → 1 ≤ length (behind_first words) → HasNone table words
other_here table [] name text long at same other none more = absurd (omega (arith, long))
other_here table (word ∷ []) name text long at same other none more = absurd (omega (arith, more))
other_here table (word ∷ next ∷ words) name text long at same other none more =
    let t : text ≡ string_bytes word = same ∙ ap (λ (w : String Global). string_bytes w) at in
    let f : is_flag table (string_bytes word) ≡ false = ap (is_flag table) (sym t) ∙ other in
    let v : is_valued table (string_bytes word) ≡ false = ap (is_valued table) (sym t) ∙ none in
    record { none = rw (f, v) refl; all = rw (f, v) refl }

-- the first word and the others
pub first_of : (words : Words) (name : String Global) (text : List ℕ) → 1 ≤ length words → name ≡ get_or words 0 name → text ≡ string_bytes name → texts words ≡ text ∷ texts (behind_first words)
first_of [] name text long at same = absurd (omega (arith, long))
first_of (word ∷ words) name text long at same =
    ap₂ (λ (t : List ℕ) (ws : Words). t ∷ texts ws) (sym (same ∙ ap (λ (w : String Global). string_bytes w) at)) (sym (take_rest (word ∷ words) 1))

pub none_of : (words : Words) → length words < 1 → texts words ≡ []
none_of [] few = refl
none_of (word ∷ words) few = absurd (omega (arith, few))
