-- Options, which stand in front of the other words, in any order, each at most once: the project's own form.
use Rattle.std.specs.Prelude.{◌≡◌, ℕ, ◌<◌, ◌≤◌, Bool, true, false, List, [], ◌∷◌, length, decimal, bytes_eq, String}
use Rattle.std.specs.Prelude.{if◌then◌else◌}
use Rattle.std.specs.declared.alloc.Global.{Global}
use Rattle.spfc_words.specs.Rows.{OptionRow, NumberOption, TextOption, FlagOption, is_flag, is_valued}
use Rattle.spfc_words.specs.Words.{texts}

-- an option as it is written: its name, and its value as the next word; a flag has none
pub record Setting : Type 0 where
  pub name : List ℕ
  pub value : List ℕ

-- the options in front
abbrev pub settings_in : List OptionRow → List (List ℕ) → List Setting
settings_in rows [] = []
settings_in rows (name ∷ []) = if is_flag rows name then record { name = name; value = [] } ∷ [] else []
settings_in rows (name ∷ value ∷ words) =
    if is_flag rows name then record { name = name; value = [] } ∷ settings_in rows (value ∷ words)
    else if is_valued rows name then record { name = name; value = value } ∷ settings_in rows words else []

-- the words behind them
abbrev pub behind_options : List OptionRow → List (List ℕ) → List (List ℕ)
behind_options rows [] = []
behind_options rows (name ∷ []) = if is_flag rows name then [] else name ∷ []
behind_options rows (name ∷ value ∷ words) =
    if is_flag rows name then behind_options rows (value ∷ words)
    else if is_valued rows name then behind_options rows words else name ∷ value ∷ words

-- the values that are written for an option
abbrev pub values_of : (name : List ℕ) → List Setting → List (List ℕ)
values_of name [] = []
values_of name (setting ∷ settings) =
    if bytes_eq setting.name name then setting.value ∷ values_of name settings else values_of name settings

-- an option is written at most once; where it is not, it is what it is by default
abbrev pub IsOption : {A : Type 0} → (Spells : List ℕ → A → Type 0) → (by_default : A) → (values : List (List ℕ))
    → A → Type 0
IsOption Spells by_default [] a = a ≡ by_default
IsOption Spells by_default (value ∷ []) a = Spells value a
IsOption Spells by_default (value ∷ again ∷ values) a = ⊥

-- decimal digits without a sign and without leading zeros, of a number from low to high
pub record IsNumber (low high : ℕ) (text : List ℕ) (n : ℕ) : Type 0 where
  pub written : text ≡ decimal n
  pub least : low ≤ n
  pub most : n ≤ high

-- a text is the value as it stands
abbrev pub IsText : (value text : List ℕ) → Type 0
IsText value text = text ≡ value

-- a flag that is written is true
abbrev pub IsFlag : List ℕ → Bool → Type 0
IsFlag value b = b ≡ true

-- what the words in front say of a number
abbrev pub NumberIs : List OptionRow → List (List ℕ) → OptionRow → ℕ → Type 0
NumberIs rows words (NumberOption name low high by_default) n =
    IsOption (IsNumber low high) by_default (values_of name (settings_in rows words)) n
NumberIs rows words (TextOption name by_default) n = ⊥
NumberIs rows words (FlagOption name) n = ⊥

-- what the words in front say of a text
abbrev pub TextIs : List OptionRow → List (List ℕ) → OptionRow → List ℕ → Type 0
TextIs rows words (TextOption name by_default) text =
    IsOption IsText by_default (values_of name (settings_in rows words)) text
TextIs rows words (NumberOption name low high by_default) text = ⊥
TextIs rows words (FlagOption name) text = ⊥

-- what the words in front say of a flag
abbrev pub FlagIs : List OptionRow → List (List ℕ) → OptionRow → Bool → Type 0
FlagIs rows words (FlagOption name) b = IsOption IsFlag false (values_of name (settings_in rows words)) b
FlagIs rows words (NumberOption name low high by_default) b = ⊥
FlagIs rows words (TextOption name by_default) b = ⊥

-- the words begin with this option, and these are behind it
pub record Splits (rows : List OptionRow) (words : List (String Global)) (name value : List ℕ)
    (behind : List (String Global)) : Type 0 where
  pub first : settings_in rows (texts words) ≡ record { name = name; value = value } ∷ settings_in rows (texts behind)
  pub rest : behind_options rows (texts words) ≡ behind_options rows (texts behind)
  pub fewer : length behind < length words

-- the words begin with none
pub record HasNone (rows : List OptionRow) (words : List (String Global)) : Type 0 where
  pub none : settings_in rows (texts words) ≡ []
  pub all : behind_options rows (texts words) ≡ texts words
