-- The settings that words give.
use Rattle.std.proofs.Common.{◌≡◌, ℕ, Bool, false, ap₂, suc, ◌+◌, ◌≤◌, IsTrue, List, ◌∷◌, ◌++◌, length, codes, length-append, sym, ap, subst, ◌∙◌, arith, lit≤}
use Rattle.std.specs.Prelude.{decimal}
use Rattle.std.specs.Str.{str_to_ascii_lowercase}
use Rattle.std.proofs.lemmas.Bool.{leb-true}
use Rattle.dns_name.proofs.Octets.{lowercase_twice}
use Rattle.spf_macros.specs.Words.{is_domain, is_label}
use Rattle.record_pack.specs.Records.{record_name}
use Rattle.published_records.proofs.RecordChains.{ten_long}
use Rattle.spfc_words.specs.Domains.{IsDomain}
use Rattle.spfc_words.specs.Rows.{OptionRow}
use Rattle.spfc_words.specs.declared.domain.Domain.{Domain}
use Rattle.spfc_words.proofs.Domains.{one_domain}
use Rattle.spfc_words.proofs.LowerTexts.{is_domain_lower, is_label_lower}
use Rattle.spfc_words.proofs.Settings.{number_most, one_number_is, one_text_is}
use Rattle.publishing.specs.Settings.{IsLabelOption, AreSettings, AreLegal, has_room, label_option}
use Rattle.spfc_words.specs.Options.{TextIs}
use Rattle.publishing.specs.declared.settings.ChainSettings.{ChainSettings}

-- a domain and a label with room for the number of the last record
room_short : (domain label : List ℕ) → IsTrue (has_room label domain) → length (record_name domain label 10) ≤ 253
room_short domain label room =
    let whole : length ((label ++ decimal 10) ++ 46 ∷ domain) ≡ length label + 2 + suc (length domain) =
    length-append (label ++ decimal 10) (46 ∷ domain) ∙ ap (λ n. n + suc (length domain)) (length-append label (decimal 10) ∙ ap (λ n. length label + n) ten_long) in
    omega (arith, leb-true (length label + 3 + length domain) 253 room, whole)

-- the settings of words are legal
pub settings_legal : (table : List OptionRow) (domain : List ℕ) (words : List (List ℕ)) (settings : ChainSettings)
    → AreSettings table domain words settings → AreLegal settings
settings_legal table domain words settings are =
    let d : settings.domain.text ≡ str_to_ascii_lowercase domain = are.named.lower in
    let l : settings.label ≡ str_to_ascii_lowercase are.labelled.text = are.labelled.lower in
    record {
      chain = record {
        domain_form = subst (λ t. IsTrue (is_domain t)) (sym d) (is_domain_lower domain ∙ are.named.form);
        label_form = subst (λ t. IsTrue (is_label t)) (sym l) (is_label_lower are.labelled.text ∙ are.labelled.form);
        domain_lower = subst (λ t. str_to_ascii_lowercase t ≡ t) (sym d) (lowercase_twice domain);
        label_lower = subst (λ t. str_to_ascii_lowercase t ≡ t) (sym l) (lowercase_twice are.labelled.text);
        short = room_short settings.domain.text settings.label are.room;
      };
      named = are.named.named;
      small = number_most table words (codes "--size") 64 4096 450 settings.size (lit≤ tt) are.sized;
      lasting = number_most table words (codes "--ttl") 0 2147483647 3600 settings.ttl (lit≤ tt) are.lasting;
    }

-- the words in front say one label
pub one_label : (table : List OptionRow) (words : List (List ℕ)) (a b : List ℕ) → IsLabelOption table words a → IsLabelOption table words b → a ≡ b
one_label table words a b x y =
    x.lower ∙ (ap str_to_ascii_lowercase (one_text_is table words (codes "--label") (codes "_spf") x.text y.text x.written y.written) ∙ sym y.lower)

-- the words say one thing of the settings
pub one_settings : (table : List OptionRow) (domain : List ℕ) (words : List (List ℕ)) (a b : ChainSettings)
    → AreSettings table domain words a → AreSettings table domain words b → a ≡ b
one_settings table domain words a b x y =
    let named : a.domain ≡ b.domain = one_domain domain a.domain b.domain x.named y.named in
    let labelled : a.label ≡ b.label = one_label table words a.label b.label x.labelled y.labelled in
    let sized : a.size ≡ b.size = one_number_is table words (codes "--size") 64 4096 450 a.size b.size (lit≤ tt) x.sized y.sized in
    let lasting : a.ttl ≡ b.ttl = one_number_is table words (codes "--ttl") 0 2147483647 3600 a.ttl b.ttl (lit≤ tt) x.lasting y.lasting in
    λ i. record { domain = named i; label = labelled i; size = sized i; ttl = lasting i }

not_true : (b : Bool) → b ≡ false → IsTrue b → ⊥
not_true b e t = cc

-- a label that has not its form
pub no_label : (table : List OptionRow) (words : List (List ℕ)) (text any : List ℕ) → TextIs table words label_option text → is_label text ≡ false
    → IsLabelOption table words any → ⊥
no_label table words text any written bad is =
    not_true (is_label is.text) (ap is_label (one_text_is table words (codes "--label") (codes "_spf") is.text text is.written written) ∙ bad) is.form

-- a last name that is too long
pub no_room : (table : List OptionRow) (domain : List ℕ) (words : List (List ℕ)) (label : List ℕ) (named : Domain) (any : ChainSettings)
    → IsLabelOption table words label → IsDomain domain named → has_room label named.text ≡ false → AreSettings table domain words any → ⊥
no_room table domain words label named any labelled is full are =
    let l : any.label ≡ label = one_label table words any.label label are.labelled labelled in
    let d : any.domain ≡ named = one_domain domain any.domain named are.named is in
    not_true (has_room any.label any.domain.text) (ap₂ (λ (a : List ℕ) (b : Domain). has_room a b.text) l d ∙ full) are.room
