-- The names below which reversed names are asked for.
use Rattle.std.proofs.Common.{◌≡◌, ℕ, ◌<◌, ◌≤◌, Bool, true, false, cond, List, [], ◌∷◌, length, map, refl, sym, subst, ap, ◌∙◌, arith, Option, Some, None, Ok, Err}
use Rattle.std.specs.Prelude.{bytes_eq, nat_lt}
use Rattle.std.specs.Char.{to_ascii_lowercase}
use Rattle.std.specs.List.{slice_split}
use Rattle.std.proofs.lemmas.Bool.{le-leb, lt-leb}
use Rattle.std.proofs.lemmas.List.{length-append, length-map}
use Rattle.dns_name.specs.Name.{first_fault, fault_or, is_dot, lowercase_label}
use Rattle.dns_name.specs.Parts.{without_final}
use Rattle.dns_name.specs.Wire.{wire_form}
use Rattle.dns_name.specs.declared.fault.NameFault.{NameFault}
use Rattle.dns_name.specs.declared.fault.NameFault.TheVariants.{NameLong}
use Rattle.dns_name.proofs.Texts.{wire_length}
use Rattle.zone_answers.specs.declared.answer.Question.{Question}
use Rattle.spf_macros.specs.declared.expansion.Expanded.{Expanded}
use Rattle.spf_macros.specs.declared.expansion.Expanded.TheVariants.{Out, Needs}
use Rattle.spf_macros.specs.declared.expansion.Need.{Need}
use Rattle.spf_model.specs.declared.outcome.Cause.TheVariants as cause
use Rattle.spf_model.specs.declared.outcome.Counts.{Counts}
use Rattle.spf_model.specs.declared.outcome.Halt.{Halt}
use Rattle.spf_model.specs.declared.outcome.Halt.TheVariants.{Ended}
use Rattle.spf_model.specs.declared.outcome.Outcome.TheVariants.{Unsettled}
use Rattle.spf_model.specs.Run.{Run, Answering}
use Rattle.spf_model.specs.Judging.{Labels, Site, at, cause_of, go_if, legal, name_of, naming_suffix, with_name}
use Rattle.spf_model.specs.Settling.{Settles}
use Rattle.spf_model.proofs.Asking.{settles_passing, settles_stopping}

-- ---- their length

lower_length : (labels : Labels) → length (wire_form (map lowercase_label labels)) ≡ length (wire_form labels)
lower_length [] = refl
lower_length (label ∷ labels) = omega (arith, lower_length labels, length-append (lowercase_label label) (wire_form (map lowercase_label labels)), length-append label (wire_form labels), length-map label to_ascii_lowercase)

without_no_longer : (text : List ℕ) → length (without_final is_dot text) ≤ length text
without_no_longer [] = omega arith
without_no_longer (b ∷ []) = by (is_dot b)
  where
    by : (t : Bool) → length (cond t [] (b ∷ [])) ≤ 1
    by true = omega arith
    by false = omega arith
without_no_longer (b ∷ c ∷ bs) = omega (arith, without_no_longer (c ∷ bs))

named_labels : (fault : Option NameFault) (long : Bool) (labels name : Labels)
    → Some name ≡ legal (fault_or fault (cond long (Err NameLong) (Ok (map lowercase_label labels)))) → name ≡ map lowercase_label labels
named_labels (Some f) long labels name e = cc
named_labels None true labels name e = cc
named_labels None false labels name e = cc

short_by : (root : Bool) (text : List ℕ) (name : Labels)
    → Some name ≡ legal (cond root (Ok [])
    (fault_or (first_fault (slice_split is_dot (without_final is_dot text)))
    (cond (nat_lt 255 (length (wire_form (slice_split is_dot (without_final is_dot text))))) (Err NameLong) (Ok (map lowercase_label (slice_split is_dot (without_final is_dot text)))))))
    → length text ≤ 189 → length (wire_form name) ≤ 191
short_by true text name e few =
    let is : name ≡ [] = cc in subst (λ (n : Labels). length (wire_form n) ≤ 191) (sym is) (omega arith)
short_by false text name e few =
    let labels = slice_split is_dot (without_final is_dot text) in
    let is = named_labels (first_fault labels) (nat_lt 255 (length (wire_form labels))) labels name e in
    subst (λ (n : Labels). length (wire_form n) ≤ 191) (sym is)
    (omega (arith, lower_length labels, wire_length (without_final is_dot text), without_no_longer text, few))

-- a name of few enough characters has room for a reversed address in front
pub short_name : (text : List ℕ) (name : Labels) → Some name ≡ name_of text → length text ≤ 189 → length (wire_form name) ≤ 191
unfolding name_of
short_name text name e few = short_by (bytes_eq text (46 ∷ [])) text name e few

-- ---- what a suffix comes to

pub suffix_needs : (zones : Answering) (site : Site) (t : ℕ) (suffix : Expanded) (need : Need) (halt : Halt) (asked : List Question) → suffix ≡ Needs need
    → halt ≡ Ended (Unsettled (cause_of need) (at site t)) → Settles zones (naming_suffix site t suffix) asked asked (Err halt)
suffix_needs zones site t suffix need halt asked e is =
    subst (λ (x : Expanded). Settles zones (naming_suffix site t x) asked asked (Err halt)) (sym e)
    (settles_stopping zones asked (naming_suffix site t (Needs need)) (Unsettled (cause_of need) (at site t)) halt is tt (λ counts go. refl))

abbrev named_part : Site → ℕ → List ℕ → Counts → (Labels → Run) → Run
named_part site t text counts go = with_name (Unsettled cause.Target (at site t)) counts (name_of text) go

pub suffix_long : (zones : Answering) (site : Site) (t : ℕ) (suffix : Expanded) (text : List ℕ) (halt : Halt) (asked : List Question) → suffix ≡ Out text → 189 < length text
    → halt ≡ Ended (Unsettled cause.Address (at site t)) → Settles zones (naming_suffix site t suffix) asked asked (Err halt)
suffix_long zones site t suffix text halt asked e long is =
    subst (λ (x : Expanded). Settles zones (naming_suffix site t x) asked asked (Err halt)) (sym e)
    (settles_stopping zones asked (naming_suffix site t (Out text)) (Unsettled cause.Address (at site t)) halt is tt
    (λ counts go. ap (λ (test : Bool). go_if test (Unsettled cause.Address (at site t)) counts (λ c. named_part site t text c go)) (lt-leb (length text) 189 long)))

-- a suffix that is short enough is a name, or none
short_part : (site : Site) (t : ℕ) (text : List ℕ) (counts : Counts) (go : Labels → Run) → length text ≤ 189
    → naming_suffix site t (Out text) counts go ≡ named_part site t text counts go
short_part site t text counts go few =
    ap (λ (test : Bool). go_if test (Unsettled cause.Address (at site t)) counts (λ c. named_part site t text c go)) (le-leb (length text) 189 few)

pub suffix_unnamed : (zones : Answering) (site : Site) (t : ℕ) (suffix : Expanded) (text : List ℕ) (halt : Halt) (asked : List Question) → suffix ≡ Out text → length text ≤ 189
    → None ≡ name_of text → halt ≡ Ended (Unsettled cause.Target (at site t)) → Settles zones (naming_suffix site t suffix) asked asked (Err halt)
suffix_unnamed zones site t suffix text halt asked e few none is =
    subst (λ (x : Expanded). Settles zones (naming_suffix site t x) asked asked (Err halt)) (sym e)
    (settles_stopping zones asked (naming_suffix site t (Out text)) (Unsettled cause.Target (at site t)) halt is tt
    (λ counts go. short_part site t text counts go few ∙ ap (λ (found : Option Labels). with_name (Unsettled cause.Target (at site t)) counts found go) (sym none)))

pub suffix_named : (zones : Answering) (site : Site) (t : ℕ) (suffix : Expanded) (text : List ℕ) (name : Labels) (asked : List Question) → suffix ≡ Out text → length text ≤ 189
    → Some name ≡ name_of text → Settles zones (naming_suffix site t suffix) asked asked (Ok name)
suffix_named zones site t suffix text name asked e few some =
    subst (λ (x : Expanded). Settles zones (naming_suffix site t x) asked asked (Ok name)) (sym e)
    (settles_passing zones asked (naming_suffix site t (Out text)) name
    (λ counts go. short_part site t text counts go few ∙ ap (λ (found : Option Labels). with_name (Unsettled cause.Target (at site t)) counts found go) (sym some)))
