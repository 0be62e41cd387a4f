-- The zone that holds a name, and the steps of an answer.
use Rattle.std.proofs.Common.{◌≡◌, ℕ, zero, suc, Bool, true, false, cond, ◌||◌, List, [], ◌∷◌, find, filter_map, Option, None, Some, is_some, refl, sym, ap, ap₂, ◌∙◌, Bor, option_copied}
use Rattle.std.specs.List.{list_any}
use Rattle.dns_name.specs.Name.{IsUnder, is_under}
use Rattle.master_reader.specs.declared.record.Body.{Body}
use Rattle.master_reader.specs.declared.record.Body.TheVariants.{A, Aaaa, Mx, Txt, Cname, Ns, Other}
use Rattle.zone_answers.specs.declared.answer.QKind.{QKind}
use Rattle.zone_answers.specs.declared.answer.Answer.{Answer}
use Rattle.zone_answers.specs.declared.answer.Answer.TheVariants.{Loop}
use Rattle.zone_answers.specs.Zone.{Zone}
use Rattle.zone_answers.specs.Same.{same_name}
use Rattle.zone_answers.specs.Answers.{zone_of, or_above, in_zone, answer_within, answer_of, target_of, bodies_at}
use Rattle.zone_answers.specs.Names.{has_own_alias, is_taken, has_record_under, bodies_in}
use Rattle.zone_answers.specs.declared.answer.Step.{Step}
use Rattle.zone_answers.specs.declared.answer.Step.TheVariants.{Known, Alias}
use Rattle.zone_answers.specs.Index.{first_of, outcome_of}
use Rattle.zone_answers.specs.Reversed.{answer_below, below_in_zone}
use Rattle.zone_answers.proofs.Nodes.{same_true}

abbrev at_origin : List Zone → List (List ℕ) → Option Zone
at_origin zones name = find (λ z. same_name z.origin name) zones

pub zone_here : (zones : List Zone) (name : List (List ℕ)) (zone : Zone) → Some zone ≡ at_origin zones name → Some zone ≡ zone_of zones name
zone_here zones [] zone e = e
zone_here zones (label ∷ name) zone e = ap (λ o. or_above o (zone_of zones name)) e

found_one : (test : Zone → Bool) (z zone : Zone) (rest : Option Zone) (t : Bool) → test z ≡ t → cond t (Some z) rest ≡ Some zone → (rest ≡ Some zone → test zone ≡ true) → test zone ≡ true
found_one test z zone rest true is e more = let same : z ≡ zone = cc in ap test (sym same) ∙ is
found_one test z zone rest false is e more = more e

pub found_passes : (test : Zone → Bool) (zones : List Zone) (zone : Zone) → find test zones ≡ Some zone → test zone ≡ true
found_passes test [] zone e = absurd cc
found_passes test (z ∷ zones) zone e = found_one test z zone (find test zones) (test z) refl e (found_passes test zones zone)

under_origin : (zone : Zone) (name : List (List ℕ)) → same_name zone.origin name ≡ true → IsUnder name zone.origin
under_origin zone name h = ([], sym (same_true zone.origin name h))

under_either : (label : List ℕ) (name : List (List ℕ)) (zone : Zone) (here above : Option Zone) → or_above here above ≡ Some zone → (here ≡ Some zone → IsUnder (label ∷ name) zone.origin) → (above ≡ Some zone → IsUnder name zone.origin) → IsUnder (label ∷ name) zone.origin
under_either label name zone (Some z) above e f g = f e
under_either label name zone None above e f g = let u = g e in (label ∷ u.0, ap (λ (l : List (List ℕ)). label ∷ l) u.1)

pub zone_under : (zones : List Zone) (name : List (List ℕ)) (zone : Zone) → zone_of zones name ≡ Some zone → IsUnder name zone.origin
zone_under zones [] zone e = under_origin zone [] (found_passes (λ z. same_name z.origin []) zones zone e)
zone_under zones (label ∷ name) zone e =
    under_either label name zone (at_origin zones (label ∷ name)) (zone_of zones name) e
    (λ h. under_origin zone (label ∷ name) (found_passes (λ z. same_name z.origin (label ∷ name)) zones zone h))
    (zone_under zones name zone)

-- ---- alias steps

-- the answer after at most so many questions
pub within : ℕ → List Zone → List (List ℕ) → QKind → Answer
within zero zones name kind = Loop
within (suc n) zones name kind = in_zone kind (λ target. within n zones target kind) name (zone_of zones name)

within_is : (n : ℕ) (zones : List Zone) (name : List (List ℕ)) (kind : QKind) → within (suc n) zones name kind ≡ answer_within n zones name kind
unfolding within
within_is zero zones name kind = refl
within_is (suc n) zones name kind = λ i. in_zone kind (λ target. within_is n zones target kind i) name (zone_of zones name)

pub within_first : (n k : ℕ) (zones : List Zone) (name : List (List ℕ)) (kind : QKind) → suc n ≡ k → answer_within n zones name kind ≡ within k zones name kind
within_first n k zones name kind e = sym (within_is n zones name kind) ∙ ap (λ m. within m zones name kind) e

-- the answer of 8 steps
pub eight_steps : (zones : List Zone) (name : List (List ℕ)) (kind : QKind) → answer_within 8 zones name kind ≡ answer_of zones name kind
unfolding answer_of
eight_steps zones name kind = refl

pub within_more : (k m : ℕ) (zones : List Zone) (name : List (List ℕ)) (kind : QKind) → k ≡ suc m → within k zones name kind ≡ in_zone kind (λ target. within m zones target kind) name (zone_of zones name)
unfolding within
within_more k m zones name kind e = ap (λ n. within n zones name kind) e

pub within_none : (k : ℕ) (zones : List Zone) (name : List (List ℕ)) (kind : QKind) → k ≡ 0 → within k zones name kind ≡ Loop
unfolding within
within_none k zones name kind e = ap (λ n. within n zones name kind) e

-- ---- the calls beside the answer

has_alias : (bodies : List Body) → is_some (first_of (filter_map target_of bodies)) ≡ list_any (λ body. is_some (target_of body)) bodies
has_alias [] = refl
has_alias ((A n) ∷ bodies) = has_alias bodies
has_alias ((Aaaa n) ∷ bodies) = has_alias bodies
has_alias ((Mx p x) ∷ bodies) = has_alias bodies
has_alias ((Txt s) ∷ bodies) = has_alias bodies
has_alias ((Cname x) ∷ bodies) = refl
has_alias ((Ns x) ∷ bodies) = has_alias bodies
has_alias (Other ∷ bodies) = has_alias bodies

pub own_alias_is : (zones : List Zone) (zone : Zone) (name : List (List ℕ)) (alias : Option (List (List ℕ))) → Some zone ≡ zone_of zones name → alias ≡ first_of (filter_map target_of (bodies_at zone name)) → is_some alias ≡ has_own_alias zones name
own_alias_is zones zone name alias e h = ap is_some h ∙ has_alias (bodies_at zone name) ∙ ap (λ o. list_any (λ body. is_some (target_of body)) (bodies_in o name)) e

pub copied_some : {X : Type 0} (o : Option (Bor X)) → is_some o ≡ is_some (option_copied o)
copied_some None = refl
copied_some (Some x) = refl

pub taken_is : (zones : List Zone) (name : List (List ℕ)) (held under : Bool) → held ≡ has_record_under (zone_of zones name) name → under ≡ list_any (λ z. is_under z.origin name) zones → held ≡ false → under ≡ is_taken zones name
taken_is zones name held under h u f = ap₂ (λ (a b : Bool). a || b) (sym f ∙ h) u

-- ---- the answer below a name

pub below_known : (zones : List Zone) (name : List (List ℕ)) (kind : QKind) (step : Step) (answer : Answer)
    → ((follow : List (List ℕ) → Answer) → outcome_of follow step ≡ below_in_zone kind follow name (zone_of zones name)) → step ≡ Known answer → answer ≡ answer_below zones name kind
unfolding answer_below
below_known zones name kind step answer h e =
    let follow : List (List ℕ) → Answer = λ target. answer_within 7 zones target kind in sym (sym (h follow) ∙ ap (outcome_of follow) e)

pub below_alias : (zones : List Zone) (name target : List (List ℕ)) (kind : QKind) (step : Step) (answer : Answer)
    → ((follow : List (List ℕ) → Answer) → outcome_of follow step ≡ below_in_zone kind follow name (zone_of zones name)) → step ≡ Alias target
    → answer ≡ answer_within 7 zones target kind → answer ≡ answer_below zones name kind
unfolding answer_below
below_alias zones name target kind step answer h e is =
    let follow : List (List ℕ) → Answer = λ n. answer_within 7 zones n kind in is ∙ sym (sym (h follow) ∙ ap (outcome_of follow) e)
