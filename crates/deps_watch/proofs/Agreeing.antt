-- Whether a line agrees with zones, and the first line that does not.
use Rattle.std.specs.Prelude.{◌↔◌, IfOk, Result, Err}
use Rattle.std.proofs.Common.{◌≡◌, ℕ, ◌+◌, ◌-◌, ◌<◌, ◌≤◌, Bool, true, false, true≢false, List, [], ◌∷◌, ◌++◌, Ok, length, take, drop, get_or, refl, sym, ap, ◌∙◌, subst, arith, suc, add-one, drop-cons}
use Rattle.std.specs.List.{AllByRecursion}
use Rattle.std.proofs.lemmas.List.{take-append-drop, length-take-le}
use Rattle.addr_bits.specs.declared.address.Family.{Family}
use Rattle.addr_bits.specs.declared.address.Family.TheVariants.{V4, V6}
use Rattle.zone_answers.specs.Questions.{reversed_kind}
use Rattle.zone_answers.specs.Zone.{Zone}
use Rattle.zone_answers.specs.declared.ask_kind.AskKind.{AskKind}
use Rattle.deps_watch.specs.declared.kept.KeptLine.{KeptLine}
use Rattle.deps_watch.specs.Alike.{IsReversedText, IsText, IsTextAt}
use Rattle.deps_watch.specs.Lists.{Agrees}
use Rattle.deps_watch.specs.Freshness.{Differs, IsAgreement, IsFirstStale}
use Rattle.deps_watch.specs.Reversals.{IsReversedAgreement}

-- what holds of an answer that is no error
pub if_ok : {T E : Type 0} {P Q : T → Type 0} (r : Result T E) → ((x : T) → P x → Q x) → IfOk r P → IfOk r Q
if_ok (Ok x) f h = f x h
if_ok (Err e) f h = tt

pub agreement : (zones : List Zone) (line : KeptLine) (text : List ℕ) (same : Bool) → IsText zones line.question text → (same ≡ true) ↔ (text ≡ line.answer) → IsAgreement zones line same
agreement zones line text true is e = subst (λ (t : List ℕ). IsText zones line.question t) (e.0 refl) is
agreement zones line text false is e = record { text = text; is = is; other = λ h. true≢false (sym (e.1 h)) }

reversed_is : (zones : List Zone) (name : List (List ℕ)) (kind : AskKind) (f : Family) (text : List ℕ) → kind ≡ reversed_kind f → IsReversedText zones name f text → IsTextAt zones name kind text
reversed_is zones name kind V4 text e is = subst (λ (k : AskKind). IsTextAt zones name k text) (sym e) is
reversed_is zones name kind V6 text e is = subst (λ (k : AskKind). IsTextAt zones name k text) (sym e) is

pub reversed_agreement : (zones : List Zone) (line : KeptLine) (f : Family) (same : Bool) → line.question.kind ≡ reversed_kind f → IsReversedAgreement zones f line.question.name line.answer same → IsAgreement zones line same
reversed_agreement zones line f same e x = agreement zones line x.text same (reversed_is zones line.question.name line.question.kind f x.text e x.is) x.equal

split_at : {A : Type 0} (xs : List A) (i : ℕ) (x : A) → i < length xs → x ≡ get_or xs i x → xs ≡ take i xs ++ x ∷ drop (i + 1) xs
split_at {A} xs i x h at = sym (take-append-drop i xs) ∙ ap (λ (ys : List A). take i xs ++ ys) (rw (add-one, drop-cons xs i x) (ap (λ (y : A). y ∷ drop (suc i) xs) (sym at)))

pub first_at : (zones : List Zone) (lines : List KeptLine) (i : ℕ) (line : KeptLine) → i < length lines → line ≡ get_or lines i line → AllByRecursion (Agrees zones) (take i lines) → Differs zones line → IsFirstStale zones lines (i + 2)
first_at zones lines i line h at agree differs = record {
  front = take i lines;
  line = line;
  back = drop (i + 1) lines;
  whole = split_at lines i line h at;
  agree = agree;
  differs = differs;
  at = let n : length (take i lines) ≡ i = length-take-le i lines (omega arith) in omega arith;
}
