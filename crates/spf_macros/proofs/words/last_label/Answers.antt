use Rattle.std.proofs.Common.{rules, tests, ◌≡◌, ℕ, ◌==◌, ◌<◌, List, [], ◌∷◌, length, Option, Some, None, fold, Bor, refl, ap, ◌∙◌, arith}
use Rattle.std.specs.Option.{option_map, unwrap_or}
use Rattle.std.specs.List.{last_or, slice_split}
use Rattle.std.proofs.lemmas.List.Splits.{length-slice_split}
use Rattle.std.proofs.lemmas.Iterator.Adapters.{total_from_yields_List}
use Rattle.std.proofs.lemmas.Iterator.Splits.{YieldsList-from_slice_split}
use Rattle.spf_macros.specs.Words.{last_label}
use Rattle.spf_macros.proofs.words.last_label.Goals as goal

-- the last item, as a fold
last_as_fold : {A B : Type 0} (view : A → B) (o : Option A) (xs : List A) → option_map view (last_or o xs) ≡ fold (λ (a : Option B) x. Some (view x)) (option_map view o) xs
last_as_fold view o [] = refl
last_as_fold view o (x ∷ xs) = last_as_fold view (Some x) xs

last_is : (o : Option (List ℕ)) (label : List ℕ) (labels : List (List ℕ)) → fold (λ (a : Option (List ℕ)) l. Some l) o (label ∷ labels) ≡ Some (last_label (label ∷ labels))
last_is o label [] = refl
last_is o label (next ∷ labels) = last_is (Some label) next labels

last_of_some : (labels : List (List ℕ)) → 0 < length labels → fold (λ (a : Option (List ℕ)) l. Some l) None labels ≡ Some (last_label labels)
last_of_some [] some = absurd (omega arith)
last_of_some (label ∷ labels) some = last_is None label labels

-- the text behind the reference, where there is one
unwrapped : (r : Option (Bor (List ℕ))) (other : Bor (List ℕ)) (label : List ℕ) → option_map (λ x. x.now) r ≡ Some label → (unwrap_or r other).now ≡ label
unwrapped None other label e = cc
unwrapped (Some x) other label e = cc

pub returns : goal.returns
returns c =
    let ran = c.last.ensures.ran in
    let folded = ap (option_map (λ (x : Bor (List ℕ)). x.now)) ran.2 ∙ last_as_fold (λ (x : Bor (List ℕ)). x.now) None ran.0 in
    ap (λ (x : Bor (List ℕ)). x.now) c.unwrap_or.ensures
    ∙ unwrapped c.last.result c.args.text _
    (total_from_yields_List (λ (a : Option (List ℕ)) l. Some l) None _ (ran.0, λ _. ran.1, folded)
    (YieldsList-from_slice_split _ (λ b. b == 46) c.args.text.now c.split.ensures.rest c.split.ensures.done c.split.ensures.closure (λ x r q k. search (rules, tests)))
    ∙ last_of_some (slice_split (λ b. b == 46) c.args.text.now) (omega (arith, length-slice_split (λ b. b == 46) c.args.text.now)))
