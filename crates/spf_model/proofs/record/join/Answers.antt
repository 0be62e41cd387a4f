use Rattle.std.proofs.Common.{◌≡◌, ℕ, List, ◌++◌, ◌+◌, ◌<◌, take, get_or, length, append-nil, add-one, refl, sym, ap, ◌∙◌}
use Rattle.std.specs.List.{concat}
use Rattle.std.proofs.lemmas.List.Folds.{concat-append}
use Rattle.std.proofs.Math.Seq.{take-suc}
use Rattle.spf_model.proofs.record.join.Goals as goal

-- one more string is joined
joined_more : (s : List (List ℕ)) (i : ℕ) (x : List ℕ) → i < length s → x ≡ get_or s i x → concat (take (i + 1) s) ≡ concat (take i s) ++ x
joined_more s i x within e = rw (add-one, take-suc s i x within, ← e) (rw (concat-append, append-nil) refl)

pub loop-string-preserved : goal.loop-string-preserved
loop-string-preserved c =
    c.in_ok-extend_from_slice.ensures.ok ∙ ap (λ (front : List ℕ). front ++ c.as_slice.result.now) c.loop-string.invariant
    ∙ ap (λ (back : List ℕ). concat (take c.loop-string.string-index c.args.strings.now) ++ back) c.as_slice.ensures
    ∙ sym (joined_more c.args.strings.now c.loop-string.string-index c.string-item.result c.loop-string-test.true c.string-item.is)
