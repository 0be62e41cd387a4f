use Rattle.std.proofs.Common.{sym, ◌∙◌, List, ℕ, length, ◌≤◌, subst, arith}
use Rattle.std.proofs.lemmas.List.{nil_from_length}
use Rattle.spf_model.specs.Run.{says}
use Rattle.spf_model.proofs.Records.{one_item}
use Rattle.spf_model.proofs.Finding.{no_text, many_texts}
use Rattle.spf_model.proofs.context.RecordContext.choose_record.Goals as goal

pub returns-in-empty-clause-chosen : goal.returns-in-empty-clause-chosen
returns-in-empty-clause-chosen c = λ asked a.
    no_text (says c.args.self.now.zones.now a) c.args.self.now.name.now _ c.nothing.result asked
    (sym c.in_ok-texts.ensures ∙ sym c.as_slice.ensures ∙ nil_from_length c.as_slice.result.now (omega (arith, c.in-empty.len_below))) c.nothing.ensures

pub returns-in-len1-clause-chosen : goal.returns-in-len1-clause-chosen
returns-in-len1-clause-chosen c = λ asked a.
    let e = one_item c.as_slice.result.now c.text-item.result c.in-len1.len_at_least c.in-len1.len_below c.text-item.is in
    rw (← c.in_ok-texts.ensures, ← c.as_slice.ensures, e) (rw c.as_slice-in-len1.ensures at c.read_record.ensures.read asked a)

pub returns-clause-chosen : goal.returns-clause-chosen
returns-clause-chosen c = λ asked a.
    many_texts (says c.args.self.now.zones.now a) c.args.self.now.name.now _ c.error.result asked
    (subst (λ (texts : List (List ℕ)). 2 ≤ length texts) (c.as_slice.ensures ∙ c.in_ok-texts.ensures) c.in_default.len_at_least) c.error.ensures
