use Rattle.std.proofs.Common.{IfOk, ap, sym, ◌∙◌, subst}
use Rattle.std.specs.Prelude.{filter_map, slice_get}
use Rattle.std.specs.Option.{option_copied}
use Rattle.std.proofs.lemmas.Result.{IfOk-weaker}
use Rattle.spf_grammar.specs.Grammar.{ReadAs}
use Rattle.spf_model.specs.Check.{spf_text_of}
use Rattle.cert_checker.proofs.LinkLemmas.{no_policy, policy_read}
use Rattle.cert_checker.proofs.links.read_policy.Goals as goal

pub returns-in-Some : goal.returns-in-Some
returns-in-Some c =
    IfOk-weaker c.parse.result _ _
    (λ policy reads. policy_read c.args.body.now c.in-Some.text.now policy
    (ap (λ texts. slice_get texts 0) (sym (c.in_ok-texts.ensures ∙ ap (filter_map spf_text_of) c.from_ref.ensures.value)) ∙ sym c.get.ensures ∙ ap option_copied c.in-Some.is) reads)
    (subst (λ text. IfOk c.parse.result (ReadAs text)) c.as_slice.ensures c.parse.ensures)

pub returns : goal.returns
returns c = λ any has.
    no_policy c.args.body.now any
    (ap (λ texts. slice_get texts 0) (sym (c.in_ok-texts.ensures ∙ ap (filter_map spf_text_of) c.from_ref.ensures.value)) ∙ sym c.get.ensures ∙ ap option_copied c.in-None.is) has
