use Rattle.std.proofs.Common.{refl, sym, ap, ◌∙◌, true, false}
use Rattle.std.specs.List.{concat}
use Rattle.spf_text.specs.Version.{is_spf_text}
use Rattle.zone_answers.proofs.Texts.{other_spf, spf_seven}
use Rattle.zone_answers.proofs.text.other_len.Goals as goal

pub returns-then-is_spf-clause-other : goal.returns-then-is_spf-clause-other
returns-then-is_spf-clause-other c = other_spf c.args.body.now c.in-Txt.strings 0 true c.in-Txt.is
    (sym (spf_seven (concat c.in-Txt.strings)) ∙ sym (ap is_spf_text (c.deref.ensures.0 ∙ c.first_octets.ensures)) ∙ sym c.if-is_spf.ensures) refl

pub returns-clause-other : goal.returns-clause-other
returns-clause-other c = other_spf c.args.body.now c.in-Txt.strings c.joined_len.result false c.in-Txt.is
    (sym (spf_seven (concat c.in-Txt.strings)) ∙ sym (ap is_spf_text (c.deref.ensures.0 ∙ c.first_octets.ensures)) ∙ sym c.if-is_spf.ensures) c.joined_len.ensures.joined
