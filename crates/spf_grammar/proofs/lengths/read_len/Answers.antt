use Rattle.std.proofs.Common.{◌≢◌, [], length, Some, None, sym, ap, ◌∙◌}
use Rattle.std.proofs.lemmas.Bool.{eqb-false}
use Rattle.std.proofs.lemmas.Bool.Decides.{Decides-eqb}
use Rattle.std.proofs.lemmas.Slice.Eq.{strip_prefix_is}
use Rattle.spf_grammar.proofs.Numbers.{len_read, len_refused}
use Rattle.spf_grammar.proofs.lengths.read_len.Goals as goal

pub returns-in_err-digits : goal.returns-in_err-digits
returns-in_err-digits c =
    let some : c.args.text.now ≢ [] = λ e. eqb-false (length c.args.text.now) 0 (sym c.is_empty.ensures ∙ c.if-is_empty.false) (ap length e) in
    rw c.from_residual.ensures (len_refused c.args.slash.now c.args.text.now c.args.most some (strip_prefix_is Decides-eqb c.args.text.now c.args.slash.now None c.in_err-digits.ensures.cases))

pub returns : goal.returns
returns c =
    let some : c.args.text.now ≢ [] = λ e. eqb-false (length c.args.text.now) 0 (sym c.is_empty.ensures ∙ c.if-is_empty.false) (ap length e) in
    len_read c.args.slash.now c.args.text.now c.in_ok-digits.digits.now c.args.most c.read_number.result some (strip_prefix_is Decides-eqb c.args.text.now c.args.slash.now (Some c.in_ok-digits.digits) c.in_ok-digits.ensures.cases) c.read_number.ensures
