use Rattle.std.proofs.Common.{◌≡◌, ap, sym, ◌∙◌}
use Rattle.addr_bits.specs.Address.{address_of}
use Rattle.addr_bits.proofs.Families.{family_again}
use Rattle.zone_answers.specs.declared.answer.Question.{Question}
use Rattle.zone_answers.specs.declared.ask_kind.AskKind.{AskKind}
use Rattle.spf_model.specs.Judging.{reversed_question}
use Rattle.symbolic_check.proofs.Combining.{if_ok_by}
use Rattle.symbolic_check.proofs.Reversing.{reversed_walk}
use Rattle.symbolic_check.proofs.hosts.match_reversed.Goals as goal

pub returns : goal.returns
returns g c =
    let question : AskKind → Question = λ kind. record { name = c.args.suffix; kind = kind } in
    let is : question c.reversed.result ≡ reversed_question c.args.context.now.family c.args.suffix = ap question c.reversed.ensures in
    if_ok_by _ c.match_classes.result c.match_classes.ensures
    (λ new steps spec.
    reversed_walk g.W.Width.BITS c.args.context.now.zones.now c.args.context.now (address_of g.W.AddressFamily.family) c.args.term c.args.verdict spec c.args.suffix c.place-place.result (question c.reversed.result)
    c.in_ok-classes.classes c.args.states.now new c.args.asked.now c.push.new.self (λ a. family_again g.W.AddressFamily.family a ∙ sym c.requires.family) c.place-place.ensures is
    c.in_ok-push.ensures.ok c.requires.live c.in_ok-classes.ensures steps)
