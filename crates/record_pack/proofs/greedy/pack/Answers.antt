use Rattle.std.proofs.Common.{◌≡◌, ◌+◌, ◌-◌, ◌≤◌, List, [], ◌∷◌, length, take, drop, true≢false, sym, ◌∙◌, subst, arith, length-append, length-drop}
use Rattle.std.proofs.lemmas.List.{take_rest}
use Rattle.spf_grammar.specs.declared.flat.FlatTerm.{FlatTerm}
use Rattle.record_pack.specs.Records.{IsFittingCut, TakeMost}
use Rattle.record_pack.proofs.Fewest.{Leads, NoMore, Led, led_push, led_most, all_go_on, none_fits, fitting_cut, taken_leads, taken_most}
use Rattle.record_pack.proofs.greedy.pack.Goals as goal

pub returns-then-fits-clause-fits : goal.returns-then-fits-clause-fits
returns-then-fits-clause-fits c =
    let i = c.loop-index.invariant in
    let few : c.loop-index.index ≤ 10 = omega (arith, c.loop-index-test.true) in
    subst (λ ends. IsFittingCut c.args.domain.now c.args.label.now c.args.size c.args.others c.args.list.now ends) (sym c.in_ok-push.ensures.ok)
    (fitting_cut c.args.domain.now c.args.label.now c.args.size c.args.others c.args.list.now c.loop-index.from c.loop-index.ends c.loop-index.index i.led i.count few i.within (c.fits.ensures.0 c.if-fits.true))

pub returns-then-fits-clause-greedy : goal.returns-then-fits-clause-greedy
returns-then-fits-clause-greedy c =
    subst (λ ends. TakeMost c.args.domain.now c.args.label.now c.args.size c.args.others c.args.list.now 0 0 ends) (sym c.in_ok-push.ensures.ok)
    (led_most c.args.domain.now c.args.label.now c.args.size c.args.others c.args.list.now 0 0 c.loop-index.ends c.loop-index.from (length c.args.list.now) c.loop-index.invariant.led)

pub returns-in_default-clause-too_big : goal.returns-in_default-clause-too_big
returns-in_default-clause-too_big c _ other =
    let i = c.loop-index.invariant in
    none_fits c.args.domain.now c.args.label.now c.args.size c.args.others c.args.list.now c.loop-index.index c.loop-index.from i.within i.all
    (λ close. true≢false (sym (c.fits.ensures.1 close) ∙ c.if-fits.false)) c.in_default.ensures other

pub loop-index-preserved : goal.loop-index-preserved
loop-index-preserved c =
    let i = c.loop-index.invariant in
    let behind : take (length c.args.list.now - c.loop-index.from) (drop c.loop-index.from c.args.list.now) ≡ drop c.loop-index.from c.args.list.now = take_rest c.args.list.now c.loop-index.from in
    let most : NoMore c.args.domain.now c.args.label.now c.args.size c.args.others c.args.list.now c.loop-index.index c.loop-index.from (c.loop-index.from + c.taken-from.result) =
    taken_most c.args.domain.now c.args.label.now c.args.size c.args.others c.args.list.now c.loop-index.index c.loop-index.from c.taken-from.result c.in-Some.room _ behind c.in-Some.ensures c.taken-from.ensures.most in
    let leads : Leads c.args.domain.now c.args.label.now c.args.size c.args.others c.args.list.now c.loop-index.index c.loop-index.from (c.loop-index.from + c.taken-from.result) =
    taken_leads c.args.domain.now c.args.label.now c.args.size c.args.others c.args.list.now c.loop-index.index c.loop-index.from c.taken-from.result c.in-Some.room _ behind c.in-Some.ensures c.taken-from.ensures.enough in
    let within : c.loop-index.from + c.taken-from.result ≤ length c.args.list.now =
    let slice : c.taken-from.result ≤ length (drop c.loop-index.from c.args.list.now) = subst (λ (ts : List FlatTerm). c.taken-from.result ≤ length ts) behind c.taken-from.ensures.within in
    omega (arith, slice, i.within, length-drop c.loop-index.from c.args.list.now) in
    record {
      led = subst (λ ends. Led c.args.domain.now c.args.label.now c.args.size c.args.others c.args.list.now 0 0 ends (c.loop-index.from + c.taken-from.result)) (sym c.in_ok-push-2.ensures.ok)
          (led_push c.args.domain.now c.args.label.now c.args.size c.args.others c.args.list.now 0 0 c.loop-index.ends c.loop-index.from (c.loop-index.from + c.taken-from.result) c.loop-index.index i.led
          (omega (arith, i.count)) (omega arith) within leads most);
      count = subst (λ ends. length ends ≡ c.loop-index.index + 1) (sym c.in_ok-push-2.ensures.ok) (omega (arith, i.count, length-append c.loop-index.ends ((c.loop-index.from + c.taken-from.result) ∷ [])));
      within = within;
      all = all_go_on c.args.domain.now c.args.label.now c.args.size c.args.others c.args.list.now c.loop-index.index c.loop-index.from (c.loop-index.from + c.taken-from.result) (omega arith) i.within i.all
          (λ close. true≢false (sym (c.fits.ensures.1 close) ∙ c.if-fits.false)) most;
    }
