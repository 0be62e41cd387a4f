use Rattle.std.proofs.Common.{rules, subst, sym, IsTrue}
use Rattle.loading.proofs.StopLemmas.{error_also, keeps_both}
use Rattle.loading.proofs.InputsLemmas.{loaded_at, stops_at}
use Rattle.loading.proofs.inputs.load_inputs.Goals as goal

pub returns-in_err-read_input-clause-stops : goal.returns-in_err-read_input-clause-stops
returns-in_err-read_input-clause-stops g c =
    let i = c.loop-input.invariant in
    let stops = error_also _ _ (λ s. stops_at (g.F.Files.seen c.args.files.now) (g.F.Files.seen c.loop-input.files)
    (g.F.Files.seen c.read_input.new.files) c.args.inputs.now c.loop-input.input-index c.input-item.result
    c.loop-input.loaded s (search rules) i.keeps i.loaded) c.in_err-read_input.field-0.0
    (rw c.input-item.is at c.in_err-read_input.ensures.stops) in
    search (rules, stops)

pub loop-input-preserved : goal.loop-input-preserved
loop-input-preserved g c =
    let i = c.loop-input.invariant in
    let e = c.in_ok-read_input.ensures in
    record {
      keeps = keeps_both _ _ _ i.keeps e.keeps;
      loaded = λ told. loaded_at (g.F.Files.seen c.args.files.now).held c.args.inputs.now c.loop-input.input-index
          c.input-item.result c.loop-input.loaded c.read_input.new.loaded (search rules) (i.loaded told)
          (rw (← c.input-item.is, ← i.keeps.held) (e.done (subst (λ u. IsTrue u) (sym i.keeps.told) told)));
    }
