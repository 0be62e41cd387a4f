use Rattle.std.proofs.Common.{Some, None, sym, ap, ◌∙◌, arith, subst}
use Rattle.std.specs.Option.{option_copied}
use Rattle.zone_answers.specs.Lend.{IsLeastClash}
use Rattle.zone_answers.proofs.Clashes.{step_clash, step_quiet, least_done}
use Rattle.zone_answers.proofs.zone.LentZone.least_clash.Goals.{then-has_clash+in_ok-lesser, else-has_clash}
use Rattle.zone_answers.proofs.zone.LentZone.least_clash.Goals as goal

pub loop-name-preserved : goal.loop-name-preserved
loop-name-preserved c = elim c.if-has_clash.branch [
  | then-has_clash+in_ok-lesser w ↦ step_clash c.args.self.now (option_copied c.loop-name.least) (option_copied c.if-has_clash.least) c.name-item.result _ c.as_slice-names.result.now c.loop-name.name-index (omega arith) c.name-item.is
      w.in_ok-lesser.ensures (sym w.if-has_clash.ensures) c.loop-name.invariant (ap option_copied w.least-is)
  | else-has_clash w ↦ step_quiet c.args.self.now (option_copied c.loop-name.least) (option_copied c.if-has_clash.least) c.name-item.result c.as_slice-names.result.now c.loop-name.name-index (omega arith) c.name-item.is
      (sym w.if-has_clash.ensures) c.loop-name.invariant (ap option_copied w.least-is)
]

pub returns-in_ok-clone-in-Some : goal.returns-in_ok-clone-in-Some
returns-in_ok-clone-in-Some c =
    subst (IsLeastClash c.args.self.now) (sym c.in_ok-clone-in-Some.ensures.cases)
    (least_done c.args.self.now (record { origin = c.self.inside.origin; records = c.self.inside.records.keys }) c.self.inside.nodes.entries c.as_slice-names.result.now (option_copied c.loop-name.least) (Some c.in-Some.name.now) c.loop-name.name-index
    c.self.invariant.index c.self.view_is (c.as_slice-names.ensures ∙ c.keys.ensures.rest) (omega arith) c.loop-name.invariant (ap option_copied c.in-Some.is))

pub returns-in-None : goal.returns-in-None
returns-in-None c =
    least_done c.args.self.now (record { origin = c.self.inside.origin; records = c.self.inside.records.keys }) c.self.inside.nodes.entries c.as_slice-names.result.now (option_copied c.loop-name.least) None c.loop-name.name-index
    c.self.invariant.index c.self.view_is (c.as_slice-names.ensures ∙ c.keys.ensures.rest) (omega arith) c.loop-name.invariant (ap option_copied c.in-None.is)
