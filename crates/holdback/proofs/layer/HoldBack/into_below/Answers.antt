use Rattle.holdback.proofs.LayerLaws.{holding}
use Rattle.holdback.proofs.layer.HoldBack.into_below.Goals as goal

pub pass_down-requires : goal.pass_down-requires
pass_down-requires g c = holding g.S.Row.Row g.S.RowStore c.args.self c.requires
