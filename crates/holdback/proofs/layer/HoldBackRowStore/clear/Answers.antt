use Rattle.holdback.proofs.LayerLaws.{holding}
use Rattle.holdback.proofs.layer.HoldBackRowStore.clear.Goals as goal

pub clear-requires : goal.clear-requires
clear-requires g c = (holding g.S.Row.Row g.S.RowStore c.args.self.now c.requires).below
