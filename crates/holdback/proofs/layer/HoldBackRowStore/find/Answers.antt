use Rattle.std.proofs.Common.{Some, sym, ap, ◌∙◌}
use Rattle.ledger.specs.Ledger.{join_to}
use Rattle.holdback.proofs.LayerLaws.{holding, find_joined, find_other}
use Rattle.holdback.proofs.layer.HoldBackRowStore.find.Goals as goal

pub find-found-requires : goal.find-found-requires
find-found-requires g c = (holding g.S.Row.Row g.S.RowStore c.args.self.now c.requires).below

pub returns-then-has_key : goal.returns-then-has_key
returns-then-has_key g c =
    let q = g.S.Row.Row in
    let m = g.met.S.Row.Row in
    let s = c.args.self.now in
    record {
      answer =
          ap Some (c.join_to.ensures ∙ ap (λ x. join_to q.joined x c.in-Some.held) c.find-found.ensures.answer)
          ∙ find_joined q.keys m.ordered q.joined m.joins (g.S.RowStore.ledger s.below) (holding q g.S.RowStore s c.requires).below.rising s.held c.in-Some.held c.in-Some.is c.args.key (sym c.has_key.ensures ∙ c.if-has_key.true);
      same = ap (λ x. record { below = x; held = s.held }) c.find-found.ensures.same;
    }

pub returns-else-has_key : goal.returns-else-has_key
returns-else-has_key g c =
    let q = g.S.Row.Row in
    let m = g.met.S.Row.Row in
    let s = c.args.self.now in
    record {
      answer =
          c.find-found.ensures.answer
          ∙ find_other q.keys m.ordered q.joined m.joins (g.S.RowStore.ledger s.below) (holding q g.S.RowStore s c.requires).below.rising s.held c.args.key (sym c.has_key.ensures ∙ c.if-has_key.false);
      same = ap (λ x. record { below = x; held = s.held }) c.find-found.ensures.same;
    }
