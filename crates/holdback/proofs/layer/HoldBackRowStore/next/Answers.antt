use Rattle.std.proofs.Common.{sym, ap, ◌∙◌}
use Rattle.ledger.specs.Ledger.{is_next, earlier}
use Rattle.holdback.proofs.LayerLaws.{holding, next_held, next_below}
use Rattle.holdback.proofs.layer.HoldBackRowStore.next.Goals as goal

pub next-found-requires : goal.next-found-requires
next-found-requires g c = (holding g.S.Row.Row g.S.RowStore c.args.self.now c.requires).below

pub returns-then-is_next : goal.returns-then-is_next
returns-then-is_next g c =
    let q = g.S.Row.Row in
    let m = g.met.S.Row.Row in
    let s = c.args.self.now in
    record {
      answer =
          c.earlier.ensures ∙ ap (earlier q.keys q.joined c.in-Some.held) c.next-found.ensures.answer
          ∙ next_held q.keys m.ordered q.joined m.joins (g.S.RowStore.ledger s.below) (holding q g.S.RowStore s c.requires).below.rising s.held c.in-Some.held c.in-Some.is c.args.after.now
          (ap (is_next q.keys c.args.after.now) (sym c.key.ensures) ∙ sym c.is_next.ensures ∙ c.if-is_next.true);
      same = ap (λ x. record { below = x; held = s.held }) c.next-found.ensures.same;
    }

pub returns-else-is_next : goal.returns-else-is_next
returns-else-is_next g c =
    let q = g.S.Row.Row in
    let m = g.met.S.Row.Row in
    let s = c.args.self.now in
    record {
      answer =
          c.next-found.ensures.answer
          ∙ next_below q.keys m.ordered q.joined m.joins (g.S.RowStore.ledger s.below) (holding q g.S.RowStore s c.requires).below.rising s.held c.in-Some.held c.in-Some.is c.args.after.now
          (ap (is_next q.keys c.args.after.now) (sym c.key.ensures) ∙ sym c.is_next.ensures ∙ c.if-is_next.false);
      same = ap (λ x. record { below = x; held = s.held }) c.next-found.ensures.same;
    }
