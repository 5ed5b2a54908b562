use Rattle.std.proofs.Common.{sym, ap, ◌∙◌, subst, rules}
use Rattle.holdback.specs.HoldBack.{StoreKept}
use Rattle.ledger.specs.Ledger.{find_row}
use Rattle.holdback.proofs.LayerLaws.{holding, size_known, size_new}
use Rattle.holdback.proofs.layer.HoldBackRowStore.size.Goals as goal

pub size-size-requires : goal.size-size-requires
size-size-requires g c = (holding g.S.Row.Row g.S.RowStore c.args.self.now c.requires).below

pub find-requires : goal.find-requires
find-requires g c = subst (λ x. StoreKept g.S.Row.Row g.S.RowStore x) (sym c.size-size.ensures.same) (holding g.S.Row.Row g.S.RowStore c.args.self.now c.requires).below

pub overflow_add-result : goal.overflow_add-result
overflow_add-result g c = let own = holding g.S.Row.Row g.S.RowStore c.args.self.now c.requires in let below = own.below in let fits = own.fits in let within = below.within in search rules

pub returns-in-Some-find : goal.returns-in-Some-find
returns-in-Some-find g c =
    let q = g.S.Row.Row in
    let m = g.met.S.Row.Row in
    let s = c.args.self.now in
    let below = g.S.RowStore.ledger s.below in
    let found = ap (λ k. find_row q.keys k below.rows) (sym c.key.ensures) ∙ ap (λ x. find_row q.keys c.key.result (g.S.RowStore.ledger x).rows) (sym c.size-size.ensures.same) ∙ sym c.find.ensures.answer in
    record {
      answer =
          c.size-size.ensures.answer
          ∙ size_known q.keys m.ordered q.joined m.joins below (holding q g.S.RowStore s c.requires).below.rising s.held c.in-Some.held c.in-Some.is c.in-Some-find.field-0 (found ∙ c.in-Some-find.is);
      same = ap (λ x. record { below = x; held = s.held }) (c.find.ensures.same ∙ c.size-size.ensures.same);
    }

pub returns-in-None : goal.returns-in-None
returns-in-None g c =
    let q = g.S.Row.Row in
    let m = g.met.S.Row.Row in
    let s = c.args.self.now in
    let below = g.S.RowStore.ledger s.below in
    let found = ap (λ k. find_row q.keys k below.rows) (sym c.key.ensures) ∙ ap (λ x. find_row q.keys c.key.result (g.S.RowStore.ledger x).rows) (sym c.size-size.ensures.same) ∙ sym c.find.ensures.answer in
    record {
      answer = size_new q.keys m.ordered q.joined m.joins below (holding q g.S.RowStore s c.requires).below.rising s.held c.in-Some.held c.in-Some.is (found ∙ c.in-None.is) c.size-size.result c.size-size.ensures.answer;
      same = ap (λ x. record { below = x; held = s.held }) (c.find.ensures.same ∙ c.size-size.ensures.same);
    }
