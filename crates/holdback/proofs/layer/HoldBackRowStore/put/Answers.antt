use Rattle.std.proofs.Common.{◌≡◌, true, false, Some, sym, refl, ap, ◌∙◌, subst}
use Rattle.ledger.specs.Ledger.{Kept, placed, takes, size_of, find_row, has_key}
use Rattle.ledger.specs.Ledgers.{put_kept}
use Rattle.holdback.specs.HoldBack.{Layer, after_put, whole, layer_of, ledger_of, Holding}
use Rattle.holdback.proofs.LayerLaws.{holding, joined_taken, joined_fits, put_joins, put_holds, none_held, whole_put, takes_by}
use Rattle.holdback.proofs.layer.HoldBackRowStore.put.Goals as goal

pub pass_down-requires : goal.pass_down-requires
pass_down-requires g c = subst (λ x. Holding g.S.Row.Row g.S.RowStore x) (sym (c.size-size.ensures.same ∙ c.find-known.ensures.same)) (holding g.S.Row.Row g.S.RowStore c.args.self.now c.requires)

pub returns-then-has_key : goal.returns-then-has_key
returns-then-has_key g c =
    let q = g.S.Row.Row in
    let m = g.met.S.Row.Row in
    let below = g.S.RowStore in
    let s = c.args.self.now in
    let r = c.args.row in
    let own = holding q below s c.requires in
    let same_key : has_key q.keys (q.keys.key_of r) s.held ≡ true = ap (λ k. has_key q.keys k s.held) (sym c.key.ensures) ∙ sym c.has_key.ensures ∙ c.if-has_key.true in
    let layer : ◌≡◌ {A = Layer g.row.S-Row.Denot} (record { below = below.ledger s.below; held = Some c.join_to.result }) (after_put q.keys q.joined r (layer_of below s)) =
    ap (λ x. record { below = below.ledger s.below; held = Some x }) c.join_to.ensures ∙ sym (put_joins q.keys q.joined r (layer_of below s) same_key) in
    let after = ap (whole q.keys q.joined) layer ∙ whole_put q.keys q.joined r (layer_of below s) m.ordered m.joins own.below.rising in
    record {
      answer = ap (placed r) (sym (joined_taken q.keys m.ordered q.joined m.joins (below.ledger s.below) own.below.rising s.held r same_key));
      after = after;
      same = tt;
      kept =
          subst (λ l. Kept q.keys l (Holding q below (record { below = s.below; held = Some c.join_to.result }))) (sym after)
          (put_kept q.keys m.ordered q.joined m.joins r (ledger_of q below s) (Holding q below s) (Holding q below (record { below = s.below; held = Some c.join_to.result })) c.requires
          (record {
            below = own.below;
            fits =
                ap (λ x. takes q.keys x (below.ledger s.below)) c.join_to.ensures
                ∙ joined_fits q.keys m.ordered q.joined m.joins (below.ledger s.below) own.below.rising s.held r same_key own.fits;
          }));
      layer = layer;
      still = λ _. refl;
    }

pub returns : goal.returns
returns g c =
    let q = g.S.Row.Row in
    let m = g.met.S.Row.Row in
    let below = g.S.RowStore in
    let s = c.args.self.now in
    let r = c.args.row in
    let d = c.pass_down.new.self in
    let other : has_key q.keys (q.keys.key_of r) s.held ≡ false = ap (λ k. has_key q.keys k s.held) (sym c.key.ensures) ∙ sym c.has_key.ensures ∙ c.if-has_key.false in
    let known = c.find-known.ensures in
    let size = c.size-size.ensures in
    let unmoved : c.size-size.new.self ≡ s = size.same ∙ known.same in
    let passed : below.ledger d.below ≡ ledger_of q below s = c.pass_down.ensures.below ∙ ap (ledger_of q below) unmoved in
    let taken : takes q.keys r (ledger_of q below s) ≡ true =
    takes_by q.keys r (ledger_of q below s) c.find-known.result (known.answer ∙ ap (λ k. find_row q.keys k (ledger_of q below s).rows) c.key-2.ensures) c.is_none.result c.is_none.ensures
    c.size-size.result (size.answer ∙ ap (λ x. size_of (ledger_of q below x)) known.same) c.else-is_none.either in
    let layer : ◌≡◌ {A = Layer g.row.S-Row.Denot} (record { below = below.ledger d.below; held = Some r }) (after_put q.keys q.joined r (layer_of below s)) =
    ap (λ x. record { below = x; held = Some r }) passed ∙ sym (put_holds q.keys q.joined r (layer_of below s) other taken) in
    let after = ap (whole q.keys q.joined) layer ∙ whole_put q.keys q.joined r (layer_of below s) m.ordered m.joins (holding q g.S.RowStore s c.requires).below.rising in
    record {
      answer = ap (placed r) (sym taken);
      after = after;
      same = tt;
      kept =
          subst (λ l. Kept q.keys l (Holding q below (record { below = d.below; held = Some r }))) (sym after)
          (put_kept q.keys m.ordered q.joined m.joins r (ledger_of q below s) (Holding q below s) (Holding q below (record { below = d.below; held = Some r })) c.requires
          (record { below = c.pass_down.ensures.kept; fits = ap (takes q.keys r) passed ∙ taken }));
      layer = layer;
      still = λ stays. c.pass_down.ensures.still (ap (λ x. x.held) unmoved ∙ none_held q.keys q.joined r (layer_of below s) other taken stays) ∙ ap (λ x. x.below) unmoved;
    }
