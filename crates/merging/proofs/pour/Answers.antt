use Rattle.std.proofs.Common.{◌≡◌, [], length, None, sym, refl, ap, ◌∙◌, subst, arith}
use Rattle.ledger.specs.Ledger.{Rising, next_row, with_rows}
use Rattle.merging.specs.Merges.{poured}
use Rattle.merging.proofs.Figures.{orderless}
use Rattle.merging.proofs.Visits.{left, next_as, visit_start, left_start, visit_on, left_on}
use Rattle.merging.proofs.pour.Goals as goal

pub loop-at-init : goal.loop-at-init
loop-at-init g c =
    let o = g.S.Row.Row.keys in
    let laws = g.met.S.Row.Row.ordered in
    let G = g.G.RowStore in
    let rows = (G.ledger c.next-at.new.self).rows in
    let same = c.next-at.ensures.same in
    let rising-rows : Rising o rows = subst (λ s. Rising o (G.ledger s).rows) (sym same) c.requires.giver.rising in
    let first : c.next-at.result ≡ next_row o None rows = c.next-at.ensures.answer ∙ ap (λ s. next_row o None (G.ledger s).rows) (sym same) in (
      c.requires.receiver,
      refl,
      visit_start o laws c.next-at.result rows first,
      ap (poured o g.S.Row.Row.joined (g.S.RowStore.ledger c.args.receiver.now)) (left_start o laws c.next-at.result rows rising-rows first),
    )

pub loop-at-smaller : goal.loop-at-smaller
loop-at-smaller g c =
    let o = g.S.Row.Row.keys in
    let G = g.G.RowStore in
    let i = c.loop-at.invariant in
    let row = c.in-Some.row in
    let rows = (G.ledger c.next-at.new.self).rows in
    let rising-rows : Rising o rows = subst (λ s. Rising o (G.ledger s).rows) (sym c.next-at.ensures.same) c.requires.giver.rising in
    let next = next_as o c.next-at-in-Some.result c.key.result row (G.ledger c.loop-at.giver).rows rows c.next-at-in-Some.ensures.answer c.key.ensures (ap (λ s. (G.ledger s).rows) i.1) in
    let step = ap length (left_on o g.met.S.Row.Row.ordered c.loop-at.at c.next-at-in-Some.result row rows rising-rows i.2 c.in-Some.is next) in
    omega arith

pub loop-at-preserved : goal.loop-at-preserved
loop-at-preserved g c =
    let o = g.S.Row.Row.keys in
    let laws = g.met.S.Row.Row.ordered in
    let join = g.S.Row.Row.joined in
    let S = g.S.RowStore in
    let G = g.G.RowStore in
    let i = c.loop-at.invariant in
    let row = c.in-Some.row in
    let rows = (G.ledger c.next-at.new.self).rows in
    let rising-rows : Rising o rows = subst (λ s. Rising o (G.ledger s).rows) (sym c.next-at.ensures.same) c.requires.giver.rising in
    let next = next_as o c.next-at-in-Some.result c.key.result row (G.ledger c.loop-at.giver).rows rows c.next-at-in-Some.ensures.answer c.key.ensures (ap (λ s. (G.ledger s).rows) i.1) in
    let step = ap (poured o join (S.ledger c.loop-at.receiver)) (left_on o laws c.loop-at.at c.next-at-in-Some.result row rows rising-rows i.2 c.in-Some.is next) in (
      c.put.ensures.kept,
      c.next-at-in-Some.ensures.same ∙ i.1,
      visit_on o laws c.loop-at.at c.next-at-in-Some.result row rows rising-rows i.2 c.in-Some.is next,
      ap (λ l. poured o join l (left o c.next-at-in-Some.result rows)) c.put.ensures.after ∙ (sym step ∙ i.3),
    )

pub returns : goal.returns
returns g c =
    let o = g.S.Row.Row.keys in
    let join = g.S.Row.Row.joined in
    let S = g.S.RowStore in
    let G = g.G.RowStore in
    let i = c.loop-at.invariant in
    let rows = (G.ledger c.next-at.new.self).rows in
    let same = c.next-at.ensures.same in
    let last = ap (λ v. poured o join (S.ledger c.loop-at.receiver) (left o v rows)) (sym c.in_default.is) in
    record {
      poured = last ∙ (i.3 ∙ ap (λ s. poured o join (S.ledger c.args.receiver.now) (G.ledger s).rows) same);
      cleared = c.clear.ensures.after ∙ ap (λ s. with_rows (G.ledger s) []) (i.1 ∙ same);
      receiver = i.0;
      giver = c.clear.ensures.kept;
      orderless = orderless o g.met.S.Row.Row.ordered join g.met.S.Row.Row.joins;
    }
