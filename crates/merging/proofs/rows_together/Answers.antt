use Rattle.std.proofs.Common.{◌≡◌, cond, length, Some, None, sym, refl, ap, ◌∙◌, subst, arith}
use Rattle.ledger.specs.Ledger.{Rising, holds, next_row}
use Rattle.merging.proofs.Sizes.{shared, length_merge}
use Rattle.merging.proofs.Visits.{next_as, visit_start, left_start, visit_on, left_on}
use Rattle.merging.proofs.rows_together.Goals as goal

pub loop-at-init : goal.loop-at-init
loop-at-init g c =
    let o = g.S.Row.Row.keys in
    let laws = g.met.S.Row.Row.ordered in
    let S = g.S.RowStore in
    let G = g.G.RowStore in
    let mine = (S.ledger c.size.new.self).rows in
    let rows = (G.ledger c.next-at.new.self).rows in
    let same = c.next-at.ensures.same ∙ c.size-2.ensures.same in
    let rising-mine : Rising o mine = subst (λ s. Rising o (S.ledger s).rows) (sym c.size.ensures.same) c.requires.receiver.rising in
    let rising-rows : Rising o rows = subst (λ s. Rising o (G.ledger s).rows) (sym same) c.requires.giver.rising in
    let first : c.next-at.result ≡ next_row o None rows = c.next-at.ensures.answer ∙ ap (λ s. next_row o None (G.ledger s).rows) (sym c.next-at.ensures.same) in
    let all = ap (shared o mine) (left_start o laws c.next-at.result rows rising-rows first) in
    let sum = length_merge o laws g.S.Row.Row.joined g.met.S.Row.Row.joins mine rows rising-mine rising-rows in
    let a : c.size.result.rows ≡ length mine = ap (λ z. z.rows) c.size.ensures.answer ∙ ap (λ s. length (S.ledger s).rows) (sym c.size.ensures.same) in
    let b : c.size-2.result.rows ≡ length rows = ap (λ z. z.rows) c.size-2.ensures.answer ∙ ap (λ s. length (G.ledger s).rows) (sym same) in (
      refl,
      refl,
      visit_start o laws c.next-at.result rows first,
      omega arith,
    )

pub overflow_sub-together : goal.overflow_sub-together
overflow_sub-together g c =
    let o = g.S.Row.Row.keys in
    let laws = g.met.S.Row.Row.ordered in
    let S = g.S.RowStore in
    let G = g.G.RowStore in
    let i = c.loop-at.invariant in
    let row = c.in-Some.row in
    let mine = (S.ledger c.size.new.self).rows in
    let rows = (G.ledger c.next-at.new.self).rows in
    let rising-rows : Rising o rows = subst (λ s. Rising o (G.ledger s).rows) (sym (c.next-at.ensures.same ∙ c.size-2.ensures.same)) c.requires.giver.rising in
    let step = ap (shared o mine) (left_on o laws c.loop-at.at (next_row o (Some (o.key_of row)) rows) row rows rising-rows i.2 c.in-Some.is refl) in
    let one = c.held-together.ensures.answer ∙ ap (λ s. cond (holds o (o.key_of row) (S.ledger s).rows) 1 0) i.0 in
    let sum = i.3 in
    omega arith

pub loop-at-smaller : goal.loop-at-smaller
loop-at-smaller g c =
    let o = g.S.Row.Row.keys in
    let G = g.G.RowStore in
    let i = c.loop-at.invariant in
    let row = c.in-Some.row in
    let rows = (G.ledger c.next-at.new.self).rows in
    let rising-rows : Rising o rows = subst (λ s. Rising o (G.ledger s).rows) (sym (c.next-at.ensures.same ∙ c.size-2.ensures.same)) c.requires.giver.rising in
    let next = next_as o c.next-at-in-Some.result c.key.result row (G.ledger c.loop-at.giver).rows rows c.next-at-in-Some.ensures.answer c.key.ensures (ap (λ s. (G.ledger s).rows) i.1) in
    let step = ap length (left_on o g.met.S.Row.Row.ordered c.loop-at.at c.next-at-in-Some.result row rows rising-rows i.2 c.in-Some.is next) in
    omega arith

pub loop-at-preserved : goal.loop-at-preserved
loop-at-preserved g c =
    let o = g.S.Row.Row.keys in
    let laws = g.met.S.Row.Row.ordered in
    let S = g.S.RowStore in
    let G = g.G.RowStore in
    let i = c.loop-at.invariant in
    let row = c.in-Some.row in
    let mine = (S.ledger c.size.new.self).rows in
    let rows = (G.ledger c.next-at.new.self).rows in
    let rising-rows : Rising o rows = subst (λ s. Rising o (G.ledger s).rows) (sym (c.next-at.ensures.same ∙ c.size-2.ensures.same)) c.requires.giver.rising in
    let next = next_as o c.next-at-in-Some.result c.key.result row (G.ledger c.loop-at.giver).rows rows c.next-at-in-Some.ensures.answer c.key.ensures (ap (λ s. (G.ledger s).rows) i.1) in
    let step = ap (shared o mine) (left_on o laws c.loop-at.at c.next-at-in-Some.result row rows rising-rows i.2 c.in-Some.is next) in
    let one = c.held-together.ensures.answer ∙ ap (λ s. cond (holds o (o.key_of row) (S.ledger s).rows) 1 0) i.0 in
    let sum = i.3 in (
      c.held-together.ensures.same ∙ i.0,
      c.next-at-in-Some.ensures.same ∙ i.1,
      visit_on o laws c.loop-at.at c.next-at-in-Some.result row rows rising-rows i.2 c.in-Some.is next,
      omega arith,
    )
