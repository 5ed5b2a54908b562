use Rattle.std.proofs.Common.{◌≡◌, ◌+◌, ◌<◌, length, get_or, set, sym, ap, ◌∙◌, subst, arith, length-set, rules}
use Rattle.std.proofs.lemmas.List.{get_or-set_other}
use Rattle.statement.specs.Board.{no_tally}
use Rattle.statement.proofs.Boards.{join_from, join_next, join_done}
use Rattle.statement.proofs.board.join_tallies.Goals as goal

pub join-requires : goal.join-requires
join-requires c =
    let same = c.loop-i.invariant.1 c.loop-i.i (omega arith) in
    subst (λ t. t.count + (get_or c.args.theirs c.loop-i.i no_tally).count < 4294967296) (sym same) (c.requires c.loop-i.i)

pub loop-i-preserved : goal.loop-i-preserved
loop-i-preserved c =
    let i = c.loop-i.invariant in
    let all = i.2 in
    let theirs : length c.args.theirs ≡ 12 = search rules in
    let new = ap (set c.loop-i.mine c.loop-i.i) c.join.ensures in
    let test = c.loop-i-test.true in (
      ap (λ ts. join_from (c.loop-i.i + 1) ts c.args.theirs) new
          ∙ (sym (join_next c.loop-i.i c.loop-i.mine c.args.theirs (omega arith) (omega arith)) ∙ i.0),
      (λ j l. get_or-set_other c.loop-i.mine c.loop-i.i j _ no_tally (λ e. absurd (omega arith)) ∙ i.1 j (omega arith)),
      length-set c.loop-i.mine c.loop-i.i _ ∙ all,
    )

pub returns : goal.returns
returns c =
    let all = c.loop-i.invariant.2 in
    let theirs : length c.args.theirs ≡ 12 = search rules in
    let end = c.loop-i-test.false in
    sym (join_done c.loop-i.i c.loop-i.mine c.args.theirs (omega arith) (omega arith)) ∙ c.loop-i.invariant.0
