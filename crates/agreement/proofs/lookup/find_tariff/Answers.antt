use Rattle.std.proofs.Common.{not, take, sym, ap, ◌∙◌, arith, rules}
use Rattle.std.proofs.lemmas.List.Sorted.{IsPartitionPoint-from_clause}
use Rattle.std.proofs.lemmas.Slice.Eq.{bytes_eq-Decides}
use Rattle.agreement.proofs.OrderLaws.{at_most, absurd_bool, not_false, key_at}
use Rattle.agreement.proofs.TariffLaws.{keys_parted, tariff_no_rows, tariff_other, tariff_found}
use Rattle.agreement.proofs.lookup.find_tariff.Goals as goal

pub returns-in_err-last : goal.returns-in_err-last
returns-in_err-last c =
    let parted = keys_parted c.args.rows.now c.requires c.told-rows c.args.point c.args.descriptor c.args.day c.key_from-key.result c.key_from-key.ensures in
    let split = IsPartitionPoint-from_clause (λ row. at_most (take 23 row) c.key_from-key.result) _ _ c.partition_point.ensures.partitioned parted (λ a r q k. search rules) in
    let e = c.in_err-last.ensures in
    c.from_residual.ensures
    ∙ sym (tariff_no_rows c.args.rows.now c.requires c.told-rows c.args.point c.args.descriptor c.args.day c.key_from-key.result c.key_from-key.ensures c.partition_point.result split (omega (arith, e)))

pub returns-then-ne : goal.returns-then-ne
returns-then-ne c =
    let parted = keys_parted c.args.rows.now c.requires c.told-rows c.args.point c.args.descriptor c.args.day c.key_from-key.result c.key_from-key.ensures in
    let split = IsPartitionPoint-from_clause (λ row. at_most (take 23 row) c.key_from-key.result) _ _ c.partition_point.ensures.partitioned parted (λ a r q k. search rules) in
    let last = c.in_ok-last.ensures in
    let b = c.partition_point.ensures.bound in
    sym (tariff_other c.args.rows.now c.requires c.told-rows c.args.point c.args.descriptor c.args.day c.key_from-key.result c.key_from-key.ensures c.partition_point.result split
    c.in_ok-last.last (omega arith) (omega arith)
    (λ e. absurd_bool (c.if-ne.ensures ∙ ap not ((bytes_eq-Decides _ _).1 e))))

pub returns : goal.returns
returns c =
    let parted = keys_parted c.args.rows.now c.requires c.told-rows c.args.point c.args.descriptor c.args.day c.key_from-key.result c.key_from-key.ensures in
    let split = IsPartitionPoint-from_clause (λ row. at_most (take 23 row) c.key_from-key.result) _ _ c.partition_point.ensures.partitioned parted (λ a r q k. search rules) in
    let last = c.in_ok-last.ensures in
    let b = c.partition_point.ensures.bound in
    c.read.ensures
    ∙ sym (tariff_found c.args.rows.now c.requires c.told-rows c.args.point c.args.descriptor c.args.day c.key_from-key.result c.key_from-key.ensures c.partition_point.result split
    c.in_ok-last.last (omega arith) (omega arith)
    ((bytes_eq-Decides (key_at 15 c.args.rows.now c.in_ok-last.last) (take 15 c.key_from-key.result)).0 (not_false _ c.if-ne.ensures)))
