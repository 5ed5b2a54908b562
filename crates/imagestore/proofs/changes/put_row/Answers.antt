use Rattle.std.proofs.Common.{◌≡◌, cond, ltb, IfErr, Some, None, sym, ap, ◌∙◌, subst}
use Rattle.ledger.specs.Ledger.{placed}
use Rattle.images.specs.Arrivals.{place_of}
use Rattle.images.specs.Format.{most_in, row_at}
use Rattle.imagestore.specs.Images.{row_count, image_ledger, KeptImage, appended, put_at}
use Rattle.imagestore.proofs.ImagePuts.{left_joined, left_new}
use Rattle.imagestore.proofs.changes.put_row.Goals as goal

pub returns-in-Some : goal.returns-in-Some
returns-in-Some g c =
    let row = g.R.Row in
    let image = g.R.ImageRow in
    let r = c.args.row in
    let bs = c.args.bytes.now in
    let n = row_count image.WIDTH bs in
    let at = row_at image bs in
    let place : place_of row.keys (row.keys.key_of r) at n ≡ Some c.in-Some.i =
    sym (c.in-Some.ensures.value ∙ ap (λ k. place_of row.keys k at c.rows_in-count.result) c.key.ensures ∙ ap (place_of row.keys (row.keys.key_of r) at) c.rows_in-count.ensures.value) in
    let left = left_joined row image g.met.R.Row.ordered g.met.R.Row.joins g.met.R.ImageRow.sized g.met.R.ImageRow.read bs c.requires r c.in-Some.i place in
    record {
      answer = left.answer;
      bytes = c.join_at.ensures ∙ sym (ap (put_at row image bs r n) place);
      after = ap (image_ledger row image) c.join_at.ensures ∙ left.after;
      same = tt;
      kept = subst (KeptImage row image) (sym c.join_at.ensures) left.kept;
    }

pub returns-in-None : goal.returns-in-None
returns-in-None g c =
    let row = g.R.Row in
    let image = g.R.ImageRow in
    let r = c.args.row in
    let bs = c.args.bytes.now in
    let n = row_count image.WIDTH bs in
    let at = row_at image bs in
    let most = most_in image.WIDTH bs in
    let new = cond (ltb n most) (appended image bs n r) bs in
    let place : place_of row.keys (row.keys.key_of r) at n ≡ None =
    sym (c.in-None.ensures.value ∙ ap (λ k. place_of row.keys k at c.rows_in-count.result) c.key.ensures ∙ ap (place_of row.keys (row.keys.key_of r) at) c.rows_in-count.ensures.value) in
    let left = left_new row image g.met.R.Row.ordered g.met.R.Row.joins g.met.R.ImageRow.sized g.met.R.ImageRow.read bs c.requires r place in
    let is : c.put_new.new.bytes ≡ new = c.put_new.ensures.bytes ∙ ap (λ m. cond (ltb m most) (appended image bs m r) bs) c.rows_in-count.ensures.value in
    let gives : c.put_new.result ≡ placed r (ltb n most) = c.put_new.ensures.answer ∙ ap (λ m. placed r (ltb m most)) c.rows_in-count.ensures.value in
    record {
      answer = gives ∙ left.answer;
      bytes = is ∙ sym (ap (put_at row image bs r n) place);
      after = ap (image_ledger row image) is ∙ left.after;
      same = subst (λ a. IfErr a (λ _. c.put_new.new.bytes ≡ bs)) (sym gives) (subst (λ x. IfErr (placed r (ltb n most)) (λ _. x ≡ bs)) (sym is) left.same);
      kept = subst (KeptImage row image) (sym is) left.kept;
    }
