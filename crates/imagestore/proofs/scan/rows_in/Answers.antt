use Rattle.std.proofs.Common.{ℕ, ◌≤◌, unwrap_or, sym, ap, ◌∙◌, subst}
use Rattle.images.specs.Format.{most_in}
use Rattle.imagestore.proofs.BytesChanged.{count_under}
use Rattle.imagestore.proofs.scan.rows_in.Goals as goal

pub returns : goal.returns
returns g c =
    let w = g.R.ImageRow.WIDTH in
    let value = c.unwrap_or.ensures ∙ ap (λ v. unwrap_or v 0) c.count_rows.ensures in
    record {
      value = value;
      within = subst (λ (n : ℕ). n ≤ most_in w c.args.bytes.now) (sym value) (count_under w c.args.bytes.now);
    }
