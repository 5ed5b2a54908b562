use Rattle.std.proofs.Common.{◌≡◌, true, sym, refl, rules}
use Rattle.values.specs.Calendar.{is_duration}
use Rattle.values.proofs.Backs.{duration_made}
use Rattle.values.proofs.calendar.Duration.new.Goals as goal

pub returns-then-number-lt60-2 : goal.returns-then-number-lt60-2
returns-then-number-lt60-2 c =
    let t : is_duration c.args.number ≡ true = search rules in
    sym (duration_made c.args.number _ t refl)
