-- How long a call is charged under a scenario, by seconds: the least heard that counts, the message before the
-- call, the least billed.
use Rattle.std.specs.Prelude.{ℕ, ◌+◌, ◌-◌, ◌/◌, max, Bool, cond, Some, None, Option, nat_lt}
use Rattle.std.proofs.Common.{arith}
use Rattle.values.specs.declared.calendar.Duration.{Duration}
use Rattle.values.specs.declared.rates.Scenario.{Scenario}
use Rattle.rating.specs.declared.tenths.Tenths.{Tenths}

abbrev pub heard : Scenario → ℕ → ℕ
heard s seconds = seconds - s.message

abbrev pub too_short : Scenario → ℕ → Bool
too_short s seconds = nat_lt (heard s seconds) s.minimum

abbrev pub billed : Scenario → ℕ → ℕ
billed s seconds = max (heard s seconds) s.least

-- tenths of a minute, rounded up for each call
abbrev pub tenths_for : Scenario → Duration → Tenths
tenths_for s d = record { count = (billed s d.seconds + 5) / 6; few = omega (arith, d.ok, s.ok.2) }

-- the tenths of a call that counts
abbrev pub charge : Scenario → Duration → Option Tenths
charge s d = cond (too_short s d.seconds) None (Some (tenths_for s d))
