-- The bodies that a program holds, seen as their bytes.
use Rattle.std.specs.Prelude.{◌≡◌, Ok, Err, Result, MatchResult}
use Rattle.agreement.specs.declared.contents.Bodies.{Bodies as Held}
use Rattle.agreement.specs.declared.faults.AgreementFault.{AgreementFault}
use Rattle.agreement.specs.Contents.{Bodies}

abbrev pub seen : Held → Bodies
seen b = record { parties = b.parties.now; scenarios = b.scenarios.now; tariffs = b.tariffs.now }

-- what a program answers is what is stated
abbrev pub States : Result Bodies AgreementFault → Result Held AgreementFault → Type 0
States stated r = MatchResult r (λ b. stated ≡ Ok (seen b)) (λ e. stated ≡ Err e)
