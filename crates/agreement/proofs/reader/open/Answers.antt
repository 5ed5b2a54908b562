use Rattle.std.proofs.Common.{◌∙◌, rules}
use Rattle.agreement.specs.Agreement.{opened}
use Rattle.agreement.proofs.FileLaws.{opened_by}
use Rattle.agreement.proofs.reader.open.Goals as goal

pub returns-in_err-read_contents : goal.returns-in_err-read_contents
unfolding opened
returns-in_err-read_contents c = search rules

pub returns : goal.returns
returns c = c.judge.ensures ∙ opened_by c.args.bytes.now _ c.in_ok-read_contents.ensures
