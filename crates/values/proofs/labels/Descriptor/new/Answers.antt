use Rattle.std.proofs.Common.{sym}
use Rattle.values.proofs.Backs.{descriptor_back}
use Rattle.values.proofs.labels.Descriptor.new.Goals as goal

pub returns-then-is_descriptor : goal.returns-then-is_descriptor
returns-then-is_descriptor c = sym (descriptor_back _)
