use Rattle.std.proofs.Common.{arith}
use Rattle.agreement.proofs.FileLaws.{cut_is, chunk_is}
use Rattle.agreement.proofs.contents.cut.Goals as goal

pub returns : goal.returns
returns c =
    cut_is c.args.scenarios c.args.tariffs c.args.bytes.now (omega arith) c.in_ok-parties.parties.now c.as_chunks.result.0.now c.as_chunks-2.result.0.now
    (chunk_is _ 17 c.first_chunk.result c.in_ok-parties.parties c.in_ok-parties.ensures.ok_part c.first_chunk.ensures.cases)
    c.as_chunks.ensures.front c.as_chunks-2.ensures.front
