use Rattle.core_memory.proofs.Words.{set_four}
use Rattle.core_memory.proofs.put_word.Goals as goal

pub returns : goal.returns
returns c = rw c.to_le_bytes.ensures (set_four c.args.place c.args.bytes.now _ _ _ _ c.requires)
