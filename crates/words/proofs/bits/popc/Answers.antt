use Rattle.std.proofs.Common.{refl}
use lib.Count.{ones, ones_step}
use Rattle.words.proofs.bits.popc.Goals as goal

pub returns : goal.returns
unfolding ones
returns c = record { value = refl; counts = (ones_step c.args.u, refl) }
