use Rattle.std.proofs.Common.{refl, arith}
use Rattle.words.proofs.FirstOnes.{first_one}
use Rattle.words.proofs.bits.ff1.Goals as goal

pub returns : goal.returns
returns c = record { value = refl; finds = first_one c.args.u (omega arith) }
