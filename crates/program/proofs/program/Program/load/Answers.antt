use Rattle.std.proofs.Common.{arith}
use Rattle.program.proofs.CodeLength.{few_bytes}
use Rattle.program.proofs.program.Program.load.Goals as goal

pub decode_all-requires : goal.decode_all-requires
decode_all-requires c =
    let few = few_bytes c.args.image.now _ _ c.in_ok-bytes.bytes _ c.payloads.ensures.answers c.map_err.ensures.cases c.map_err.ensures.variant c.in_ok-bytes.was in
    omega arith
