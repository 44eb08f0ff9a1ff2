use Rattle.std.proofs.Common.{◌≡◌, ◌+◌, ◌-◌, ◌*◌, take, drop, ap, arith}
use Rattle.book.proofs.books.payload_in.Goals as goal

pub returns : goal.returns
returns c =
    let long : (512 * c.args.place + 512) - 512 * c.args.place ≡ 512 = omega arith in
    ap (λ n. take 496 (drop 12 (take n (drop (512 * c.args.place) c.args.image.now)))) long
