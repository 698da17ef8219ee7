use Rattle.std.proofs.Common.{◌≡◌, ◌+◌, ◌*◌, ◌/◌, ◌%◌, ◌^◌, ap, mod-lt, arith}
use Rattle.hashed.specs.Table.{home_of}
use Rattle.hashed.proofs.hashing.finding.home.Goals as goal

pub returns : goal.returns
unfolding home_of
returns c =
    let e : c.from.result ≡ c.args.pair.view = omega arith in
    record {
      value = ap (λ n. (c.args.pair.system * 11400714819323198485 % 2 ^ 64 + n) % 2 ^ 64 * 14029467366897019727 % 2 ^ 64 / 4294967296 % c.args.size) e;
      below = mod-lt _ c.requires;
    }
