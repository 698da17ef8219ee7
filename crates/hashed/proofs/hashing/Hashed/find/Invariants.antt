use Rattle.std.proofs.Common.{length}
use Rattle.hashed.specs.Table.{folders_of, pair_at}
use Rattle.hashed.proofs.Walks.{Walk, up_to}
use Rattle.hashed.proofs.hashing.Hashed.find.Given as goal

abbrev pub invariant-loop-link : goal.invariant-loop-link
invariant-loop-link l = Walk (pair_at (folders_of l.self.blocks.now)) (length l.self.heads.now) l.pair l.self.count l.link

abbrev pub decreases-loop-link : goal.decreases-loop-link
decreases-loop-link l = up_to l.link
