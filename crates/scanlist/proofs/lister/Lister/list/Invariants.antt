use Rattle.std.proofs.Common.{◌-◌}
use Rattle.scanlist.proofs.lister.Lister.list.Given as goal

abbrev pub decreases-loop-taken : goal.decreases-loop-taken
decreases-loop-taken l = 18446744073709551616 - l.taken
