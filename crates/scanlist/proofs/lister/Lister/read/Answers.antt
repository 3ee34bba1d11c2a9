use Rattle.std.proofs.Common.{length-take, arith}
use Rattle.stream.proofs.GoesOn.{words_within}
use Rattle.scanlist.proofs.Calls.{call_goes}
use Rattle.scanlist.proofs.lister.Lister.read.Goals as goal

pub returns-clause-goes : goal.returns-clause-goes
returns-clause-goes c =
    call_goes c.read.ensures c.requires
    (omega (arith, length-take c.args.self.now.asked.room c.args.self.now.words, c.args.self.now.asked.room_bound))

pub returns-clause-words : goal.returns-clause-words
returns-clause-words c =
    omega (arith, words_within c.read.ensures, length-take c.args.self.now.asked.room c.args.self.now.words, c.args.self.now.asked.room_bound)
