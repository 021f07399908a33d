-- What the functions over a command's ranges, with a list or without, meet their contracts by.
use lib.Seq.{length-take-le}
use Rattle.std.proofs.lemmas.List.{take_rest}
use Rattle.rules.proofs.Laying.{laid_first}
use Rattle.rules.proofs.Positions.{reach_old}
use Rattle.rules.proofs.Write.{grown_length}
use Rattle.header.proofs.Ranges.{sole_range_lem, entry_ranges}
use Rattle.object.proofs.Gathering.{gathered_sole}
use Rattle.object.proofs.Scattering.{reach_from}

pub ruleset reading = (sole_range_lem, entry_ranges, gathered_sole, laid_first, length-take-le)

pub ruleset writing = (sole_range_lem, entry_ranges, grown_length, reach_from, reach_old, take_rest)
