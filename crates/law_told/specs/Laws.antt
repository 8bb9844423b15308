-- What a reader of a transcript may conclude of it.
use Rattle.law_told.specs.Inactive.{IsLawfulRun, inactive_acts}
use Rattle.law_told.specs.Reading.{IsLegible}

-- the text of a transcript of `inactive` tells its events, and so what is read of it is lawful where the run is
abbrev pub InactiveIsLegible : Type 0
InactiveIsLegible = IsLegible inactive_acts IsLawfulRun
