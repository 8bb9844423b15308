use Rattle.std.proofs.Common.{refl}
use Rattle.tp4_relay.proofs.laws.worked_rows.Goals as goal

pub returns : goal.returns
returns c = record {
  begins = refl;
  accepts = refl;
  begun = refl;
  opens = refl;
  one_waits = refl;
  none_waits = refl;
  early = refl;
  refuses = refl;
  disconnects = refl;
  passes_on = refl;
  closed = refl;
  late = refl;
  owns_first = refl;
  owns_second = refl;
  owns_no_other = refl;
}
