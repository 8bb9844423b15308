-- The law is the lemma on lists.
use Rattle.nsap.proofs.AddressLemmas.{covers-append}
use Rattle.nsap.proofs.laws.is_prefix.Goals as goal

pub returns : goal.returns
returns c = covers-append
