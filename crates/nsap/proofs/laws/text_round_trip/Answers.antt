-- The three laws are lemmas on texts.
use Rattle.nsap.proofs.TextLemmas.{address_of_text-encode_lower, prefix_of_text-encode_lower, snpa_of_text-encode_lower}
use Rattle.nsap.proofs.laws.text_round_trip.Goals as goal

pub returns-clause-address : goal.returns-clause-address
returns-clause-address c = address_of_text-encode_lower

pub returns-clause-snpa : goal.returns-clause-snpa
returns-clause-snpa c = snpa_of_text-encode_lower

pub returns-clause-prefix : goal.returns-clause-prefix
returns-clause-prefix c = prefix_of_text-encode_lower
