use Rattle.std.proofs.Common.{◌++◌, ◌∷◌, List, ◌∙◌, ap, append_assoc}
use Rattle.script_journal.specs.declared.event.Event.{Event}
use Rattle.script_journal.specs.declared.event.Event.TheVariants as events
use Rattle.script_journal.proofs.laws.fronts_are_lawful.Goals as goal

pub returns-clause-lawful : goal.returns-clause-lawful
returns-clause-lawful c = λ frozen titles front back lawful first rest is.
    lawful first (rest ++ back) (ap (λ (journal : List Event). journal ++ back) is ∙ append_assoc first rest back)

pub returns-clause-raw : goal.returns-clause-raw
returns-clause-raw c = λ life titles front back raw before after system from octets is.
    raw before (after ++ back) system from octets (ap (λ (journal : List Event). journal ++ back) is ∙ append_assoc before (events.Unit system from octets ∷ after) back)
