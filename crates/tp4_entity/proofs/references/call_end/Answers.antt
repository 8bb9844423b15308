use Rattle.std.proofs.Common.{◌≡◌, refl, Option, Some, None, Err, Result}
use Rattle.tp4_conn.specs.declared.call.CallRefusal.{CallRefusal}
use Rattle.tp4_entity.specs.Step.{refused_by}
use Rattle.tp4_entity.specs.declared.refusal.EntityRefusal.{EntityRefusal}
use Rattle.tp4_entity.specs.declared.refusal.EntityRefusal.TheVariants.{Call}
use Rattle.tp4_entity.proofs.references.call_end.Goals as goal

abbrev failed : CallRefusal → Result (Unit {0}) CallRefusal
failed why = Err why

abbrev refused : CallRefusal → Result (Unit {0}) EntityRefusal
refused why = Err (Call why)

by_call : (refusal : Option CallRefusal) (here : CallRefusal) (why : EntityRefusal)
    → ((cause : CallRefusal) → refusal ≡ Some cause → failed here ≡ failed cause) → refused_by refusal ≡ Some why → refused here ≡ Err why
by_call None here why h is = absurd cc
by_call (Some cause) here why h is = let same = h cause refl in cc

pub returns-in-Err-clause-refused : goal.returns-in-Err-clause-refused
returns-in-Err-clause-refused g c why is = by_call _ c.in-Err.why why c.in-Err.ensures.refused is
