-- A reading that is put into its place is put there by the definition too.
use Rattle.std.proofs.Common.{ap}
use Rattle.std.specs.Prelude.{Option, Some, Result, Ok, Err}
use Rattle.script_lines.specs.declared.cause.LineCause.{LineCause}
use Rattle.script_lines.specs.declared.cause.FieldRefusal.{FieldRefusal}
use Rattle.script_lines.specs.declared.cause.FieldRefusal.TheVariants as fields
use Rattle.script_lines.specs.declared.field_forms.TpduSize.{TpduSize}
use Rattle.tpdu.specs.declared.service.Options.{Options}
use Rattle.script_lines.specs.Reading.{with_size}
use Rattle.script_lines.specs.Gives.{Gives, into}

pub gives_into : {A B U : Type 0} (read : Result A LineCause) (place : A → B) (result : Result U FieldRefusal) (now : A) → Gives read result now → Gives (into read place) result (place now)
gives_into read place (Ok done) now g = ap (λ (r : Result _ LineCause). into r place) g
gives_into read place (Err (fields.Cause cause)) now g = ap (λ (r : Result _ LineCause). into r place) g
gives_into read place (Err fields.NoMemory) now g = tt

-- the same of a size, which has two places
pub gives_size : {B U : Type 0} (read : Result TpduSize LineCause) (options : Options) (place : Options → B) (result : Result U FieldRefusal) (now : Options)
    → Gives (into read (λ size. with_size options size)) result now → Gives (into read (λ size. place (with_size options size))) result (place now)
gives_size (Ok size) options place result now g = gives_into (Ok (with_size options size)) place result now g
gives_size (Err cause) options place result now g = gives_into (Err cause) place result now g

-- the same of a place that may be empty
pub gives_some : {A B U : Type 0} (read : Result A LineCause) (place : Option A → B) (result : Result U FieldRefusal) (now : Option A)
    → Gives (into read (λ value. Some value)) result now → Gives (into read (λ value. place (Some value))) result (place now)
gives_some (Ok value) place result now g = gives_into (Ok (Some value)) place result now g
gives_some (Err cause) place result now g = gives_into (Err cause) place result now g
