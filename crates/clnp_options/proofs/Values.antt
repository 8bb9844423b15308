-- The table of reasons has none exactly where the option is known: case by case of the table.
use Rattle.std.proofs.Common.{◌≡◌, cond, eqb, Bool, true, false, length, Option, None, refl, inl, inr, ◌⊎◌}
use Rattle.std.proofs.lemmas.Bool.{lt-ltb, ltb-true, eqb-true, eq-eqb}
use Rattle.clnp_options.specs.declared.reason.Reason.{Reason}
use Rattle.clnp_options.specs.declared.reason.PduKind.{PduKind}
use Rattle.clnp_options.specs.declared.reason.PduKind.TheVariants.{Dt, Er}
use Rattle.clnp_options.specs.declared.reason.Reason.TheVariants.{HeaderSyntax}
use Rattle.pdu_parts.specs.Parameter.{Parameter}
use Rattle.clnp_options.specs.Grammar.{IsKnown, Padding, Route, Record, Quality, Priority, Discarded}
use Rattle.clnp_options.specs.Faults.{value_step, discard_step}
use Rattle.pdu_parts.specs.FirstFault.{must}
use Rattle.clnp_options.proofs.Routes.{route_found, route_again, recording_found, recording_again}

-- which way a test went that gave none
chosen : (test : Bool) (x y : Option Reason) → cond test x y ≡ None → ((test ≡ true) × (x ≡ None)) ⊎ ((test ≡ false) × (y ≡ None))
chosen true x y none = inl (refl, none)
chosen false x y none = inr (refl, none)

held : (test : Bool) (reason : Reason) → must test reason ≡ None → test ≡ true
held true reason none = refl
held false reason none = absurd cc

discarded : (kind : PduKind) (option : Parameter) → option.code ≡ 0xc1 → discard_step kind option.value ≡ None → IsKnown kind option
discarded Dt option code none = absurd cc
discarded Er option code none = Discarded code refl (eqb-true _ 2 (held _ HeaderSyntax none))

pub known_from : (kind : PduKind) (option : Parameter) → value_step kind option ≡ None → IsKnown kind option
unfolding value_step
known_from kind option none =
    elim (chosen (eqb option.code 0xcc) _ _ none) [
      | inl here ↦ Padding (eqb-true option.code 0xcc here.0)
      | inr n1 ↦ elim (chosen (eqb option.code 0xc5) _ _ n1.1) [
        | inl here ↦ absurd cc
        | inr n2 ↦ elim (chosen (eqb option.code 0xc8) _ _ n2.1) [
          | inl here ↦ Route (eqb-true option.code 0xc8 here.0) (route_found option.value (held _ _ here.1))
          | inr n3 ↦ elim (chosen (eqb option.code 0xcb) _ _ n3.1) [
            | inl here ↦ Record (eqb-true option.code 0xcb here.0) (recording_found option.value (held _ _ here.1))
            | inr n4 ↦ elim (chosen (eqb option.code 0xc3) _ _ n4.1) [
              | inl here ↦ Quality (eqb-true option.code 0xc3 here.0) (ltb-true 0 (length option.value) (held _ _ here.1))
              | inr n5 ↦ elim (chosen (eqb option.code 0xcd) _ _ n5.1) [
                | inl here ↦ Priority (eqb-true option.code 0xcd here.0) (eqb-true (length option.value) 1 (held _ _ here.1))
                | inr n6 ↦ elim (chosen (eqb option.code 0xc1) _ _ n6.1) [
                  | inl here ↦ discarded kind option (eqb-true option.code 0xc1 here.0) here.1
                  | inr n7 ↦ absurd cc
                ]
              ]
            ]
          ]
        ]
      ]
    ]

pub known_again : (kind : PduKind) (option : Parameter) → IsKnown kind option → value_step kind option ≡ None
unfolding value_step
known_again kind option (Padding code) = rw code refl
known_again kind option (Route code route) = rw (code, route_again option.value route.0 route.1) refl
known_again kind option (Record code recording) = rw (code, recording_again option.value recording) refl
known_again kind option (Quality code some) = rw (code, lt-ltb 0 (length option.value) some) refl
known_again kind option (Priority code one) = rw (code, eq-eqb (length option.value) 1 one) refl
known_again kind option (Discarded code is two) = rw (code, is, eq-eqb (length option.value) 2 two) refl
