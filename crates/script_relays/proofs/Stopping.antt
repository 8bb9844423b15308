-- Whether the last of some events tells that the network was stopped.
use Rattle.std.proofs.Common.{◌≡◌, ℕ, suc, ◌-◌, ◌&&◌, not, Bool, true, false, List, [], ◌∷◌, length, Option, Some, None, refl, sym, ◌∙◌, ap, arith}
use Rattle.std.specs.Prelude.{slice_get}
use Rattle.script_journal.specs.declared.event.Event.{Event}
use Rattle.law_relay.specs.Relays.{is_more, is_stop, is_stopped}

abbrev pub stop_of : Option Event → Bool
stop_of None = false
stop_of (Some event) = is_stop event

pub last_stop : (made : List Event) → is_stopped made ≡ stop_of (slice_get made (length made - 1))
last_stop [] = refl
last_stop (event ∷ []) =
    let first : length (event ∷ []) - 1 ≡ 0 = omega arith in ap (λ (n : ℕ). stop_of (slice_get (event ∷ []) n)) (sym first)
last_stop (event ∷ other ∷ made) =
    let next : length (event ∷ other ∷ made) - 1 ≡ suc (length (other ∷ made) - 1) = omega arith in
    last_stop (other ∷ made) ∙ ap (λ (n : ℕ). stop_of (slice_get (event ∷ other ∷ made) n)) (sym next)

-- another turn follows where the pump did something, and the network was not stopped
pub more_so : (pumped stopped : Bool) (made : List Event) → pumped ≡ true → stopped ≡ is_stopped made → not stopped ≡ is_more pumped made
more_so pumped stopped made did is = ap not is ∙ ap (λ (b : Bool). b && not (is_stopped made)) (sym did)

pub none_more : (pumped : Bool) (made : List Event) → pumped ≡ false → pumped ≡ is_more pumped made
none_more true made is = absurd (cc is)
none_more false made is = refl
