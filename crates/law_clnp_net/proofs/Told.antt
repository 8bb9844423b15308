-- What comes up, where two lists of it are put together: the units of both, and no drop in either.
use Rattle.std.proofs.Common.{◌≡◌, ℕ, List, [], ◌∷◌, ◌++◌, refl, ◌∙◌, ap}
use Rattle.osi_base.specs.declared.note.Note.TheVariants as notes
use Rattle.osi_base.specs.declared.unit.Up.{Up}
use Rattle.osi_base.specs.declared.unit.Up.TheVariants.{Unit as Came, Note as Noted}
use Rattle.nsap.specs.declared.port.Port.{Port}
use Rattle.law_clnp_step.specs.Handling.{notes_of}
use Rattle.net_world.specs.Fifo.{NoneDropped, arrivals}

pub none_before : (ups others : List (Up (List ℕ))) → NoneDropped (ups ++ others) → NoneDropped ups
none_before [] others h = tt
none_before (Came arrival ∷ ups) others h = none_before ups others h
none_before (Noted (notes.Frame number lan system snpa length) ∷ ups) others h = none_before ups others h
none_before (Noted (notes.DropFrame system) ∷ ups) others h = absurd h
none_before (Noted (notes.Discard system reason place) ∷ ups) others h = none_before ups others h
none_before (Noted (notes.Report system reason place) ∷ ups) others h = none_before ups others h
none_before (Noted (notes.Alien system) ∷ ups) others h = none_before ups others h
none_before (Noted (notes.BadHello system cause) ∷ ups) others h = none_before ups others h
none_before (Noted (notes.HelloFull system) ∷ ups) others h = none_before ups others h
none_before (Noted (notes.Hello system kind snpa) ∷ ups) others h = none_before ups others h
none_before (Noted (notes.Redirect system address snpa) ∷ ups) others h = none_before ups others h

pub none_behind : (ups others : List (Up (List ℕ))) → NoneDropped (ups ++ others) → NoneDropped others
none_behind [] others h = h
none_behind (Came arrival ∷ ups) others h = none_behind ups others h
none_behind (Noted (notes.Frame number lan system snpa length) ∷ ups) others h = none_behind ups others h
none_behind (Noted (notes.DropFrame system) ∷ ups) others h = absurd h
none_behind (Noted (notes.Discard system reason place) ∷ ups) others h = none_behind ups others h
none_behind (Noted (notes.Report system reason place) ∷ ups) others h = none_behind ups others h
none_behind (Noted (notes.Alien system) ∷ ups) others h = none_behind ups others h
none_behind (Noted (notes.BadHello system cause) ∷ ups) others h = none_behind ups others h
none_behind (Noted (notes.HelloFull system) ∷ ups) others h = none_behind ups others h
none_behind (Noted (notes.Hello system kind snpa) ∷ ups) others h = none_behind ups others h
none_behind (Noted (notes.Redirect system address snpa) ∷ ups) others h = none_behind ups others h

pub arrivals_of_both : (ups others : List (Up (List ℕ))) → arrivals (ups ++ others) ≡ arrivals ups ++ arrivals others
arrivals_of_both [] others = refl
arrivals_of_both (Noted note ∷ ups) others = arrivals_of_both ups others
arrivals_of_both (Came arrival ∷ ups) others = ap (λ (rest : List _). arrival ∷ rest) (arrivals_of_both ups others)

-- two lists without units have none together
pub none_in_both : (ups others : List (Up (List ℕ))) → arrivals ups ≡ [] → arrivals others ≡ [] → arrivals (ups ++ others) ≡ []
none_in_both ups others h k = arrivals_of_both ups others ∙ (λ i. h i ++ k i)

pub notes_are_no_units : (ups : List (Up Port)) → arrivals (notes_of ups) ≡ []
notes_are_no_units [] = refl
notes_are_no_units (Noted note ∷ ups) = notes_are_no_units ups
notes_are_no_units (Came arrival ∷ ups) = notes_are_no_units ups
