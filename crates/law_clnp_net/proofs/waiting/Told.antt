-- What comes up, where two lists of it are put together: no drop and no refusal in either.
use Rattle.std.proofs.Common.{ℕ, List, [], ◌∷◌, ◌++◌}
use Rattle.osi_base.specs.declared.note.Note.TheVariants as notes
use Rattle.osi_base.specs.declared.unit.Up.{Up}
use Rattle.osi_base.specs.declared.unit.Up.TheVariants.{Unit as Came, Note as Noted}
use Rattle.net_world.specs.Fifo.{NoneDropped}
use Rattle.net_world.specs.Prompt.{NoneRefused}

pub unrefused_before : (ups others : List (Up (List ℕ))) → NoneRefused (ups ++ others) → NoneRefused ups
unrefused_before [] others h = tt
unrefused_before (Came arrival ∷ ups) others h = unrefused_before ups others h
unrefused_before (Noted (notes.Frame number lan system snpa length) ∷ ups) others h = unrefused_before ups others h
unrefused_before (Noted (notes.DropFrame system) ∷ ups) others h = absurd h
unrefused_before (Noted (notes.Discard system reason place) ∷ ups) others h = (h.0, unrefused_before ups others h.1)
unrefused_before (Noted (notes.Report system reason place) ∷ ups) others h = unrefused_before ups others h
unrefused_before (Noted (notes.Alien system) ∷ ups) others h = unrefused_before ups others h
unrefused_before (Noted (notes.BadHello system cause) ∷ ups) others h = unrefused_before ups others h
unrefused_before (Noted (notes.HelloFull system) ∷ ups) others h = unrefused_before ups others h
unrefused_before (Noted (notes.Hello system kind snpa) ∷ ups) others h = unrefused_before ups others h
unrefused_before (Noted (notes.Redirect system address snpa) ∷ ups) others h = unrefused_before ups others h

pub undropped : (ups : List (Up (List ℕ))) → NoneRefused ups → NoneDropped ups
undropped [] h = tt
undropped (Came arrival ∷ ups) h = undropped ups h
undropped (Noted (notes.Frame number lan system snpa length) ∷ ups) h = undropped ups h
undropped (Noted (notes.DropFrame system) ∷ ups) h = absurd h
undropped (Noted (notes.Discard system reason place) ∷ ups) h = undropped ups h.1
undropped (Noted (notes.Report system reason place) ∷ ups) h = undropped ups h
undropped (Noted (notes.Alien system) ∷ ups) h = undropped ups h
undropped (Noted (notes.BadHello system cause) ∷ ups) h = undropped ups h
undropped (Noted (notes.HelloFull system) ∷ ups) h = undropped ups h
undropped (Noted (notes.Hello system kind snpa) ∷ ups) h = undropped ups h
undropped (Noted (notes.Redirect system address snpa) ∷ ups) h = undropped ups h
