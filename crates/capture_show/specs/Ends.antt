-- The ends of connections that were named with extended formats (X.224, negotiation of formats): an address and a reference each.
use Rattle.std.specs.Prelude.{ℕ, ◌-◌, ◌+◌, ◌==◌, ◌&&◌, Bool, List, [], ◌∷◌, ◌++◌, length, take, drop, map, filter, position, Option, Some, None, nat_eq}
use Rattle.std.specs.Cmp.Lexicographic.{pointwise}
use Rattle.tpdu.specs.declared.tpdu.Format.TheVariants.{Extended}
use Rattle.tpdu.specs.declared.tpdu.Tpdu.{Tpdu}
use Rattle.tpdu.specs.declared.tpdu.Tpdu.TheVariants as tpdus
use Rattle.capture_show.specs.declared.ends.End.{End}

abbrev pub end : List ℕ → ℕ → End
end address reference = record { reference = reference; address = address }

-- the same address and the same reference
abbrev pub is_same : End → End → Bool
is_same first second = (first.reference == second.reference) && pointwise nat_eq first.address second.address

-- the references of the ends at an address
abbrev pub references_of : List ℕ → List End → List ℕ
references_of address ends = map (λ (e : End). e.reference) (filter (λ e. pointwise nat_eq e.address address) ends)

-- without the one at a position
abbrev pub without : Option ℕ → List End → List End
without None ends = ends
without (Some at) ends = take at ends ++ drop (at + 1) ends

-- the last so many
abbrev pub last_of : ℕ → List End → List End
last_of count ends = drop (length ends - count) ends

-- an end that is named stands last, and the last 1,024 are kept
abbrev pub named : End → List End → List End
named end ends = last_of 1024 (without (position (λ other. is_same other end) ends) ends ++ end ∷ [])

-- what a TPDU on its way to an address and from one names: a CC with extended formats its two ends, the one that it goes to first
abbrev pub learned : List ℕ → List ℕ → Tpdu → List End → List End
learned to from (tpdus.Cc _ destination source Extended _ _ _ _ _ _ _ _ _) ends = named (end from source) (named (end to destination) ends)
learned to from _ ends = ends
