-- Segments of a unit that come in order: what is held of it is its front. The next run of its octets clashes with nothing, as it stands behind
-- the front; with it the front is longer, and where nothing is missing then, all is there.
use Rattle.std.proofs.Common.{◌≡◌, ◌⊎◌, ◌&&◌, ℕ, zero, suc, ◌+◌, ◌-◌, ◌<◌, Bool, true, List, [], ◌∷◌, ◌++◌, length, map, replicate, slice_get, Option, Some, None, refl, sym, ◌∙◌, ap, subst, inl, inr, arith, length-append}
use Rattle.std.specs.Prelude.{count_by, is_some}
use Rattle.std.proofs.lemmas.List.{append-nil, length-replicate}
use Rattle.std.proofs.lemmas.List.Sums.{sum_by-cons}
use Rattle.std.proofs.lemmas.Option.{slice_get_within}
use Rattle.clnp_segment.specs.Joining.{Clash, Filled, Has, Held, Holds, Segment, Together, nothing_of}
use Rattle.clnp_segment.specs.Joining.{Header, Octet, Total}
use Rattle.clnp_segment.specs.Store.{Partial, has_key, key_of}
use Rattle.clnp_segment.proofs.CutRuns.{get_left}
use Rattle.clnp_segment.proofs.Slots.{none_filled}
use Rattle.clnp_segment.proofs.Units.{empty_place}
use Rattle.law_clnp_step.proofs.Joined.{same_numbers}
use Rattle.law_clnp_net.proofs.answered.Slots.{filled_at}

-- of a unit with that header the octets at its front are held, and so many are missing behind them
abbrev pub held_front : ℕ → List ℕ → ℕ → Held
held_front header front missing = record { header = header; total = header + (length front + missing); slots = map Some front ++ replicate missing None }

-- ---- places

some_some : (x octet : ℕ) → Some (Some x) ≡ Some (Some octet) → Some x ≡ Some octet
some_some x octet e = cc

out_of_front : (came : List ℕ) (missing position octet : ℕ) → slice_get (map Some came ++ replicate missing None) position ≡ Some (Some octet) → slice_get came position ≡ Some octet
out_of_front [] missing position octet e = absurd (empty_place missing position octet e)
out_of_front (x ∷ came) missing zero octet e = some_some x octet e
out_of_front (x ∷ came) missing (suc position) octet e = out_of_front came missing position octet e

in_front : (came : List ℕ) (missing position octet : ℕ) → slice_get came position ≡ Some octet → slice_get (map Some came ++ replicate missing None) position ≡ Some (Some octet)
in_front [] missing position octet e = absurd cc
in_front (x ∷ came) missing zero octet e = ap Some e
in_front (x ∷ came) missing (suc position) octet e = in_front came missing position octet e

pub length_front : (came : List ℕ) (missing : ℕ) → length (map Some came ++ replicate missing None) ≡ length came + missing
length_front [] missing = length-replicate {A = Option ℕ} missing None ∙ omega arith
length_front (x ∷ came) missing = omega (arith, length_front came missing)

pub count_front : (came : List ℕ) (missing : ℕ) → count_by is_some (map Some came ++ replicate missing None) ≡ length came
count_front [] missing = none_filled missing
count_front (x ∷ came) missing = sum_by-cons _ (Some x) (map Some came ++ replicate missing None) ∙ omega (arith, count_front came missing)

-- an octet of the front, or of the run behind it
record IsIn (came run : List ℕ) (position octet : ℕ) : Type 0 where
  place : ℕ
  at : position ≡ length came + place
  is : slice_get run place ≡ Some octet

out_of_both : (came run : List ℕ) (position octet : ℕ) → slice_get (came ++ run) position ≡ Some octet → (slice_get came position ≡ Some octet) ⊎ IsIn came run position octet
out_of_both [] run position octet e = inr (record { place = position; at = omega arith; is = e })
out_of_both (x ∷ came) run zero octet e = inl e
out_of_both (x ∷ came) run (suc position) octet e = later (out_of_both came run position octet e)
  where
    later : (slice_get came position ≡ Some octet) ⊎ IsIn came run position octet → (slice_get came position ≡ Some octet) ⊎ IsIn (x ∷ came) run (suc position) octet
    later (inl h) = inl h
    later (inr h) = inr (record { place = h.place; at = omega (arith, h.at); is = h.is })

in_run : (came run : List ℕ) (position place octet : ℕ) → position ≡ length came + place → slice_get run place ≡ Some octet → slice_get (came ++ run) position ≡ Some octet
in_run [] run position place octet at e = ap (λ (n : ℕ). slice_get run n) (omega (arith, at)) ∙ e
in_run (x ∷ came) run zero place octet at e = absurd (omega (arith, at))
in_run (x ∷ came) run (suc position) place octet at e = in_run came run position place octet (omega (arith, at)) e

-- ---- the next run

-- a run of a unit behind its front, where so many are missing behind it
abbrev pub next_run : ℕ → List ℕ → List ℕ → ℕ → Segment
next_run header came run missing = record { offset = length came; octets = run; header = header; total = header + (length came + (length run + missing)) }

module _ (header : ℕ) (came run : List ℕ) (missing : ℕ) where
  abbrev pub Old : Held
  Old = held_front header came (length run + missing)

  abbrev pub New : Held
  New = held_front header (came ++ run) missing

  abbrev pub Run : Segment
  Run = next_run header came run missing

  pub no_clash : Clash Old Run → ⊥
  no_clash (Header differ) = differ refl
  no_clash (Total differ) = differ refl
  no_clash (Octet position first second holds has differ) =
      omega (arith, slice_get_within came position first (out_of_front came (length run + missing) position first holds), has.at)

  pub together : Together Old Run New
  together = record {
    header = refl;
    total = omega (arith, length-append came run);
    positions = length_front (came ++ run) missing ∙ omega (arith, length-append came run, length_front came (length run + missing));
    pairs = λ position octet. (λ e. from_new position octet (out_of_both came run position octet (out_of_front (came ++ run) missing position octet e)), λ h. to_new position octet h);
  }
    where
      from_new : (position octet : ℕ) → (slice_get came position ≡ Some octet) ⊎ IsIn came run position octet → Holds Old position octet ⊎ Has Run position octet
      from_new position octet (inl h) = inl (in_front came (length run + missing) position octet h)
      from_new position octet (inr h) = inr (record { place = h.place; at = h.at; is = h.is })

      to_new : (position octet : ℕ) → Holds Old position octet ⊎ Has Run position octet → Holds New position octet
      to_new position octet (inl h) = in_front (came ++ run) missing position octet (get_left came run position octet (out_of_front came (length run + missing) position octet h))
      to_new position octet (inr h) = in_front (came ++ run) missing position octet (in_run came run position h.place octet h.at h.is)

  pub not_filled : 0 < missing → Filled New → ⊥
  not_filled some filled =
      let n : ℕ = length (came ++ run) in
      let there = filled n (omega (arith, length_front (came ++ run) missing)) in
      let within = slice_get_within (came ++ run) n there.0 (out_of_front (came ++ run) missing n there.0 there.1) in
      omega (arith, within)

-- where nothing is missing behind it, the unit is whole
pub whole_slots : (octets : List ℕ) → map Some octets ++ replicate 0 None ≡ map Some octets
whole_slots octets = append-nil (map Some octets)

pub now_filled : (header : ℕ) (octets : List ℕ) → Filled (held_front header octets 0)
now_filled header octets =
    subst (λ (slots : List (Option ℕ)). (position : ℕ) → position < length slots → (octet : ℕ) × (slice_get slots position ≡ Some (Some octet))) (sym (whole_slots octets)) (filled_at octets)

-- ---- the store

both_true : (a b : Bool) → a ≡ true → b ≡ true → (a && b) ≡ true
both_true a b h k = ap (λ (c : Bool). c && b) h ∙ k

pub own_key : (unit : Partial) → has_key (key_of unit) unit ≡ true
own_key unit = both_true _ _ (both_true _ _ (same_numbers unit.source) (same_numbers unit.destination)) (grind arith)

pub nothing_front : (header missing : ℕ) (segment : Segment) (run : List ℕ) (more : ℕ) → segment ≡ next_run header [] run more → missing ≡ length run + more
    → nothing_of segment ≡ held_front header [] missing
nothing_front header missing segment run more is missing_is =
    let total : header + (0 + (length run + more)) ≡ header + (0 + missing) = omega (arith, missing_is) in
    let places : header + (0 + (length run + more)) - header ≡ missing = omega (arith, missing_is) in
    ap nothing_of is ∙ (λ i. record { header = header; total = total i; slots = replicate {A = Option ℕ} (places i) None })
