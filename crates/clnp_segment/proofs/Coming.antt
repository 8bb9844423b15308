-- Octets that come to the places of a unit: what the runs that they meet say of them.
use Rattle.std.proofs.Common.{◌≡◌, ℕ, ◌+◌, ◌-◌, ◌<◌, ◌≤◌, Bool, List, ◌∷◌, ◌++◌, MatchBool, Option, ap, drop, length, refl, subst, sym, take, ◌∙◌, arith}
use Rattle.std.specs.Prelude.{slice_range}
use Rattle.std.specs.List.{All}
use Rattle.clnp_segment.specs.declared.runs.Met.{Met}
use Rattle.clnp_segment.specs.declared.runs.Run.{Run}
use Rattle.clnp_segment.specs.declared.runs.Runs.TheInside.{Inside}
use Rattle.clnp_segment.specs.steps.Places.{is_clash, written}
use Rattle.clnp_segment.specs.steps.Spans.{Agree, AreRuns, Meets, end_of, gathered, joined, slots_from}
use Rattle.clnp_segment.proofs.Clashes.{clash_is}
use Rattle.clnp_segment.proofs.Fills.{joined_written, slots_long}
use Rattle.clnp_segment.proofs.Meetings.{IsExchanged, exchanged}

-- the octets as a run
abbrev come : ℕ → List ℕ → Run
come at octets = record { start = at; octets = octets }

module _ (inside : Inside) (slots : List (Option ℕ)) (at : ℕ) (octets : List ℕ) (met : Met) (view : slots_from inside.runs.items 0 inside.total ≡ slots)
    (kept : AreRuns inside.runs.items inside.total inside.count)
    (meets : (r : Run) → r.start ≡ at → length r.octets ≡ length octets → Meets inside.runs.items r met.first met.last met.start met.end met.held)
    (fits : at + length octets ≤ length slots) where
  come_within : end_of (come at octets) ≤ inside.total
  come_within = omega (arith, fits, ap (λ (all : List (Option ℕ)). length all) view, slots_long inside.runs.items 0 inside.total)

  -- there is a clash exactly where one of the runs differs
  pub come_clash : (result : Bool) → ((r : Run) → r.start ≡ at → r.octets ≡ octets
      → MatchBool result (All (Agree r) (slice_range inside.runs.items met.first met.last) → ⊥) (All (Agree r) (slice_range inside.runs.items met.first met.last)))
      → is_clash slots at octets ≡ result
  come_clash result told =
      sym (clash_is inside.runs.items (come at octets) met.first met.last met.start met.end met.held inside.total kept.rise (meets (come at octets) refl refl) come_within result
      (told (come at octets) refl refl) ∙ ap (λ (all : List (Option ℕ)). is_clash all at octets) view)

  -- what is in the stead of those runs
  pub come_exchanged : 0 < length octets → IsExchanged inside.runs.items (come at octets) inside.total inside.count met.start met.end met.held
  come_exchanged some =
      exchanged inside.runs.items (come at octets) met.first met.last met.start met.end met.held inside.total inside.count kept (meets (come at octets) refl refl) some come_within

  module _ (after : List Run)
      (is : (r : Run) → r.start ≡ at → r.octets ≡ octets → after ≡ take met.first inside.runs.items ++ gathered (slice_range inside.runs.items met.first met.last) r ∷ drop met.last inside.runs.items) where
    come_joined : after ≡ joined inside.runs.items (come at octets)
    come_joined = let m = meets (come at octets) refl refl in is (come at octets) refl refl ∙ sym m.joined_is

    -- they are runs still, and the octets are written into their places
    pub come_kept : 0 < length octets → AreRuns after inside.total (inside.count - met.held + (met.end - met.start))
    come_kept some =
        let x = come_exchanged some in
        subst (λ (xs : List Run). AreRuns xs inside.total (inside.count - met.held + (met.end - met.start))) (sym come_joined) x.kept

    pub come_written : slots_from after 0 inside.total ≡ written slots at octets
    come_written =
        ap (λ (xs : List Run). slots_from xs 0 inside.total) come_joined ∙ joined_written inside.runs.items (come at octets) inside.total come_within
        ∙ ap (λ (all : List (Option ℕ)). written all at octets) view
