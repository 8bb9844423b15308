-- What else comes to the system of an end leaves that end as it is, and sends nothing to its partner.
use Rattle.std.proofs.Common.{◌≡◌, ◌≢◌, ◌⊎◌, inl, inr, ℕ, Bool, true, false, List, [], ◌∷◌, Some, None, refl, sym, ◌∙◌, ap, subst}
use Rattle.std.specs.Prelude.{◌&&◌, nat_eq}
use Rattle.std.specs.Cmp.Lexicographic.{bytes_decides, pointwise}
use Rattle.std.proofs.lemmas.Option.{none-some, same_Some}
use Rattle.osi_base.specs.Link.{Link}
use Rattle.script_journal.specs.declared.event.Event.{Event as JournalEvent}
use Rattle.tpdu.specs.Values.{destination_of, format_for}
use Rattle.tpdu.specs.declared.tpdu.Format.{Format}
use Rattle.tp4_flow.specs.declared.step.EndEvent.{EndEvent}
use Rattle.tpdu.specs.Writing.{IsAllowed}
use Rattle.tpdu.specs.declared.tpdu.Tpdu.{Tpdu as WireTpdu}
use Rattle.tp4_number.specs.Number.{whole}
use Rattle.tp4_flow.specs.declared.step.Sent.{Sent}
use Rattle.tp4_conn.specs.End.{End, agreed_format, frozen_for}
use Rattle.tp4_conn.specs.Making.{indicated}
use Rattle.tp4_conn.specs.Matching.{fits, is_match}
use Rattle.tp4_conn.specs.Table.{Took, stepped}
use Rattle.tp4_conn.specs.declared.end_record.EndRecord.{EndRecord}
use Rattle.tp4_conn.specs.declared.states.StateData.{StateData}
use Rattle.tp4_conn.specs.declared.states.StateData.TheVariants.{AkWait, Closing, CrWait, Frozen, Opened, UserWait, WaitBeforeClose}
use Rattle.tp4_conn.specs.declared.timers.Timers.{Timers}
use Rattle.tp4_entity.specs.Association.{met}
use Rattle.tp4_entity.specs.Entity.{Acted, Entity, at, end_at, moved}
use Rattle.tp4_entity.specs.References.{is_free_place, was_frozen}
use Rattle.tp4_entity.specs.Unit.{extended_of}
use Rattle.tp4_entity.specs.steps.Places.{format_of}
use Rattle.tp4_entity.proofs.Formats.{format_is}
use Rattle.tp4_entity.proofs.Standings.{Free, within}
use Rattle.law_tp4_history.specs.Tracks.{Whole}
use Rattle.law_tp4_history.specs.Moves.{Sees, stop_of, times_of}
use Rattle.tp4_world.specs.World.{World, latest}
use Rattle.law_tp4_lawful.proofs.Known.{IsKnown, IsThere}
use Rattle.law_tp4_lawful.proofs.Worlds.{Explains}
use Rattle.law_tp4_lawful.proofs.MakesPlaces.{at_other}
use Rattle.law_recovery_run.specs.Aside.{AreFacing, IsBeside, LeavesAside, Names}
use Rattle.law_recovery_run.specs.Rivals.{IsFor}
use Rattle.law_recovery_run.proofs.Aiming.{Going, row_aims}
use Rattle.law_recovery_run.proofs.Meeting.{IsAnswer, met_cases}
pub use Rattle.law_recovery_run.proofs.Meeting.{either}
use Rattle.law_recovery_run.proofs.Rivals.{one_rival}

-- an end that takes a TPDU is not frozen
pub going_of : (b : EndRecord) (stage : StateData) (t : WireTpdu) → fits b stage t ≡ true → stop_of stage ≡ None
going_of b (Frozen when) t fit = absurd (cc fit)
going_of b other t fit = refl

-- an end that stopped is frozen
pub frozen_of : (stage : StateData) (when : ℕ) → stop_of stage ≡ Some when → stage ≡ Frozen when
frozen_of (CrWait w) when is = absurd (none-some when is)
frozen_of (WaitBeforeClose w) when is = absurd (none-some when is)
frozen_of (UserWait since) when is = absurd (none-some when is)
frozen_of (AkWait w) when is = absurd (none-some when is)
frozen_of (Opened o) when is = absurd (none-some when is)
frozen_of (Closing c) when is = absurd (none-some when is)
frozen_of (Frozen at) when is = ap (λ (n : ℕ). Frozen n) (same_Some at when is)

-- the reference of an end that goes on is not free
pub kept_place : (now ticks : ℕ) (stage : StateData) → stop_of stage ≡ None → was_frozen now ticks stage ≡ true → ⊥
kept_place now ticks (Frozen when) goes free = none-some when (sym goes)
kept_place now ticks other goes free = cc free

pub both_are : (a b : Bool) → (a && b) ≡ true → (a ≡ true) × (b ≡ true)
both_are true true is = (refl, refl)
both_are true false is = absurd (cc is)
both_are false b is = absurd (cc is)

module _ {C : Type 0} (link : C → Link (List ℕ)) (titles : List (List ℕ)) (timers : Timers) (w : Whole) (journal : List JournalEvent) (last : World C) (explains : Explains link titles timers w journal last)
    (going : Going) (x y : ℕ) (f : AreFacing last x y) (from : List ℕ) (t : WireTpdu) (sum : Bool) (beside : IsBeside last x y f from t sum) where
  abbrev now : ℕ
  now = (link last.carrier).clock

  abbrev entity : Entity
  entity = f.own.entity

  abbrev e : Entity
  e = at now entity

  abbrev r : ℕ
  r = f.own.reference

  abbrev end : End
  end = f.own.end

  abbrev to : List ℕ
  to = f.theirs.entity.own

  abbrev partner : ℕ
  partner = f.theirs.reference

  abbrev IsLeft : Acted → Type 0
  IsLeft acted = LeavesAside entity r to partner acted

  abbrev mine : IsFor last x to partner
  mine = record { going = f.own; to_is = f.to_is; partner_is = f.partner_is }

  -- another end of the system for the same partner is the same end
  only : (reference : ℕ) (other : End) → end_at entity reference ≡ Some other → stop_of other.stage ≡ None → other.base.to ≡ to → other.base.partner ≡ partner → reference ≡ r
  only reference other stands goes to_is partner_is =
      let z : ℕ = latest last.ends f.own.system reference in
      let rival : IsFor last z to partner = record {
        going = record { system = f.own.system; reference = reference; entity = entity; end = other; is_end = record { there = f.own.is_end.there; stands = stands; number = refl }; goes = goes };
        to_is = to_is;
        partner_is = partner_is;
      } in
      one_rival link titles timers w journal last explains x z y f.theirs mine rival

  -- ---- an end takes it

  taken : (reference : ℕ) (other : End) → destination_of t ≡ Some reference → end_at entity reference ≡ Some other → is_match other.base other.stage from t ≡ true
      → IsLeft (moved e reference (stepped whole now other (Took t sum)))
  taken reference other target stands match = record {
    same = at_other e reference r _ (within entity reference other stands).least (λ same. apart (sym same));
    none = row_aims going now (times_of other.base.timers) (w.base.end known.k) other t sum sees (known.sees.stop ∙ goes) is.1 beside.sourced known.proper allowed to partner bad;
  }
    where
      is : (pointwise nat_eq other.base.to from ≡ true) × (fits other.base other.stage t ≡ true)
      is = both_are _ _ match

      to_is : other.base.to ≡ from
      to_is = (bytes_decides other.base.to from).0 is.0

      goes : stop_of other.stage ≡ None
      goes = going_of other.base other.stage t is.1

      known : IsKnown w entity.own reference other
      known = subst (IsThere w entity.own reference) stands ((explains.known.holds f.own.system entity f.own.is_end.there).there reference)

      sees : Sees (times_of other.base.timers) now (w.base.end known.k) other
      sees = subst (λ (n : ℕ). Sees (times_of other.base.timers) n (w.base.end known.k) other) (sym explains.carries.clock) known.sees

      allowed : IsAllowed (agreed_format other.base.agreed) t
      allowed = subst (λ (format : Format). IsAllowed format t) (ap (format_for (extended_of entity)) target ∙ format_is entity reference ∙ ap format_of stands) beside.allowed

      apart : reference ≢ r
      apart same =
          let it : other ≡ end = same_Some other end (sym stands ∙ ap (end_at entity) same ∙ f.own.is_end.stands) in
          beside.other (sym to_is ∙ ap (λ (z : End). z.base.to) it ∙ f.to_is) (target ∙ ap (λ (n : ℕ). Some n) same)

      bad : other.base.to ≡ to → (other.base.partner ≡ partner) ⊎ Names partner t → ⊥
      bad there (inl named) = apart (only reference other stands goes there named)
      bad there (inr names) = beside.unnamed (sym to_is ∙ there) names

  -- ---- and whatever else it does

  nothing : (events : List EndEvent) → IsLeft (record { entity = e; events = events; tpdus = [] })
  nothing events = record { same = refl; none = tt }

  -- an answer to the end that it names
  answered : (events : List EndEvent) (sent : Sent) → IsAnswer from t sent → IsLeft (record { entity = e; events = events; tpdus = sent ∷ [] })
  answered events sent a = record {
    same = refl;
    none = ((λ s. beside.unnamed (sym a.to ∙ s.address) (subst (λ (n : ℕ). Names n t) (same_Some a.source partner (sym a.target ∙ s.target)) a.names)), tt);
  }

  made : (reference : ℕ) (base : EndRecord) (octets : List ℕ) → Free now reference e → IsLeft (moved e reference (indicated base octets))
  made reference base octets free = record {
    same = at_other e reference r _ free.least (λ same. kept_place now (frozen_for end.base.timers) end.stage f.own.goes (ap (is_free_place now) (sym f.own.is_end.stands ∙ ap (end_at entity) same) ∙ free.free));
    none = tt;
  }

  pub stays_aside : IsLeft (met whole now e from (t, sum))
  stays_aside = met_cases now e from t sum IsLeft (λ events none. nothing events) (λ events sent none a. answered events sent a) taken (λ reference base octets free own. made reference base octets free)
