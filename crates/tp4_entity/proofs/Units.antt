-- A unit TPDU by TPDU. What makes an end agree on a format reaches to the end of the unit, so as long as octets are left the formats are
-- those from before it.
use Rattle.std.proofs.Common.{◌≡◌, ◌≢◌, ◌==◌, ◌&&◌, not, ℕ, zero, suc, ◌+◌, ◌-◌, ◌<◌, Bool, true, false, cond, List, [], ◌∷◌, ◌++◌, length, slice_get, slice_set, Option, Some, None, refl, sym, ap, subst, ◌∙◌, append_assoc, length-append, arith}
use Rattle.std.proofs.Math.Dec.{eqb-suc-zero}
use Rattle.std.proofs.lemmas.List.{append-nil}
use Rattle.tpdu.specs.Faults.{IsTpduFault}
use Rattle.tpdu.specs.Grammar.{BeginsWithTpdu}
use Rattle.tpdu.specs.Values.{TpduAndSum, reaches_end}
use Rattle.tpdu.specs.declared.fault.TpduFault.{TpduFault}
use Rattle.tpdu.specs.declared.tpdu.Format.{Format}
use Rattle.tpdu.specs.declared.tpdu.Tpdu.{Tpdu}
use Rattle.tpdu.specs.declared.tpdu.Tpdu.TheVariants.{Dc, Ak, Ea, Er}
use Rattle.tp4_flow.specs.Told.{Told, Grows}
use Rattle.tp4_flow.specs.declared.step.EndEvent.{EndEvent}
use Rattle.tp4_flow.specs.declared.step.Sent.{Sent}
use Rattle.tp4_flow.specs.declared.step.What.TheVariants.{BadTpdu}
use Rattle.tp4_number.specs.Number.{wire}
use Rattle.tp4_conn.specs.declared.end_record.EndRecord.{EndRecord}
use Rattle.tp4_conn.specs.declared.states.InAkWait.{InAkWait}
use Rattle.tp4_conn.specs.declared.states.InOpened.{InOpened}
use Rattle.tp4_conn.specs.declared.states.InWaitBeforeClose.{InWaitBeforeClose}
use Rattle.tp4_conn.specs.declared.states.InClosing.{InClosing}
use Rattle.tp4_conn.specs.declared.states.InCrWait.{InCrWait}
use Rattle.tp4_conn.specs.declared.states.StateData.{StateData}
use Rattle.tp4_conn.specs.declared.states.StateData.TheVariants.{CrWait, WaitBeforeClose, UserWait, AkWait, Opened, Closing, Frozen}
use Rattle.tp4_conn.specs.AkWait.{ak_wait_tpdu}
use Rattle.tp4_conn.specs.Closing.{closing_tpdu}
use Rattle.tp4_conn.specs.CrWait.{cr_wait_tpdu}
use Rattle.tp4_conn.specs.End.{End, Moved, agreed_format, end_of}
use Rattle.tp4_conn.specs.Matching.{is_match, wants_sum}
use Rattle.tp4_conn.specs.Opened.{hearing, opened_tpdu}
use Rattle.tp4_conn.specs.Table.{Took, on_tpdu, stepped, untaken, at as base_at}
use Rattle.tp4_conn.specs.WaitBeforeClose.{wait_before_close_tpdu}
use Rattle.tp4_conn.proofs.Openings.{grown_twice}
use Rattle.tp4_entity.specs.Association.{met, met_by, unmatched}
use Rattle.tp4_entity.specs.Entity.{Acted, Entity, at, end_at, moved, there}
use Rattle.tp4_entity.specs.Step.{DoesSo}
use Rattle.tp4_entity.specs.Unit.{Faulty, HearsUnit, Separates, Whole, all_met, extended_from, extended_of, followed, listed_if}
use Rattle.tp4_entity.proofs.Heard.{Heard}
use Rattle.tp4_entity.specs.steps.Places.{format_of}
use Rattle.tp4_entity.proofs.PlaceLaws.{Place, nothing_told, end_at_of}

-- ---- one TPDU more

separates_more : (extended octets rest behind : List ℕ) (tpdus : List TpduAndSum) (tpdu : TpduAndSum) → Separates extended octets tpdus rest → BeginsWithTpdu extended rest tpdu behind
    → Separates extended octets (tpdus ++ tpdu ∷ []) behind
separates_more extended octets rest behind [] tpdu is begins = (behind, subst (λ (o : List ℕ). BeginsWithTpdu extended o tpdu behind) (sym is) begins, refl)
separates_more extended octets rest behind (first ∷ tpdus) tpdu is begins = (is.0, is.1, separates_more extended is.0 rest behind tpdus tpdu is.2 begins)

all_more : (wrap : ℕ → ℕ → ℕ) (now : ℕ) (e : Entity) (from : List ℕ) (tpdus : List TpduAndSum) (tpdu : TpduAndSum)
    → all_met wrap now e from (tpdus ++ tpdu ∷ []) ≡ followed (all_met wrap now e from tpdus) (met wrap now (all_met wrap now e from tpdus).entity from tpdu)
all_more wrap now e from [] tpdu =
    let m = met wrap now e from tpdu in λ i. record { entity = m.entity; events = append-nil m.events i; tpdus = append-nil m.tpdus i }
all_more wrap now e from (first ∷ tpdus) tpdu =
    let one = met wrap now e from first in
    let rest = all_met wrap now one.entity from tpdus in
    let last = met wrap now rest.entity from tpdu in
    ap (followed one) (all_more wrap now one.entity from tpdus tpdu)
    ∙ λ i. record { entity = last.entity; events = sym (append_assoc one.events rest.events last.events) i; tpdus = sym (append_assoc one.tpdus rest.tpdus last.tpdus) i }

-- ---- a TPDU behind which others may follow changes nothing that was agreed

cr_wait_keeps : (b : EndRecord) (w : InCrWait) (tpdu : Tpdu) → reaches_end tpdu ≡ false → (cr_wait_tpdu b w tpdu).base.agreed ≡ b.agreed
unfolding cr_wait_tpdu
cr_wait_keeps b w (Dc destination source) h = refl
cr_wait_keeps b w (Ak destination number credit subsequence confirmation) h = refl
cr_wait_keeps b w (Ea destination number) h = refl
cr_wait_keeps b w (Er destination cause rejected) h = refl
cr_wait_keeps b w other h = absurd cc

wait_keeps : (b : EndRecord) (w : InWaitBeforeClose) (tpdu : Tpdu) → reaches_end tpdu ≡ false → (wait_before_close_tpdu b w tpdu).base.agreed ≡ b.agreed
unfolding wait_before_close_tpdu
wait_keeps b w (Dc destination source) h = refl
wait_keeps b w (Ak destination number credit subsequence confirmation) h = refl
wait_keeps b w (Ea destination number) h = refl
wait_keeps b w (Er destination cause rejected) h = refl
wait_keeps b w other h = absurd cc

opened_keeps : (wrap : ℕ → ℕ → ℕ) (b : EndRecord) (o : InOpened) (tpdu : Tpdu) → reaches_end tpdu ≡ false → (opened_tpdu wrap b o tpdu).base.agreed ≡ b.agreed
unfolding opened_tpdu
opened_keeps wrap b o (Dc destination source) h = refl
opened_keeps wrap b o (Ak destination number credit subsequence confirmation) h = refl
opened_keeps wrap b o (Ea destination number) h = refl
opened_keeps wrap b o (Er destination cause rejected) h = refl
opened_keeps wrap b o other h = absurd cc

ak_wait_keeps : (wrap : ℕ → ℕ → ℕ) (b : EndRecord) (w : InAkWait) (tpdu : Tpdu) → reaches_end tpdu ≡ false → (ak_wait_tpdu wrap b w tpdu).base.agreed ≡ b.agreed
unfolding ak_wait_tpdu opened_tpdu
ak_wait_keeps wrap b w (Dc destination source) h = refl
ak_wait_keeps wrap b w (Ak destination number credit subsequence confirmation) h = refl
ak_wait_keeps wrap b w (Ea destination number) h = refl
ak_wait_keeps wrap b w (Er destination cause rejected) h = refl
ak_wait_keeps wrap b w other h = absurd cc

closing_keeps : (b : EndRecord) (c : InClosing) (tpdu : Tpdu) → reaches_end tpdu ≡ false → (closing_tpdu b c tpdu).base.agreed ≡ b.agreed
unfolding closing_tpdu
closing_keeps b c (Dc destination source) h = refl
closing_keeps b c (Ak destination number credit subsequence confirmation) h = refl
closing_keeps b c (Ea destination number) h = refl
closing_keeps b c (Er destination cause rejected) h = refl
closing_keeps b c other h = absurd cc

tpdu_keeps : (wrap : ℕ → ℕ → ℕ) (b : EndRecord) (stage : StateData) (tpdu : Tpdu) → reaches_end tpdu ≡ false → (on_tpdu wrap b stage tpdu).base.agreed ≡ b.agreed
tpdu_keeps wrap b (CrWait w) tpdu h = cr_wait_keeps b w tpdu h
tpdu_keeps wrap b (WaitBeforeClose w) tpdu h = wait_keeps b w tpdu h
tpdu_keeps wrap b (UserWait since) tpdu h = refl
tpdu_keeps wrap b (AkWait w) tpdu h = ak_wait_keeps wrap b w tpdu h
tpdu_keeps wrap b (Opened o) tpdu h = opened_keeps wrap b (hearing b o) tpdu h
tpdu_keeps wrap b (Closing c) tpdu h = closing_keeps b c tpdu h
tpdu_keeps wrap b (Frozen when) tpdu h = refl

either_keeps : (lacks : Bool) (b : EndRecord) (one two : Moved) → one.base.agreed ≡ b.agreed → two.base.agreed ≡ b.agreed → (cond lacks one two).base.agreed ≡ b.agreed
either_keeps true b one two h k = h
either_keeps false b one two h k = k

step_keeps : (wrap : ℕ → ℕ → ℕ) (now : ℕ) (e : End) (tpdu : TpduAndSum) → reaches_end tpdu.0 ≡ false → (stepped wrap now e (Took tpdu.0 tpdu.1)).base.agreed ≡ e.base.agreed
step_keeps wrap now e tpdu h =
    either_keeps (wants_sum e.base e.stage tpdu.0 && not tpdu.1) e.base (untaken e.base e.stage) (on_tpdu wrap (base_at now e.base) e.stage tpdu.0) refl (tpdu_keeps wrap (base_at now e.base) e.stage tpdu.0 h)

-- the references that are listed, by the formats at the places
listed_by : (from : ℕ) (place : Place) (ends : List Place) → extended_from from (place ∷ ends) ≡ listed_if (format_of place) from (extended_from (from + 1) ends)
listed_by from None ends = refl
listed_by from (Some end) ends = refl

same_place : (one other : Place) → Some one ≡ Some other → one ≡ other
same_place one other h = cc h

same_lists : (from at : ℕ) (ends : List Place) (place new : Place) → slice_get ends at ≡ Some place → format_of new ≡ format_of place → extended_from from (slice_set ends at new) ≡ extended_from from ends
same_lists from at [] place new h same = refl
same_lists from zero (one ∷ ends) place new h same =
    listed_by from new ends ∙ ap (λ (f : Format). listed_if f from (extended_from (from + 1) ends)) (same ∙ ap format_of (sym (same_place one place h))) ∙ sym (listed_by from one ends)
same_lists from (suc at) (one ∷ ends) place new h same =
    listed_by from one (slice_set ends at new) ∙ ap (listed_if (format_of one) from) (same_lists (from + 1) at ends place new h same) ∙ sym (listed_by from one ends)

pub there_is : (found : Option Place) (end : End) → there found ≡ Some end → found ≡ Some (Some end)
there_is None end h = absurd cc
there_is (Some place) end h = ap Some h

moved_keeps : (e : Entity) (reference : ℕ) (end : End) (m : Moved) → end_at e reference ≡ Some end → m.base.agreed ≡ end.base.agreed → extended_of (moved e reference m).entity ≡ extended_of e
moved_keeps e zero end m is same = absurd cc
moved_keeps e (suc at) end m is same =
    let found = there_is (slice_get e.ends at) end (sym (end_at_of e (suc at) at (omega arith)) ∙ is) in
    let place : suc at - 1 ≡ at = omega arith in
    ap (λ (n : ℕ). extended_from 1 (slice_set e.ends n (Some (end_of m)))) place ∙ same_lists 1 at e.ends (Some end) (Some (end_of m)) found (ap agreed_format same)

either_met : (fits : Bool) (e : Entity) (from : List ℕ) (reference : ℕ) (tpdu : Tpdu) (m : Moved) → extended_of (moved e reference m).entity ≡ extended_of e
    → extended_of (cond fits (moved e reference m) (unmatched e from tpdu)).entity ≡ extended_of e
either_met true e from reference tpdu m h = h
either_met false e from reference tpdu m h = refl

by_keeps : (wrap : ℕ → ℕ → ℕ) (now : ℕ) (e : Entity) (from : List ℕ) (tpdu : TpduAndSum) (reference : ℕ) (place : Place) → end_at e reference ≡ place → reaches_end tpdu.0 ≡ false
    → extended_of (met_by wrap now e from tpdu reference place).entity ≡ extended_of e
by_keeps wrap now e from tpdu reference None is h = refl
by_keeps wrap now e from tpdu reference (Some end) is h =
    either_met (is_match end.base end.stage from tpdu.0) e from reference tpdu.0 (stepped wrap now end (Took tpdu.0 tpdu.1))
    (moved_keeps e reference end (stepped wrap now end (Took tpdu.0 tpdu.1)) is (step_keeps wrap now end tpdu h))

pub met_keeps : (wrap : ℕ → ℕ → ℕ) (now : ℕ) (e : Entity) (from : List ℕ) (tpdu : TpduAndSum) → reaches_end tpdu.0 ≡ false → extended_of (met wrap now e from tpdu).entity ≡ extended_of e
met_keeps wrap now e from (Dc destination source, sum) h = by_keeps wrap now e from (Dc destination source, sum) destination (end_at e destination) refl h
met_keeps wrap now e from (Ak destination number credit subsequence confirmation, sum) h =
    by_keeps wrap now e from (Ak destination number credit subsequence confirmation, sum) destination (end_at e destination) refl h
met_keeps wrap now e from (Ea destination number, sum) h = by_keeps wrap now e from (Ea destination number, sum) destination (end_at e destination) refl h
met_keeps wrap now e from (Er destination cause rejected, sum) h = by_keeps wrap now e from (Er destination cause rejected, sum) destination (end_at e destination) refl h
met_keeps wrap now e from (other, sum) h = absurd cc

-- ---- the unit as far as it was read

pub heard_none : (now : ℕ) (old : Entity) (from octets : List ℕ) (was : Told) → Heard now old from octets octets (at now old) was was
heard_none now old from octets was = record {
  tpdus = [];
  separates = refl;
  does = record { entity_is = refl; told = nothing_told was };
  formats = λ some. refl;
  clock = refl;
}

formats_after : (reaches : Bool) (now : ℕ) (old entity new : Entity) (from rest behind : List ℕ) (tpdu : TpduAndSum) → reaches_end tpdu.0 ≡ reaches → BeginsWithTpdu (extended_of entity) rest tpdu behind
    → new ≡ (met wire now entity from tpdu).entity → extended_of entity ≡ extended_of old → behind ≢ [] → extended_of new ≡ extended_of old
formats_after true now old entity new from rest behind tpdu is begins done same some = absurd (some (begins.end is))
formats_after false now old entity new from rest behind tpdu is begins done same some = ap extended_of done ∙ met_keeps wire now entity from tpdu is ∙ same

pub heard_more : (now : ℕ) (old entity new : Entity) (from octets rest behind : List ℕ) (tpdu : TpduAndSum) (was mid told : Told) → Heard now old from octets rest entity was mid → rest ≢ []
    → BeginsWithTpdu (extended_of entity) rest tpdu behind → DoesSo (met wire entity.clock entity from tpdu) new mid told → new.clock ≡ entity.clock → Heard now old from octets behind new was told
heard_more now old entity new from octets rest behind tpdu was mid told heard some begins does clock =
    let all = all_met wire now (at now old) from heard.tpdus in
    let same = heard.formats some in
    let done : DoesSo (met wire now entity from tpdu) new mid told = subst (λ (n : ℕ). DoesSo (met wire n entity from tpdu) new mid told) heard.clock does in
    let there : DoesSo (met wire now all.entity from tpdu) new mid told = subst (λ (e : Entity). DoesSo (met wire now e from tpdu) new mid told) heard.does.entity_is done in
    let last = met wire now all.entity from tpdu in
    record {
      tpdus = heard.tpdus ++ tpdu ∷ [];
      separates = separates_more (extended_of old) octets rest behind heard.tpdus tpdu heard.separates (subst (λ (x : List ℕ). BeginsWithTpdu x rest tpdu behind) same begins);
      does = subst (λ (a : Acted). DoesSo a new was told) (sym (all_more wire now (at now old) from heard.tpdus tpdu)) (record {
        entity_is = there.entity_is;
        told = grown_twice was mid told all.events last.events all.tpdus last.tpdus heard.does.told there.told;
      });
      formats = formats_after (reaches_end tpdu.0) now old entity new from rest behind tpdu refl begins done.entity_is same;
      clock = clock ∙ heard.clock;
    }

-- the outcome
abbrev pub Hears : ℕ → Entity → List ℕ → List ℕ → Entity → Told → Told → Type 0
Hears now old from octets new was told = (acted : Acted) × HearsUnit wire now old from octets acted × DoesSo acted new was told

pub heard_all : (now : ℕ) (old entity : Entity) (from octets rest : List ℕ) (was told : Told) → Heard now old from octets rest entity was told → rest ≡ [] → Hears now old from octets entity was told
heard_all now old entity from octets rest was told heard none =
    let all = all_met wire now (at now old) from heard.tpdus in (
      all,
      record {
        tpdus = heard.tpdus;
        rest = rest;
        told = [];
        separates = heard.separates;
        ends = Whole none refl;
        entity = refl;
        events = sym (append-nil all.events);
        tpdus_are = refl;
      },
      heard.does,
    )

pub heard_fault : (now : ℕ) (old entity : Entity) (from octets rest : List ℕ) (fault : TpduFault) (was mid told : Told) → Heard now old from octets rest entity was mid → rest ≢ []
    → IsTpduFault (extended_of entity) rest fault → Grows mid (record { reference = 0; what = BadTpdu fault.cause fault.place } ∷ []) [] told → Hears now old from octets entity was told
heard_fault now old entity from octets rest fault was mid told heard some fails grows =
    let all = all_met wire now (at now old) from heard.tpdus in
    let bad : List EndEvent = record { reference = 0; what = BadTpdu fault.cause fault.place } ∷ [] in
    let grown = grown_twice was mid told all.events bad all.tpdus [] heard.does.told grows in (
      record { entity = all.entity; events = all.events ++ bad; tpdus = all.tpdus },
      record {
        tpdus = heard.tpdus;
        rest = rest;
        told = bad;
        separates = heard.separates;
        ends = Faulty fault some (subst (λ (x : List ℕ). IsTpduFault x rest fault) (heard.formats some) fails) refl;
        entity = refl;
        events = refl;
        tpdus_are = refl;
      },
      record { entity_is = heard.does.entity_is; told = subst (λ (t : List Sent). Grows was (all.events ++ bad) t told) (append-nil all.tpdus) grown },
    )

-- what stands at the front has octets
pub shorter : (extended octets rest : List ℕ) (tpdu : TpduAndSum) → BeginsWithTpdu extended octets tpdu rest → length rest < length octets
shorter extended octets rest tpdu begins =
    let whole = ap length begins.begins.whole ∙ length-append begins.begins.front rest in
    let some = ap length begins.begins.stands.spells.all in
    omega (arith, whole, some)

pub some_left : (octets : List ℕ) → false ≡ (length octets == 0) → octets ≢ []
some_left octets test none = let empty = test ∙ ap (λ (x : List ℕ). length x == 0) none in absurd cc

pub none_left : (octets : List ℕ) → true ≡ (length octets == 0) → octets ≡ []
none_left [] test = refl
none_left (octet ∷ octets) test = let some = test ∙ eqb-suc-zero (length octets) in absurd cc
