-- What an entity does with what comes, place by place: an end takes it, or a CR makes one at a reference that is free; all others stay as they are.
use Rattle.std.proofs.Common.{◌≡◌, ◌≢◌, ◌⊎◌, inl, inr, ℕ, suc, ◌+◌, ◌==◌, ◌≤◌, Bool, true, false, List, [], ◌∷◌, ◌||◌, Option, Some, None, refl, sym, ◌∙◌, ap, subst, slice_get}
use Rattle.std.specs.Prelude.{◌&&◌, nat_eq, not}
use Rattle.std.specs.List.{AllByRecursion, list_any}
use Rattle.std.specs.Cmp.Lexicographic.{bytes_decides, pointwise}
use Rattle.std.proofs.lemmas.Bool.{eq-eqb, eqb-false, eqb-true}
use Rattle.std.proofs.lemmas.Option.{same_Some}
use Rattle.tpdu.specs.Values.{destination_of}
use Rattle.tpdu.specs.declared.tpdu.Tpdu.{Tpdu as WireTpdu}
use Rattle.tpdu.specs.declared.tpdu.Tpdu.TheVariants as wires
use Rattle.tp4_number.specs.Number.{whole}
use Rattle.tp4_number.proofs.Past.{if_kept}
use Rattle.tp4_flow.specs.declared.step.Sent.{Sent}
use Rattle.tp4_conn.specs.Agreeing.{extra_of, is_within, number_of, proposed_in, request}
use Rattle.tp4_conn.specs.CrWait.{cr_wait_tpdu}
use Rattle.tp4_conn.specs.End.{End, Moved, end_of, frozen_for}
use Rattle.tp4_conn.specs.Making.{called_end, indicated}
use Rattle.tp4_conn.specs.Matching.{fits, is_answer, is_called_by, is_match, wants_sum}
use Rattle.tp4_conn.specs.Table.{Took, at as now_at, stepped, takes}
use Rattle.tp4_conn.specs.declared.end_record.EndRecord.{EndRecord}
use Rattle.tp4_conn.specs.declared.states.InCrWait.{InCrWait}
use Rattle.tp4_conn.specs.declared.states.StateData.{StateData}
use Rattle.tp4_conn.specs.declared.states.StateData.TheVariants.{AkWait, Closing, CrWait, Frozen, Opened, UserWait, WaitBeforeClose}
use Rattle.tp4_entity.specs.Association.{answers, is_called, is_frozen, is_registered, met, new_end, refusal}
use Rattle.tp4_entity.specs.Entity.{Acted, Entity, end_at, moved}
use Rattle.tp4_entity.specs.References.{is_free_place, least_free}
use Rattle.tp4_entity.proofs.PlaceLaws.{end_there}
use Rattle.tp4_entity.proofs.Standings.{Free, free_least, within}
use Rattle.law_tp4_associations.specs.Phase.{IsAsking}
use Rattle.law_tp4_associations.proofs.Keeping.{IsSame, row_keeps, row_partner}
use Rattle.law_tp4_history.specs.Moves.{HasSource, stop_of}
use Rattle.law_tp4_history.specs.Seen.{seen}
use Rattle.tp4_world.specs.Telling.{ends_after}
use Rattle.tp4_world.specs.declared.place.EndAt.{EndAt}
use Rattle.law_tp4_lawful.proofs.MakesPlaces.{at_other, at_same}
use Rattle.law_recovery_run.specs.Aside.{Names}
use Rattle.law_recovery_run.proofs.Aside.{both_are, kept_place}
use Rattle.law_recovery_run.proofs.Meeting.{met_cases}
use Rattle.law_recovery_run.specs.Requesting.{IsPast, IsReason, IsUnanswered, in_cr_wait}

-- ---- what an entity does

-- an answer of the entity itself to a TPDU that it read
pub record IsAnswerTo (Read : WireTpdu → Bool → Type 0) (from : List ℕ) (sent : Sent) : Type 0 where
  pub t : WireTpdu
  pub sum : Bool
  pub read : Read t sum
  pub to : sent.to ≡ from
  pub source : ℕ
  pub target : destination_of sent.tpdu ≡ Some source
  pub names : Names source t
  pub unnamed : (reference : ℕ) → reference ≢ 0 → Names reference sent.tpdu → ⊥
  pub sourced : HasSource (seen 0 sent.tpdu)

-- its ends stay, and none is made; or the end at a reference takes the TPDU; or a CR makes one where none stood
pub data IsMet (Read : WireTpdu → Bool → Type 0) (now : ℕ) (e : Entity) (from : List ℕ) (acted : Acted) : Type 0 where
  Stays : acted.entity ≡ e → ((ends : List EndAt) (system : ℕ) → ends_after ends system acted.events ≡ ends) → AllByRecursion (IsAnswerTo Read from) acted.tpdus → IsMet Read now e from acted
  Takes : (t : WireTpdu) (sum : Bool) (reference : ℕ) (o : End) → Read t sum → destination_of t ≡ Some reference → end_at e reference ≡ Some o → is_match o.base o.stage from t ≡ true
      → acted ≡ moved e reference (stepped whole now o (Took t sum)) → IsMet Read now e from acted
  Makes : (reference : ℕ) (base : EndRecord) (octets : List ℕ) → Free now reference e → base.own ≡ reference → acted ≡ moved e reference (indicated base octets) → IsMet Read now e from acted

module _ (Read : WireTpdu → Bool → Type 0) (now : ℕ) (e : Entity) (from : List ℕ) (t : WireTpdu) (sum : Bool) (read : Read t sum) where
  pub met_is : IsMet Read now e from (met whole now e from (t, sum))
  met_is = met_cases now e from t sum (IsMet Read now e from)
      (λ events none. Stays refl none.ends tt)
      (λ events sent none a. Stays refl none.ends (record { t = t; sum = sum; read = read; to = a.to; source = a.source; target = a.target; names = a.names; unnamed = a.unnamed; sourced = a.sourced }, tt))
      (λ reference o target stands match. Takes t sum reference o read target stands match refl)
      (λ reference base octets free own. Makes reference base octets free own refl)

-- ---- its places

module _ (Read : WireTpdu → Bool → Type 0) (now : ℕ) (e : Entity) (from : List ℕ) (acted : Acted) where
  -- the end at a reference takes a TPDU
  pub record IsTaken (reference : ℕ) (o : End) : Type 0 where
    pub t : WireTpdu
    pub sum : Bool
    pub read : Read t sum
    pub target : destination_of t ≡ Some reference
    pub match : is_match o.base o.stage from t ≡ true
    pub fit : fits o.base o.stage t ≡ true
    pub stands : end_at acted.entity reference ≡ Some (end_of (takes whole now o.base o.stage t sum))
    pub is : acted ≡ moved e reference (stepped whole now o (Took t sum))

  moved_here : (reference : ℕ) (p : End) (m : Moved) → end_at e reference ≡ Some p → acted ≡ moved e reference m → end_at acted.entity reference ≡ Some (end_of m)
  moved_here reference p m there is =
      let inside = within e reference p there in
      ap (λ (a : Acted). end_at a.entity reference) is ∙ at_same e reference (Some (end_of m)) inside.least inside.most

  moved_elsewhere : (reference other : ℕ) (m : Moved) → 1 ≤ reference → (other == reference) ≡ false → acted ≡ moved e reference m → end_at acted.entity other ≡ end_at e other
  moved_elsewhere reference other m least apart is = ap (λ (a : Acted). end_at a.entity other) is ∙ at_other e reference other (Some (end_of m)) least (eqb-false other reference apart)

  -- an end that is not frozen stays as it is, or takes it
  pub goes_on : IsMet Read now e from acted → (r : ℕ) (o : End) → end_at e r ≡ Some o → stop_of o.stage ≡ None → (end_at acted.entity r ≡ Some o) ⊎ IsTaken r o
  goes_on (Stays same none answers) r o stands goes = inl (ap (λ (z : Entity). end_at z r) same ∙ stands)
  goes_on (Takes t sum reference p read target there match is) r o stands goes = by (r == reference) refl
    where
      by : (b : Bool) → (r == reference) ≡ b → (end_at acted.entity r ≡ Some o) ⊎ IsTaken r o
      by true same =
          let at_it : r ≡ reference = eqb-true r reference same in
          let it : p ≡ o = same_Some p o (sym there ∙ ap (end_at e) (sym at_it) ∙ stands) in
          inr (record {
            t = t;
            sum = sum;
            read = read;
            target = target ∙ ap (λ (n : ℕ). Some n) (sym at_it);
            match = subst (λ (z : End). is_match z.base z.stage from t ≡ true) it match;
            fit = subst (λ (z : End). fits z.base z.stage t ≡ true) it (both_are _ _ match).1;
            stands = ap (end_at acted.entity) at_it ∙ moved_here reference p (stepped whole now p (Took t sum)) there is ∙ ap (λ (z : End). Some (end_of (stepped whole now z (Took t sum)))) it;
            is = is ∙ (λ i. moved e (sym at_it i) (stepped whole now (it i) (Took t sum)));
          })
      by false apart = inl (moved_elsewhere reference r (stepped whole now p (Took t sum)) (within e reference p there).least apart is ∙ stands)
  goes_on (Makes reference base octets free own is) r o stands goes = by (r == reference) refl
    where
      by : (b : Bool) → (r == reference) ≡ b → (end_at acted.entity r ≡ Some o) ⊎ IsTaken r o
      by true same = absurd (kept_place now (frozen_for o.base.timers) o.stage goes (ap (is_free_place now) (sym stands ∙ ap (end_at e) (eqb-true r reference same)) ∙ free.free))
      by false apart = inl (moved_elsewhere reference r (indicated base octets) free.least apart is ∙ stands)

  -- whence an end is that stands after it
  pub data ComesFrom (r : ℕ) (o : End) : Type 0 where
    Was : end_at e r ≡ Some o → ComesFrom r o
    Went : (p : End) (t : WireTpdu) (sum : Bool) → end_at e r ≡ Some p → fits p.base p.stage t ≡ true → o ≡ end_of (stepped whole now p (Took t sum)) → ComesFrom r o
    New : (base : EndRecord) (octets : List ℕ) → o ≡ end_of (indicated base octets) → ComesFrom r o

  pub comes_from : IsMet Read now e from acted → (r : ℕ) (o : End) → end_at acted.entity r ≡ Some o → ComesFrom r o
  comes_from (Stays same none answers) r o stands = Was (ap (λ (z : Entity). end_at z r) (sym same) ∙ stands)
  comes_from (Takes t sum reference p read target there match is) r o stands = by (r == reference) refl
    where
      m : Moved
      m = stepped whole now p (Took t sum)

      by : (b : Bool) → (r == reference) ≡ b → ComesFrom r o
      by true same =
          let at_it : r ≡ reference = eqb-true r reference same in
          Went p t sum (ap (end_at e) at_it ∙ there) (both_are _ _ match).1 (same_Some o (end_of m) (sym stands ∙ ap (end_at acted.entity) at_it ∙ moved_here reference p m there is))
      by false apart = Was (sym (moved_elsewhere reference r m (within e reference p there).least apart is) ∙ stands)
  comes_from (Makes reference base octets free own is) r o stands = by (r == reference) refl
    where
      by : (b : Bool) → (r == reference) ≡ b → ComesFrom r o
      by true same =
          let at_it : r ≡ reference = eqb-true r reference same in
          let new : end_at acted.entity reference ≡ Some (end_of (indicated base octets)) =
          ap (λ (a : Acted). end_at a.entity reference) is ∙ at_same e reference (Some (end_of (indicated base octets))) free.least free.most in
          New base octets (same_Some o (end_of (indicated base octets)) (sym stands ∙ ap (end_at acted.entity) at_it ∙ new))
      by false apart = Was (sym (moved_elsewhere reference r (indicated base octets) free.least apart is) ∙ stands)

-- ---- the rows

pub no_fit : (b : EndRecord) (stage : StateData) (t : WireTpdu) → IsUnanswered stage → fits b stage t ≡ true → ⊥
no_fit b (UserWait since) t un fit = cc fit
no_fit b (Frozen when) t un fit = cc fit
no_fit b stage t un fit = un

-- an end in UserWait takes nothing
pub waits_on : (b : EndRecord) (stage : StateData) (since : ℕ) (t : WireTpdu) → stage ≡ UserWait since → fits b stage t ≡ true → ⊥
waits_on b stage since t is fit = no_fit b stage t (subst IsUnanswered (sym is) tt) fit

-- a calling end is no called one, and a called end that was not answered takes nothing; so an end that takes something is for no caller whose called ends were not answered
pub unanswered_row : (now : ℕ) (p : End) (t : WireTpdu) (sum : Bool) (from : List ℕ) (reference : ℕ) → (IsAsking p.stage → p.base.is_called ≡ false)
    → (is_called_by p.base from reference ≡ true → IsUnanswered p.stage) → fits p.base p.stage t ≡ true → is_called_by (stepped whole now p (Took t sum)).base from reference ≡ true → ⊥
unanswered_row now p t sum from reference calls was fit called = by p.stage refl
  where
    m : Moved
    m = stepped whole now p (Took t sum)

    s : IsSame p.base m.base
    s = row_keeps now p (Took t sum)

    two : false ≡ true → ⊥
    two e = cc e

    asked : IsAsking p.stage → ⊥
    asked a = two (sym (calls a) ∙ sym s.is_called ∙ (both_are m.base.is_called (pointwise nat_eq m.base.to from && m.base.partner == reference) called).0)

    before : (IsAsking p.stage → ⊥) → ⊥
    before never =
        let partner : m.base.partner ≡ p.base.partner = row_partner now p (Took t sum) never in
        no_fit p.base p.stage t (was ((λ i. sym s.is_called i && (pointwise nat_eq (sym s.to i) from && sym partner i == reference)) ∙ called)) fit

    by : (stage : StateData) → p.stage ≡ stage → ⊥
    by (CrWait w) is = asked (subst IsAsking (sym is) tt)
    by (WaitBeforeClose w) is = asked (subst IsAsking (sym is) tt)
    by (UserWait since) is = before (λ a. subst IsAsking is a)
    by (AkWait w) is = before (λ a. subst IsAsking is a)
    by (Opened o) is = before (λ a. subst IsAsking is a)
    by (Closing c) is = before (λ a. subst IsAsking is a)
    by (Frozen when) is = before (λ a. subst IsAsking is a)

-- what an end in CrWait takes leaves it so, or it is Opened or has left
pub answer_row : (b : EndRecord) (r : InCrWait) (t : WireTpdu) → is_answer t ≡ true → IsPast (cr_wait_tpdu b r t).stage
unfolding cr_wait_tpdu
answer_row b r (wires.Cc credit destination source width calling called size preferred extra version classes ack_time text) is =
    if_kept (λ (m : Moved). IsPast m.stage) (is_within b.proposed width size preferred extra) _ _ (λ _. inr (_, refl)) (λ _. inl tt)
answer_row b r (wires.Dr destination source reason info text) is = inl tt
answer_row b r other is = absurd (cc is)

pub cr_wait_row : (now : ℕ) (b : EndRecord) (r : InCrWait) (t : WireTpdu) (sum : Bool) → fits b (CrWait r) t ≡ true
    → (end_of (takes whole now b (CrWait r) t sum) ≡ in_cr_wait b r) ⊎ IsPast (takes whole now b (CrWait r) t sum).stage
cr_wait_row now b r t sum fit =
    if_kept (λ (m : Moved). (end_of m ≡ in_cr_wait b r) ⊎ IsPast m.stage) (wants_sum b (CrWait r) t && not sum) _ _ (λ _. inl refl) (λ _. inr (answer_row (now_at now b) r t fit))

-- ---- a CR

-- why a CR is refused: its end is frozen; its selector is not registered, of which that is known; no reference is free
abbrev pub IsReasonOf : Type 0 → ℕ → Type 0
IsReasonOf Unregistered reason = (reason ≡ 131) ⊎ (((reason ≡ 3) × Unregistered) ⊎ (reason ≡ 129))

pub reason_as : (One Other : Type 0) (reason : ℕ) → (One → Other) → IsReasonOf One reason → IsReasonOf Other reason
reason_as One Other reason f (inl frozen) = inl frozen
reason_as One Other reason f (inr (inl three)) = inr (inl (three.0, f three.1))
reason_as One Other reason f (inr (inr spent)) = inr (inr spent)

pub reason_of : (One : Type 0) (reason : ℕ) → IsReasonOf One reason → IsReason reason
reason_of One reason (inl frozen) = inl frozen
reason_of One reason (inr (inl three)) = inr (inl three.0)
reason_of One reason (inr (inr spent)) = inr (inr spent)

-- a called end for that caller is there; or one is made; or a DR goes back
pub data IsAsked (now : ℕ) (e : Entity) (from : List ℕ) (source : ℕ) (called : List ℕ) (m : Acted) : Type 0 where
  There : list_any (is_called false from source) e.ends ≡ true → m ≡ answers e [] → IsAsked now e from source called m
  Made : (reference : ℕ) (base : EndRecord) (octets : List ℕ) → Free now reference e → is_called_by base from source ≡ true → m ≡ moved e reference (indicated base octets) → IsAsked now e from source called m
  Refused : (reason : ℕ) → IsReasonOf (is_registered e.selectors called ≡ false) reason → m ≡ answers e (refusal from source reason ∷ []) → IsAsked now e from source called m

pub asks : (now : ℕ) (e : Entity) (from : List ℕ) (b : EndRecord) (octets : List ℕ) (sum : Bool) → IsAsked now e from b.own b.called (met whole now e from ((request b octets).tpdu, sum))
asks now e from b octets sum =
    if_kept (IsAsked now e from b.own b.called) (list_any (is_called false from b.own) e.ends) _ _ (λ there. There there refl)
    (λ _. if_kept (IsAsked now e from b.own b.called) (list_any (is_called true from b.own) e.ends) _ _ (λ _. Refused 131 (inl refl) refl)
    (λ _. if_kept (IsAsked now e from b.own b.called) (not (is_registered e.selectors b.called)) _ _ (λ none. Refused 3 (inr (inl (refl, registered none))) refl) (λ _. by (least_free now e) refl)))
  where
    registered : not (is_registered e.selectors b.called) ≡ true → is_registered e.selectors b.called ≡ false
    registered none = turned (is_registered e.selectors b.called) none
      where
        turned : (c : Bool) → not c ≡ true → c ≡ false
        turned true is = absurd (cc is)
        turned false is = refl

    by : (free : Option ℕ) → least_free now e ≡ free → IsAsked now e from b.own b.called (new_end now e from b.own (request b octets).tpdu free)
    by None is = Refused 129 (inr (inr refl)) refl
    by (Some reference) is =
        Made reference
        (called_end now reference from e.timers b.timers.credit b.own b.calling b.called
        (proposed_in b.proposed.options.format (Some b.proposed.listed) (number_of b.proposed.options) (extra_of b.proposed.options))) octets (free_least now reference e is)
        ((λ i. (bytes_decides from from).1 refl i && b.own == b.own) ∙ eq-eqb b.own b.own refl) refl

-- the called end that is there
pub record IsFound (e : Entity) (from : List ℕ) (source : ℕ) : Type 0 where
  pub own : ℕ
  pub end : End
  pub stands : end_at e own ≡ Some end
  pub called : is_called_by end.base from source ≡ true
  pub held : not (is_frozen end.stage) ≡ true

found_in : (test : Option End → Bool) → test None ≡ false → (places : List (Option End)) → list_any test places ≡ true → (k : ℕ) × (f : End) × (slice_get places k ≡ Some (Some f)) × (test (Some f) ≡ true)
found_in test none [] any = absurd (cc any)
found_in test none (place ∷ places) any = by (test place) refl any (found_in test none places)
  where
    here : (p : Option End) → p ≡ place → test p ≡ true → (k : ℕ) × (f : End) × (slice_get (place ∷ places) k ≡ Some (Some f)) × (test (Some f) ≡ true)
    here None is passes = absurd (cc (none, passes))
    here (Some f) is passes = (0, f, ap (λ (q : Option End). Some q) (sym is), passes)

    by : (b : Bool) → test place ≡ b → (b || list_any test places) ≡ true → (list_any test places ≡ true → (k : ℕ) × (f : End) × (slice_get places k ≡ Some (Some f)) × (test (Some f) ≡ true))
        → (k : ℕ) × (f : End) × (slice_get (place ∷ places) k ≡ Some (Some f)) × (test (Some f) ≡ true)
    by true passes all rest = here place refl passes
    by false fails all rest = let r = rest all in (suc r.0, r.1, r.2, r.3)

pub found : (e : Entity) (from : List ℕ) (source : ℕ) → list_any (is_called false from source) e.ends ≡ true → IsFound e from source
found e from source any =
    let r = found_in (is_called false from source) refl e.ends any in
    let parts = both_are (is_called_by r.1.base from source) (not (is_frozen r.1.stage)) r.3 in
    record { own = r.0 + 1; end = r.1; stands = end_there e (r.0 + 1) r.0 (Some r.1) r.2 refl; called = parts.0; held = parts.1 }

pub user_waits : (stage : StateData) → IsUnanswered stage → not (is_frozen stage) ≡ true → (since : ℕ) × (stage ≡ UserWait since)
user_waits (UserWait since) un held = (since, refl)
user_waits (Frozen when) un held = absurd (cc held)
user_waits stage un held = absurd un
