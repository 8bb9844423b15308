-- What the lines of a pair do in a step of an end, and where the halves of all ends stand after it.
use Rattle.std.proofs.Common.{◌≡◌, ◌≢◌, ◌⊎◌, inl, inr, ℕ, ◌+◌, ◌-◌, ◌<◌, true, false, if◌then◌else◌, List, [], ◌++◌, Option, Some, None, Contains, refl, sym, ◌∙◌, ap, subst}
use Rattle.std.specs.Prelude.{option_map}
use Rattle.std.proofs.lemmas.Bool.{cases_Bool, cases_eq, cond-true, cond-false}
use Rattle.std.proofs.lemmas.Option.{same_Some}
use Rattle.script_journal.specs.Lawful.{Marked, submitted, shown}
use Rattle.script_journal.specs.declared.event.Event.{Event as Told}
use Rattle.tpdu.specs.declared.tpdu.Tpdu.{Tpdu as WireTpdu}
use Rattle.tpdu.specs.declared.tpdu.Tpdu.TheVariants as wires
use Rattle.tp4_number.specs.Number.{whole}
use Rattle.tp4_flow.specs.declared.rules.FlowRules.{FlowRules}
use Rattle.tpdu.specs.declared.service.Options.{Options}
use Rattle.tp4_flow.specs.declared.step.Sent.{Sent}
use Rattle.tp4_conn.specs.declared.end_record.EndRecord.{EndRecord}
use Rattle.tp4_conn.specs.declared.halves.Halves.{Halves}
use Rattle.tp4_conn.specs.declared.states.StateData.{StateData}
use Rattle.tp4_conn.specs.declared.states.StateData.TheVariants as stages
use Rattle.tp4_conn.specs.declared.timers.Timers.{Timers}
use Rattle.tp4_conn.specs.Agreeing.{header_of}
use Rattle.tp4_conn.specs.End.{End as ConnEnd, Moved}
use Rattle.tp4_conn.specs.Proper.{IsProper, IsProperEvent}
use Rattle.tp4_conn.specs.Table.{Event, Took, stepped}
use Rattle.law_tp4_history.specs.Ends.{Body, Birth, Cc, Cause, End, Offer, Plain, Terms, Times}
use Rattle.law_tp4_history.specs.History.{History, IsCaller, IsPartner, IsTaken, set_end}
use Rattle.law_tp4_history.specs.Tracks.{Accepted, CanIn, CanOut, Doing, Go, GoesOn, MayDo, Noted, Nothing, Start, Track, Whole, clocked, done, set_track}
use Rattle.law_tp4_history.specs.Units.{MayTell, TellsNone}
use Rattle.law_tp4_history.proofs.Meets.{Meets, Of_entity, Of_partner, meets, swap}
use Rattle.law_tp4_history.proofs.Sound.{Sound, one_partner}
use Rattle.law_tp4_history.proofs.Tracked.{Tracked, not_begun}
use Rattle.law_tp4_history.specs.Lines.{AreOffered, ArePlain, AreSentIn, AreUntouched, Begun, Flowed, Going, IsIn, IsKnownEvent, IsKnownTpdu, IsSendingAt, IsTimely, LinesBegin, LinesGoOn, LinesStay, Stands, Still, given, shown_in}
use Rattle.law_tp4_history.specs.Moves.{AreOwn, IsAsked, IsSeenIn, Moves, Sees}
use Rattle.law_tp4_history.specs.Seen.{AreOffersOf, no_terms, seen, terms_of}
use Rattle.law_tp4_lawful.proofs.Acting.{Comes}
use Rattle.law_tp4_lawful.proofs.Known.{AreTerms, HasBegun, piece_by}
use Rattle.law_tp4_rows.specs.Leaving.{HasHalves, IsUnagreed}
use Rattle.law_tp4_rows.proofs.Leaving.{row_leaves}
use Rattle.law_tp4_lawful.proofs.FramesLines.{apart_from, end_here, end_other, has_partner, line_other, line_own, line_theirs}

-- what the rows do to the lines
pub record Flowing : Type 0 where
  pub step : (times : Times) (terms : Terms) (now : ℕ) (taken : Option Offer) (own theirs : Track) (old : ConnEnd) (event : Event) → times.life ≡ old.base.timers.life
      → IsProper old.base old.stage → IsProperEvent old event → Stands terms old.base old.stage own theirs → IsKnownEvent terms old.base old.stage taken event own theirs
      → IsTimely now own → IsTimely now theirs → Flowed times terms now taken old.stage event (stepped whole now old event) own theirs
  pub partner : (taken : Option Offer) (own theirs new_own new_theirs : Track) → GoesOn (CanOut taken) own new_own → GoesOn (CanIn taken) theirs new_theirs
      → (terms : Terms) (b : EndRecord) (stage : StateData) → Stands terms b stage theirs own → Stands terms b stage new_theirs new_own
  pub later : (terms : Terms) (b : EndRecord) (stage : StateData) (own theirs : Track) → Stands terms b stage own theirs → Stands terms b stage (clocked own) (clocked theirs)
  pub offered : (own theirs : Track) (now number : ℕ) (address : List ℕ) (tpdus : List Sent) → AreSentIn own theirs now tpdus → AreOffered now number address tpdus (IsIn own theirs now)
  pub plain : (now number : ℕ) (address : List ℕ) (tpdus : List Sent) → ArePlain tpdus → AreOffered now number address tpdus (λ body. body ≡ Plain)
  pub noted : (h : History) (track : ℕ → Track) (y z : ℕ) (own theirs : Track) (now : ℕ) (body : Body) → IsPartner h y z → y ≢ z → IsIn own theirs now body
      → Noted h (done track y (Go z own theirs)) y now body

-- a line that begins is of an end with a partner, which has not agreed where the called one has not
module _ (times : Times) (w : Whole) (s : Sound times w.base) (t : Tracked times w) where
  pub begun_partner : (k : ℕ) → (w.track k).is_begun ≡ true → (z : ℕ) × IsPartner w.base k z
  begun_partner k begun =
      let p = t.pair k begun in
      elim p.is [
        | inl same ↦ ((w.base.end p.b).birth.caller, subst (λ (j : ℕ). IsPartner w.base j (w.base.end p.b).birth.caller) (sym same) (inr (record { a_low = s.caller_low p.b p.low p.called; b_low = p.low; called = p.called; is = refl })))
        | inr c ↦ (p.b, inl c)
      ]

  pub timely_at : (k : ℕ) → IsTimely w.base.clock (w.track k)
  timely_at k begun = let r = t.run k begun in record { world = r.at.0; urgent = r.at.1 }

-- the terms of the one that is called
abbrev chosen : End → Option Terms → Option Terms → Option Terms
chosen e own theirs = if e.birth.is_called then own else theirs

abbrev terms_in : Option Terms → Terms
terms_in None = no_terms
terms_in (Some terms) = terms

-- halves stand on any terms, where the line has not begun
any_terms : (b : EndRecord) (stage : StateData) (terms other : Terms) (own theirs : Track) → (own.is_begun ≡ true → ⊥) → Stands terms b stage own theirs → Stands other b stage own theirs
any_terms b (stages.CrWait w) terms other own theirs none stands = λ begun. absurd (none begun)
any_terms b another terms other own theirs none stands = stands

-- halves stand in a line that has begun
begun_in : (b : EndRecord) (stage : StateData) (terms : Terms) (own theirs : Track) → HasHalves stage → Stands terms b stage own theirs → own.is_begun ≡ true
begun_in b (stages.AkWait w) terms own theirs has stands = stands.sending.begun
begun_in b (stages.Opened o) terms own theirs has stands = stands.sending.begun
begun_in b other terms own theirs has stands = absurd has

-- with pieces of the size agreed on
size_at : (b : EndRecord) (h : Halves) (options : Options) (own : Track) → AreOwn b h → b.agreed ≡ Some options → IsSendingAt h.sending own → own.size ≡ options.size - header_of options
size_at b h options own are agreed stands =
    stands.size ∙ ap (λ (r : FlowRules). r.piece) are.sending ∙ ap (λ (o : Options). o.size - header_of o) (same_Some _ _ (sym are.agreed ∙ agreed))

size_in : (birth : Birth) (took latest : ℕ) (b : EndRecord) (stage : StateData) (terms : Terms) (own theirs : Track) (options : Options) → HasHalves stage → Stands terms b stage own theirs
    → IsSeenIn birth took latest b stage → b.agreed ≡ Some options → own.size ≡ options.size - header_of options
size_in birth took latest b (stages.AkWait w) terms own theirs options has stands seen_ agreed = size_at b w.halves options own seen_.halves agreed stands.sending
size_in birth took latest b (stages.Opened o) terms own theirs options has stands seen_ agreed = size_at b o.halves options own seen_.halves agreed stands.sending
size_in birth took latest b other terms own theirs options has stands seen_ agreed = absurd has

-- an end that has not agreed
unagreed_in : (birth : Birth) (took latest : ℕ) (b : EndRecord) (stage : StateData) → IsUnagreed stage → IsSeenIn birth took latest b stage → b.agreed ≡ None
unagreed_in birth took latest b (stages.CrWait w) un seen_ = seen_.unagreed
unagreed_in birth took latest b (stages.UserWait since) un seen_ = seen_.unagreed
unagreed_in birth took latest b other un seen_ = absurd un

-- the units that the lines of a step of end k tell
pub record Says (k : ℕ) (event : Event) (m : Moved) (made : List Told) : Type 0 where
  pub none : given event ≡ [] → shown_in m.events ≡ [] → TellsNone made
  pub gave : submitted (k + 1) made ≡ given event
  pub showed : shown (k + 1) made ≡ shown_in m.events
  pub others : (end : ℕ) → end ≢ k + 1 → (submitted end made ≡ []) × (shown end made ≡ [])

-- the history after a step of end k
abbrev pub acted : History → ℕ → End → List Offer → History
acted h k new offers = record h { end = set_end h.end k new; offers = h.offers ++ offers }

-- one end acts
module _ (times : Times) (w : Whole) (s : Sound times w.base) (t : Tracked times w) (k : ℕ) (timers : Timers) (e : ConnEnd) (event : Event) (taken : Option Offer) (low : k < w.base.count)
    (sees : Sees times w.base.clock (w.base.end k) e) (timed : e.base.timers ≡ timers) (cause : Cause) (mv : Moves times w.base.clock cause (w.base.end k) (stepped whole w.base.clock e event))
    (made : List Told) where
  abbrev m : Moved
  m = stepped whole w.base.clock e event

  abbrev now : ℕ
  now = w.base.clock

  -- what comes of it
  pub record Did : Type 0 where
    pub doing : Doing
    pub may : MayDo times w k mv.new taken doing
    pub offers : List Offer
    pub are : AreOffersOf w.base.clock k (w.base.end k).birth.address (stepped whole w.base.clock e event).tpdus offers
    pub noted : (p : Offer) → Contains offers p → Noted w.base (done w.track k doing) k w.base.clock p.tpdu.body
    pub tells : MayTell w k doing made
    pub own : (z : ℕ) (terms : Terms) → IsPartner w.base k z → AreTerms (acted w.base k mv.new offers) k z terms
        → Stands terms (stepped whole w.base.clock e event).base (stepped whole w.base.clock e event).stage (done w.track k doing k) (done w.track k doing z)
    pub others : (x z : ℕ) (terms : Terms) (b : EndRecord) (stage : StateData) → x ≢ k → IsPartner w.base x z → b.timers ≡ timers → AreTerms (acted w.base k mv.new offers) x z terms
        → (AreTerms w.base x z terms → Stands terms b stage (w.track x) (w.track z)) → Stands terms b stage (done w.track k doing x) (done w.track k doing z)
    pub begun : (a : ℕ) (terms : Terms) → IsCaller w.base a k → (mv.new).agreed ≡ Some terms → ((w.base.end k).agreed ≡ Some terms) ⊎ (HasBegun (done w.track k doing a) terms × HasBegun (done w.track k doing k) terms)

  agreed_stays : (terms : Terms) → (w.base.end k).agreed ≡ Some terms → (mv.new).agreed ≡ Some terms
  agreed_stays terms is = elim (row_leaves whole now e event).agreed [
    | inl same ↦ mv.sees.agreed ∙ ap (option_map terms_of) same ∙ sym sees.agreed ∙ is
    | inr un ↦ absurd (cc (is, sees.agreed, ap (option_map terms_of) (unagreed_in (w.base.end k).birth (w.base.end k).took (w.base.end k).latest e.base e.stage un.1 sees.state)))
  ]

  -- a called end whose line has begun had agreed
  was_agreed : (a : ℕ) (terms : Terms) → IsCaller w.base a k → (mv.new).agreed ≡ Some terms → (w.track k).is_begun ≡ true → (w.base.end k).agreed ≡ Some terms
  was_agreed a terms c agreed begun =
      let q = t.pair k begun in
      elim q.is [
        | inl same ↦
            (let was : (w.base.end k).agreed ≡ Some q.terms = ap (λ (j : ℕ). (w.base.end j).agreed) same ∙ q.agreed in
            was ∙ ap Some (same_Some _ _ (sym (agreed_stays q.terms was) ∙ agreed)))
        | inr other ↦ absurd (cc (c.called, (s.pairs k q.b other).calls))
      ]

  called_stays : (mv.new).birth.is_called ≡ (w.base.end k).birth.is_called
  called_stays = mv.sees.is_called ∙ (row_leaves whole now e event).same.is_called ∙ sym sees.is_called

  kept_at : (j : ℕ) → ((set_end w.base.end k mv.new j).birth.is_called ≡ (w.base.end j).birth.is_called) × ((terms : Terms) → (w.base.end j).agreed ≡ Some terms → (set_end w.base.end k mv.new j).agreed ≡ Some terms)
  kept_at j = elim (cases_eq j k) [
    | inl same ↦ subst (λ (i : ℕ). ((set_end w.base.end k mv.new i).birth.is_called ≡ (w.base.end i).birth.is_called) × ((terms : Terms) → (w.base.end i).agreed ≡ Some terms → (set_end w.base.end k mv.new i).agreed ≡ Some terms)) (sym same)
        (ap (λ (x : End). x.birth.is_called) (end_here w.base.end k mv.new) ∙ called_stays, λ terms is. ap (λ (x : End). x.agreed) (end_here w.base.end k mv.new) ∙ agreed_stays terms is)
    | inr apart ↦ (ap (λ (x : End). x.birth.is_called) (end_other w.base.end k mv.new j apart), λ terms is. ap (λ (x : End). x.agreed) (end_other w.base.end k mv.new j apart) ∙ is)
  ]

  old_terms : (offers : List Offer) (x z : ℕ) (terms : Terms) → AreTerms (acted w.base k mv.new offers) x z terms → AreTerms w.base x z terms
  old_terms offers x z terms are = record {
    own = λ called agreed is. are.own ((kept_at x).0 ∙ called) agreed ((kept_at x).1 agreed is);
    theirs = λ called agreed is. are.theirs ((kept_at z).0 ∙ called) agreed ((kept_at z).1 agreed is);
  }

  -- the lines stay as they are
  idle : Flowing → Says k event m made → (terms : Terms) (theirs : Track) → LinesStay terms event m (w.track k) theirs
      → ((offers : List Offer) (z : ℕ) (terms : Terms) → IsPartner w.base k z → AreTerms (acted w.base k mv.new offers) k z terms → Stands terms m.base m.stage (w.track k) (w.track z))
      → ((a : ℕ) (terms : Terms) → IsCaller w.base a k → (mv.new).agreed ≡ Some terms → (w.base.end k).agreed ≡ Some terms) → Did
  idle flowing says terms theirs l own begun =
      let offered = flowing.plain now k (w.base.end k).birth.address m.tpdus l.plain in
      record {
        doing = Nothing;
        may = record {};
        offers = offered.offers;
        are = offered.are;
        noted = λ o c. subst (Noted w.base w.track k now) (sym (offered.each o c)) (record {});
        tells = says.none l.gave l.showed;
        own = own offered.offers;
        others = λ x y terms b stage other q timed_ are old. old (old_terms offered.offers x y terms are);
        begun = λ a terms c agreed. inl (begun a terms c agreed);
      }

  -- of a pair
  module _ (z : ℕ) (p : IsPartner w.base k z) where
    apart : k ≢ z
    apart = apart_from times w.base s k z p

    abbrev now_agreed : Option Terms
    now_agreed = chosen (w.base.end k) (mv.new).agreed (w.base.end z).agreed

    one_called : IsPartner w.base k z → (w.base.end z).birth.is_called ≡ true → (w.base.end k).birth.is_called ≡ false
    one_called (inl q) called = (s.pairs k z q).calls
    one_called (inr q) called = absurd (cc (called, (s.pairs z k q).calls))

    other_called : IsPartner w.base k z → (w.base.end k).birth.is_called ≡ false → (w.base.end z).birth.is_called ≡ true
    other_called (inl q) calls = q.called
    other_called (inr q) calls = absurd (cc (calls, q.called))

    terms_before : AreTerms w.base k z (terms_in now_agreed)
    terms_before = record {
      own = λ called agreed is. sym (ap terms_in (cond-true _ _ _ called ∙ agreed_stays agreed is));
      theirs = λ called agreed is. sym (ap terms_in (cond-false _ _ _ (one_called p called) ∙ is));
    }

    terms_after : (offers : List Offer) (terms agreed : Terms) → AreTerms (acted w.base k mv.new offers) k z terms → now_agreed ≡ Some agreed → agreed ≡ terms
    terms_after offers terms agreed are is = elim (cases_Bool (w.base.end k).birth.is_called) [
      | inl called ↦ are.own ((kept_at k).0 ∙ called) agreed (ap (λ (x : End). x.agreed) (end_here w.base.end k mv.new) ∙ sym (cond-true _ _ _ called) ∙ is)
      | inr calls ↦ are.theirs ((kept_at z).0 ∙ other_called p calls) agreed
          (ap (λ (x : End). x.agreed) (end_other w.base.end k mv.new z (λ same. apart (sym same))) ∙ sym (cond-false _ _ _ calls) ∙ is)
    ]

    agreed_then : (w.track k).is_begun ≡ true → now_agreed ≡ None → ⊥
    agreed_then begun none =
        let q = t.pair k begun in
        elim q.is [
          | inl same ↦
              (let called : (w.base.end k).birth.is_called ≡ true = ap (λ (j : ℕ). (w.base.end j).birth.is_called) same ∙ q.called in
              let agreed : (w.base.end k).agreed ≡ Some q.terms = ap (λ (j : ℕ). (w.base.end j).agreed) same ∙ q.agreed in
              let is : now_agreed ≡ Some q.terms = cond-true _ _ _ called ∙ agreed_stays q.terms agreed in
              cc (is, none))
          | inr c ↦
              (let same : q.b ≡ z = one_partner times w.base s k q.b z (inl c) p in
              let agreed : (w.base.end z).agreed ≡ Some q.terms = ap (λ (j : ℕ). (w.base.end j).agreed) (sym same) ∙ q.agreed in
              let is : now_agreed ≡ Some q.terms = cond-false _ _ _ (s.pairs k q.b c).calls ∙ agreed in
              cc (is, none))
        ]

    to_all : (own theirs : Track) → Stands (terms_in now_agreed) m.base m.stage own theirs → (now_agreed ≡ None → own.is_begun ≡ true → ⊥)
        → (offers : List Offer) (terms : Terms) → AreTerms (acted w.base k mv.new offers) k z terms → Stands terms m.base m.stage own theirs
    to_all own theirs stands none offers terms are = by now_agreed refl
      where
        by : (o : Option Terms) → now_agreed ≡ o → Stands terms m.base m.stage own theirs
        by None is = any_terms m.base m.stage (terms_in now_agreed) terms own theirs (none is) stands
        by (Some agreed) is = subst (λ (x : Terms). Stands x m.base m.stage own theirs) (ap terms_in is ∙ terms_after offers terms agreed are is) stands

    -- the partner of the partner
    back_to : (x y : ℕ) → x ≡ z → IsPartner w.base x y → y ≡ k
    back_to x y same q = one_partner times w.base s z y k (subst (λ (j : ℕ). IsPartner w.base j y) same q) (swap w.base k z p)

    -- both lines after it
    module _ (own theirs : Track) (P : Track → Track → Type 0) where
      abbrev lines : ℕ → Track
      lines = set_track (set_track w.track k own) z theirs

      lines_at : (y : ℕ) → y ≡ z → P own theirs → P (set_track (set_track w.track k own) z theirs k) (set_track (set_track w.track k own) z theirs y)
      lines_at y same h =
          subst (λ (j : ℕ). P (lines k) (lines j)) (sym same)
          (subst (λ (x : Track). P x (lines z)) (sym (line_own w.track k z own theirs apart)) (subst (λ (x : Track). P own x) (sym (line_theirs w.track k z own theirs)) h))

      back_at : (x y : ℕ) → x ≡ z → y ≡ k → P theirs own → P (set_track (set_track w.track k own) z theirs x) (set_track (set_track w.track k own) z theirs y)
      back_at x y same y_is h =
          subst (λ (j : ℕ). P (lines j) (lines y)) (sym same)
          (subst (λ (j : ℕ). P (lines z) (lines j)) (sym y_is)
          (subst (λ (x_ : Track). P x_ (lines k)) (sym (line_theirs w.track k z own theirs)) (subst (λ (x_ : Track). P theirs x_) (sym (line_own w.track k z own theirs apart)) h)))

      unchanged : (x y : ℕ) → x ≢ k → x ≢ z → IsPartner w.base x y → P (w.track x) (w.track y) → P (set_track (set_track w.track k own) z theirs x) (set_track (set_track w.track k own) z theirs y)
      unchanged x y no_k no_z q h =
          let y_no_k : y ≢ k = λ is. no_z (one_partner times w.base s k x z (swap w.base x k (subst (λ (j : ℕ). IsPartner w.base x j) is q)) p) in
          let y_no_z : y ≢ z = λ is. no_k (one_partner times w.base s z x k (swap w.base x z (subst (λ (j : ℕ). IsPartner w.base x j) is q)) (swap w.base k z p)) in
          subst (λ (one : Track). P one (lines y)) (sym (line_other w.track k z own theirs x no_k no_z))
          (subst (λ (one : Track). P (w.track x) one) (sym (line_other w.track k z own theirs y y_no_k y_no_z)) h)

    module _ (flowing : Flowing) (says : Says k event m made) where
      plainly : (track : ℕ → Track) (body : Body) → body ≡ Plain → Noted w.base track k now body
      plainly track body is = subst (Noted w.base track k now) (sym is) (record {})

      still : LinesStay (terms_in now_agreed) event m (w.track k) (w.track z) → Did
      still l = idle flowing says (terms_in now_agreed) (w.track z) l
          (λ offers y terms q are.
          let same : y ≡ z = one_partner times w.base s k y z q p in
          subst (λ (j : ℕ). Stands terms m.base m.stage (w.track k) (w.track j)) (sym same)
          (to_all (w.track k) (w.track z) l.stands (λ none begun. agreed_then begun none) offers terms (subst (λ (j : ℕ). AreTerms (acted w.base k mv.new offers) k j terms) same are)))
          (λ a terms c agreed. elim (row_leaves whole now e event).agreed [
            | inl leaves ↦ sees.agreed ∙ ap (option_map terms_of) (sym leaves) ∙ sym mv.sees.agreed ∙ agreed
            | inr has ↦ was_agreed a terms c agreed (begun_in m.base m.stage (terms_in now_agreed) (w.track k) (w.track z) has.0 l.stands)
          ])

      begins : LinesBegin times (terms_in now_agreed) now e.stage event m → Did
      begins l =
          let offered = flowing.plain now k (w.base.end k).birth.address m.tpdus l.plain in
          record {
            doing = Start z l.own l.theirs;
            may = (p, accepted, l.own_starts, l.they_start);
            offers = offered.offers;
            are = offered.are;
            noted = λ o c. plainly (done w.track k (Start z l.own l.theirs)) o.tpdu.body (offered.each o c);
            tells = says.none l.gave l.showed;
            own = λ y terms q are.
                (let same : y ≡ z = one_partner times w.base s k y z q p in
                let stands = to_all l.own l.theirs l.stands (λ none begun. absurd (cc (none, is_agreed))) offered.offers terms (subst (λ (j : ℕ). AreTerms (acted w.base k mv.new offered.offers) k j terms) same are) in
                lines_at l.own l.theirs (λ (one other : Track). Stands terms m.base m.stage one other) y same stands);
            others = λ x y terms b stage other q timed_ are old. elim (cases_eq x z) [
              | inl same ↦
                  (let y_is = back_to x y same q in
                  let terms_are : terms_of l.options ≡ terms = are.theirs ((kept_at y).0 ∙ ap (λ (j : ℕ). (w.base.end j).birth.is_called) y_is ∙ called) (terms_of l.options)
                  (ap (λ (j : ℕ). (set_end w.base.end k mv.new j).agreed) y_is ∙ ap (λ (h : End). h.agreed) (end_here w.base.end k mv.new) ∙ agrees) in
                  back_at l.own l.theirs (λ (one other_ : Track). Stands terms b stage one other_) x y same y_is
                  (other_end x y terms b stage same timed_ terms_are (old (old_terms offered.offers x y terms are))))
              | inr no_z ↦ unchanged l.own l.theirs (λ (one other_ : Track). Stands terms b stage one other_) x y other no_z q (old (old_terms offered.offers x y terms are))
            ];
            begun = λ a terms c agreed.
                (let same : a ≡ z = one_partner times w.base s k a z (inr c) p in
                let is : terms_of l.options ≡ terms = same_Some _ _ (sym agrees ∙ agreed) in
                inr (
                  subst (λ (t_ : Terms). HasBegun (done w.track k (Start z l.own l.theirs) a) t_) is
                      (subst (λ (j : ℕ). HasBegun (done w.track k (Start z l.own l.theirs) j) (terms_of l.options)) (sym same)
                      (subst (λ (x : Track). HasBegun x (terms_of l.options)) (sym (line_theirs w.track k z l.own l.theirs)) their_line)),
                  subst (λ (t_ : Terms). HasBegun (done w.track k (Start z l.own l.theirs) k) t_) is
                      (subst (λ (x : Track). HasBegun x (terms_of l.options)) (sym (line_own w.track k z l.own l.theirs apart)) own_line),
                ));
          }
        where
          asked : IsAsked (w.base.end k).birth (w.base.end k).latest e.base l.since
          asked = subst (λ (stage : StateData). IsSeenIn (w.base.end k).birth (w.base.end k).took (w.base.end k).latest e.base stage) l.waited sees.state

          called : (w.base.end k).birth.is_called ≡ true
          called = sees.is_called ∙ asked.called

          agrees : (mv.new).agreed ≡ Some (terms_of l.options)
          agrees = mv.sees.agreed ∙ ap (option_map terms_of) l.agreed

          is_agreed : now_agreed ≡ Some (terms_of l.options)
          is_agreed = cond-true _ _ _ called ∙ agrees

          accepted : Accepted (w.base.end k) mv.new
          accepted = record { called = called; before = sees.agreed ∙ ap (option_map terms_of) asked.unagreed; terms = terms_of l.options; now = agrees }

          untouched : AreUntouched (terms_of l.options) m.base l.theirs l.own
          untouched = l.untouched m.base refl

          their_line : HasBegun l.theirs (terms_of l.options)
          their_line = record { begun = l.they_start.begun; size = untouched.sending.size ∙ ap piece_by untouched.terms_are }

          own_line : HasBegun l.own (terms_of l.options)
          own_line = record {
            begun = l.own_starts.begun;
            size = elim (row_leaves whole now e event).agreed [
              | inl leaves ↦ absurd (cc (leaves, l.agreed, asked.unagreed))
              | inr has ↦ size_in mv.new.birth mv.new.took mv.new.latest m.base m.stage (terms_in now_agreed) l.own l.theirs l.options has.0 l.stands mv.sees.state l.agreed
            ];
          }

          other_end : (x y : ℕ) (terms : Terms) (b : EndRecord) (stage : StateData) → x ≡ z → b.timers ≡ timers → terms_of l.options ≡ terms → Stands terms b stage (w.track x) (w.track y) → Stands terms b stage l.theirs l.own
          other_end x y terms b (stages.CrWait r) same timed_ is old =
              λ begun. subst (λ (to : Terms). AreUntouched to b l.theirs l.own) is (l.untouched b (timed_ ∙ sym timed ∙ sym (row_leaves whole now e event).same.timers))
          other_end x y terms b (stages.UserWait since) same timed_ is old = old
          other_end x y terms b (stages.AkWait r) same timed_ is old =
              absurd (cc (old.sending.begun, ap (λ (j : ℕ). (w.track j).is_begun) same, (not_begun times w s t k z mv.new p accepted).1))
          other_end x y terms b (stages.Opened r) same timed_ is old =
              absurd (cc (old.sending.begun, ap (λ (j : ℕ). (w.track j).is_begun) same, (not_begun times w s t k z mv.new p accepted).1))
          other_end x y terms b other same timed_ is old = tt

      goes : LinesGoOn (terms_in now_agreed) now taken event m (w.track k) (w.track z) → Did
      goes l =
          let offered = flowing.offered l.own l.theirs now k (w.base.end k).birth.address m.tpdus l.sent in
          record {
            doing = Go z l.own l.theirs;
            may = (p, l.own_goes, l.they_go);
            offers = offered.offers;
            are = offered.are;
            noted = λ o c. flowing.noted w.base w.track k z l.own l.theirs now o.tpdu.body p apart (offered.each o c);
            tells = record {
              others = says.others;
              gave = l.gave ∙ ap (λ (us : List Marked). (w.track k).line.submitted ++ us) (sym says.gave);
              showed = l.showed ∙ ap (λ (us : List Marked). (w.track z).line.shown ++ us) (sym says.showed);
            };
            own = λ y terms q are.
                (let same : y ≡ z = one_partner times w.base s k y z q p in
                let stands = to_all l.own l.theirs l.stands (λ none begun. agreed_then l.own_goes.begun none) offered.offers terms (subst (λ (j : ℕ). AreTerms (acted w.base k mv.new offered.offers) k j terms) same are) in
                lines_at l.own l.theirs (λ (one other : Track). Stands terms m.base m.stage one other) y same stands);
            others = λ x y terms b stage other q timed_ are old. elim (cases_eq x z) [
              | inl same ↦
                  (let y_is = back_to x y same q in
                  let before = old (old_terms offered.offers x y terms are) in
                  back_at l.own l.theirs (λ (one other_ : Track). Stands terms b stage one other_) x y same y_is
                  (flowing.partner taken (w.track k) (w.track z) l.own l.theirs l.own_goes l.they_go terms b stage
                  (subst (λ (j : ℕ). Stands terms b stage (w.track j) (w.track k)) same (subst (λ (j : ℕ). Stands terms b stage (w.track x) (w.track j)) y_is before))))
              | inr no_z ↦ unchanged l.own l.theirs (λ (one other_ : Track). Stands terms b stage one other_) x y other no_z q (old (old_terms offered.offers x y terms are))
            ];
            begun = λ a terms c agreed. inl (was_agreed a terms c agreed l.own_goes.begun);
          }

      by_flow : Flowed times (terms_in now_agreed) now taken e.stage event m (w.track k) (w.track z) → Did
      by_flow (Still l) = still l
      by_flow (Begun l) = begins l
      by_flow (Going l) = goes l

      -- where there is a partner
      pub did_with : times.life ≡ e.base.timers.life → IsProper e.base e.stage → IsProperEvent e event
          → ((terms : Terms) → AreTerms w.base k z terms → Stands terms e.base e.stage (w.track k) (w.track z))
          → ((terms : Terms) → AreTerms w.base k z terms → IsKnownEvent terms e.base e.stage taken event (w.track k) (w.track z)) → Did
      did_with life proper may stands hears =
          by_flow (flowing.step times (terms_in now_agreed) now taken (w.track k) (w.track z) e event life proper may (stands (terms_in now_agreed) terms_before) (hears (terms_in now_agreed) terms_before)
          (timely_at times w s t k) (timely_at times w s t z))

  -- of an end that has no partner
  module _ (none : (z : ℕ) → IsPartner w.base k z → ⊥) (flowing : Flowing) (says : Says k event m made) where
    no_line : (w.track k).is_begun ≡ true → ⊥
    no_line begun = let p = begun_partner times w s t k begun in none p.0 p.1

    not_called : e.base.is_called ≡ true → ⊥
    not_called called =
        let is : (w.base.end k).birth.is_called ≡ true = sees.is_called ∙ called in
        none (w.base.end k).birth.caller (inr (record { a_low = s.caller_low k low is; b_low = low; called = is; is = refl }))

    not_known : e.base.partner ≢ 0 → ⊥
    not_known some = let p = (s.own k low).known (λ zero_. some (sym sees.known ∙ zero_)) in none p.0 p.1

    no_halves : (b : EndRecord) (stage : StateData) → (b.is_called ≡ true → ⊥) → (b.partner ≢ 0 → ⊥) → IsSeenIn (w.base.end k).birth (w.base.end k).took (w.base.end k).latest b stage → Stands no_terms b stage (w.track k) (w.track k)
    no_halves b (stages.CrWait r) calls unknown at = λ begun. absurd (no_line begun)
    no_halves b (stages.UserWait since) calls unknown at = absurd (calls at.called)
    no_halves b (stages.AkWait r) calls unknown at = absurd (calls at.called)
    no_halves b (stages.Opened o) calls unknown at = absurd (unknown at.known)
    no_halves b other calls unknown at = tt

    -- nor does it take a CC
    module _ (n : ℕ) (o : Offer) (tpdu : WireTpdu) (taken_is : IsTaken times w.base k o (seen n tpdu)) where
      no_sender : Meets times w.base s o k → o.tpdu.kind ≡ Cc → ⊥
      no_sender (Of_partner x is f g to) kind = none x (swap w.base x k (subst (λ (j : ℕ). IsPartner w.base x j) to g.partner))
      no_sender (Of_entity since is f) kind = elim f.kind [ inl dr ↦ cc (dr.0, kind) | inr dc ↦ cc (dc, kind) ]

      no_confirm : o.tpdu.kind ≡ Cc → ⊥
      no_confirm = no_sender (meets times w.base s k o taken_is.y_low taken_is.is_held taken_is.offered taken_is.fresh taken_is.no_request taken_is.address (sym taken_is.reading.target ∙ taken_is.target))

    knows_tpdu : (b : EndRecord) (stage : StateData) (n : ℕ) (o : Offer) (tpdu : WireTpdu) → (b.is_called ≡ true → ⊥) → (b.partner ≢ 0 → ⊥) → IsSeenIn (w.base.end k).birth (w.base.end k).took (w.base.end k).latest b stage
        → IsTaken times w.base k o (seen n tpdu) → IsKnownTpdu no_terms b stage taken tpdu (w.track k) (w.track k)
    knows_tpdu b (stages.CrWait r) n o (wires.Cc credit destination source width calling called size preferred extra version classes ack_time text) calls unknown at is =
        absurd (no_confirm n o (wires.Cc credit destination source width calling called size preferred extra version classes ack_time text) is (sym is.reading.kind))
    knows_tpdu b (stages.CrWait r) n o other calls unknown at is = tt
    knows_tpdu b (stages.UserWait since) n o tpdu calls unknown at is = absurd (calls at.called)
    knows_tpdu b (stages.AkWait r) n o tpdu calls unknown at is = absurd (calls at.called)
    knows_tpdu b (stages.Opened r) n o tpdu calls unknown at is = absurd (unknown at.known)
    knows_tpdu b other n o tpdu calls unknown at is = tt

    knows : (n : ℕ) (ev : Event) → Comes times w.base k n ev taken → IsKnownEvent no_terms e.base e.stage taken ev (w.track k) (w.track k)
    knows n (Took tpdu sum) comes = knows_tpdu e.base e.stage n comes.0 tpdu not_called not_known sees.state comes.2
    knows n other comes = tt

    alone : LinesStay no_terms event m (w.track k) (w.track k) → Did
    alone l = idle flowing says no_terms (w.track k) l (λ _ y _ q _. absurd (none y q)) (λ a _ c _. absurd (none a (inr c)))

    by_alone : Flowed times no_terms now taken e.stage event m (w.track k) (w.track k) → Did
    by_alone (Still l) = alone l
    by_alone (Begun l) = absurd (not_called (subst (λ (stage : StateData). IsSeenIn (w.base.end k).birth (w.base.end k).took (w.base.end k).latest e.base stage) l.waited sees.state).called)
    by_alone (Going l) = absurd (no_line l.own_goes.begun)

    pub did_alone : (n : ℕ) → times.life ≡ e.base.timers.life → IsProper e.base e.stage → IsProperEvent e event → Comes times w.base k n event taken → Did
    did_alone n life proper may comes =
        by_alone (flowing.step times no_terms now taken (w.track k) (w.track k) e event life proper may (no_halves e.base e.stage not_called not_known sees.state) (knows n event comes)
        (timely_at times w s t k) (timely_at times w s t k))

  pub did : Flowing → Says k event (stepped whole w.base.clock e event) made → (n : ℕ) → times.life ≡ e.base.timers.life → IsProper e.base e.stage → IsProperEvent e event → Comes times w.base k n event taken
      → ((z : ℕ) (terms : Terms) → IsPartner w.base k z → AreTerms w.base k z terms → Stands terms e.base e.stage (w.track k) (w.track z))
      → ((z : ℕ) (terms : Terms) → IsPartner w.base k z → AreTerms w.base k z terms → IsKnownEvent terms e.base e.stage taken event (w.track k) (w.track z)) → Did
  did flowing says n life proper may comes stands hears = elim (has_partner times w.base s k low) [
    | inl found ↦ did_with found.0 found.1 flowing says life proper may (λ terms. stands found.0 terms found.1) (λ terms. hears found.0 terms found.1)
    | inr none ↦ did_alone none flowing says n life proper may comes
  ]
