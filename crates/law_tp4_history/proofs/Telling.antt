-- The units that the events of a history tell are those of the lines, and these are queues. A line that begins is of a pair that has none yet, so its
-- ends told none; and what goes on a line comes of one end on each side.
use Rattle.std.proofs.Common.{◌≡◌, ◌⊎◌, inl, inr, ℕ, ◌+◌, ◌<◌, true, false, List, [], ◌∷◌, ◌++◌, Option, Some, None, refl, sym, ◌∙◌, ap, subst, arith, append-nil}
use Rattle.tp4_number.specs.Traffic.{Tick as Ticks_on, Open, Send, Resend, Dt_comes, Grant, Acknowledge, Ak_comes}
use Rattle.tp4_number.specs.Expedited.{Ticks, Sends_ed, Resends_ed, Ed_comes, Ea_comes}
use Rattle.script_journal.specs.Lawful.{Marked, submitted, shown, IsQueue}
use Rattle.script_journal.specs.declared.event.Event.{Event}
use Rattle.script_journal.proofs.Showing.{shown_both, submitted_both}
use Rattle.law_tp4_history.specs.Ends.{Times, IsFit, Offer, Birth, End}
use Rattle.law_tp4_history.specs.History.{History, IsCaller, IsPartner, Step, Tick, Connect, Indicate, Reply, Take, Act, Release, Restart, Note, May, next}
use Rattle.law_tp4_history.specs.Line.{Line, Happening, Submit, Clock, Flows, Expedites, next as next_line}
use Rattle.law_tp4_history.specs.Tracks.{Track, CanOut, CanIn, RunsBy, Whole, set_track, Doing, Nothing, Start, Go, done, MayDo, clocked, tracks, MayAll, onward}
use Rattle.law_tp4_history.specs.Units.{TellsNone, Tells, MayTell, MayTellAll, Saying, Says, Spoken, TellsTrue}
use Rattle.law_tp4_history.proofs.Sound.{Sound, one_partner}
use Rattle.law_tp4_history.proofs.Later.{IsLater, partner_on, caller_on, caller_back}
use Rattle.law_tp4_history.proofs.Meets.{swap}
use Rattle.law_tp4_history.proofs.Steps.{sound_step, step_later, sound_start}
use Rattle.law_tp4_history.proofs.Agreed.{Agreed, agreed_step, agreed_start}
use Rattle.law_tp4_history.proofs.Tracked.{at_track, HasAgreed, Tracked, not_begun, tracked_step, told, tracked_start}

-- what an end does to its line shows nothing there, and what it does to the other line gives nothing there
out_shown : (taken : Option Offer) (t : Track) (l : Line) (happening : Happening) → CanOut taken t l happening → (next_line t.rules l happening).shown ≡ l.shown
out_shown taken t l (Submit unit) can = refl
out_shown taken t l Clock can = absurd can
out_shown taken t l (Flows Ticks_on) can = absurd can
out_shown taken t l (Flows (Open credit)) can = append-nil l.shown
out_shown taken t l (Flows Send) can = append-nil l.shown
out_shown taken t l (Flows (Resend n)) can = append-nil l.shown
out_shown taken t l (Flows (Dt_comes n tick piece)) can = absurd can
out_shown taken t l (Flows (Grant credit)) can = absurd can
out_shown taken t l (Flows Acknowledge) can = absurd can
out_shown taken t l (Flows (Ak_comes a)) can = append-nil l.shown
out_shown taken t l (Expedites Ticks) can = absurd can
out_shown taken t l (Expedites Sends_ed) can = append-nil l.shown
out_shown taken t l (Expedites Resends_ed) can = append-nil l.shown
out_shown taken t l (Expedites (Ed_comes n tick)) can = absurd can
out_shown taken t l (Expedites (Ea_comes n tick)) can = append-nil l.shown

outs_shown : (taken : Option Offer) (t : Track) (l new : Line) (happenings : List Happening) → RunsBy (CanOut taken) t l happenings new → new.shown ≡ l.shown
outs_shown taken t l new [] r = ap (λ (x : Line). x.shown) r
outs_shown taken t l new (happening ∷ happenings) r = outs_shown taken t (next_line t.rules l happening) new happenings r.1 ∙ out_shown taken t l happening r.0

in_given : (taken : Option Offer) (t : Track) (l : Line) (happening : Happening) → CanIn taken t l happening → (next_line t.rules l happening).submitted ≡ l.submitted
in_given taken t l (Submit unit) can = absurd can
in_given taken t l other can = refl

ins_given : (taken : Option Offer) (t : Track) (l new : Line) (happenings : List Happening) → RunsBy (CanIn taken) t l happenings new → new.submitted ≡ l.submitted
ins_given taken t l new [] r = ap (λ (x : Line). x.submitted) r
ins_given taken t l new (happening ∷ happenings) r = ins_given taken t (next_line t.rules l happening) new happenings r.1 ∙ in_given taken t l happening r.0

pub record Telling (base : History) (track : ℕ → Track) (journal : List Event) : Type 0 where
  pub gave : (k : ℕ) → (track k).is_begun ≡ true → submitted (k + 1) journal ≡ (track k).line.submitted
  pub none : (k : ℕ) → (track k).is_begun ≡ false → submitted (k + 1) journal ≡ []
  pub showed : (x y : ℕ) → IsPartner base x y → (track x).is_begun ≡ true → shown (y + 1) journal ≡ (track x).line.shown
  pub alone : (y : ℕ) → ((x : ℕ) → IsPartner base x y → (track x).is_begun ≡ true → ⊥) → shown (y + 1) journal ≡ []

-- events that tell no unit
aside : (base : History) (track : ℕ → Track) (journal made : List Event) → TellsNone made → Telling base track journal → Telling base track (journal ++ made)
aside base track journal made none f = record {
  gave = λ k begun. no_submitted k ∙ f.gave k begun;
  none = λ k begun. no_submitted k ∙ f.none k begun;
  showed = λ x y p begun. no_shown y ∙ f.showed x y p begun;
  alone = λ y no_one. no_shown y ∙ f.alone y no_one;
}
  where
    no_submitted : (k : ℕ) → submitted (k + 1) (journal ++ made) ≡ submitted (k + 1) journal
    no_submitted k = submitted_both (k + 1) journal made ∙ ap (λ (us : List Marked). submitted (k + 1) journal ++ us) (none (k + 1)).0 ∙ append-nil (submitted (k + 1) journal)

    no_shown : (k : ℕ) → shown (k + 1) (journal ++ made) ≡ shown (k + 1) journal
    no_shown k = shown_both (k + 1) journal made ∙ ap (λ (us : List Marked). shown (k + 1) journal ++ us) (none (k + 1)).1 ∙ append-nil (shown (k + 1) journal)

module _ (times : Times) (w : Whole) (s : Sound times w.base) (t : Tracked times w) (journal : List Event) (f : Telling w.base w.track journal) (new : History) (n : Sound times new) (l : IsLater w.base new) where
  -- a pair whose line has begun is old
  pub old_pair : (x y : ℕ) → IsPartner new x y → (w.track x).is_begun ≡ true → IsPartner w.base x y
  old_pair x y p begun = by p (t.pair x begun).is
    where
      a : HasAgreed w.base x
      a = t.pair x begun

      by : IsPartner new x y → (x ≡ a.b) ⊎ IsCaller w.base x a.b → IsPartner w.base x y
      by (inl q) (inl same) =
          let up : x < w.base.count = omega (arith, same, a.low) in
          absurd (cc ((n.pairs x y q).calls, ap (λ (z : Birth). z.is_called) (l.end x up).birth, same, a.called))
      by (inl q) (inr c) = let one : a.b ≡ y = n.one x a.b y (caller_on times w.base new l x a.b c) q in inl (subst (λ (k : ℕ). IsCaller w.base x k) one c)
      by (inr q) (inl same) =
          let up : x < w.base.count = omega (arith, same, a.low) in
          let called : (w.base.end x).birth.is_called ≡ true = ap (λ (k : ℕ). (w.base.end k).birth.is_called) same ∙ a.called in
          let low = s.caller_low x up called in
          inr (caller_back times w.base new l y x (omega (arith, low, q.is, ap (λ (z : Birth). z.caller) (l.end x up).birth)) up q)
      by (inr q) (inr c) = absurd (cc ((n.pairs x a.b (caller_on times w.base new l x a.b c)).calls, q.called))

  -- no line begins, and nothing is told
  quiet : (track : ℕ → Track) → ((k : ℕ) → ((track k).is_begun ≡ (w.track k).is_begun) × ((track k).line.submitted ≡ (w.track k).line.submitted) × ((track k).line.shown ≡ (w.track k).line.shown)) → Telling new track journal
  quiet track same = record {
    gave = λ k begun. f.gave k (sym (same k).0 ∙ begun) ∙ sym (same k).1;
    none = λ k begun. f.none k (sym (same k).0 ∙ begun);
    showed = λ x y p begun. (let was = sym (same x).0 ∙ begun in f.showed x y (old_pair x y p was) was ∙ sym (same x).2);
    alone = λ y no_one. f.alone y (λ x p begun. no_one x (partner_on times w.base new l x y p) ((same x).0 ∙ begun));
  }

  pub quietly : (track : ℕ → Track) (made : List Event) → TellsNone made → ((k : ℕ) → ((track k).is_begun ≡ (w.track k).is_begun) × ((track k).line.submitted ≡ (w.track k).line.submitted) × ((track k).line.shown ≡ (w.track k).line.shown))
      → Telling new track (journal ++ made)
  quietly track made none_ same = aside new track journal made none_ (quiet track same)

  -- both lines of a pair begin
  starts : (y z : ℕ) (e : End) (taken : Option Offer) (own theirs : Track) → MayDo times w y e taken (Start z own theirs) → Telling new (set_track (set_track w.track y own) z theirs) journal
  starts y z e taken own theirs may = record {
    gave = λ k. at_track (λ (j : ℕ) (to : Track). to.is_begun ≡ true → submitted (j + 1) journal ≡ to.line.submitted) (set_track w.track y own) z theirs k
        (λ _. f.none z nb.1 ∙ sym (ap (λ (x : Line). x.submitted) may.3.line))
        (λ _. at_track (λ (j : ℕ) (to : Track). to.is_begun ≡ true → submitted (j + 1) journal ≡ to.line.submitted) w.track y own k (λ _. f.none y nb.0 ∙ sym (ap (λ (x : Line). x.submitted) may.2.line)) (λ _. f.gave k));
    none = λ k. at_track (λ (j : ℕ) (to : Track). to.is_begun ≡ false → submitted (j + 1) journal ≡ []) (set_track w.track y own) z theirs k (λ _. f.none z nb.1)
        (λ _. at_track (λ (j : ℕ) (to : Track). to.is_begun ≡ false → submitted (j + 1) journal ≡ []) w.track y own k (λ _. f.none y nb.0) (λ _. f.none k));
    showed = λ x q. at_track (λ (j : ℕ) (to : Track). IsPartner new j q → to.is_begun ≡ true → shown (q + 1) journal ≡ to.line.shown) (set_track w.track y own) z theirs x
        (λ p _. silent z q nb.1 p ∙ sym (ap (λ (x_ : Line). x_.shown) may.3.line))
        (λ _. at_track (λ (j : ℕ) (to : Track). IsPartner new j q → to.is_begun ≡ true → shown (q + 1) journal ≡ to.line.shown) w.track y own x (λ p _. silent y q nb.0 p ∙ sym (ap (λ (x_ : Line). x_.shown) may.2.line))
        (λ _ p begun. f.showed x q (old_pair x q p begun) begun));
    alone = λ q no_one. f.alone q (λ x p begun. no_one x (partner_on times w.base new l x q p) (at_track (λ (j : ℕ) (to : Track). (w.track j).is_begun ≡ true → to.is_begun ≡ true) (set_track w.track y own) z theirs x
        (λ _. may.3.begun) (λ _. at_track (λ (j : ℕ) (to : Track). (w.track j).is_begun ≡ true → to.is_begun ≡ true) w.track y own x (λ _. may.2.begun) (λ _ b. b)) begun));
  }
    where
      nb : ((w.track y).is_begun ≡ false) × ((w.track z).is_begun ≡ false)
      nb = not_begun times w s t y z e may.0 may.1

      -- the partner of an end whose line has not begun was shown nothing
      silent : (x q : ℕ) → (w.track x).is_begun ≡ false → IsPartner new x q → shown (q + 1) journal ≡ []
      silent x q no_line p = f.alone q (λ other c begun.
          let same : other ≡ x = one_partner times new n q other x (swap new other q (partner_on times w.base new l other q c)) (swap new x q p) in
          cc (begun, ap (λ (k : ℕ). (w.track k).is_begun) same, no_line))

  -- both lines of a pair go on
  goes_on : (y z : ℕ) (e : End) (taken : Option Offer) (own theirs : Track) (made : List Event) → MayDo times w y e taken (Go z own theirs) → Tells y made (w.track y) own (w.track z) theirs
      → Telling new (set_track (set_track w.track y own) z theirs) (journal ++ made)
  goes_on y z e taken own theirs made may tells = record {
    gave = λ k. at_track (λ (j : ℕ) (to : Track). to.is_begun ≡ true → submitted (j + 1) (journal ++ made) ≡ to.line.submitted) (set_track w.track y own) z theirs k
        (λ _. given_same z apart ∙ f.gave z may.2.begun ∙ sym (ins_given taken (w.track z) (w.track z).line theirs.line may.2.happenings may.2.runs))
        (λ _. at_track (λ (j : ℕ) (to : Track). to.is_begun ≡ true → submitted (j + 1) (journal ++ made) ≡ to.line.submitted) w.track y own k
        (λ _. submitted_both (y + 1) journal made ∙ ap (λ (us : List Marked). us ++ submitted (y + 1) made) (f.gave y may.1.begun) ∙ sym tells.gave)
        (λ other begun. given_same k other ∙ f.gave k begun));
    none = λ k. at_track (λ (j : ℕ) (to : Track). to.is_begun ≡ false → submitted (j + 1) (journal ++ made) ≡ []) (set_track w.track y own) z theirs k (λ no_line. absurd (cc (no_line, begun_z)))
        (λ _. at_track (λ (j : ℕ) (to : Track). to.is_begun ≡ false → submitted (j + 1) (journal ++ made) ≡ []) w.track y own k (λ no_line. absurd (cc (no_line, begun_y))) (λ other no_line. given_same k other ∙ f.none k no_line));
    showed = λ x q. at_track (λ (j : ℕ) (to : Track). IsPartner new j q → to.is_begun ≡ true → shown (q + 1) (journal ++ made) ≡ to.line.shown) (set_track w.track y own) z theirs x
        (λ p _. (let same : y ≡ q = one_partner times w.base s z y q (swap w.base y z may.0) (old_pair z q p may.2.begun) in
        subst (λ (k : ℕ). shown (k + 1) (journal ++ made) ≡ theirs.line.shown) same
        (shown_both (y + 1) journal made ∙ ap (λ (us : List Marked). us ++ shown (y + 1) made) (f.showed z y (swap w.base y z may.0) may.2.begun) ∙ sym tells.showed)))
        (λ not_z. at_track (λ (j : ℕ) (to : Track). (j ≡ z → ⊥) → IsPartner new j q → to.is_begun ≡ true → shown (q + 1) (journal ++ made) ≡ to.line.shown) w.track y own x
        (λ _ p _. (let same : z ≡ q = one_partner times w.base s y z q may.0 (old_pair y q p may.1.begun) in
        subst (λ (k : ℕ). shown (k + 1) (journal ++ made) ≡ own.line.shown) same
        (got_same z apart ∙ f.showed y z may.0 may.1.begun ∙ sym (outs_shown taken (w.track y) (w.track y).line own.line may.1.happenings may.1.runs))))
        (λ other no_z p begun.
        (let was = old_pair x q p begun in
        let not_y : q ≡ y → ⊥ = λ same. no_z (one_partner times w.base s y x z (swap w.base x y (subst (λ (k : ℕ). IsPartner w.base x k) same was)) may.0) in
        got_same q not_y ∙ f.showed x q was begun))
        not_z);
    alone = λ q no_one.
        (let not_y : q ≡ y → ⊥ = λ same. no_one z (subst (λ (k : ℕ). IsPartner new z k) (sym same) (partner_on times w.base new l z y (swap w.base y z may.0)))
        (at_track (λ (j : ℕ) (to : Track). j ≡ z → to.is_begun ≡ true) (set_track w.track y own) z theirs z (λ _. begun_z) (λ different. absurd (different refl)) refl) in
        got_same q not_y ∙ f.alone q (λ x p begun. no_one x (partner_on times w.base new l x q p) (at_track (λ (j : ℕ) (to : Track). (w.track j).is_begun ≡ true → to.is_begun ≡ true) (set_track w.track y own) z theirs x
        (λ _. begun_z) (λ _. at_track (λ (j : ℕ) (to : Track). (w.track j).is_begun ≡ true → to.is_begun ≡ true) w.track y own x (λ _. begun_y) (λ _ b. b)) begun)));
  }
    where
      begun_y : own.is_begun ≡ true
      begun_y = ap (λ (x : Track). x.is_begun) may.1.same ∙ may.1.begun

      begun_z : theirs.is_begun ≡ true
      begun_z = ap (λ (x : Track). x.is_begun) may.2.same ∙ may.2.begun

      apart_by : IsPartner w.base y z → z ≡ y → ⊥
      apart_by (inl p) same = cc ((s.pairs y z p).calls, p.called, ap (λ (k : ℕ). (w.base.end k).birth.is_called) same)
      apart_by (inr p) same = cc ((s.pairs z y p).calls, p.called, ap (λ (k : ℕ). (w.base.end k).birth.is_called) same)

      apart : z ≡ y → ⊥
      apart = apart_by may.0

      given_same : (k : ℕ) → (k ≡ y → ⊥) → submitted (k + 1) (journal ++ made) ≡ submitted (k + 1) journal
      given_same k other = submitted_both (k + 1) journal made ∙ ap (λ (us : List Marked). submitted (k + 1) journal ++ us) (tells.others (k + 1) (λ same. other (omega (arith, same)))).0 ∙ append-nil (submitted (k + 1) journal)

      got_same : (k : ℕ) → (k ≡ y → ⊥) → shown (k + 1) (journal ++ made) ≡ shown (k + 1) journal
      got_same k other = shown_both (k + 1) journal made ∙ ap (λ (us : List Marked). shown (k + 1) journal ++ us) (tells.others (k + 1) (λ same. other (omega (arith, same)))).1 ∙ append-nil (shown (k + 1) journal)

  pub doings : (y : ℕ) (e : End) (taken : Option Offer) (doing : Doing) (made : List Event) → MayDo times w y e taken doing → MayTell w y doing made → Telling new (done w.track y doing) (journal ++ made)
  doings y e taken Nothing made may tell = quietly w.track made tell (λ k. (refl, refl, refl))
  doings y e taken (Start z own theirs) made may tell = aside new (set_track (set_track w.track y own) z theirs) journal made tell (starts y z e taken own theirs may)
  doings y e taken (Go z own theirs) made may tell = goes_on y z e taken own theirs made may tell

module _ (times : Times) (fit : IsFit times) (w : Whole) (s : Sound times w.base) (t : Tracked times w) (journal : List Event) (f : Telling w.base w.track journal) where
  pub telling_step : (step : Step) (doing : Doing) (made : List Event) → May times w.base step → MayAll times w step doing → MayTellAll w step doing made → Telling (next times w.base step) (tracks w step doing) (journal ++ made)
  telling_step Tick doing made may all tell = quietly times w s t journal f (next times w.base Tick) (sound_step times fit w.base Tick may s) (step_later times fit w.base Tick may s) (λ k. clocked (w.track k)) made tell (λ k. (refl, refl, refl))
  telling_step (Connect e offered) doing made may all tell = quietly times w s t journal f (next times w.base (Connect e offered)) (sound_step times fit w.base (Connect e offered) may s) (step_later times fit w.base (Connect e offered) may s) w.track made tell (λ k. (refl, refl, refl))
  telling_step (Indicate o e) doing made may all tell = quietly times w s t journal f (next times w.base (Indicate o e)) (sound_step times fit w.base (Indicate o e) may s) (step_later times fit w.base (Indicate o e) may s) w.track made tell (λ k. (refl, refl, refl))
  telling_step (Reply o answer) doing made may all tell = quietly times w s t journal f (next times w.base (Reply o answer)) (sound_step times fit w.base (Reply o answer) may s) (step_later times fit w.base (Reply o answer) may s) w.track made tell (λ k. (refl, refl, refl))
  telling_step (Take y o tpdu e offered) doing made may all tell =
      doings times w s t journal f (next times w.base (Take y o tpdu e offered)) (sound_step times fit w.base (Take y o tpdu e offered) may s) (step_later times fit w.base (Take y o tpdu e offered) may s) y e (Some o) doing made all.0 tell
  telling_step (Act y e offered) doing made may all tell =
      doings times w s t journal f (next times w.base (Act y e offered)) (sound_step times fit w.base (Act y e offered) may s) (step_later times fit w.base (Act y e offered) may s) y e None doing made all.0 tell
  telling_step (Release y) doing made may all tell = quietly times w s t journal f (next times w.base (Release y)) (sound_step times fit w.base (Release y) may s) (step_later times fit w.base (Release y) may s) w.track made tell (λ k. (refl, refl, refl))
  telling_step (Restart address) doing made may all tell = quietly times w s t journal f (next times w.base (Restart address)) (sound_step times fit w.base (Restart address) may s) (step_later times fit w.base (Restart address) may s) w.track made tell (λ k. (refl, refl, refl))
  telling_step Note doing made may all tell = quietly times w s t journal f (next times w.base Note) (sound_step times fit w.base Note may s) (step_later times fit w.base Note may s) w.track made tell (λ k. (refl, refl, refl))

  pub tells_true : TellsTrue w journal
  tells_true = record {
    lawful = λ x y p begun. subst (λ (us : List Marked). IsQueue us (shown (y + 1) journal)) (sym (f.gave x begun)) (subst (IsQueue (w.track x).line.submitted) (sym (f.showed x y p begun)) ((told times w s t).lawful x begun));
    none = f.alone;
  }

says_true : (times : Times) (fit : IsFit times) (old w : Whole) (before after : List Event) (sayings : List Saying) → Says times old before sayings w after → Sound times old.base → Agreed old.base → Tracked times old
    → Telling old.base old.track before → TellsTrue w after
says_true times fit old w before after [] l s a t f = subst (λ (x : Whole). TellsTrue x after) (sym l.0) (subst (TellsTrue old) (sym l.1) (tells_true times fit old s t before f))
says_true times fit old w before after (m ∷ ms) l s a t f =
    says_true times fit (onward times old m.moment) w (before ++ m.made) after ms l.1 (sound_step times fit old.base m.moment.step l.0.0 s) (agreed_step times fit old.base s a m.moment.step l.0.0)
    (tracked_step times old s t fit a m.moment.step m.moment.doing l.0.0 l.0.1) (telling_step times fit old s t before f m.moment.step m.moment.doing m.made l.0.0 l.0.1 l.0.2)

pub all_true : (times : Times) (w : Whole) (journal : List Event) → IsFit times → Spoken times w journal → TellsTrue w journal
all_true times w journal fit r =
    says_true times fit r.0 w [] journal r.2 r.3 (subst (Sound times) (sym r.1.base) (sound_start times r.1.end)) (subst Agreed (sym r.1.base) (agreed_start r.1.end)) (tracked_start times r.0 r.1) (record {
      gave = λ k begun. absurd (cc (begun, r.1.none k));
      none = λ k _. refl;
      showed = λ x y p begun. absurd (cc (begun, r.1.none x));
      alone = λ y _. refl;
    })
