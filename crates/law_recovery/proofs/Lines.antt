-- Lines that are settled and lose nothing, one after another, as steps of two ends that know each other, until one of them is frozen; and from there on the two have left.
use Rattle.std.proofs.Common.{◌≡◌, ◌⊎◌, inl, inr, ℕ, List, [], ◌∷◌, ◌++◌, Some, refl, sym, ◌∙◌, ap, subst, append_assoc, arith, ◌+◌, false, length}
use Rattle.osi_base.specs.Calls.{Call, Keeps}
use Rattle.osi_base.specs.Link.{Link}
use Rattle.osi_base.specs.declared.unit.Unit.{Unit as CarriedUnit}
use Rattle.script_journal.specs.declared.event.Event.{Event}
use Rattle.net_world.specs.Fifo.{IsFifo}
use Rattle.tp4_number.specs.Number.{whole}
use Rattle.tp4_conn.specs.End.{End, IsTimed, Moved, end_of}
use Rattle.tp4_conn.specs.declared.timers.Timers.{Timers}
use Rattle.tp4_entity.specs.Step.{kept_end}
use Rattle.law_tp4_pair.specs.Pair.{Pair, Clock, next}
use Rattle.tp4_world.specs.Run.{Ticks}
use Rattle.tp4_world.specs.World.{World}
use Rattle.law_tp4_lawful.proofs.Worlds.{Followed, Explains}
use Rattle.law_calm_run.proofs.Hall.{AreWaiting, Post}
use Rattle.law_recovery_steps.specs.Going.{AreBothLeft}
use Rattle.law_recovery_run.proofs.Aiming.{Going}
use Rattle.law_recovery_run.specs.Following.{IsFollowed, IsLive}
use Rattle.law_recovery_run.specs.Settling.{IsEnded}
use Rattle.law_recovery_run.proofs.Settling.{followed_still, leads_then, live_or}
use Rattle.law_recovery.specs.Moving.{IsGoneTold}
use Rattle.law_recovery.proofs.Asking.{idle_of, call_moves, connect_moves}
use Rattle.law_recovery.proofs.Ticking.{later_of, HasTicked, IsToldGone, begins, end_ticks, told_still, none_ticks as end_over}
use Rattle.law_recovery_run.specs.Over.{HaveLeft, KeepsLeft}
use Rattle.law_recovery.proofs.Clocks.{none_ticks, ticked_then}
use Rattle.law_recovery.proofs.Lasting.{settle_keeps}
use Rattle.law_recovery.proofs.Outlasting.{left_end}
use Rattle.law_recovery.proofs.Telling.{handed_told, told_on, told_then, happens_then}
use Rattle.law_recovery.proofs.Staying.{same_keeps, begins_keeps, both_keep, heard_keeps, over_keeps, row_keeps}
use Rattle.std.proofs.lemmas.Option.{same_Some}
use Rattle.script_journal.specs.declared.event.Event.TheVariants as events
use Rattle.tpdu.specs.declared.service.EndTold.TheVariants.{Gone}
use Rattle.tp4_conn.specs.Table.{Ticked, due, stepped, Called}
use Rattle.law_tp4_history.specs.Journals.{IsAside}
use Rattle.law_tp4_history.specs.Tracks.{Whole}
use Rattle.law_recovery_run.specs.Service.{HappensAt}
use Rattle.law_recovery_steps.specs.Resting.{AreLater}
use Rattle.law_recovery_world.proofs.SeeSteps.{kept_at}
use Rattle.law_recovery.proofs.Stepping.{HasMoved}
use Rattle.law_recovery_run.proofs.Delivering.{HasComeOn, handed_over}
use Rattle.law_recovery.proofs.Deeds.{AreSame, EndTicks, IsKept, KeepsHeard, KeepsStill}

module _ {C : Type 0} (link : C → Link (List ℕ)) (steps : C → Call (List ℕ) → C → Type 0)
    (law : (old : C) (call : Call (List ℕ)) (new : C) → steps old call new → Keeps (link old) call (link new))
    (titles : List (List ℕ)) (Waits : C → List (CarriedUnit (List ℕ)) → Type 0) (fifo : IsFifo link steps titles Waits) (names : List (List ℕ)) (timers : Timers) (going : Going)
    (follow : (titles : List (List ℕ)) (timers : Timers) → Followed titles timers) (timed : IsTimed timers) (early : List Event) (x y : ℕ) (p : Pair) where
  -- after these lines the pair went on, to two ends that stand or of which one is frozen
  abbrev Went : List Event → World C → List Post → Type 0
  Went late world posts = HasMoved link early late world posts x y p

  -- one of the two is frozen, and if both have left, the two ends have
  abbrev IsOut : World C → Pair → Type 0
  IsOut world q = IsEnded q × (AreBothLeft q → HaveLeft world x y)

  -- both stand, and none is frozen
  record AreGoing (late : List Event) (world : World C) (posts : List Post) (q : Pair) : Type 0 where
    followed : IsFollowed link (early ++ late) world posts x y q
    live : IsLive q.calling.stage
    live_there : IsLive q.called.stage

  -- a pair that stands: if both have left, the two ends have
  pub have_left : (w : Whole) (late : List Event) (world : World C) (posts : List Post) (q : Pair) → Explains link names timers w (early ++ late) world → IsFollowed link (early ++ late) world posts x y q → AreBothLeft q
      → HaveLeft world x y
  have_left w late world posts q explains f both = (
    left_end link names timers w (early ++ late) world explains x q.calling f.calling both.0,
    left_end link names timers w (early ++ late) world explains y q.called f.called both.1,
  )

  which : (w : Whole) (late : List Event) (world : World C) (posts : List Post) (q : Pair) → Explains link names timers w (early ++ late) world
      → IsFollowed link (early ++ late) world posts x y q ⊎ IsOut world q → AreGoing late world posts q ⊎ IsOut world q
  which w late world posts q explains (inr out) = inr out
  which w late world posts q explains (inl f) = elim (live_or q.calling.stage) [
    | inr over ↦ inr ((λ one other. over one), have_left w late world posts q explains f)
    | inl one ↦ elim (live_or q.called.stage) [
      | inr over ↦ inr ((λ first other. over other), have_left w late world posts q explains f)
      | inl other ↦ inl (record { followed = f; live = one; live_there = other })
    ]
  ]

  -- the pair went on, and then on
  moved_then : (late made : List Event) (old new : World C) (posts later : List Post) (h : Went late old posts) → HasMoved link (early ++ late) made new later x y h.next → Went (late ++ made) new later
  moved_then late made old new posts later h more = record {
    happenings = h.happenings ++ more.happenings;
    next = more.next;
    leads = leads_then p h.next more.next h.happenings more.happenings h.leads more.leads;
    ticked = ticked_then h.happenings more.happenings p h.next h.leads h.ticked more.ticked;
    told = told_then x y early late made p h.next h.happenings more.happenings h.leads h.told more.told;
    goes = elim more.goes [
      | inl on ↦ inl (subst (λ (es : List Event). IsFollowed link es new later x y more.next) (append_assoc early late made) on)
      | inr out ↦ inr out
    ];
  }

  -- the pair stands as it stood
  moved_so : (late made : List Event) (old new : World C) (posts later : List Post) (h : Went late old posts) → IsFollowed link (early ++ (late ++ made)) new later x y h.next ⊎ IsOut new h.next
      → Went (late ++ made) new later
  moved_so late made old new posts later h goes =
      record { happenings = h.happenings; next = h.next; leads = h.leads; ticked = h.ticked; told = told_on x y early late made p h.happenings h.told; goes = goes }

  -- both go on by this; where one was frozen, an end that had left has left still
  moves : (w : Whole) (late made : List Event) (old new : World C) (posts later : List Post) → Explains link names timers w (early ++ late) old → KeepsLeft old new
      → ((q : Pair) → AreGoing late old posts q → HasMoved link (early ++ late) made new later x y q) → Went late old posts → Went (late ++ made) new later
  moves w late made old new posts later explains keeps on h = elim (which w late old posts h.next explains h.goes) [
    | inl g ↦ moved_then late made old new posts later h (on h.next g)
    | inr out ↦ moved_so late made old new posts later h (inr (out.0, λ both. both_keep old new x y keeps (out.1 both)))
  ]

  -- ---- a tick

  -- the lines up to that of the tick
  abbrev till : List Event → World C → List Event
  till before start = (early ++ before) ++ events.Tick ((link start.carrier).clock + 1) ∷ []

  -- some of the two have ticked
  pub record AreTicking (before : List Event) (start : World C) (q : Pair) (late : List Event) (world : World C) (posts : List Post) : Type 0 where
    followed : IsFollowed link (early ++ before) start [] x y q
    later : AreLater q
    more : List Event
    since : early ++ late ≡ till before start ++ more
    ticked : HasTicked link (till before start) (early ++ late) world posts x y q

  -- the pair within a tick, since its begin
  pub record InTick (before : List Event) (start : World C) (late : List Event) (world : World C) (posts : List Post) : Type 0 where
    moved : Went before start []
    goes : AreTicking before start moved.next late world posts ⊎ IsOut world moved.next

  clocks : (w : Whole) (late front more : List Event) (old mid : World C) → Explains link names timers w (early ++ late) old → AreSame old mid → (link mid.carrier).clock ≡ (link old.carrier).clock + 1
      → AreWaiting (link old.carrier).clock old.entities → front ≡ events.Tick ((link old.carrier).clock + 1) ∷ more → IsAside front → Went late old [] → InTick late old (late ++ front) mid []
  clocks w late front more old mid explains same clock waiting front_is aside h = record {
    moved = h;
    goes = elim (which w late old [] h.next explains h.goes) [
      | inr out ↦ inr (out.0, λ both. both_keep old mid x y (same_keeps old mid same) (out.1 both))
      | inl g ↦ inl (record {
        followed = g.followed;
        later = later_of link (early ++ late) old x y h.next waiting g.followed;
        more = more;
        since = sym (append_assoc early late front) ∙ ap (λ (es : List Event). (early ++ late) ++ es) front_is ∙ sym (append_assoc (early ++ late) (events.Tick ((link old.carrier).clock + 1) ∷ []) more);
        ticked = subst (λ (es : List Event). HasTicked link (till late old) es mid [] x y h.next) (append_assoc early late front) (record {
          calling = false;
          called = false;
          told = λ is. absurd (cc is);
          told_there = λ is. absurd (cc is);
          goes = inl (record {
            followed = begins link (early ++ late) front old mid same.entities same.ends clock aside x y h.next g.followed;
            live = g.live;
            live_there = g.live_there;
            calling_over = λ is. absurd (cc is);
            called_over = λ is. absurd (cc is);
          });
        });
      })
    ];
  }

  -- more happens within a tick
  within : (before : List Event) (start : World C) (late made : List Event) (old new : World C) (posts later : List Post) → KeepsLeft old new
      → ((q : Pair) → AreTicking before start q late old posts → HasTicked link (till before start) ((early ++ late) ++ made) new later x y q) → InTick before start late old posts
      → InTick before start (late ++ made) new later
  within before start late made old new posts later keeps on t = record {
    moved = t.moved;
    goes = elim t.goes [
      | inr out ↦ inr (out.0, λ both. both_keep old new x y keeps (out.1 both))
      | inl g ↦ inl (record {
        followed = g.followed;
        later = g.later;
        more = g.more ++ made;
        since = sym (append_assoc early late made) ∙ ap (λ (es : List Event). es ++ made) g.since ∙ append_assoc (till before start) g.more made;
        ticked = subst (λ (es : List Event). HasTicked link (till before start) es new later x y t.moved.next) (append_assoc early late made) (on t.moved.next g);
      })
    ];
  }

  -- an end ticks
  ticks : (before : List Event) (start : World C) (w : Whole) (late made : List Event) (old new : World C) (posts later : List Post) → Explains link names timers w (early ++ late) old
      → EndTicks link old new made posts later → InTick before start late old posts → InTick before start (late ++ made) new later
  ticks before start w late made old new posts later explains d t = within before start late made old new posts later keeps on t
    where
      m : Moved
      m = stepped whole (link old.carrier).clock d.does.end Ticked

      keeps : KeepsLeft old new
      keeps = row_keeps link names timers w (early ++ late) old explains new d.does.system d.does.entity d.does.there d.does.reference d.does.end Ticked (kept_end m (due m.base m.stage)) d.does.stands
          (kept_at m (due m.base m.stage)) d.does.entities d.does.ends

      on : (q : Pair) → AreTicking before start q late old posts → HasTicked link (till before start) ((early ++ late) ++ made) new later x y q
      on q g = subst (λ (ps : List Post). HasTicked link (till before start) ((early ++ late) ++ made) new ps x y q) (sym d.does.later_is) (elim g.ticked.goes [
        | inl in_tick ↦
            end_ticks link names timers w (early ++ late) old explains going new made d.does.system d.does.entity d.does.reference d.does.there d.does.end d.does.stands d.is_due_now d.proper d.does.aside d.does.is_aside
            d.does.entities d.does.ends d.does.clock d.does.made_is (till before start) g.more g.since posts x y q g.ticked.calling g.ticked.called in_tick g.ticked.told g.ticked.told_there
        | inr ended ↦ record {
          calling = g.ticked.calling;
          called = g.ticked.called;
          told = λ is. told_still (till before start) (early ++ late) made (q.clock + 1) x q.calling (g.ticked.told is);
          told_there = λ is. told_still (till before start) (early ++ late) made (q.clock + 1) y q.called (g.ticked.told_there is);
          goes = inr (ended.0, λ both. both_keep old new x y keeps (ended.1 both));
        }
      ])

  -- the tick is over
  ticked : (late made : List Event) (old new : World C) (posts : List Post) → Ticks link steps whole old made new → InTick late old (late ++ made) new posts → Went (late ++ made) new posts
  ticked late made old new posts step t = elim t.goes [
    | inr out ↦ moved_so late made old new [] posts t.moved (inr out)
    | inl g ↦ moved_then late made old new [] posts t.moved (record {
      happenings = Clock g.ticked.calling g.ticked.called ∷ [];
      next = next t.moved.next (Clock g.ticked.calling g.ticked.called);
      leads = (idle_of link (early ++ late) old x y t.moved.next g.followed, refl);
      ticked = ((λ opened. g.later), tt);
      told = (((λ ticks. gone_at g x t.moved.next.calling (g.ticked.told ticks)), λ ticks. gone_at g y t.moved.next.called (g.ticked.told_there ticks)), tt);
      goes = elim g.ticked.goes [
        | inl on ↦ inl (subst (λ (es : List Event). IsFollowed link es new posts x y (next t.moved.next (Clock g.ticked.calling g.ticked.called))) (sym (append_assoc early late made)) on.followed)
        | inr ended ↦ inr ended
      ];
    })
  ]
    where
      gone_at : (g : AreTicking late old t.moved.next (late ++ made) new posts) (n : ℕ) (e : End) → IsToldGone (till late old) (early ++ (late ++ made)) (t.moved.next.clock + 1) n e
          → IsGoneTold (early ++ late) made (t.moved.next.clock + 1) n e
      gone_at g n e told cause is =
          let b = told cause is in
          subst (λ (k : ℕ). HappensAt (early ++ late) made (k + 1) (events.End n (Gone cause []))) (sym g.followed.clock)
          (happens_then link steps (early ++ late) made old new step (early ++ (late ++ made)) b.before b.after (events.End n (Gone cause [])) (sym (append_assoc early late made)) b.journal_is)

  -- ---- what happens between ticks

  still : KeepsStill link Went
  still late made old new posts same clock tells h = moved_so late made old new posts posts h (elim h.goes [
    | inl f ↦ inl (subst (λ (es : List Event). IsFollowed link es new posts x y h.next) (append_assoc early late made)
        (followed_still link (early ++ late) made old new same.entities same.ends clock tells posts x y h.next f))
    | inr out ↦ inr (out.0, λ both. both_keep old new x y (same_keeps old new same) (out.1 both))
  ])

  heard : KeepsHeard link names timers early Went
  heard w late made old new posts later explains d h = moves w late made old new posts later explains (heard_keeps link names timers w (early ++ late) old explains new d.post made d.acts) on h
    where
      on : (q : Pair) → AreGoing late old posts q → HasMoved link (early ++ late) made new later x y q
      on q g =
          let f : IsFollowed link (early ++ late) old (d.post ∷ d.rest) x y q = subst (λ (ps : List Post). IsFollowed link (early ++ late) old ps x y q) d.posts_are g.followed in
          let come : HasComeOn link names timers w (early ++ late) old explains d.fit going new d.post d.rest made d.acts f.sourced.0 x y q =
          handed_over link names timers w (early ++ late) old explains d.fit going new d.post d.rest made d.acts f.sourced.0 x y q f g.live g.live_there in
          record {
            happenings = come.happenings;
            next = come.next;
            leads = come.leads;
            ticked = none_ticks come.happenings q come.next come.leads (omega (arith, come.clock));
            told = handed_told x y (early ++ late) made q come.happenings come.handed;
            goes = inl (subst (λ (ps : List Post). IsFollowed link ((early ++ late) ++ made) new ps x y come.next) (sym d.later_is) come.followed);
          }

  pub kept : IsKept link steps law titles Waits fifo names timers early Went InTick
  kept = record {
    still = still;
    asks = λ w late made old new later explains d h. moves w late made old new [] later explains
        (row_keeps link names timers w (early ++ late) old explains new d.does.system d.does.entity d.does.there d.does.reference d.does.end (Called d.call)
        (Some (end_of (stepped whole (link old.carrier).clock d.does.end (Called d.call)))) d.does.stands (λ e same. sym (same_Some (end_of (stepped whole (link old.carrier).clock d.does.end (Called d.call))) e same))
        d.does.entities d.does.ends)
        (λ q g. subst (λ (ps : List Post). HasMoved link (early ++ late) made new ps x y q) (sym d.does.later_is)
        (call_moves link names timers w (early ++ late) old explains going new made d.number (record { system = d.does.system; reference = d.does.reference }) d.does.entity d.call d.does.there d.number_is d.does.end d.does.stands
        d.allowed d.proper d.does.aside d.does.is_aside d.does.entities d.does.ends d.does.clock d.does.made_is x y q g.followed g.live g.live_there)) h;
    begins = λ w late made old new later explains d h. moves w late made old new [] later explains (begins_keeps link old new made [] later d)
        (λ q g. subst (λ (ps : List Post). HasMoved link (early ++ late) made new ps x y q) (sym d.later_is)
        (connect_moves link (early ++ late) old new made d.system d.entity d.there d.request d.reference d.free d.aside d.is_aside d.entities d.ends d.clock (length old.ends + 1) d.made_is x y q g.followed g.live g.live_there)) h;
    settles = λ late made old new hall queue s r fit all step h.
        settle_keeps link steps law titles Waits fifo names timers going follow timed early Went still heard 0 old made new step late hall queue s r fit all h;
    clocks = clocks;
    over = λ before start w late made old new posts later explains d t. within before start late made old new posts later (over_keeps link old new made posts later d)
        (λ q g. subst (λ (ps : List Post). HasTicked link (till before start) ((early ++ late) ++ made) new ps x y q) (sym d.later_is)
        (end_over link names timers w (early ++ late) old explains going new made d.system d.entity d.there d.entities d.ends d.clock d.made_is (till before start) posts x y q g.ticked)) t;
    ticks = ticks;
    ticked = ticked;
  }
