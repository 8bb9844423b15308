-- Each row of the two ends while the called one is in AkWait.
use Rattle.std.proofs.Common.{◌≡◌, ◌⊎◌, inl, inr, ℕ, ◌+◌, ◌<◌, nat_lt, Bool, true, false, List, [], ◌∷◌, ◌++◌, length, Option, Some, refl, sym, ◌∙◌, ap, subst, arith, append-nil}
use Rattle.tp4_number.specs.Number.{whole}
use Rattle.tp4_number.proofs.Past.{if_kept}
use Rattle.tp4_flow.specs.ReceivingHalf.{Half, ak}
use Rattle.tpdu.specs.declared.service.Options.{Options}
use Rattle.tp4_flow.specs.declared.step.Sent.{Sent}
use Rattle.tp4_sending.specs.SendingHalf.{FlowSender, at, submitted, urged}
use Rattle.tp4_sending.specs.Pieces.{again}
use Rattle.law_recovery_pair.specs.Viewing.{KeepsView}
use Rattle.tp4_conn.specs.declared.call.UserCall.{UserCall}
use Rattle.tp4_conn.specs.declared.call.UserCall.TheVariants.{Normal, Urgent, Disconnect}
use Rattle.tp4_conn.specs.declared.end_record.EndRecord.{EndRecord}
use Rattle.tp4_conn.specs.declared.states.InAkWait.{InAkWait}
use Rattle.tp4_conn.specs.declared.states.InCrWait.{InCrWait}
use Rattle.tp4_conn.specs.declared.states.InOpened.{InOpened}
use Rattle.tp4_conn.specs.declared.states.StateData.{StateData}
use Rattle.tp4_conn.specs.declared.states.StateData.TheVariants.{AkWait, CrWait, Opened}
use Rattle.tp4_conn.specs.Agreeing.{confirm, confirms_again, request}
use Rattle.tp4_conn.specs.AkWait.{ak_wait_tick, queueing}
use Rattle.tp4_conn.specs.CrWait.{confirmed, cr_wait_tick}
use Rattle.tp4_conn.specs.End.{End, Moved, agreed_sum, end_of}
use Rattle.tp4_conn.specs.Table.{Called, at as now_at, on_call, on_tick, stepped, takes}
use Rattle.law_tp4_pair.specs.Pair.{tick_of}
use Rattle.law_tp4_pair.specs.Standing.{HasLeft, Party, party}
use Rattle.law_recovery_steps.specs.Steps.{AreRiding, Since, StaysOpen}
use Rattle.law_recovery_steps.proofs.Directions.{clock_ride}
use Rattle.law_recovery_steps.proofs.Pairs.{clock_riding, turned}
use Rattle.law_recovery_steps.proofs.Steps.{calls_onward, ticks_onward}
use Rattle.law_recovery_steps.specs.Opening.{Asks, Calls, IsQueued, KnowsCc, Talks, as_confirmed, as_opened, confirmed_by, queued, unsent}
use Rattle.law_recovery_steps.specs.AkWait.{AreCrs, AreOpening}
use Rattle.law_recovery_steps.proofs.Calling.{Answers, KeepsOpen, calls_keep, cc_answered, cc_confirms, says_again, ticks_keep}

-- ---- what stays

-- the calling end knows the same
knows_on : (o after : InOpened) (w : InAkWait) → KeepsView o.halves.sending after.halves.sending → KnowsCc o w → KnowsCc after w
knows_on o after w k x = record { number = k.base ∙ x.number; credit = k.credit ∙ x.credit; subsequence = k.subsequence ∙ x.subsequence; edge = k.edge }

clock_both : (life size u now k : ℕ) (one other : Since) (first second : Party) (o q : InOpened) (forth back : List Sent) → AreRiding life size u now one other first second o q forth back
    → AreRiding life size u now one other first second (record o { halves = record o.halves { sending = at k o.halves.sending } }) q forth back
clock_both life size u now k one other first second o q forth back b = record {
  options = b.options;
  their_options = b.their_options;
  ours = record {
    agreed_is = b.ours.agreed_is;
    sending = b.ours.sending;
    receiving = b.ours.receiving;
    sum = b.ours.sum;
    format = b.ours.format;
    to = b.ours.to;
    partner = b.ours.partner;
  };
  theirs = b.theirs;
  sum = b.sum;
  forth_are = b.forth_are;
  back_are = b.back_are;
  there = clock_ride life size u one.road o.halves.sending q.halves.receiving now k _ _ q.acked b.there;
  here = b.here;
  there_eds = record {
    aside = b.there_eds.aside;
    base = b.there_eds.base;
    goes = b.there_eds.goes;
    base_is = b.there_eds.base_is;
    unit = b.there_eds.unit;
    format = b.there_eds.format;
    eds_are = b.there_eds.eds_are;
    eas_are = b.there_eds.eas_are;
    eds_now = b.there_eds.eds_now;
    eas_now = b.there_eds.eas_now;
    tried = b.there_eds.tried;
  };
  here_eds = b.here_eds;
}

module _ (life size u t1 : ℕ) (one other : Since) where
  -- ---- the calling end

  module _ (now : ℕ) (c : EndRecord) (w : InAkWait) (options : Options) where
    abbrev pub Are : End → List Sent → List Sent → Type 0
    Are e crs forth = AreOpening life size u t1 now one other e c w options crs forth

    -- it is Opened, and goes on
    talks_on : (e : End) (crs forth : List Sent) (x : Are e crs forth) (m : Moved) → KeepsOpen x.o m.stage → StaysOpen life size u now other one (party c) (as_opened w) m [] forth → Are (end_of m) crs (forth ++ m.tpdus)
    talks_on e crs forth x m keeps g = record {
      timed = x.timed;
      agreed = x.agreed;
      sized = x.sized;
      o = g.after;
      first = party m.base;
      calling = Talks g.stage refl;
      queued = x.queued;
      knows = knows_on x.o g.after w (keeps g.after g.stage) x.knows;
      crs_are = x.crs_are;
      quiet = λ r is. absurd (opened_waits (sym g.stage ∙ is));
      both = turned life size u now other one (party c) (party m.base) (as_opened w) g.after [] (forth ++ m.tpdus) g.both;
    }
      where
        opened_waits : {a : InOpened} {r : InCrWait} → Opened a ≡ CrWait r → ⊥
        opened_waits e = cc e

    -- it is in CrWait, and waits on, whatever its clock and its tries are
    asks_on : (e : End) (crs forth more : List Sent) (x : Are e crs forth) (r : InCrWait) (k : ℕ) → forth ≡ [] → x.first ≡ party (confirmed_by e.base c options) → x.o ≡ as_confirmed e.base c options → AreCrs more
        → Are (record { base = record e.base { clock = k }; stage = CrWait r }) more forth
    asks_on e crs forth more x r k none first is crs_are = record {
      timed = x.timed;
      agreed = x.agreed;
      sized = x.sized;
      o = x.o;
      first = x.first;
      calling = Asks r refl first is;
      queued = x.queued;
      knows = x.knows;
      crs_are = crs_are;
      quiet = λ _ _. none;
      both = x.both;
    }

    -- as the mover of both
    calling_both : (e : End) (crs forth : List Sent) (x : Are e crs forth) → x.first ≡ party e.base → AreRiding life size u now other one (party c) (party e.base) (as_opened w) x.o [] forth
    calling_both e crs forth x is = turned life size u now one other (party e.base) (party c) x.o (as_opened w) forth []
        (subst (λ (first : Party). AreRiding life size u now one other first (party c) x.o (as_opened w) forth []) is x.both)

    nothing_more : (e : End) (crs forth : List Sent) → Are e crs forth → Are e crs (forth ++ [])
    nothing_more e crs forth x = subst (λ (l : List Sent). Are e crs l) (sym (append-nil forth)) x

    -- its user calls
    pub calling_calls : (e : End) (crs forth : List Sent) (call : UserCall) → Are e crs forth → HasLeft (stepped whole now e (Called call)).stage ⊎ Are (end_of (stepped whole now e (Called call))) crs (forth ++ (stepped whole now e (Called call)).tpdus)
    calling_calls e crs forth call x = by x.calling
      where
        Goal : Moved → Type 0
        Goal m = HasLeft m.stage ⊎ Are (end_of m) crs (forth ++ m.tpdus)

        waits : (r : InCrWait) → e.stage ≡ CrWait r → x.first ≡ party (confirmed_by e.base c options) → x.o ≡ as_confirmed e.base c options → (asked : UserCall) → Goal (on_call (now_at now e.base) (CrWait r) asked)
        waits r is first o_is (Disconnect octets) = inl tt
        waits r is first o_is other = inr (nothing_more _ crs forth (asks_on e crs forth crs x r now (x.quiet r is) first o_is x.crs_are))

        by : Calls c options e x.first x.o → Goal (on_call (now_at now e.base) e.stage call)
        by (Asks r is first o_is) = subst (λ (stage : StateData). Goal (on_call (now_at now e.base) stage call)) (sym is) (waits r is first o_is call)
        by (Talks is first) = subst (λ (stage : StateData). Goal (on_call (now_at now e.base) stage call)) (sym is)
            (elim (calls_onward life size u now other one (party c) (as_opened w) e.base x.o call [] forth (calling_both e crs forth x first)) [
              | inl left ↦ inl left
              | inr g ↦ inr (talks_on e crs forth x (on_call (now_at now e.base) (Opened x.o) call) (calls_keep (now_at now e.base) x.o call x.knows.edge) g)
            ])

    -- it has a tick, or none
    abbrev pub HasTicked : Moved → Type 0
    HasTicked m = HasLeft m.stage ⊎ ((crs : List Sent) × (forth : List Sent) × (m.tpdus ≡ crs ++ forth) × Are (end_of m) crs forth)

    pub calling_ticks : (e : End) (ticks : Bool) → Are e [] [] → HasTicked (tick_of ticks now e)
    unfolding cr_wait_tick
    calling_ticks e false x = inr ([], [], refl, x)
    calling_ticks e true x = by x.calling
      where
        waits : (r : InCrWait) → e.stage ≡ CrWait r → x.first ≡ party (confirmed_by e.base c options) → x.o ≡ as_confirmed e.base c options → HasTicked (cr_wait_tick (now_at now e.base) r)
        waits r is first o_is =
            if_kept HasTicked (nat_lt now (r.tries.last + e.base.timers.t1)) _ _
            (λ _. inr ([], [], refl, asks_on e [] [] [] x r now refl first o_is tt))
            (λ _. if_kept HasTicked (nat_lt r.tries.count e.base.timers.sendings) _ _
            (λ _. let cr : Sent = request (now_at now e.base) r.octets in inr (cr ∷ [], [], refl, asks_on e [] [] (cr ∷ []) x (record r { tries = again now r.tries }) now refl first o_is (tt, tt)))
            (λ _. inl tt))

        by : Calls c options e x.first x.o → HasTicked (on_tick (now_at now e.base) e.stage)
        by (Asks r is first o_is) = subst (λ (stage : StateData). HasTicked (on_tick (now_at now e.base) stage)) (sym is) (waits r is first o_is)
        by (Talks is first) = subst (λ (stage : StateData). HasTicked (on_tick (now_at now e.base) stage)) (sym is)
            (elim (ticks_onward life size u now other one (party c) (as_opened w) e.base x.o [] [] (calling_both e [] [] x first)) [
              | inl left ↦ inl left
              | inr g ↦ inr ([], _, refl, talks_on e [] [] x (on_tick (now_at now e.base) (Opened x.o)) (ticks_keep (now_at now e.base) x.o x.knows.edge) g)
            ])

    -- the CC comes
    pub sum_of_cc : (e : End) (crs forth : List Sent) → Are e crs forth → agreed_sum c.agreed ≡ other.rules.sum
    sum_of_cc e crs forth x = ap agreed_sum x.both.theirs.agreed_is ∙ sym x.both.theirs.sum

    abbrev pub HasConfirmed : End → List Sent → List Sent → Moved → Type 0
    HasConfirmed e crs forth m = HasLeft m.stage ⊎ ((0 < length m.tpdus) × Are (end_of m) crs (forth ++ m.tpdus))

    pub calling_cc : (e : End) (crs forth : List Sent) → Are e crs forth → HasConfirmed e crs forth (takes whole now e.base e.stage (confirm c options w.octets).tpdu (confirm c options w.octets).sum)
    calling_cc e crs forth x = by x.calling
      where
        Goal : Moved → Type 0
        Goal m = HasConfirmed e crs forth m

        confirms : (r : InCrWait) → e.stage ≡ CrWait r → x.first ≡ party (confirmed_by e.base c options) → x.o ≡ as_confirmed e.base c options
            → Goal (confirmed (record e.base { partner = c.own; credit = c.timers.credit; agreed = Some options; clock = now }) options w.octets)
        confirms r is first o_is =
            let v : InOpened = as_confirmed e.base c options in
            let as_if : AreRiding life size u now one other (party (confirmed_by e.base c options)) (party c) v (as_opened w) forth [] =
            subst (λ (o : InOpened). AreRiding life size u now one other (party (confirmed_by e.base c options)) (party c) o (as_opened w) forth []) o_is
            (subst (λ (a : Party). AreRiding life size u now one other a (party c) x.o (as_opened w) forth []) first x.both) in
            let knew : KnowsCc v w = subst (λ (o : InOpened). KnowsCc o w) o_is x.knows in
            let timed = clock_both life size u now now one other (party (confirmed_by e.base c options)) (party c) v (as_opened w) forth [] as_if in
            let said = says_again life size u now other one (party c) (party (confirmed_by e.base c options)) (as_opened w) (record v { halves = record v.halves { sending = at now v.halves.sending } }) now [] forth
            (turned life size u now one other (party (confirmed_by e.base c options)) (party c) _ (as_opened w) forth [] timed) in
            let some : 0 < 1 = omega arith in
            inr (
              some,
              record {
                timed = x.timed;
                agreed = x.agreed;
                sized = x.sized;
                o = record v { took = now; acked = now; halves = record v.halves { sending = at now v.halves.sending } };
                first = party (confirmed_by e.base c options);
                calling = Talks refl refl;
                queued = x.queued;
                knows = record { number = knew.number; credit = knew.credit; subsequence = knew.subsequence; edge = knew.edge };
                crs_are = x.crs_are;
                quiet = λ _ waits. absurd (cc waits);
                both = turned life size u now other one (party c) (party (confirmed_by e.base c options)) (as_opened w) _ [] (forth ++ ak v.halves.receiving ∷ []) said;
              },
            )

        answers : (m : Moved) → x.first ≡ party e.base → Answers x.o e.base now m → Goal m
        answers m first a =
            let said = says_again life size u now other one (party c) (party e.base) (as_opened w) x.o now [] forth (calling_both e crs forth x first) in
            inr (
              omega (arith, ap (λ (l : List Sent). length l) a.tpdus),
              record {
                timed = x.timed;
                agreed = x.agreed;
                sized = x.sized;
                o = record x.o { took = now; acked = now };
                first = x.first;
                calling = Talks a.stage (first ∙ ap party (sym a.base));
                queued = x.queued;
                knows = record { number = x.knows.number; credit = x.knows.credit; subsequence = x.knows.subsequence; edge = x.knows.edge };
                crs_are = x.crs_are;
                quiet = λ _ waits. absurd (opened_waits (sym a.stage ∙ waits));
                both = subst (λ (l : List Sent). AreRiding life size u now one other x.first (party c) (record x.o { took = now; acked = now }) (as_opened w) (forth ++ l) []) (sym a.tpdus)
                    (subst (λ (f : Party). AreRiding life size u now one other f (party c) (record x.o { took = now; acked = now }) (as_opened w) (forth ++ ak x.o.halves.receiving ∷ []) []) (sym first)
                    (turned life size u now other one (party c) (party e.base) (as_opened w) _ [] (forth ++ ak x.o.halves.receiving ∷ []) said));
              },
            )
          where
            opened_waits : {a : InOpened} {r : InCrWait} → Opened a ≡ CrWait r → ⊥
            opened_waits f = cc f

        by : Calls c options e x.first x.o → Goal (takes whole now e.base e.stage (confirm c options w.octets).tpdu (confirm c options w.octets).sum)
        by (Asks r is first o_is) = subst (λ (stage : StateData). Goal (takes whole now e.base stage (confirm c options w.octets).tpdu (confirm c options w.octets).sum)) (sym is)
            (cc_confirms Goal e.base c r options w.octets now x.agreed x.sized (λ m left. inl left) (confirms r is first o_is))
        by (Talks is first) = subst (λ (stage : StateData). Goal (takes whole now e.base stage (confirm c options w.octets).tpdu (confirm c options w.octets).sum)) (sym is)
            (answers _ first (cc_answered now e.base x.o x.both.options (confirm c options w.octets) (ap (λ (a : Party). a.agreed) (sym first) ∙ x.both.ours.agreed_is)
            (sum_of_cc e crs forth x ∙ sym x.both.sum ∙ x.both.ours.sum) tt))

  -- ---- the called end

  -- units wait, or its clock goes on
  waits_on : (now k : ℕ) (e : End) (c : EndRecord) (w v : InAkWait) (options : Options) (crs forth : List Sent) → AreOpening life size u t1 now one other e c w options crs forth
      → IsQueued v.halves.sending → unsent v.halves.sending ≡ unsent w.halves.sending → v.halves.receiving ≡ w.halves.receiving
      → AreOpening life size u t1 now one other e (record c { clock = k }) v options crs forth
  waits_on now k e c w v options crs forth x waits same receiving =
      let is : as_opened w ≡ as_opened v = λ i. record { took = 0; acked = 0; halves = record { sending = sym same i; receiving = sym receiving i } } in
      record {
        timed = x.timed;
        agreed = x.agreed;
        sized = x.sized;
        o = x.o;
        first = x.first;
        calling = calls_on x.calling;
        queued = waits;
        knows = subst (λ (h : Half). KnowsCc x.o (record v { halves = record v.halves { receiving = h } })) (sym receiving) (record { number = x.knows.number; credit = x.knows.credit; subsequence = x.knows.subsequence; edge = x.knows.edge });
        crs_are = x.crs_are;
        quiet = x.quiet;
        both = subst (λ (q : InOpened). AreRiding life size u now one other x.first (party c) x.o q forth []) is x.both;
      }
    where
      calls_on : Calls c options e x.first x.o → Calls (record c { clock = k }) options e x.first x.o
      calls_on (Asks r stage first o_is) = Asks r stage first o_is
      calls_on (Talks stage first) = Talks stage first

  module _ (now : ℕ) (e : End) (c : EndRecord) (w : InAkWait) (options : Options) (crs forth : List Sent) (x : AreOpening life size u t1 now one other e c w options crs forth) where
    -- it is in AkWait after a row that sends nothing, with the CC that it had
    pub record StaysWaiting (m : Moved) : Type 0 where
      pub v : InAkWait
      pub stage : m.stage ≡ AkWait v
      pub base : m.base ≡ now_at now c
      pub tpdus : m.tpdus ≡ []
      pub octets : v.octets ≡ w.octets
      pub tries : v.tries ≡ w.tries
      pub are : AreOpening life size u t1 now one other e (now_at now c) v options crs forth

    abbrev has : FlowSender → InAkWait
    has s = record w { halves = record w.halves { sending = s } }

    queues : (units expedited : List (List ℕ)) → StaysWaiting (queueing (now_at now c) w (record { sender = queued w.halves.sending.rules x.queued.credit now units expedited; events = []; tpdus = [] }))
    queues units expedited =
        let s : FlowSender = w.halves.sending in
        record {
          v = has (queued s.rules x.queued.credit now units expedited);
          stage = refl;
          base = refl;
          tpdus = refl;
          octets = refl;
          tries = refl;
          are = waits_on now now e c w (has (queued s.rules x.queued.credit now units expedited)) options crs forth x (record { credit = x.queued.credit; is = refl }) (ap unsent (sym x.queued.is)) refl;
        }

    stays_waiting : StaysWaiting (record { base = now_at now c; stage = AkWait w; events = []; tpdus = [] })
    stays_waiting = record { v = w; stage = refl; base = refl; tpdus = refl; octets = refl; tries = refl; are = waits_on now now e c w w options crs forth x x.queued refl refl }

    pub called_calls : (call : UserCall) → HasLeft (on_call (now_at now c) (AkWait w) call).stage ⊎ StaysWaiting (on_call (now_at now c) (AkWait w) call)
    called_calls (Normal unit) = inr (subst (λ (s : FlowSender). StaysWaiting (queueing (now_at now c) w (submitted (at now s) unit))) (sym x.queued.is) (queues (w.halves.sending.queue.units ++ unit ∷ []) w.halves.sending.urgent.units))
    called_calls (Urgent unit) = inr (subst (λ (s : FlowSender). StaysWaiting (queueing (now_at now c) w (urged (at now s) unit))) (sym x.queued.is) (queues w.halves.sending.queue.units (w.halves.sending.urgent.units ++ unit ∷ [])))
    called_calls (Disconnect octets) = inl tt
    called_calls other = inr stays_waiting

    -- a tick, or none: it sends its CC again, or not
    pub record IsSilent (m : Moved) : Type 0 where
      pub stage : m.stage ≡ AkWait w
      pub tpdus : m.tpdus ≡ []
      pub clock : ℕ
      pub base : m.base ≡ record c { clock = clock }
      pub are : AreOpening life size u t1 now one other e (record c { clock = clock }) w options crs forth

    pub record SendsAgain (m : Moved) : Type 0 where
      pub v : InAkWait
      pub stage : m.stage ≡ AkWait v
      pub tpdus : m.tpdus ≡ confirm (now_at now c) options v.octets ∷ []
      pub base : m.base ≡ now_at now c
      pub are : AreOpening life size u t1 now one other e (now_at now c) v options crs forth

    abbrev pub WaitsOn : Moved → Type 0
    WaitsOn m = IsSilent m ⊎ SendsAgain m

    pub called_ticks : (ticks : Bool) (end : End) → end.base ≡ c → end.stage ≡ AkWait w → HasLeft (tick_of ticks now end).stage ⊎ WaitsOn (tick_of ticks now end)
    unfolding ak_wait_tick
    called_ticks false end base stage = inr (inl (record { stage = stage; tpdus = refl; clock = c.clock; base = base; are = x }))
    called_ticks true end base stage =
        subst (λ (b : EndRecord). HasLeft (on_tick (now_at now b) end.stage).stage ⊎ WaitsOn (on_tick (now_at now b) end.stage)) (sym base)
        (subst (λ (s : StateData). HasLeft (on_tick (now_at now c) s).stage ⊎ WaitsOn (on_tick (now_at now c) s)) (sym stage) ticked_on)
      where
        Goal : Moved → Type 0
        Goal m = HasLeft m.stage ⊎ WaitsOn m

        ticked_on : Goal (ak_wait_tick (now_at now c) w)
        ticked_on =
            if_kept Goal (nat_lt now (w.tries.last + c.timers.t1)) _ _
            (λ _. inr (inl (record { stage = refl; tpdus = refl; clock = now; base = refl; are = waits_on now now e c w w options crs forth x x.queued refl refl })))
            (λ _. if_kept Goal (nat_lt w.tries.count c.timers.sendings) _ _
            (λ _. inr (inr (record {
              v = record w { tries = again now w.tries };
              stage = refl;
              tpdus = ap (λ (o : Option Options). confirms_again (now_at now c) o w.octets) x.agreed;
              base = refl;
              are = waits_on now now e c w (record w { tries = again now w.tries }) options crs forth x x.queued refl refl;
            })))
            (λ _. inl tt))

  -- other CRs wait for it, whatever its clock is
  pub waits_so : (now k : ℕ) (e : End) (c : EndRecord) (w : InAkWait) (options : Options) (crs more forth : List Sent) → AreOpening life size u t1 now one other e c w options crs forth → AreCrs more
      → AreOpening life size u t1 now one other e (record c { clock = k }) w options more forth
  waits_so now k e c w options crs more forth x crs_are =
      let y = waits_on now k e c w w options crs forth x x.queued refl refl in
      record {
        timed = y.timed;
        agreed = y.agreed;
        sized = y.sized;
        o = y.o;
        first = y.first;
        calling = y.calling;
        queued = y.queued;
        knows = y.knows;
        crs_are = crs_are;
        quiet = y.quiet;
        both = y.both;
      }

  -- ---- the clock

  pub clock_opening : (now : ℕ) (e : End) (c : EndRecord) (w : InAkWait) (options : Options) → AreOpening life size u t1 now one other e c w options [] [] → AreOpening life size u t1 (now + 1) one other e c w options [] []
  clock_opening now e c w options x = record {
    timed = x.timed;
    agreed = x.agreed;
    sized = x.sized;
    o = x.o;
    first = x.first;
    calling = x.calling;
    queued = x.queued;
    knows = x.knows;
    crs_are = x.crs_are;
    quiet = x.quiet;
    both = clock_riding life size u now one other x.first (party c) x.o (as_opened w) x.both;
  }
