-- An end in CrWait and one in AkWait: nothing was sent between them but CRs and CCs, so all is known that such a pair begins with.
use Rattle.std.proofs.Common.{◌≡◌, inl, ℕ, ◌+◌, ◌*◌, ◌<◌, ◌≤◌, true, [], refl, sym, ◌∙◌, ap, subst, arith}
use Rattle.tpdu.specs.declared.tpdu.Format.{Format}
use Rattle.tpdu.specs.declared.tpdu.Format.TheVariants.{Normal, Extended}
use Rattle.tp4_number.specs.Formats.{block_of, most_of}
use Rattle.tp4_number.specs.Expedited.{quiet}
use Rattle.law_recovery_pair.specs.Views.{Wider}
use Rattle.tp4_flow.specs.ReceivingHalf.{empty}
use Rattle.tp4_flow.specs.declared.rules.FlowRules.{FlowRules}
use Rattle.tpdu.specs.declared.service.Options.{Options}
use Rattle.tp4_sending.specs.SendingHalf.{FlowSender, fresh}
use Rattle.tp4_sending.proofs.Settles.{new_settled}
use Rattle.law_recovery_pair.specs.Fitting.{Fits}
use Rattle.law_recovery_pair.specs.Riding.{Aside}
use Rattle.law_recovery_pair.proofs.Fitting.{empty_fits}
use Rattle.tp4_conn.specs.declared.end_record.EndRecord.{EndRecord}
use Rattle.tp4_conn.specs.declared.halves.Halves.{Halves}
use Rattle.tp4_conn.specs.declared.states.InAkWait.{InAkWait}
use Rattle.tp4_conn.specs.declared.states.InCrWait.{InCrWait}
use Rattle.tp4_conn.specs.declared.states.StateData.TheVariants.{AkWait}
use Rattle.tp4_conn.specs.Agreeing.{flow_rules}
use Rattle.law_recovery_steps.specs.Resting.{IsBegun}
use Rattle.law_tp4_pair.specs.Pair.{Pair}
use Rattle.law_recovery_steps.proofs.Sending.{none_in}
use Rattle.law_recovery_steps.specs.Opening.{AreAsking, Asks, IsBegunSo, as_confirmed, confirmed_by, queued}

low_block : (format : Format) → 15 < block_of format
low_block Normal = omega arith
low_block Extended = omega arith

abbrev none_aside : Aside
none_aside = record { urgent = 0; sends = []; answers = []; dts = []; aks = [] }

-- a direction in which nothing was sent
fresh_begins : (life now : ℕ) (rules other : FlowRules) (credit acked : ℕ) → other.format ≡ rules.format → 2 * life ≤ rules.limit → credit ≤ 15 → acked < now + 1
    → IsBegun life (most_of rules.format) now (record (fresh rules credit) { is_open = true }) (empty other credit) acked
fresh_begins life now rules other credit acked format long low spoke =
    let block = low_block rules.format in
    let most : most_of rules.format ≡ most_of other.format = ap most_of (sym format) in
    let fits : Fits (empty other credit) = empty_fits other credit low in
    let s : FlowSender = record (fresh rules credit) { is_open = true } in
    record {
      aside = none_aside;
      no_dts = refl;
      no_aks = refl;
      past = record {
        reached = record {
          fit = record { some = omega (arith, block); long = long };
          tick = now;
          credit = credit;
          places = most_of other.format;
          room = credit;
          credit_low = omega (arith, block, low);
          room_low = omega (arith, block, low);
          events = [];
          leads = refl;
          views = record { knows = Wider refl refl (omega arith); answered = λ a c. absurd (none_in a c); rising = λ a b c d later. absurd (none_in a c); edge = omega arith };
        };
        fits = record { places = fits.places ∙ sym most; room = omega (arith, fits.room, most); free = fits.free };
      };
      format = format;
      places = most;
      fits = fits;
      fed = record { is_open = refl; first = omega arith; window = refl; high = omega arith; reach = omega arith };
      settled = new_settled s refl;
      tried = tt;
      spoke = inl spoke;
      asked = record {
        tick = now;
        events = [];
        urgent = quiet now;
        leads = refl;
        clock = refl;
        next = refl;
        blocks = refl;
        expected = refl;
        base_is = refl;
        unit = tt;
        tried = tt;
      };
    }

-- with its halves as they were made
made_begins : (life : ℕ) (p : Pair) (r : InCrWait) (w : InAkWait) (options : Options) (x : AreAsking life p r w options)
    → IsBegunSo life (most_of options.format) p (as_confirmed p.calling.base p.called.base options) (record w {
      halves = record {
        sending = queued (flow_rules p.called.base options) p.called.base.credit x.clock x.units x.expedited;
        receiving = empty (flow_rules p.called.base options) p.called.base.timers.credit;
      };
    })
made_begins life p r w options x =
    let b : EndRecord = p.calling.base in
    let c : EndRecord = p.called.base in
    record {
      idle = x.idle;
      called = x.called ∙ ap (λ (h : Halves). AkWait (record w { halves = h })) x.halves;
      options = options;
      agreed = x.agreed;
      sized = x.sized;
      base = confirmed_by b c options;
      calling = Asks r x.calling refl refl;
      queued = record { credit = c.credit; is = refl };
      tried = x.tried;
      knows = record { number = refl; credit = refl; subsequence = refl; edge = omega arith };
      begun = record {
        idle = record { forth = x.idle.forth; back = x.idle.back };
        calling = refl;
        called = refl;
        options = options;
        their_options = options;
        ours = record { agreed_is = refl; sending = refl; receiving = refl; sum = refl; format = refl; to = refl; partner = refl };
        theirs = record { agreed_is = x.agreed; sending = refl; receiving = refl; sum = refl; format = refl; to = refl; partner = refl };
        sum = refl;
        there = fresh_begins life p.clock (flow_rules (confirmed_by b c options) options) (flow_rules c options) c.timers.credit 0 refl (omega (arith, x.life_is)) x.low_there (omega arith);
        here = subst (λ (n : ℕ). IsBegun life (most_of options.format) p.clock (record (fresh (flow_rules c options) n) { is_open = true }) (empty (flow_rules (confirmed_by b c options) options) b.timers.credit) 0) (sym x.known)
            (fresh_begins life p.clock (flow_rules c options) (flow_rules (confirmed_by b c options) options) b.timers.credit 0 refl (omega (arith, x.life_there)) x.low (omega arith));
      };
    }

pub asks_begin : (life : ℕ) (p : Pair) (r : InCrWait) (w : InAkWait) (options : Options) → AreAsking life p r w options
    → IsBegunSo life (most_of options.format) p (as_confirmed p.calling.base p.called.base options) w
asks_begin life p r w options x =
    subst (λ (h : Halves). IsBegunSo life (most_of options.format) p (as_confirmed p.calling.base p.called.base options) (record w { halves = h })) (sym x.halves) (made_begins life p r w options x)
