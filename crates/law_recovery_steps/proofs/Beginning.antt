-- From what is known of two ends a pair begins.
use Rattle.std.proofs.Common.{◌≡◌, inl, ℕ, ◌+◌, ◌≤◌, List, [], ◌∷◌, sym, ◌∙◌, ap, subst, arith, Option, Some, None}
use Rattle.tpdu.specs.declared.tpdu.Format.{Format}
use Rattle.tp4_number.specs.Formats.{most_of}
use Rattle.tp4_flow.specs.ReceivingHalf.{Half}
use Rattle.tp4_sending.specs.SendingHalf.{FlowSender}
use Rattle.tp4_sending.specs.declared.tries.Tries.{Tries}
use Rattle.tp4_conn.specs.declared.states.InOpened.{InOpened}
use Rattle.law_recovery_ends.specs.Due.{AreTried, AreTriedBy, IsTriedBy}
use Rattle.law_recovery_steps.specs.Asking.{IsAskedBy}
use Rattle.law_tp4_pair.specs.Pair.{Account, Pair, back_units, forth_units}
use Rattle.law_recovery_steps.specs.Known.{AreKnown, IsKnownAt}
use Rattle.law_recovery_steps.specs.Beginning.{AreAgreed, IsFull}
use Rattle.law_recovery_steps.specs.Resting.{AreBegun, IsBegun}

tried_before : (now n : ℕ) (window : List Tries) (sends : List (ℕ × ℕ)) → AreTriedBy now window → AreTried (now + 1) n window sends
tried_before now n [] sends a = tt
tried_before now n (tries ∷ window) sends a = (inl (omega (arith, a.0)), tried_before now (n + 1) window sends a.1)

asked_before : (now base : ℕ) (out : Option Tries) (sends : List (ℕ × ℕ)) → IsTriedBy now out → IsAskedBy (now + 1) base out sends
asked_before now base None sends t = tt
asked_before now base (Some tries) sends t = inl (omega (arith, t))

pub direction_begins : (life now acked : ℕ) (s : FlowSender) (h : Half) (units : Account) → IsKnownAt life now s h units → IsFull s → acked ≤ now → IsBegun life (most_of s.rules.format) now s h acked
direction_begins life now acked s h units k full spoke =
    let most : most_of s.rules.format ≡ most_of h.rules.format = ap most_of (sym k.format) in
    record {
      aside = k.aside;
      no_dts = k.no_dts;
      no_aks = k.no_aks;
      past = record { reached = k.reached; fits = record { places = k.fits.places ∙ sym most; room = omega (arith, k.fits.room, most); free = k.fits.free } };
      format = k.format;
      places = most;
      fits = k.fits;
      fed = record { is_open = k.ordered.is_open; first = k.ordered.first; window = k.ordered.window; high = k.ordered.high; reach = full };
      settled = k.settled;
      tried = tried_before now s.numbers.base s.window k.aside.sends k.tried;
      spoke = inl (omega (arith, spoke));
      asked = record {
        tick = k.tick;
        events = k.expedites;
        urgent = k.urgent;
        leads = k.urgent_leads;
        clock = k.urgent_clock;
        next = k.urgent_next;
        blocks = k.urgent_blocks;
        expected = k.urgent_expected;
        base_is = k.urgent_base_is;
        unit = k.ordered.unit;
        tried = asked_before now k.urgent.base s.urgent.out k.urgent.sends k.urgent_tried;
      };
    }

pub pair_begins : (life : ℕ) (p : Pair) (o q : InOpened) → AreKnown life p o q → AreAgreed p o q → AreBegun life (most_of o.halves.sending.rules.format) p o q
pair_begins life p o q k a =
    let same : q.halves.sending.rules.format ≡ o.halves.sending.rules.format = sym a.format in
    record {
      idle = k.idle;
      calling = k.calling;
      called = k.called;
      options = a.options;
      their_options = a.their_options;
      ours = a.ours;
      theirs = a.theirs;
      sum = a.sum;
      there = direction_begins life p.clock q.acked o.halves.sending q.halves.receiving (forth_units p) k.there a.full k.acked.1;
      here = subst (λ (f : Format). IsBegun life (most_of f) p.clock q.halves.sending o.halves.receiving o.acked) same
          (direction_begins life p.clock o.acked q.halves.sending o.halves.receiving (back_units p) k.here a.full_there k.acked.0);
    }
