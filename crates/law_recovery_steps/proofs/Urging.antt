-- EDs and EAs of one direction go on, by the moves of its halves.
use Rattle.std.proofs.Common.{◌≡◌, inl, inr, ℕ, ◌+◌, ◌*◌, ◌==◌, ◌||◌, Bool, true, false, if◌then◌else◌, List, [], ◌∷◌, ◌++◌, refl, sym, ◌∙◌, ap, subst, arith, append-nil, Contains}
use Rattle.std.proofs.Math.Nat.{mod-add-mod}
use Rattle.std.proofs.lemmas.List.Elements.{Contains-append_left, Contains-append_right, Contains-append_cases}
use Rattle.tpdu.specs.declared.tpdu.Format.{Format}
use Rattle.tp4_number.specs.Expedited.{Urgent}
use Rattle.tp4_number.specs.Formats.{block_of}
use Rattle.tp4_number.specs.Number.{whole, wire}
use Rattle.law_recovery_pair.proofs.Keeping.{later_too}
use Rattle.law_recovery_pair.specs.Urgent.{Ed_arrives, Passes, UrgentRoad}
use Rattle.tp4_flow.specs.ReceivingHalf.{Half, block_in as block_there, ea, is_before, is_next, taken_ed}
use Rattle.tp4_flow.specs.declared.rules.FlowRules.{FlowRules}
use Rattle.tp4_flow.specs.declared.step.Sent.{Sent}
use Rattle.tp4_sending.specs.SendingHalf.{FlowSender, Sendings, acknowledged, at, block_in, submitted, ticked, urged, urgent_done}
use Rattle.law_recovery_pair.specs.Riding.{rules_by}
use Rattle.law_tp4_pair.specs.Waiting.{eas_in, eds_in}
use Rattle.law_recovery_steps.specs.Asking.{AsksOut, GoesUrgently, UrgentAside, asked_aside, urgent_road}
use Rattle.law_recovery_steps.specs.Sending.{dts_on}
use Rattle.law_recovery_steps.specs.Urging.{Urges}
use Rattle.law_recovery_steps.proofs.Asking.{calls_ask, ea_asks, go_then}
use Rattle.law_recovery_steps.proofs.Sending.{dts_on_then, first_of, no_dts, none_in, one_alone}

wire_after : (block n : ℕ) → wire block (wire block n + 1) ≡ wire block (n + 1)
unfolding wire
wire_after block n = mod-add-mod n (4 * block) 1

module _ (life u : ℕ) (old : UrgentRoad) (s : FlowSender) (h : Half) where
  goes_then : (f : FlowRules) (mid new : UrgentRoad) → GoesUrgently (rules_by life f) u old mid → GoesUrgently (rules_by life f) u mid new → GoesUrgently (rules_by life f) u old new
  goes_then f mid new a b = record { moves = a.moves ++ b.moves; are = go_then (rules_by life f) u old mid new a.moves b.moves a.are b.are }

  asks_on : (now : ℕ) (eds waiting eas : List ℕ) (rest : List (ℕ × ℕ)) (z : Sendings) (r : Urges life u now old s h eds waiting) → AsksOut life u (at now s) r.base h.receiver.urgent r.aside (record r.aside { eas = rest }) z
      → eas ≡ dts_on (block_in s) rest → ((e : ℕ × ℕ) → Contains rest e → Contains r.aside.eas e) → Urges life u now old z.sender h (eds ++ eds_in z.tpdus) eas
  asks_on now eds waiting eas rest z r g are left =
      let y : UrgentAside = asked_aside (record r.aside { eas = rest }) g.more in
      record {
        aside = y;
        base = g.after;
        goes = subst (λ (f : FlowRules). GoesUrgently (rules_by life f) u old (urgent_road now g.after z.sender.urgent h.receiver.urgent y)) (sym g.rules)
            (goes_then s.rules (urgent_road now r.base s.urgent h.receiver.urgent r.aside) (urgent_road now g.after z.sender.urgent h.receiver.urgent y) r.goes g.goes);
        base_is = g.base_is;
        unit = g.unit;
        format = r.format ∙ ap (λ (f : FlowRules). f.format) (sym g.rules);
        eds_are = (λ i. r.eds_are i ++ g.eds i) ∙ sym (dts_on_then (block_in s) r.aside.eds g.more) ∙ ap (λ (f : FlowRules). dts_on (block_of f.format) (r.aside.eds ++ g.more)) (sym g.rules);
        eas_are = are ∙ ap (λ (f : FlowRules). dts_on (block_of f.format) rest) (sym g.rules);
        eds_now = λ e c. elim (Contains-append_cases r.aside.eds g.more e c) [
          | inl before ↦ let was = r.eds_now e before in (Contains-append_left r.aside.sends g.more e was.0, was.1)
          | inr here ↦ (Contains-append_right r.aside.sends g.more e here, g.more_now e here)
        ];
        eas_now = λ e c. r.eas_now e (left e c);
        tried = g.tried r.aside.sends r.tried;
      }

  pub calls_urge : (now : ℕ) (eds eas unit : List ℕ) (w credit subsequence : ℕ) → Urges life u now old s h eds eas
      → Urges life u now old (submitted (at now s) unit).sender h (eds ++ eds_in (submitted (at now s) unit).tpdus) eas
      × Urges life u now old (urged (at now s) unit).sender h (eds ++ eds_in (urged (at now s) unit).tpdus) eas
      × Urges life u now old (ticked (at now s)).sender h (eds ++ eds_in (ticked (at now s)).tpdus) eas
      × Urges life u now old (acknowledged (at now s) w credit subsequence).sender h (eds ++ eds_in (acknowledged (at now s) w credit subsequence).tpdus) eas
  calls_urge now eds eas unit w credit subsequence r =
      let g = calls_ask life u (at now s) r.base h.receiver.urgent r.aside unit w credit subsequence r.base_is r.unit in (
        asks_on now eds eas eas r.aside.eas (submitted (at now s) unit) r g.0 r.eas_are (λ e c. c),
        asks_on now eds eas eas r.aside.eas (urged (at now s) unit) r g.1 r.eas_are (λ e c. c),
        asks_on now eds eas eas r.aside.eas (ticked (at now s)) r g.2 r.eas_are (λ e c. c),
        asks_on now eds eas eas r.aside.eas (acknowledged (at now s) w credit subsequence) r g.3 r.eas_are (λ e c. c),
      )

  pub eas_urge : (now w : ℕ) (eds eas : List ℕ) → Urges life u now old s h eds (w ∷ eas) → Urges life u now old (urgent_done (at now s) w).sender h (eds ++ eds_in (urgent_done (at now s) w).tpdus) eas
  eas_urge now w eds eas r = from r.aside.eas refl r.eas_are
    where
      from : (l : List (ℕ × ℕ)) → r.aside.eas ≡ l → w ∷ eas ≡ dts_on (block_in s) l → Urges life u now old (urgent_done (at now s) w).sender h (eds ++ eds_in (urgent_done (at now s) w).tpdus) eas
      from [] waits f = absurd (cc f)
      from (e ∷ rest) waits f =
          let there = r.eas_now e (subst (λ (l : List (ℕ × ℕ)). Contains l e) (sym waits) (first_of e rest)) in
          let is : wire (block_in s) e.0 ≡ w = cc f in
          subst (λ (k : ℕ). Urges life u now old (urgent_done (at now s) k).sender h (eds ++ eds_in (urgent_done (at now s) k).tpdus) eas) is
          (asks_on now eds (w ∷ eas) eas rest (urgent_done (at now s) (wire (block_in s) e.0)) r
          (ea_asks life u (at now s) r.base h.receiver.urgent r.aside e.0 e.1 rest r.base_is r.unit waits there.0 (omega (arith, there.1))) (cc f)
          (λ d c. subst (λ (l : List (ℕ × ℕ)). Contains l d) (sym waits) (later_too e d rest c)))

  -- a receiving half that expects the same ED
  pub half_urge : (now : ℕ) (k : Half) (eds eas : List ℕ) → k.receiver.urgent ≡ h.receiver.urgent → k.rules ≡ h.rules → Urges life u now old s h eds eas → Urges life u now old s k eds eas
  half_urge now k eds eas same rules r = record {
    aside = r.aside;
    base = r.base;
    goes = subst (λ (n : ℕ). GoesUrgently (rules_by life s.rules) u old (urgent_road now r.base s.urgent n r.aside)) (sym same) r.goes;
    base_is = r.base_is;
    unit = r.unit;
    format = ap (λ (f : FlowRules). f.format) rules ∙ r.format;
    eds_are = r.eds_are;
    eas_are = r.eas_are;
    eds_now = r.eds_now;
    eas_now = r.eas_now;
    tried = r.tried;
  }

  pub clocks_urge : (now : ℕ) → Urges life u now old s h [] [] → Urges life u (now + 1) old s h [] []
  clocks_urge now r = record {
    aside = r.aside;
    base = r.base;
    goes = goes_then s.rules (urgent_road now r.base s.urgent h.receiver.urgent r.aside) (urgent_road (now + 1) r.base s.urgent h.receiver.urgent r.aside) r.goes (record { moves = Passes ∷ []; are = (tt, refl) });
    base_is = r.base_is;
    unit = r.unit;
    format = r.format;
    eds_are = r.eds_are;
    eas_are = r.eas_are;
    eds_now = λ e c. absurd (none_in e (subst (λ (l : List (ℕ × ℕ)). Contains l e) (no_dts (block_in s) r.aside.eds r.eds_are) c));
    eas_now = λ e c. absurd (none_in e (subst (λ (l : List (ℕ × ℕ)). Contains l e) (no_dts (block_in s) r.aside.eas r.eas_are) c));
    tried = r.tried;
  }

  -- ---- an ED

  -- what the half does by its two tests
  abbrev half_by : Bool → Half
  half_by p = if p then record h { receiver = record h.receiver { urgent = h.receiver.urgent + 1 } } else h

  abbrev sent_by : ℕ → Bool → List Sent
  sent_by w b = if b then ea h w ∷ [] else []

  module _ (now : ℕ) (eds eas : List ℕ) (w : ℕ) (r : Urges life u now old s h (w ∷ eds) eas) (e : ℕ × ℕ) (rest : List (ℕ × ℕ)) (waits : r.aside.eds ≡ e ∷ rest) (is : w ≡ wire (block_in s) e.0) (others : eds ≡ dts_on (block_in s) rest) where
    abbrev was : Urgent
    was = (urgent_road now r.base s.urgent h.receiver.urgent r.aside).urgent

    -- the road by these tests
    abbrev road_by : Bool → Bool → UrgentRoad
    road_by p q = record {
      urgent = if p then record was { expected = h.receiver.urgent + 1; answers = r.aside.answers ++ (e.0, now) ∷ [] } else if q then record was { answers = r.aside.answers ++ (e.0, now) ∷ [] } else was;
      eds = rest;
      eas = r.aside.eas ++ (if p || q then (e.0, now) ∷ [] else []);
    }

    there : Contains r.aside.sends e × (e.1 ≡ now)
    there = r.eds_now e (subst (λ (l : List (ℕ × ℕ)). Contains l e) (sym waits) (first_of e rest))

    left : (d : ℕ × ℕ) → Contains rest d → Contains r.aside.sends d × (d.1 ≡ now)
    left d c = r.eds_now d (subst (λ (l : List (ℕ × ℕ)). Contains l d) (sym waits) (later_too e d rest c))

    moved : (p q : Bool) → (wire (block_in s) e.0 == wire (block_in s) h.receiver.urgent) ≡ p → (wire (block_in s) (e.0 + 1) == wire (block_in s) h.receiver.urgent) ≡ q → GoesUrgently (rules_by life s.rules) u old (road_by p q)
    moved p q f g = goes_then s.rules (urgent_road now r.base s.urgent h.receiver.urgent r.aside) (road_by p q) r.goes (record {
      moves = Ed_arrives e.0 e.1 rest ∷ [];
      are = ((waits, (there.0, omega (arith, there.1))), λ i. road_by (sym f i) (sym g i));
    })

    -- an EA goes with it
    answers_with : (k : Half) → k.rules ≡ h.rules → GoesUrgently (rules_by life s.rules) u old (urgent_road now r.base s.urgent k.receiver.urgent (record r.aside { eds = rest; answers = r.aside.answers ++ (e.0, now) ∷ []; eas = r.aside.eas ++ (e.0, now) ∷ [] }))
        → Urges life u now old s k eds (eas ++ w ∷ [])
    answers_with k rules goes = record {
      aside = record r.aside { eds = rest; answers = r.aside.answers ++ (e.0, now) ∷ []; eas = r.aside.eas ++ (e.0, now) ∷ [] };
      base = r.base;
      goes = goes;
      base_is = r.base_is;
      unit = r.unit;
      format = ap (λ (f : FlowRules). f.format) rules ∙ r.format;
      eds_are = others;
      eas_are = (λ i. r.eas_are i ++ is i ∷ []) ∙ sym (dts_on_then (block_in s) r.aside.eas ((e.0, now) ∷ []));
      eds_now = left;
      eas_now = λ d c. elim (Contains-append_cases r.aside.eas ((e.0, now) ∷ []) d c) [
        | inl before ↦ let old_one = r.eas_now d before in (Contains-append_left r.aside.answers ((e.0, now) ∷ []) d old_one.0, old_one.1)
        | inr here ↦ let same : (e.0, now) ≡ d = one_alone (e.0, now) d here in (Contains-append_right r.aside.answers ((e.0, now) ∷ []) d here, ap (λ (x : ℕ × ℕ). x.1) (sym same))
      ];
      tried = r.tried;
    }

    by : (p q : Bool) → (wire (block_in s) e.0 == wire (block_in s) h.receiver.urgent) ≡ p → (wire (block_in s) (e.0 + 1) == wire (block_in s) h.receiver.urgent) ≡ q
        → Urges life u now old s (half_by p) eds (eas ++ eas_in (sent_by w (p || q)))
    by true q f g = answers_with (half_by true) refl (moved true q f g)
    by false true f g = answers_with h refl (moved false true f g)
    by false false f g = record {
      aside = record r.aside { eds = rest };
      base = r.base;
      goes = subst (λ (l : List (ℕ × ℕ)). GoesUrgently (rules_by life s.rules) u old (record { urgent = was; eds = rest; eas = l })) (append-nil r.aside.eas) (moved false false f g);
      base_is = r.base_is;
      unit = r.unit;
      format = r.format;
      eds_are = others;
      eas_are = append-nil eas ∙ r.eas_are;
      eds_now = left;
      eas_now = r.eas_now;
      tried = r.tried;
    }

    -- the tests of the half are those of the road
    next_test : is_next h w ≡ (wire (block_in s) e.0 == wire (block_in s) h.receiver.urgent)
    next_test = ap (λ (n : ℕ). n == wire (block_there h) h.receiver.urgent) is ∙ ap (λ (f : Format). wire (block_in s) e.0 == wire (block_of f) h.receiver.urgent) r.format

    before_test : is_before h w ≡ (wire (block_in s) (e.0 + 1) == wire (block_in s) h.receiver.urgent)
    before_test = ap (λ (n : ℕ). wire (block_there h) (n + 1) == wire (block_there h) h.receiver.urgent) is
        ∙ ap (λ (f : Format). wire (block_of f) (wire (block_in s) e.0 + 1) == wire (block_of f) h.receiver.urgent) r.format
        ∙ ap (λ (n : ℕ). n == wire (block_in s) h.receiver.urgent) (wire_after (block_in s) e.0)

    ed_comes : (octets : List ℕ) → Urges life u now old s (taken_ed whole h w octets).half eds (eas ++ eas_in (taken_ed whole h w octets).tpdus)
    ed_comes octets = by (is_next h w) (is_before h w) (sym next_test) (sym before_test)

  pub eds_urge : (now w : ℕ) (eds eas octets : List ℕ) → Urges life u now old s h (w ∷ eds) eas → Urges life u now old s (taken_ed whole h w octets).half eds (eas ++ eas_in (taken_ed whole h w octets).tpdus)
  eds_urge now w eds eas octets r = from r.aside.eds refl r.eds_are
    where
      from : (l : List (ℕ × ℕ)) → r.aside.eds ≡ l → w ∷ eds ≡ dts_on (block_in s) l → Urges life u now old s (taken_ed whole h w octets).half eds (eas ++ eas_in (taken_ed whole h w octets).tpdus)
      from [] waits f = absurd (cc f)
      from (e ∷ rest) waits f = ed_comes now eds eas w r e rest waits (cc f) (cc f) octets
