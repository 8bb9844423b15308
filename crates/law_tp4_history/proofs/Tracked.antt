-- The lines of ends are runs of lines, and each flow TPDU that was offered stands in them. What an end takes was offered by its partner, so it
-- stands in the line that the end takes it from; and lines forget nothing.
use Rattle.std.proofs.Common.{◌≡◌, ◌⊎◌, inl, inr, ℕ, ◌+◌, ◌<◌, ◌≤◌, true, false, ◌==◌, List, [], ◌∷◌, ◌++◌, length, get_or, Option, Some, None, refl, sym, ◌∙◌, ap, subst, arith, Contains, length-append}
use Rattle.std.proofs.Math.ListN.{get_or-append}
use Rattle.std.proofs.lemmas.List.Elements.{Contains-append_cases, Contains-append_left, Contains-push_cases}
use Rattle.std.proofs.lemmas.Bool.{eqb-true, eqb-false, false_from_ne_true}
use Rattle.tp4_number.proofs.Past.{if_kept}
use Rattle.tp4_number.proofs.Accounts.{none}
use Rattle.tp4_number.specs.declared.piece.Piece.{Piece}
use Rattle.tp4_number.specs.Number.{wire}
use Rattle.tp4_number.specs.Traffic.{Rules, Answer, Tick as Ticks_on, Open, Send, Resend, Dt_comes, Grant, Acknowledge, Ak_comes}
use Rattle.tp4_number.specs.Expedited.{Urgent, Ticks, Sends_ed, Resends_ed, Ed_comes, Ea_comes, ed_taken, ea_taken}
use Rattle.tp4_sending.specs.Pieces.{cut_at}
use Rattle.law_tp4_history.specs.Ends.{Times, IsFit, Flow, Body, Plain, Dt, Ed, Ak, Ea, Sent, Offer, Birth, Terms, End}
use Rattle.law_tp4_history.specs.History.{History, set_end, IsCaller, IsPartner, Step, Tick, Connect, Indicate, Reply, Take, Act, Release, Restart, Note, May, next, Leads}
use Rattle.script_journal.specs.Lawful.{normals, expediteds}
use Rattle.law_tp4_history.specs.Line.{Line, Happening, Submit, Clock, Flows, Expedites, Can, Runs, next as next_line, empty}
use Rattle.law_tp4_history.specs.Tracks.{Track, Starts, IsAt, IsRun, Accepted, CanOut, CanIn, RunsBy, Whole, set_track, Doing, Nothing, Start, Go, done, MayDo, Noted, clocked, Moment, MayAll, onward, LeadsAll, ReachedAll, IsTold, IsNumbered, IsNothing}
use Rattle.law_tp4_history.proofs.Sound.{at_end, Sound, one_partner}
use Rattle.law_tp4_history.proofs.Later.{IsLater, partner_on, caller_on}
use Rattle.law_tp4_history.proofs.Meets.{swap, Meets, Of_partner, Of_entity, meets}
use Rattle.law_tp4_history.proofs.Steps.{sound_step, step_later, sound_start}
use Rattle.law_tp4_history.proofs.Agreed.{no_sender, Agreed, Stay, step_stay, agreed_step, agreed_start}
use Rattle.law_tp4_history.proofs.Complete.{cut_more}
use Rattle.law_tp4_history.proofs.Marks.{normals-append, expediteds-append}
use Rattle.law_tp4_history.proofs.Lines.{lawful, line_sound, line_alone, line_obeys}
use Rattle.law_tp4_history.specs.Reached.{Reached}
use Rattle.tp4_number.proofs.Rule.{keeps}
use Rattle.tp4_number.proofs.Sound.{Sound as LineSound, reads}

pub at_track : (P : ℕ → Track → Type 0) (f : ℕ → Track) (y : ℕ) (t : Track) (k : ℕ) → P y t → ((k ≡ y → ⊥) → P k (f k)) → P k (set_track f y t k)
at_track P f y t k here there = if_kept (P k) (k == y) t (f k) (λ e. subst (λ (j : ℕ). P j t) (sym (eqb-true k y e)) here) (λ e. there (eqb-false k y e))

-- nothing of a line is forgotten
pub record Grows (size : ℕ) (l new : Line) : Type 0 where
  pub sends : (x : ℕ × ℕ) → Contains l.world.sends x → Contains new.world.sends x
  pub answers : (x : Answer) → Contains l.world.answers x → Contains new.world.answers x
  pub eds : (x : ℕ × ℕ) → Contains l.urgent.sends x → Contains new.urgent.sends x
  pub eas : (x : ℕ × ℕ) → Contains l.urgent.answers x → Contains new.urgent.answers x
  pub pieces : (n : ℕ) (piece : Piece) → cut_at size (normals l.submitted) n ≡ Some piece → cut_at size (normals new.submitted) n ≡ Some piece
  pub units : (n : ℕ) → n < length (expediteds l.submitted) → (n < length (expediteds new.submitted)) × (get_or (expediteds new.submitted) n [] ≡ get_or (expediteds l.submitted) n [])

pub grows_none : (size : ℕ) (l : Line) → Grows size l l
grows_none size l = record { sends = λ x c. c; answers = λ x c. c; eds = λ x c. c; eas = λ x c. c; pieces = λ n p e. e; units = λ n low. (low, refl) }

pub grows_on : (size : ℕ) (a b c : Line) → Grows size a b → Grows size b c → Grows size a c
grows_on size a b c f g = record {
  sends = λ x i. g.sends x (f.sends x i);
  answers = λ x i. g.answers x (f.answers x i);
  eds = λ x i. g.eds x (f.eds x i);
  eas = λ x i. g.eas x (f.eas x i);
  pieces = λ n p e. g.pieces n p (f.pieces n p e);
  units = λ n low. let u = f.units n low in let v = g.units n u.0 in (v.0, v.1 ∙ u.1);
}

ed_grows : (block : ℕ) (u : Urgent) (n : ℕ) → ((x : ℕ × ℕ) → Contains u.sends x → Contains (ed_taken block u n).sends x) × ((x : ℕ × ℕ) → Contains u.answers x → Contains (ed_taken block u n).answers x) × ((ed_taken block u n).clock ≡ u.clock)
ed_grows block u n =
    if_kept (λ (to : Urgent). ((x : ℕ × ℕ) → Contains u.sends x → Contains to.sends x) × ((x : ℕ × ℕ) → Contains u.answers x → Contains to.answers x) × (to.clock ≡ u.clock)) (wire block n == wire block u.expected) _ _
    (λ _. (λ x c. c, λ x c. Contains-append_left u.answers _ x c, refl))
    (λ _. if_kept (λ (to : Urgent). ((x : ℕ × ℕ) → Contains u.sends x → Contains to.sends x) × ((x : ℕ × ℕ) → Contains u.answers x → Contains to.answers x) × (to.clock ≡ u.clock)) _ _ _
    (λ _. (λ x c. c, λ x c. Contains-append_left u.answers _ x c, refl))
    (λ _. (λ x c. c, λ x c. c, refl)))

ea_grows : (block : ℕ) (u : Urgent) (n : ℕ) → ((x : ℕ × ℕ) → Contains u.sends x → Contains (ea_taken block u n).sends x) × ((x : ℕ × ℕ) → Contains u.answers x → Contains (ea_taken block u n).answers x) × ((ea_taken block u n).clock ≡ u.clock)
ea_grows block u n =
    if_kept (λ (to : Urgent). ((x : ℕ × ℕ) → Contains u.sends x → Contains to.sends x) × ((x : ℕ × ℕ) → Contains u.answers x → Contains to.answers x) × (to.clock ≡ u.clock)) _ _ _
    (λ _. (λ x c. c, λ x c. c, refl)) (λ _. (λ x c. c, λ x c. c, refl))

pub grows_next : (rules : Rules) (size : ℕ) (l : Line) (happening : Happening) → Grows size l (next_line rules l happening)
grows_next rules size l (Submit unit) = record {
  sends = λ x c. c;
  answers = λ x c. c;
  eds = λ x c. c;
  eas = λ x c. c;
  pieces = λ n p e. ap (λ (us : List (List ℕ)). cut_at size us n) (normals-append l.submitted (unit ∷ [])) ∙ (cut_more size (normals l.submitted) (normals (unit ∷ [])) n p e).0;
  units = λ n low.
      (let same = expediteds-append l.submitted (unit ∷ []) in
      (omega (arith, low, ap length same, length-append (expediteds l.submitted) (expediteds (unit ∷ []))), ap (λ (us : List (List ℕ)). get_or us n []) same ∙ get_or-append (expediteds l.submitted) (expediteds (unit ∷ [])) [] n low));
}
grows_next rules size l Clock = record { sends = λ x c. c; answers = λ x c. c; eds = λ x c. c; eas = λ x c. c; pieces = λ n p e. e; units = λ n low. (low, refl) }
grows_next rules size l (Flows Ticks_on) = record { sends = λ x c. c; answers = λ x c. c; eds = λ x c. c; eas = λ x c. c; pieces = λ n p e. e; units = λ n low. (low, refl) }
grows_next rules size l (Flows (Open credit)) = record { sends = λ x c. c; answers = λ x c. c; eds = λ x c. c; eas = λ x c. c; pieces = λ n p e. e; units = λ n low. (low, refl) }
grows_next rules size l (Flows Send) = record { sends = λ x c. Contains-append_left l.world.sends _ x c; answers = λ x c. c; eds = λ x c. c; eas = λ x c. c; pieces = λ n p e. e; units = λ n low. (low, refl) }
grows_next rules size l (Flows (Resend n)) = record { sends = λ x c. Contains-append_left l.world.sends _ x c; answers = λ x c. c; eds = λ x c. c; eas = λ x c. c; pieces = λ n p e. e; units = λ n low. (low, refl) }
grows_next rules size l (Flows (Dt_comes n tick piece)) = record { sends = λ x c. c; answers = λ x c. c; eds = λ x c. c; eas = λ x c. c; pieces = λ n p e. e; units = λ n low. (low, refl) }
grows_next rules size l (Flows (Grant credit)) = record { sends = λ x c. c; answers = λ x c. c; eds = λ x c. c; eas = λ x c. c; pieces = λ n p e. e; units = λ n low. (low, refl) }
grows_next rules size l (Flows Acknowledge) = record { sends = λ x c. c; answers = λ x c. Contains-append_left l.world.answers _ x c; eds = λ x c. c; eas = λ x c. c; pieces = λ n p e. e; units = λ n low. (low, refl) }
grows_next rules size l (Flows (Ak_comes a)) = record { sends = λ x c. c; answers = λ x c. c; eds = λ x c. c; eas = λ x c. c; pieces = λ n p e. e; units = λ n low. (low, refl) }
grows_next rules size l (Expedites Ticks) = record { sends = λ x c. c; answers = λ x c. c; eds = λ x c. c; eas = λ x c. c; pieces = λ n p e. e; units = λ n low. (low, refl) }
grows_next rules size l (Expedites Sends_ed) = record { sends = λ x c. c; answers = λ x c. c; eds = λ x c. Contains-append_left l.urgent.sends _ x c; eas = λ x c. c; pieces = λ n p e. e; units = λ n low. (low, refl) }
grows_next rules size l (Expedites Resends_ed) = record { sends = λ x c. c; answers = λ x c. c; eds = λ x c. Contains-append_left l.urgent.sends _ x c; eas = λ x c. c; pieces = λ n p e. e; units = λ n low. (low, refl) }
grows_next rules size l (Expedites (Ed_comes n tick)) = let g = ed_grows rules.block l.urgent n in record { sends = λ x c. c; answers = λ x c. c; eds = g.0; eas = g.1; pieces = λ n p e. e; units = λ n low. (low, refl) }
grows_next rules size l (Expedites (Ea_comes n tick)) = let g = ea_grows rules.block l.urgent n in record { sends = λ x c. c; answers = λ x c. c; eds = g.0; eas = g.1; pieces = λ n p e. e; units = λ n low. (low, refl) }

-- what comes to a line was offered in it, and is afloat
pub record Hears (taken : Option Offer) (life size clock : ℕ) (l : Line) : Type 0 where
  pub fresh : (o : Offer) → taken ≡ Some o → clock ≤ o.tick + life
  pub ak : (o : Offer) (n credit subsequence : ℕ) → taken ≡ Some o → o.tpdu.kind ≡ Flow → o.tpdu.body ≡ Ak n credit subsequence
      → Contains l.world.answers (record { number = n; credit = credit; subsequence = subsequence; tick = o.tick })
  pub ea : (o : Offer) (n : ℕ) → taken ≡ Some o → o.tpdu.kind ≡ Flow → o.tpdu.body ≡ Ea n → Contains l.urgent.answers (n, o.tick)

pub record HearsIn (taken : Option Offer) (life size clock : ℕ) (l : Line) : Type 0 where
  pub fresh : (o : Offer) → taken ≡ Some o → clock ≤ o.tick + life
  pub dt : (o : Offer) (n : ℕ) (piece : Piece) → taken ≡ Some o → o.tpdu.kind ≡ Flow → o.tpdu.body ≡ Dt n piece → Contains l.world.sends (n, o.tick) × (cut_at size (normals l.submitted) n ≡ Some piece)
  pub ed : (o : Offer) (n : ℕ) (octets : List ℕ) → taken ≡ Some o → o.tpdu.kind ≡ Flow → o.tpdu.body ≡ Ed n octets → Contains l.urgent.sends (n, o.tick)

module _ (taken : Option Offer) (clock : ℕ) (t : Track) where
  can_out : (l : Line) (happening : Happening) → IsAt clock l → Hears taken t.rules.life t.size clock l → CanOut taken t l happening → Can t.rules t.size l happening × IsAt clock (next_line t.rules l happening)
  can_out l (Submit unit) at hears can = (can, at)
  can_out l Clock at hears can = absurd can
  can_out l (Flows Ticks_on) at hears can = absurd can
  can_out l (Flows (Open credit)) at hears can = ((can, record {}), at)
  can_out l (Flows Send) at hears can = ((can.0, can.1), at)
  can_out l (Flows (Resend n)) at hears can = ((can, record {}), at)
  can_out l (Flows (Dt_comes n tick piece)) at hears can = absurd can
  can_out l (Flows (Grant credit)) at hears can = absurd can
  can_out l (Flows Acknowledge) at hears can = absurd can
  can_out l (Flows (Ak_comes a)) at hears can =
      let there = hears.ak can.0 a.number a.credit a.subsequence can.1 can.2 can.3 in
      let fresh = hears.fresh can.0 can.1 in
      (((subst (λ (k : ℕ). Contains l.world.answers (record { number = a.number; credit = a.credit; subsequence = a.subsequence; tick = k })) can.4 there, omega (arith, fresh, can.4, at.0)), record {}), at)
  can_out l (Expedites Ticks) at hears can = absurd can
  can_out l (Expedites Sends_ed) at hears can = ((can.0, can.1), at)
  can_out l (Expedites Resends_ed) at hears can = ((can, record {}), at)
  can_out l (Expedites (Ed_comes n tick)) at hears can = absurd can
  can_out l (Expedites (Ea_comes n tick)) at hears can =
      let there = hears.ea can.0 n can.1 can.2 can.3 in
      let fresh = hears.fresh can.0 can.1 in
      (((subst (λ (k : ℕ). Contains l.urgent.answers (n, k)) can.4 there, omega (arith, fresh, can.4, at.1)), record {}), (at.0, (ea_grows t.rules.block l.urgent n).2 ∙ at.1))

  can_in : (l : Line) (happening : Happening) → IsAt clock l → HearsIn taken t.rules.life t.size clock l → CanIn taken t l happening → Can t.rules t.size l happening × IsAt clock (next_line t.rules l happening)
  can_in l (Flows Ticks_on) at hears can = absurd can
  can_in l (Flows (Open credit)) at hears can = absurd can
  can_in l (Flows Send) at hears can = absurd can
  can_in l (Flows (Resend n)) at hears can = absurd can
  can_in l (Flows (Dt_comes n tick piece)) at hears can =
      let there = hears.dt can.0 n piece can.1 can.2 can.3 in
      let fresh = hears.fresh can.0 can.1 in
      (((subst (λ (k : ℕ). Contains l.world.sends (n, k)) can.4 there.0, omega (arith, fresh, can.4, at.0)), there.1), at)
  can_in l (Flows (Grant credit)) at hears can = ((can, record {}), at)
  can_in l (Flows Acknowledge) at hears can = ((tt, record {}), at)
  can_in l (Flows (Ak_comes a)) at hears can = absurd can
  can_in l (Expedites Ticks) at hears can = absurd can
  can_in l (Expedites Sends_ed) at hears can = absurd can
  can_in l (Expedites Resends_ed) at hears can = absurd can
  can_in l (Expedites (Ed_comes n tick)) at hears can =
      let there = hears.ed can.0 n can.3.0 can.1 can.2 can.3.1 in
      let fresh = hears.fresh can.0 can.1 in
      (((subst (λ (k : ℕ). Contains l.urgent.sends (n, k)) can.4 there, omega (arith, fresh, can.4, at.1)), record {}), (at.0, (ed_grows t.rules.block l.urgent n).2 ∙ at.1))
  can_in l (Expedites (Ea_comes n tick)) at hears can = absurd can
  can_in l other at hears can = absurd can

  hears_on : (l new : Line) → Grows t.size l new → Hears taken t.rules.life t.size clock l → Hears taken t.rules.life t.size clock new
  hears_on l new g f = record { fresh = f.fresh; ak = λ o n c q is flow body. g.answers _ (f.ak o n c q is flow body); ea = λ o n is flow body. g.eas _ (f.ea o n is flow body) }

  hears_in : (l new : Line) → Grows t.size l new → HearsIn taken t.rules.life t.size clock l → HearsIn taken t.rules.life t.size clock new
  hears_in l new g f = record {
    fresh = f.fresh;
    dt = λ o n p is flow body. let d = f.dt o n p is flow body in (g.sends _ d.0, g.pieces n p d.1);
    ed = λ o n os is flow body. g.eds _ (f.ed o n os is flow body);
  }

  pub runs_out : (l : Line) (happenings : List Happening) (new : Line) → IsAt clock l → Hears taken t.rules.life t.size clock l → RunsBy (CanOut taken) t l happenings new
      → Runs t.rules t.size l happenings new × Grows t.size l new × IsAt clock new
  runs_out l [] new at hears r = (r, subst (Grows t.size l) (sym r) (grows_none t.size l), subst (IsAt clock) (sym r) at)
  runs_out l (happening ∷ happenings) new at hears r =
      let c = can_out l happening at hears r.0 in
      let g = grows_next t.rules t.size l happening in
      let rest = runs_out (next_line t.rules l happening) happenings new c.1 (hears_on l (next_line t.rules l happening) g hears) r.1 in
      ((c.0, rest.0), grows_on t.size l (next_line t.rules l happening) new g rest.1, rest.2)

  pub runs_in : (l : Line) (happenings : List Happening) (new : Line) → IsAt clock l → HearsIn taken t.rules.life t.size clock l → RunsBy (CanIn taken) t l happenings new
      → Runs t.rules t.size l happenings new × Grows t.size l new × IsAt clock new
  runs_in l [] new at hears r = (r, subst (Grows t.size l) (sym r) (grows_none t.size l), subst (IsAt clock) (sym r) at)
  runs_in l (happening ∷ happenings) new at hears r =
      let c = can_in l happening at hears r.0 in
      let g = grows_next t.rules t.size l happening in
      let rest = runs_in (next_line t.rules l happening) happenings new c.1 (hears_in l (next_line t.rules l happening) g hears) r.1 in
      ((c.0, rest.0), grows_on t.size l (next_line t.rules l happening) new g rest.1, rest.2)

runs_on : (rules : Rules) (size : ℕ) (old mid new : Line) (happenings more : List Happening) → Runs rules size old happenings mid → Runs rules size mid more new → Runs rules size old (happenings ++ more) new
runs_on rules size old mid new [] more a b = subst (λ (l : Line). Runs rules size l more new) a b
runs_on rules size old mid new (happening ∷ happenings) more a b = (a.0, runs_on rules size (next_line rules old happening) mid new happenings more a.1 b)

pub record GrowsTrack (t new : Track) : Type 0 where
  pub begun : t.is_begun ≡ true → new.is_begun ≡ true
  pub size : t.is_begun ≡ true → new.size ≡ t.size
  pub line : t.is_begun ≡ true → Grows t.size t.line new.line

pub grows_same : (t : Track) → GrowsTrack t t
grows_same t = record { begun = λ e. e; size = λ _. refl; line = λ _. grows_none t.size t.line }

grows_new : (t new : Track) → t.is_begun ≡ false → GrowsTrack t new
grows_new t new none_ = record { begun = λ e. absurd (cc (e, none_)); size = λ e. absurd (cc (e, none_)); line = λ e. absurd (cc (e, none_)) }

-- the other fields stay
pub with_line : (t new : Track) → new ≡ record t { line = new.line } → Grows t.size t.line new.line → GrowsTrack t new
with_line t new same g = record { begun = λ e. ap (λ (x : Track). x.is_begun) same ∙ e; size = λ _. ap (λ (x : Track). x.size) same; line = λ _. g }

pub run_with : (times : Times) (clock : ℕ) (t new : Track) (more : List Happening) → new ≡ record t { line = new.line } → IsRun times clock t → Runs t.rules t.size t.line more new.line → (later : ℕ) → IsAt later new.line → IsRun times later new
run_with times clock t new more same r runs later at = subst (IsRun times later) (sym same) (record {
  long = r.long;
  life = r.life;
  some = r.some;
  credit_low = r.credit_low;
  room_low = r.room_low;
  happenings = r.happenings ++ more;
  runs = runs_on t.rules t.size (empty t.tick t.credit t.places t.room) t.line new.line r.happenings more r.runs runs;
  at = at;
})

run_start : (times : Times) (clock : ℕ) (t : Track) → Starts times clock t → IsRun times clock t
run_start times clock t s = record {
  long = s.long;
  life = s.life;
  some = s.some;
  credit_low = s.credit_low;
  room_low = s.room_low;
  happenings = [];
  runs = s.line;
  at = (ap (λ (l : Line). l.world.clock) s.line ∙ s.tick, ap (λ (l : Line). l.urgent.clock) s.line ∙ s.tick);
}

-- the called end of its pair has agreed
pub record HasAgreed (h : History) (k : ℕ) : Type 0 where
  pub b : ℕ
  pub low : b < h.count
  pub called : (h.end b).birth.is_called ≡ true
  pub is : (k ≡ b) ⊎ IsCaller h k b
  pub terms : Terms
  pub agreed : (h.end b).agreed ≡ Some terms

pair_on : (times : Times) (h new : History) → IsLater h new → Stay h new → (k : ℕ) → HasAgreed h k → HasAgreed new k
pair_on times h new l stay k p = record {
  b = p.b;
  low = omega (arith, p.low, l.count);
  called = ap (λ (x : Birth). x.is_called) (l.end p.b p.low).birth ∙ p.called;
  is = elim p.is [ inl same ↦ inl same | inr q ↦ inr (caller_on times h new l k p.b q) ];
  terms = p.terms;
  agreed = stay p.b p.terms p.low p.agreed;
}

pub record Tracked (times : Times) (w : Whole) : Type 0 where
  pub run : (k : ℕ) → (w.track k).is_begun ≡ true → IsRun times w.base.clock (w.track k)
  pub noted : (o : Offer) (x : ℕ) → Contains w.base.offers o → o.origin ≡ Sent x → Noted w.base w.track x o.tick o.tpdu.body
  pub pair : (k : ℕ) → (w.track k).is_begun ≡ true → HasAgreed w.base k

-- what was noted stays
noted_on : (h new : History) (track to : ℕ → Track) (x tick : ℕ) (body : Body) → ((a b : ℕ) → IsPartner h a b → IsPartner new a b) → ((k : ℕ) → GrowsTrack (track k) (to k))
    → Noted h track x tick body → Noted new to x tick body
noted_on h new track to x tick Plain partner g n = n
noted_on h new track to x tick (Dt m piece) partner g n =
    let f = (g x).line n.0 in
    ((g x).begun n.0, f.sends (m, tick) n.1, subst (λ (size : ℕ). cut_at size (normals (to x).line.submitted) m ≡ Some piece) (sym ((g x).size n.0)) (f.pieces m piece n.2))
noted_on h new track to x tick (Ed m octets) partner g n =
    let f = (g x).line n.0 in
    let u = f.units m n.2 in
    ((g x).begun n.0, f.eds (m, tick) n.1, u.0, n.3 ∙ sym u.1)
noted_on h new track to x tick (Ak m credit subsequence) partner g n = (n.0, partner x n.0 n.1, (g n.0).begun n.2, ((g n.0).line n.2).answers _ n.3)
noted_on h new track to x tick (Ea m) partner g n = (n.0, partner x n.0 n.1, (g n.0).begun n.2, ((g n.0).line n.2).eas _ n.3)

module _ (times : Times) (w : Whole) (s : Sound times w.base) (t : Tracked times w) where
  -- what comes to y is of its partner z, and stands in the lines
  hears_y : (y z : ℕ) (o : Offer) → IsPartner w.base y z → Meets times w.base s o y → Contains w.base.offers o → w.base.clock ≤ o.tick + times.life → (w.track y).is_begun ≡ true
      → Hears (Some o) (w.track y).rules.life (w.track y).size w.base.clock (w.track y).line
  hears_y y z o p m c fresh begun = record {
    fresh = λ u is. (let same : o ≡ u = cc is in omega (arith, fresh, ap (λ (v : Offer). v.tick) same, (t.run y begun).life));
    ak = λ u n credit subsequence is flow body.
        (let same : o ≡ u = cc is in
        subst (λ (v : Offer). Contains (w.track y).line.world.answers (record { number = n; credit = credit; subsequence = subsequence; tick = v.tick })) same
        (ak m n credit subsequence (ap (λ (v : Offer). v.tpdu.kind) same ∙ flow) (ap (λ (v : Offer). v.tpdu.body) same ∙ body)));
    ea = λ u n is flow body.
        (let same : o ≡ u = cc is in
        subst (λ (v : Offer). Contains (w.track y).line.urgent.answers (n, v.tick)) same
        (ea m n (ap (λ (v : Offer). v.tpdu.kind) same ∙ flow) (ap (λ (v : Offer). v.tpdu.body) same ∙ body)));
  }
    where
      ak : Meets times w.base s o y → (n credit subsequence : ℕ) → o.tpdu.kind ≡ Flow → o.tpdu.body ≡ Ak n credit subsequence
          → Contains (w.track y).line.world.answers (record { number = n; credit = credit; subsequence = subsequence; tick = o.tick })
      ak (Of_partner x is f g to) n credit subsequence flow body =
          let there = subst (λ (b : Body). Noted w.base w.track x o.tick b) body (t.noted o x c is) in
          let same : there.0 ≡ y = one_partner times w.base s x there.0 y there.1 (subst (λ (k : ℕ). IsPartner w.base x k) to g.partner) in
          subst (λ (k : ℕ). Contains (w.track k).line.world.answers (record { number = n; credit = credit; subsequence = subsequence; tick = o.tick })) same there.3
      ak (Of_entity since is f) n credit subsequence flow body = absurd (elim f.kind [ inl dr ↦ cc (dr.0, flow) | inr dc ↦ cc (dc, flow) ])

      ea : Meets times w.base s o y → (n : ℕ) → o.tpdu.kind ≡ Flow → o.tpdu.body ≡ Ea n → Contains (w.track y).line.urgent.answers (n, o.tick)
      ea (Of_partner x is f g to) n flow body =
          let there = subst (λ (b : Body). Noted w.base w.track x o.tick b) body (t.noted o x c is) in
          let same : there.0 ≡ y = one_partner times w.base s x there.0 y there.1 (subst (λ (k : ℕ). IsPartner w.base x k) to g.partner) in
          subst (λ (k : ℕ). Contains (w.track k).line.urgent.answers (n, o.tick)) same there.3
      ea (Of_entity since is f) n flow body = absurd (elim f.kind [ inl dr ↦ cc (dr.0, flow) | inr dc ↦ cc (dc, flow) ])

  hears_z : (y z : ℕ) (o : Offer) → IsPartner w.base y z → Meets times w.base s o y → Contains w.base.offers o → w.base.clock ≤ o.tick + times.life → (w.track z).is_begun ≡ true
      → HearsIn (Some o) (w.track z).rules.life (w.track z).size w.base.clock (w.track z).line
  hears_z y z o p m c fresh begun = record {
    fresh = λ u is. (let same : o ≡ u = cc is in omega (arith, fresh, ap (λ (v : Offer). v.tick) same, (t.run z begun).life));
    dt = λ u n piece is flow body.
        (let same : o ≡ u = cc is in
        subst (λ (v : Offer). Contains (w.track z).line.world.sends (n, v.tick) × (cut_at (w.track z).size (normals (w.track z).line.submitted) n ≡ Some piece)) same
        (dt m n piece (ap (λ (v : Offer). v.tpdu.kind) same ∙ flow) (ap (λ (v : Offer). v.tpdu.body) same ∙ body)));
    ed = λ u n octets is flow body.
        (let same : o ≡ u = cc is in
        subst (λ (v : Offer). Contains (w.track z).line.urgent.sends (n, v.tick)) same
        (ed m n octets (ap (λ (v : Offer). v.tpdu.kind) same ∙ flow) (ap (λ (v : Offer). v.tpdu.body) same ∙ body)));
  }
    where
      sender_is : (x k : ℕ) → IsPartner w.base x k → k ≡ y → x ≡ z
      sender_is x k q to = one_partner times w.base s y x z (swap w.base x y (subst (λ (j : ℕ). IsPartner w.base x j) to q)) p

      dt : Meets times w.base s o y → (n : ℕ) (piece : Piece) → o.tpdu.kind ≡ Flow → o.tpdu.body ≡ Dt n piece
          → Contains (w.track z).line.world.sends (n, o.tick) × (cut_at (w.track z).size (normals (w.track z).line.submitted) n ≡ Some piece)
      dt (Of_partner x is f g to) n piece flow body =
          let there = subst (λ (b : Body). Noted w.base w.track x o.tick b) body (t.noted o x c is) in
          subst (λ (k : ℕ). Contains (w.track k).line.world.sends (n, o.tick) × (cut_at (w.track k).size (normals (w.track k).line.submitted) n ≡ Some piece)) (sender_is x g.y g.partner to) (there.1, there.2)
      dt (Of_entity since is f) n piece flow body = absurd (elim f.kind [ inl dr ↦ cc (dr.0, flow) | inr dc ↦ cc (dc, flow) ])

      ed : Meets times w.base s o y → (n : ℕ) (octets : List ℕ) → o.tpdu.kind ≡ Flow → o.tpdu.body ≡ Ed n octets → Contains (w.track z).line.urgent.sends (n, o.tick)
      ed (Of_partner x is f g to) n octets flow body =
          let there = subst (λ (b : Body). Noted w.base w.track x o.tick b) body (t.noted o x c is) in
          subst (λ (k : ℕ). Contains (w.track k).line.urgent.sends (n, o.tick)) (sender_is x g.y g.partner to) there.1
      ed (Of_entity since is f) n octets flow body = absurd (elim f.kind [ inl dr ↦ cc (dr.0, flow) | inr dc ↦ cc (dc, flow) ])

  -- both lines of y and z after it
  pub record Both (y : ℕ) (doing : Doing) : Type 0 where
    pub grows : (k : ℕ) → GrowsTrack (w.track k) (done w.track y doing k)
    pub run : (k : ℕ) → (done w.track y doing k).is_begun ≡ true → IsRun times w.base.clock (done w.track y doing k)

  pub not_begun : (y z : ℕ) (new : End) → IsPartner w.base y z → Accepted (w.base.end y) new → ((w.track y).is_begun ≡ false) × ((w.track z).is_begun ≡ false)
  not_begun y z new p a = (false_from_ne_true _ (λ begun. own (t.pair y begun)), false_from_ne_true _ (λ begun. theirs p (t.pair z begun)))
    where
      own : HasAgreed w.base y → ⊥
      own q = elim q.is [
        | inl same ↦ cc (ap (λ (k : ℕ). (w.base.end k).agreed) same, q.agreed, a.before)
        | inr c ↦ cc ((s.pairs y q.b c).calls, a.called)
      ]

      theirs : IsPartner w.base y z → HasAgreed w.base z → ⊥
      theirs (inl c) q = absurd (cc ((s.pairs y z c).calls, a.called))
      theirs (inr c) q = elim q.is [
        | inl same ↦ cc (ap (λ (k : ℕ). (w.base.end k).birth.is_called) same, q.called, (s.pairs z y c).calls)
        | inr d ↦ (let one : q.b ≡ y = s.one z q.b y d c in cc (ap (λ (k : ℕ). (w.base.end k).agreed) one, q.agreed, a.before))
      ]

  do_both : (y : ℕ) (new : End) (taken : Option Offer) (doing : Doing) → MayDo times w y new taken doing
      → ((z : ℕ) → IsPartner w.base y z → (w.track y).is_begun ≡ true → Hears taken (w.track y).rules.life (w.track y).size w.base.clock (w.track y).line)
      → ((z : ℕ) → IsPartner w.base y z → (w.track z).is_begun ≡ true → HearsIn taken (w.track z).rules.life (w.track z).size w.base.clock (w.track z).line)
      → Both y doing
  do_both y new taken Nothing may out into = record { grows = λ k. grows_same (w.track k); run = t.run }
  do_both y new taken (Start z own theirs) may out into = record {
    grows = λ k. at_track (λ (j : ℕ) (to : Track). GrowsTrack (w.track j) to) (set_track w.track y own) z theirs k (grows_new (w.track z) theirs (not_begun y z new may.0 may.1).1)
        (λ _. at_track (λ (j : ℕ) (to : Track). GrowsTrack (w.track j) to) w.track y own k (grows_new (w.track y) own (not_begun y z new may.0 may.1).0) (λ _. grows_same (w.track k)));
    run = λ k. at_track (λ (j : ℕ) (to : Track). to.is_begun ≡ true → IsRun times w.base.clock to) (set_track w.track y own) z theirs k (λ _. run_start times w.base.clock theirs may.3)
        (λ _. at_track (λ (j : ℕ) (to : Track). to.is_begun ≡ true → IsRun times w.base.clock to) w.track y own k (λ _. run_start times w.base.clock own may.2) (λ _. t.run k));
  }
  do_both y new taken (Go z own theirs) may out into =
      let ry = t.run y may.1.begun in
      let rz = t.run z may.2.begun in
      let a = runs_out taken w.base.clock (w.track y) (w.track y).line may.1.happenings own.line ry.at (out z may.0 may.1.begun) may.1.runs in
      let b = runs_in taken w.base.clock (w.track z) (w.track z).line may.2.happenings theirs.line rz.at (into z may.0 may.2.begun) may.2.runs in
      record {
        grows = λ k. at_track (λ (j : ℕ) (to : Track). GrowsTrack (w.track j) to) (set_track w.track y own) z theirs k (with_line (w.track z) theirs may.2.same b.1)
            (λ _. at_track (λ (j : ℕ) (to : Track). GrowsTrack (w.track j) to) w.track y own k (with_line (w.track y) own may.1.same a.1) (λ _. grows_same (w.track k)));
        run = λ k. at_track (λ (j : ℕ) (to : Track). to.is_begun ≡ true → IsRun times w.base.clock to) (set_track w.track y own) z theirs k
            (λ _. run_with times w.base.clock (w.track z) theirs may.2.happenings may.2.same rz b.0 w.base.clock b.2)
            (λ _. at_track (λ (j : ℕ) (to : Track). to.is_begun ≡ true → IsRun times w.base.clock to) w.track y own k
            (λ _. run_with times w.base.clock (w.track y) own may.1.happenings may.1.same ry a.0 w.base.clock a.2)
            (λ _. t.run k));
      }

  -- a step of an end
  moved : (new : History) (l : IsLater w.base new) (y : ℕ) (doing : Doing) (offered : List Offer) → Both y doing → new.clock ≡ w.base.clock → new.offers ≡ w.base.offers ++ offered
      → ((o : Offer) → Contains offered o → (o.origin ≡ Sent y) × (o.tick ≡ w.base.clock))
      → ((o : Offer) → Contains offered o → Noted w.base (done w.track y doing) y w.base.clock o.tpdu.body)
      → ((k : ℕ) → (done w.track y doing k).is_begun ≡ true → HasAgreed new k)
      → Tracked times (record { base = new; track = done w.track y doing })
  moved new l y doing offered both clock offers mine fits pair = record {
    pair = pair;
    run = λ k begun. subst (λ (c : ℕ). IsRun times c (done w.track y doing k)) (sym clock) (both.run k begun);
    noted = λ o x c by. elim (Contains-append_cases w.base.offers offered o (subst (λ (os : List Offer). Contains os o) offers c)) [
      | inl old ↦ noted_on w.base new w.track (done w.track y doing) x o.tick o.tpdu.body (partner_on times w.base new l) both.grows (t.noted o x old by)
      | inr is ↦
          (let m = mine o is in
          let same : y ≡ x = cc (m.0, by) in
          subst (λ (k : ℕ). Noted new (done w.track y doing) k o.tick o.tpdu.body) same
          (subst (λ (c : ℕ). Noted new (done w.track y doing) y c o.tpdu.body) (sym m.1)
          (noted_on w.base new (done w.track y doing) (done w.track y doing) y w.base.clock o.tpdu.body (partner_on times w.base new l) (λ k. grows_same (done w.track y doing k)) (fits o is))))
    ];
  }

  -- a step in which no line changes
  stays : (new : History) (l : IsLater w.base new) → Stay w.base new → new.clock ≡ w.base.clock → ((o : Offer) (x : ℕ) → Contains new.offers o → o.origin ≡ Sent x → Contains w.base.offers o ⊎ (o.tpdu.body ≡ Plain))
      → Tracked times (record { base = new; track = w.track })
  stays new l stay clock offers = record {
    pair = λ k begun. pair_on times w.base new l stay k (t.pair k begun);
    run = λ k begun. subst (λ (c : ℕ). IsRun times c (w.track k)) (sym clock) (t.run k begun);
    noted = λ o x c by. elim (offers o x c by) [
      | inl old ↦ noted_on w.base new w.track w.track x o.tick o.tpdu.body (partner_on times w.base new l) (λ k. grows_same (w.track k)) (t.noted o x old by)
      | inr none_ ↦ subst (λ (b : Body). Noted new w.track x o.tick b) (sym none_) (record {})
    ];
  }

  clock_one : (k : ℕ) → (w.track k).is_begun ≡ true → IsRun times (w.base.clock + 1) (clocked (w.track k))
  clock_one k begun =
      let r = t.run k begun in
      run_with times w.base.clock (w.track k) (clocked (w.track k)) (Clock ∷ []) refl r (record {}, refl) (w.base.clock + 1)
      (ap (λ (c : ℕ). c + 1) r.at.0, ap (λ (c : ℕ). c + 1) r.at.1)

  -- an end that agrees begins its pair
  pairs_on : (new : History) (l : IsLater w.base new) (stay : Stay w.base new) (y : ℕ) (e : End) (taken : Option Offer) (doing : Doing) → y < w.base.count → (new.end y).agreed ≡ e.agreed → MayDo times w y e taken doing
      → (k : ℕ) → (done w.track y doing k).is_begun ≡ true → HasAgreed new k
  pairs_on new l stay y e taken Nothing low agreed may k = λ begun. pair_on times w.base new l stay k (t.pair k begun)
  pairs_on new l stay y e taken (Start z own theirs) low agreed may k =
      at_track (λ (j : ℕ) (to : Track). to.is_begun ≡ true → HasAgreed new j) (set_track w.track y own) z theirs k (λ _. started z (inr (calls may.0)))
      (λ _. at_track (λ (j : ℕ) (to : Track). to.is_begun ≡ true → HasAgreed new j) w.track y own k (λ _. started y (inl refl)) (λ _ begun. pair_on times w.base new l stay k (t.pair k begun)))
    where
      started : (j : ℕ) → (j ≡ y) ⊎ IsCaller new j y → HasAgreed new j
      started j is = record {
        b = y;
        low = omega (arith, low, l.count);
        called = ap (λ (x : Birth). x.is_called) (l.end y low).birth ∙ may.1.called;
        is = is;
        terms = may.1.terms;
        agreed = agreed ∙ may.1.now;
      }

      calls : IsPartner w.base y z → IsCaller new z y
      calls (inl c) = absurd (cc ((s.pairs y z c).calls, may.1.called))
      calls (inr c) = caller_on times w.base new l z y c
  pairs_on new l stay y e taken (Go z own theirs) low agreed may k =
      at_track (λ (j : ℕ) (to : Track). to.is_begun ≡ true → HasAgreed new j) (set_track w.track y own) z theirs k (λ _. pair_on times w.base new l stay z (t.pair z may.2.begun))
      (λ _. at_track (λ (j : ℕ) (to : Track). to.is_begun ≡ true → HasAgreed new j) w.track y own k (λ _. pair_on times w.base new l stay y (t.pair y may.1.begun)) (λ _ begun. pair_on times w.base new l stay k (t.pair k begun)))

  agreed_here : (y : ℕ) (e : End) → (set_end w.base.end y e y).agreed ≡ e.agreed
  agreed_here y e = at_end (λ (j : ℕ) (to : End). j ≡ y → to.agreed ≡ e.agreed) w.base.end y e y (λ _. refl) (λ different. absurd (different refl)) refl

  pub tracked_step : (fit : IsFit times) (a : Agreed w.base) (step : Step) (doing : Doing) → May times w.base step → MayAll times w step doing → Tracked times (onward times w (record { step = step; doing = doing }))
  tracked_step fit a Tick doing may all = record {
    run = clock_one;
    pair = λ k begun. pair_on times w.base (next times w.base Tick) (step_later times fit w.base Tick may s) (step_stay times fit w.base s a Tick may) k (t.pair k begun);
    noted = λ o x c by. noted_on w.base (next times w.base Tick) w.track (λ k. clocked (w.track k)) x o.tick o.tpdu.body (partner_on times w.base (next times w.base Tick) (step_later times fit w.base Tick may s))
        (λ k. with_line (w.track k) (clocked (w.track k)) refl (grows_next (w.track k).rules (w.track k).size (w.track k).line Clock)) (t.noted o x c by);
  }
  tracked_step fit a (Connect e offered) doing may all = stays (next times w.base (Connect e offered)) (step_later times fit w.base (Connect e offered) may s) (step_stay times fit w.base s a (Connect e offered) may) refl
      (λ o x c by. elim (Contains-append_cases w.base.offers offered o c) [ inl old ↦ inl old | inr mine ↦ inr ((may.1 o mine).1.plain (λ flow. absurd (cc (flow, (may.1 o mine).0)))) ])
  tracked_step fit a (Indicate o e) doing may all = stays (next times w.base (Indicate o e)) (step_later times fit w.base (Indicate o e) may s) (step_stay times fit w.base s a (Indicate o e) may) refl (λ p x c by. inl c)
  tracked_step fit a (Reply o answer) doing may all = stays (next times w.base (Reply o answer)) (step_later times fit w.base (Reply o answer) may s) (step_stay times fit w.base s a (Reply o answer) may) refl
      (λ p x c by. elim (Contains-push_cases w.base.offers answer p c) [ inl old ↦ inl old | inr same ↦ absurd (no_sender o o.origin x (sym may.origin ∙ ap (λ (q : Offer). q.origin) same ∙ by)) ])
  tracked_step fit a (Take y o tpdu e offered) doing may all =
      let m = meets times w.base s y o may.0.y_low may.0.is_held may.0.offered may.0.fresh may.0.no_request may.0.address (sym may.0.reading.target ∙ may.0.target) in
      moved (next times w.base (Take y o tpdu e offered)) (step_later times fit w.base (Take y o tpdu e offered) may s) y doing offered
      (do_both y e (Some o) doing all.0 (λ z p begun. hears_y y z o p m may.0.offered may.0.fresh begun) (λ z p begun. hears_z y z o p m may.0.offered may.0.fresh begun))
      refl refl (λ p c. ((may.1.offers p c).origin, (may.1.offers p c).tick)) all.1
      (pairs_on (next times w.base (Take y o tpdu e offered)) (step_later times fit w.base (Take y o tpdu e offered) may s) (step_stay times fit w.base s a (Take y o tpdu e offered) may) y e (Some o) doing may.0.y_low (agreed_here y e) all.0)
  tracked_step fit a (Act y e offered) doing may all =
      moved (next times w.base (Act y e offered)) (step_later times fit w.base (Act y e offered) may s) y doing offered
      (do_both y e None doing all.0
      (λ z p begun. record { fresh = λ o is. absurd (cc is); ak = λ o n c q is. absurd (cc is); ea = λ o n is. absurd (cc is) })
      (λ z p begun. record { fresh = λ o is. absurd (cc is); dt = λ o n q is. absurd (cc is); ed = λ o n q is. absurd (cc is) }))
      refl refl (λ p c. ((may.2.offers p c).origin, (may.2.offers p c).tick)) all.1
      (pairs_on (next times w.base (Act y e offered)) (step_later times fit w.base (Act y e offered) may s) (step_stay times fit w.base s a (Act y e offered) may) y e None doing may.0 (agreed_here y e) all.0)
  tracked_step fit a (Release y) doing may all = stays (next times w.base (Release y)) (step_later times fit w.base (Release y) may s) (step_stay times fit w.base s a (Release y) may) refl (λ p x c by. inl c)
  tracked_step fit a (Restart address) doing may all = stays (next times w.base (Restart address)) (step_later times fit w.base (Restart address) may s) (step_stay times fit w.base s a (Restart address) may) refl (λ p x c by. inl c)
  tracked_step fit a Note doing may all = stays (next times w.base Note) (step_later times fit w.base Note may s) (step_stay times fit w.base s a Note may) refl (λ p x c by. inl c)

  pub told : IsTold times w
  told = record {
    lawful = λ x begun. (let r = t.run x begun in lawful (w.track x).rules r.long (w.track x).size r.some (w.track x).tick (w.track x).credit (w.track x).places (w.track x).room r.credit_low r.room_low r.happenings (w.track x).line r.runs);
    dt = λ x n piece o c by body. (subst (λ (b : Body). Noted w.base w.track x o.tick b) body (t.noted o x c by)).2;
    ed = λ x n octets o c by body. (subst (λ (b : Body). Noted w.base w.track x o.tick b) body (t.noted o x c by)).3;
  }

  pub numbered : IsNumbered times w
  numbered = record {
    clock = λ x begun. (let r = t.run x begun in (r.at.0, r.at.1, r.life));
    read = λ x begun. (let r = t.run x begun in reads (w.track x).rules (w.track x).line.world r.long (flows x begun));
    kept = λ x begun. (let r = t.run x begun in keeps (w.track x).rules (w.track x).line.world r.long (flows x begun));
    alone = λ x begun. (let r = t.run x begun in line_alone (w.track x).rules r.long (w.track x).size r.some (w.track x).tick (w.track x).credit (w.track x).places (w.track x).room r.credit_low r.room_low r.happenings (w.track x).line r.runs);
    obeys = λ x begun. (let r = t.run x begun in line_obeys (w.track x).rules r.long (w.track x).size r.some (w.track x).tick (w.track x).credit (w.track x).places (w.track x).room r.credit_low r.room_low r.happenings (w.track x).line r.runs);
    noted = t.noted;
  }
    where
      flows : (x : ℕ) → (w.track x).is_begun ≡ true → LineSound (w.track x).rules (w.track x).line.world
      flows x begun = let r = t.run x begun in line_sound (w.track x).rules r.long (w.track x).size r.some (w.track x).tick (w.track x).credit (w.track x).places (w.track x).room r.credit_low r.room_low r.happenings (w.track x).line r.runs

pub tracked_start : (times : Times) (w : Whole) → IsNothing w → Tracked times w
tracked_start times w is = record {
  run = λ k begun. absurd (cc (begun, is.none k));
  pair = λ k begun. absurd (cc (begun, is.none k));
  noted = λ o x c by. absurd (none o (subst (λ (h : History). Contains h.offers o) is.base c));
}

tracked_leads : (times : Times) (fit : IsFit times) (old w : Whole) (moments : List Moment) → LeadsAll times old moments w → Sound times old.base → Agreed old.base → Tracked times old
    → Sound times w.base × Tracked times w
tracked_leads times fit old w [] l s a t = (subst (λ (x : Whole). Sound times x.base) (sym l) s, subst (Tracked times) (sym l) t)
tracked_leads times fit old w (m ∷ ms) l s a t = tracked_leads times fit (onward times old m) w ms l.1 (sound_step times fit old.base m.step l.0.0 s) (agreed_step times fit old.base s a m.step l.0.0) (tracked_step times old s t fit a m.step m.doing l.0.0 l.0.1)

all_tracked : (times : Times) (w : Whole) → IsFit times → ReachedAll times w → Sound times w.base × Tracked times w
all_tracked times w fit r = tracked_leads times fit r.0 w r.2 r.3 (subst (Sound times) (sym r.1.base) (sound_start times r.1.end)) (subst Agreed (sym r.1.base) (agreed_start r.1.end)) (tracked_start times r.0 r.1)

pub all_told : (times : Times) (w : Whole) → IsFit times → ReachedAll times w → IsTold times w
all_told times w fit r = let t = all_tracked times w fit r in told times w t.0 t.1

pub all_numbered : (times : Times) (w : Whole) → IsFit times → ReachedAll times w → IsNumbered times w
all_numbered times w fit r = let t = all_tracked times w fit r in numbered times w t.0 t.1

leads_base : (times : Times) (old w : Whole) (moments : List Moment) → LeadsAll times old moments w → (steps : List Step) × Leads times old.base steps w.base
leads_base times old w [] l = ([], ap (λ (x : Whole). x.base) l)
leads_base times old w (m ∷ ms) l = let r = leads_base times (onward times old m) w ms l.1 in (m.step ∷ r.0, (l.0.0, r.1))

-- without its lines it is a history that is reached
pub reached_base : (times : Times) (w : Whole) → ReachedAll times w → Reached times w.base
reached_base times w r = let l = leads_base times r.0 w r.2 r.3 in (r.1.end, l.0, subst (λ (h : History). Leads times h l.0 w.base) r.1.base l.1)
